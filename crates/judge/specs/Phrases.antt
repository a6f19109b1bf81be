-- Phrases as they are judged: trees whose names are looked up, what they put before judging, the judging, and what a definition puts after.
use Rattle.std.specs.Prelude.{ℕ, suc, ◌+◌, ◌*◌, List, [], ◌∷◌, Some, None, Option, get_or}
use Rattle.lines.specs.declared.answer.Answer.{Answer}
use Rattle.lines.specs.declared.answer.Answer.TheVariants.{Granted, Fails, StepsSpent, GoalsFull, StoreFull}
use Rattle.lines.specs.declared.line.Line.{Line}
use Rattle.rules.specs.Quantifiers.{Rule}
use Rattle.rules.specs.Statements.{top', var', arrow', all', rec', top_term', var_term', fun', appl', fun2', appl2', fold_term', unfold_term', rec_term', empty', with_term', with_type', Statement, type_line, term_line, env_line, name_line, let_type, let_term, statement}
use Rattle.judge.specs.Goals.{Placed, top_placed, var_placed, fun_placed, appl_placed, fun2_placed, appl2_placed, fold_placed, unfold_placed, rec_placed, line_at, seek_env, seek_type, seek_sub, seek_term, Plan, ask, lay, close, give}
use Rattle.judge.specs.Plans.{brought}
use Rattle.judge.specs.Seeking.{Limits, Refusal, steps_spent, goals_full, store_full, number_passed, Outcome, established, fails, refused, run, seek}

-- Types: variables are numbered, a Let name stands for the type of a line, and an omitted bound is Top.
pub data ScopedType : Type 0 where
  scoped_top : ScopedType
  scoped_var : ℕ → ScopedType
  scoped_line : ℕ → ScopedType
  scoped_arrow : ScopedType → ScopedType → ScopedType
  scoped_all : ScopedType → ScopedType → ScopedType
  scoped_rec : ScopedType → ScopedType

-- Terms: the byte that places each comes first.
pub data ScopedTerm : Type 0 where
  scoped_top_term : (byte : ℕ) → ScopedTerm
  scoped_var_term : (byte k : ℕ) → ScopedTerm
  -- fun(x:A)b and b(a)
  scoped_fun : (byte : ℕ) → ScopedType → ScopedTerm → ScopedTerm
  scoped_appl : (byte : ℕ) → ScopedTerm → ScopedTerm → ScopedTerm
  -- fun(X<:A)b and b(:A)
  scoped_fun2 : (byte : ℕ) → ScopedType → ScopedTerm → ScopedTerm
  scoped_appl2 : (byte : ℕ) → ScopedTerm → ScopedType → ScopedTerm
  -- fold(:A)(a), unfold(a) and rec(x:A)b
  scoped_fold : (byte : ℕ) → ScopedType → ScopedTerm → ScopedTerm
  scoped_unfold : (byte : ℕ) → ScopedTerm → ScopedTerm
  scoped_rec_term : (byte : ℕ) → ScopedType → ScopedTerm → ScopedTerm

-- a binding x:A or X<:A of a judge phrase
pub data Binding : Type 0 where
  of_term : ScopedType → Binding
  of_type : ScopedType → Binding

-- A name is its 14 bytes, 0 after its end.
pub data Phrase : Type 0 where
  -- Let X<:B = A
  let_type_phrase : (name : List ℕ) → (B A : ScopedType) → Phrase
  -- let x:A = b and let x = b
  let_term_phrase : (name : List ℕ) → ScopedType → ScopedTerm → Phrase
  let_untyped_phrase : (name : List ℕ) → ScopedTerm → Phrase
  type_phrase : ScopedType → Phrase
  term_phrase : ScopedTerm → Phrase
  judge_env : List Binding → Phrase
  judge_type : List Binding → ScopedType → Phrase
  judge_subtype : List Binding → (A B : ScopedType) → Phrase
  judge_term : List Binding → ScopedTerm → ScopedType → Phrase

-- the lines of a type, of its parts first
abbrev pub type_laid : ScopedType → (ℕ → Plan) → Plan
type_laid scoped_top k = lay (type_line top') k
type_laid (scoped_var i) k = lay (type_line (var' i)) k
type_laid (scoped_line n) k = k n
type_laid (scoped_arrow A B) k = type_laid A (λ a. type_laid B (λ b. lay (type_line (arrow' a b)) k))
type_laid (scoped_all A B) k = type_laid A (λ a. type_laid B (λ b. lay (type_line (all' a b)) k))
type_laid (scoped_rec B) k = type_laid B (λ b. lay (type_line (rec' b)) k)

-- the lines of a term, of its parts first
abbrev pub term_laid : ScopedTerm → (Placed → Plan) → Plan
term_laid (scoped_top_term byte) k = lay (term_line top_term') (λ n. k (top_placed byte n))
term_laid (scoped_var_term byte i) k = lay (term_line (var_term' i)) (λ n. k (var_placed byte i n))
term_laid (scoped_fun byte A b) k =
    type_laid A (λ m. term_laid b (λ t. lay (term_line (fun' m (line_at t))) (λ n. k (fun_placed byte m t n))))
term_laid (scoped_appl byte b a) k =
    term_laid b (λ t. term_laid a (λ u. lay (term_line (appl' (line_at t) (line_at u))) (λ n. k (appl_placed byte t u n))))
term_laid (scoped_fun2 byte A b) k =
    type_laid A (λ m. term_laid b (λ t. lay (term_line (fun2' m (line_at t))) (λ n. k (fun2_placed byte m t n))))
term_laid (scoped_appl2 byte b A) k =
    term_laid b (λ t. type_laid A (λ m. lay (term_line (appl2' (line_at t) m)) (λ n. k (appl2_placed byte t m n))))
term_laid (scoped_fold byte A a) k =
    type_laid A (λ m. term_laid a (λ t. lay (term_line (fold_term' m (line_at t))) (λ n. k (fold_placed byte m t n))))
term_laid (scoped_unfold byte a) k = term_laid a (λ t. lay (term_line (unfold_term' (line_at t))) (λ n. k (unfold_placed byte t n)))
term_laid (scoped_rec_term byte A b) k =
    type_laid A (λ m. term_laid b (λ t. lay (term_line (rec_term' m (line_at t))) (λ n. k (rec_placed byte m t n))))

-- the lines of bindings after the environment E: each one's type, then its environment
abbrev pub bindings_laid : List Binding → (E : ℕ) → (ℕ → Plan) → Plan
bindings_laid [] E k = k E
bindings_laid (of_term A ∷ bindings) E k = type_laid A (λ m. lay (env_line (with_term' E m)) (λ F. bindings_laid bindings F k))
bindings_laid (of_type A ∷ bindings) E k = type_laid A (λ m. lay (env_line (with_type' E m)) (λ F. bindings_laid bindings F k))

-- two of a name's bytes as a number
abbrev pub two_bytes : List ℕ → ℕ → ℕ
two_bytes name i = get_or name i 0 * 256 + get_or name (i + 1) 0

abbrev pub name_statement : List ℕ → Statement
name_statement name =
    name_line (two_bytes name 0) (two_bytes name 2) (two_bytes name 4) (two_bytes name 6) (two_bytes name 8) (two_bytes name 10) (two_bytes name 12)

-- the latest definition, 0 if there is none, and the session environment
pub record Session : Type 0 where
  pub latest : ℕ
  pub env : ℕ

abbrev pub after : ℕ → Session → Option Statement → Session
after n s (Some (let_type name B A p E previous)) = record { latest = n; env = E }
after n s (Some (let_term name A b p E previous)) = record { latest = n; env = E }
after n s other = s

-- after these lines, numbered from n, where s was before
abbrev pub session : ℕ → Session → List Line → Session
session n s [] = s
session n s (l ∷ lines) = session (suc n) (after n s (statement l)) lines

-- b:A by line p is defined: its name, the new environment, and the 92
abbrev pub term_defined : (name : List ℕ) → Session → (A b p : ℕ) → Plan
term_defined name s A b p =
    lay (name_statement name) (λ n. lay (env_line (with_term' s.env A)) (λ F. close (let_term n A b p F s.latest)))

-- The lines before judging in the order of the source, then the judging, in the session environment.
abbrev pub judging : Session → Phrase → Plan
judging s (let_type_phrase name B A) =
    type_laid B (λ b. type_laid A (λ a. ask (seek_sub s.env a b) (λ p x.
    lay (name_statement name) (λ n. close (let_type n b a p s.env s.latest)))))
judging s (let_term_phrase name A b) =
    type_laid A (λ a. term_laid b (λ t. ask (seek_term s.env t) (λ p B. brought s.env (line_at t) p B a (λ q.
    term_defined name s a (line_at t) q))))
judging s (let_untyped_phrase name b) = term_laid b (λ t. ask (seek_term s.env t) (λ p A. term_defined name s A (line_at t) p))
judging s (type_phrase A) = type_laid A (λ a. ask (seek_type s.env a) (λ p x. give p x))
judging s (term_phrase b) = term_laid b (λ t. ask (seek_term s.env t) (λ p A. give p A))
judging s (judge_env bindings) = bindings_laid bindings s.env (λ E. ask (seek_env E) (λ p x. give p x))
judging s (judge_type bindings A) = bindings_laid bindings s.env (λ E. type_laid A (λ a. ask (seek_type E a) (λ p x. give p x)))
judging s (judge_subtype bindings A B) =
    bindings_laid bindings s.env (λ E. type_laid A (λ a. type_laid B (λ b. ask (seek_sub E a b) (λ p x. give p x))))
judging s (judge_term bindings b A) =
    bindings_laid bindings s.env (λ E. term_laid b (λ t. type_laid A (λ a. ask (seek_term E t) (λ p B.
    brought E (line_at t) p B a (λ q. give q a)))))

-- line 30 first, which is the session environment where nothing is defined
abbrev pub phrase_plan : List Line → Phrase → Plan
phrase_plan lines phrase = lay (env_line empty') (λ E. judging (session 1 (record { latest = 0; env = E }) lines) phrase)

-- a phrase judged after these lines, with so many goal places
abbrev pub judged : Rule → Limits → (places : ℕ) → List Line → Phrase → Outcome
judged R l places lines phrase = run l (λ s g. seek R l places s g) (phrase_plan lines phrase) (record { lines = lines; steps = 0 })

-- what is answered, the steps taken, and the lines left: those found, unless it is granted

abbrev pub place_of : Option ℕ → ℕ
place_of None = 0
place_of (Some byte) = byte

abbrev pub refusal_answer : Refusal → Answer
refusal_answer steps_spent = StepsSpent
refusal_answer goals_full = GoalsFull
refusal_answer (store_full count) = StoreFull
refusal_answer number_passed = StoreFull

abbrev pub answer_of : Outcome → Answer
answer_of (established n result s) = Granted n
answer_of (fails byte steps) = Fails (place_of byte)
answer_of (refused why byte steps) = refusal_answer why

abbrev pub steps_of : Outcome → ℕ
steps_of (established n result s) = s.steps
steps_of (fails byte steps) = steps
steps_of (refused why byte steps) = steps

abbrev pub lines_left : List Line → Outcome → List Line
lines_left found (established n result s) = s.lines
lines_left found (fails byte steps) = found
lines_left found (refused why byte steps) = found
