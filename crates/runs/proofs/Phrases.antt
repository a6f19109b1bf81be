-- A phrase that is called on a sound listing with these definitions.
use Rattle.std.proofs.Common.{◌≡◌, ℕ, ◌≤◌, List, ◌++◌, length, Option, Ok, refl, ap, sym, ◌∙◌, subst, inl, inr, ⊎_elim, arith}
use Rattle.grammar.specs.declared.fault.SyntaxFault.{SyntaxFault}
use Rattle.grammar.specs.declared.fault.SyntaxFault.TheVariants.{Lexical, Unexpected, TooDeep, TreeFull}
use Rattle.grammar.specs.Answers as grammar
use Rattle.judge.specs.Judgments.{JudgmentOf, SessionEnv, WellNamed, Lower}
use Rattle.judge.specs.Phrases as judge
use Rattle.judge.specs.Phrases.{judged, answer_of, steps_of, lines_left}
use Rattle.judge.specs.Seeking.{Limits, State, Outcome, established, fails, refused, Refusal, steps_spent, goals_full, store_full, number_passed}
use Rattle.judge.proofs.Verdicts.{granted_says_its_judgment, granted_defines, fails_means_no_derivation}
use Rattle.lexer.specs.Answers as lexer
use Rattle.lexer.specs.Items.{items}
use Rattle.lexer.specs.declared.fault.LexicalFault.{LexicalFault}
use Rattle.lexer.specs.declared.fault.LexicalFault.TheVariants.{NoToken, OpenComment, LongName, DeepComment}
use Rattle.lines.specs.Answers.{number, place}
use Rattle.lines.specs.declared.answer.Answer.{Answer}
use Rattle.lines.specs.declared.answer.Answer.TheVariants.{Granted, Fails}
use Rattle.lines.specs.declared.line.Line.{Line}
use Rattle.reader.specs.Reads.{ReadAs, answer_to}
use Rattle.reader.specs.declared.fault.ReadFault.{ReadFault}
use Rattle.reader.specs.declared.fault.ReadFault.TheVariants.{Syntax, Unbound}
use Rattle.rules.specs.Derivations.{Judgment, has, Derivable}
use Rattle.rules.specs.Faults.{Sound}
use Rattle.rules.specs.Laws.{Chains, Instances, Bodies, Admitted}
use Rattle.rules.specs.Quantifiers.{Rule}
use Rattle.rules.specs.Statements.{Get, said}
use Rattle.rules.specs.Syntax.{Ty, Tm, Env}
use Rattle.rules.proofs.Accepted.{accepted_means_derivable}
use Rattle.runs.specs.Calls.{PhraseCall, judging, PhraseDoes, too_long, unsound, not_read, judges}
use Rattle.runs.specs.Definitions.{Definition, session_env, DefinitionsOf}
use Rattle.runs.specs.Judgments.{term_of, Asks, IsPhrase, LeastType}
use Rattle.runs.specs.Law.{GivesLeastType, SaysItsJudgment, HasNoDerivation}
use Rattle.runs.specs.Runs.{Adds}
use Rattle.runs.specs.Trees.{phrase_judged}
use Rattle.runs.proofs.Granted.{said_by, stated_somewhere, adds, definitions_after}
use Rattle.runs.proofs.Read.{understood, asks_some}
use Rattle.runs.proofs.Session.{session_is}
use Rattle.runs.proofs.Trees.{Known, line, type, asked_of_lines, asked_of_types}
use Rattle.scope.specs.Definitions.{definitions}
use Rattle.scope.specs.Mapped.{map_phrase}
use Rattle.scope.specs.Scoped as scoped
use Rattle.scope.specs.Scoped.{ScopedPhrase}
use Rattle.scope.specs.Within.{PhraseWithin}

-- answers told apart by their numbers

lexical_number : (fault : LexicalFault) → 3 ≤ number (lexer.answer_of fault)
lexical_number (NoToken byte) = omega arith
lexical_number (OpenComment byte) = omega arith
lexical_number (LongName byte) = omega arith
lexical_number (DeepComment byte) = omega arith

syntax_number : (fault : SyntaxFault) → 3 ≤ number (grammar.answer_of fault)
syntax_number (Lexical fault) = lexical_number fault
syntax_number (Unexpected byte) = omega arith
syntax_number (TooDeep byte) = omega arith
syntax_number (TreeFull byte) = omega arith

pub fault_number : (fault : ReadFault) → 3 ≤ number (answer_to fault)
fault_number (Syntax fault) = syntax_number fault
fault_number (Unbound fault) = omega arith

pub refusal_number : (why : Refusal) → 10 ≤ number (judge.refusal_answer why)
refusal_number steps_spent = omega arith
refusal_number goals_full = omega arith
refusal_number (store_full count) = omega arith
refusal_number number_passed = omega arith

-- a call that granted or failed has judged

pub record Judged (R : Rule) (room : ℕ) (found : List Line) (p : PhraseCall) (answer : Answer) (steps : ℕ) (left : List Line) : Type 0 where
  pub read : ScopedPhrase ℕ
  pub short : length p.source ≤ 65535
  pub is_read : ReadAs p.nodes (items p.source) (definitions found) (Ok read)
  pub answered : answer ≡ answer_of (judging R room found p read)
  pub taken : steps ≡ steps_of (judging R room found p read)
  pub leaves : left ≡ lines_left found (judging R room found p read)

module _ {R : Rule} {room : ℕ} {found : List Line} {p : PhraseCall} {answer : Answer} {steps : ℕ} {left : List Line} where
  pub has_judged : PhraseDoes R room found p answer steps left → number answer ≤ 1 → Judged R room found p answer steps left
  has_judged (too_long h a s l) n = let e = ap number a in absurd (let z : ⊥ = omega (arith, e, n) in z)
  has_judged (unsound m c h f a s l) n = let e = ap number a in absurd (let z : ⊥ = omega (arith, e, n) in z)
  has_judged (not_read fault h f r a s l) n = let e = ap number a in absurd (let z : ⊥ = omega (arith, e, n, fault_number fault) in z)
  has_judged (judges q h f r a s l) n = record { read = q; short = h; is_read = r; answered = a; taken = s; leaves = l }

  pub refused_leaves : PhraseDoes R room found p answer steps left → (number answer ≡ 0 → ⊥) → left ≡ found
  refused_leaves (too_long h a s l) n = l
  refused_leaves (unsound m c h f a s l) n = l
  refused_leaves (not_read fault h f r a s l) n = l
  refused_leaves (judges q h f r a s l) n = go (judging R room found p q) a l
    where
      go : (o : Outcome) → answer ≡ answer_of o → left ≡ lines_left found o → left ≡ found
      go (established m r s) e f = absurd (n (ap number e))
      go (fails byte k) e f = f
      go (refused why byte k) e f = f

-- what is granted, and what the definitions are then
pub record Grant (R : Rule) (found : List Line) (ds : List Definition) (p : PhraseCall) (n : ℕ) (left : List Line) : Type 0 where
  pub sound : Sound R left
  pub lines : List Line
  pub grows : left ≡ found ++ lines
  pub says : SaysItsJudgment R ds p n left
  pub more : List Definition
  pub adds : Adds R (session_env ds) n says.read more
  pub defined : DefinitionsOf left (ds ++ more)

least_of : (R : Rule) (Γ : Env) (a : Tm) (q : ScopedPhrase Ty) (J : Judgment) → ((B : Ty) → Asks Γ q (has Γ a B)) → (A : Ty) → J ≡ has Γ a A
    → Derivable R J → ((K : Judgment) → Asks Γ q K → Derivable R K → Lower R J K) → (B : Ty) × (J ≡ has Γ a B) × LeastType R Γ a B
least_of R Γ a q J asks A e d low =
    (A, e, (subst (Derivable R) e d, λ B x. subst (λ K. Lower R K (has Γ a B)) e (low (has Γ a B) (asks B) x)))

gives_least : (R : Rule) (Γ : Env) (q : ScopedPhrase Ty) (J : Judgment) → Asks Γ q J → Derivable R J
    → ((K : Judgment) → Asks Γ q K → Derivable R K → Lower R J K) → GivesLeastType R Γ q J
gives_least R Γ (scoped.of_term a) J (A, e) d low = least_of R Γ (term_of a) (scoped.of_term a) J (λ B. (B, refl)) A e d low
gives_least R Γ (scoped.let_term_untyped w b) J (A, e) d low = least_of R Γ (term_of b) (scoped.let_term_untyped w b) J (λ B. (B, refl)) A e d low
gives_least R Γ other J x d low = tt

module _ {R : Rule} (chains : Chains R) (instances : Instances R) (bodies : Bodies R) (admitted : Admitted R) (found : List Line) (sound : Sound R found)
    (ds : List Definition) (defined : DefinitionsOf found ds) (room : ℕ) (p : PhraseCall) where
  abbrev G : Get
  G = said found

  abbrev Γ : Env
  Γ = session_env ds

  env : SessionEnv G Γ
  env = session_is R found sound ds defined

  abbrev l : Limits
  l = record { steps = p.steps; room = room }

  module _ (k : ScopedPhrase (Known G)) (variables : ℕ) (within : PhraseWithin 0 variables k)
      (is_phrase : IsPhrase p.source ds (map_phrase (type G) k)) (named : WellNamed (phrase_judged (map_phrase (line G) k))) where
    abbrev asked : judge.Phrase
    asked = phrase_judged (map_phrase (line G) k)

    abbrev read : ScopedPhrase Ty
    read = map_phrase (type G) k

    of_lines : (J : Judgment) → Asks Γ read J → JudgmentOf G Γ asked J
    of_lines J x = asked_of_lines G Γ k variables within J x

    of_types : (J : Judgment) → JudgmentOf G Γ asked J → Asks Γ read J
    of_types J x = asked_of_types G Γ k variables within J x

    some : (J : Judgment) × JudgmentOf G Γ asked J
    some = let (J, x) = asks_some Γ read in (J, of_lines J x)

    least : (J : Judgment) → Asks Γ read J → Derivable R J → ((K : Judgment) → Asks Γ read K → Derivable R K → Lower R J K)
        → GivesLeastType R Γ read J
    least J x d low = gives_least R Γ read J x d low

    grant : (n r : ℕ) (s : State) → judged R l p.goals found asked ≡ established n r s → Grant R found ds p n s.lines
    grant n r s e =
        let (sound', (more, grows), (J, j, by, new, low)) =
        granted_says_its_judgment chains instances bodies admitted found sound Γ env asked some.0 some.1 named l p.goals n r s e in
        let defs = granted_defines chains instances bodies admitted found sound Γ env asked some.0 some.1 named l p.goals n r s e in
        let lower = λ (K : Judgment) (x : Asks Γ read K) (d : Derivable R K). low K (of_lines K x) d in
        let is_said = said_by G (said s.lines) Γ k n J by in
        let (q, (u, f, t)) = stated_somewhere G (said s.lines) Γ read n J is_said in
        let derivable : Derivable R J = accepted_means_derivable R s.lines sound' q u f J t in
        let (es, a, is_new) = adds G (said s.lines) Γ R k n J by new named (of_types J j) derivable lower in
        record {
          sound = sound';
          lines = more;
          grows = grows;
          says = record {
            read = read;
            judgment = J;
            is_read = is_phrase;
            is_asked = of_types J j;
            is_said = is_said;
            is_derivable = derivable;
            granted_type_is_least = least J (of_types J j) derivable lower;
          };
          more = es;
          adds = a;
          defined = definitions_after found s.lines more grows n
              (λ d E x. ⊎_elim inl (λ last. inr last.0) ((defs d E).0 x)) {es = es} defined is_new;
        }

    failure : (byte : Option ℕ) (steps : ℕ) → judged R l p.goals found asked ≡ fails byte steps → HasNoDerivation R ds p
    failure byte steps e =
        let none = fails_means_no_derivation chains instances bodies admitted found sound Γ env asked some.0 some.1 named l p.goals byte steps e in
        record { read = read; is_read = is_phrase; underivable = λ J x d. none J (of_lines J x) d }

  module _ {answer : Answer} {steps : ℕ} {left : List Line} (j : Judged R room found p answer steps left) where
    pub granted : (n : ℕ) → answer ≡ Granted n → Grant R found ds p n left
    granted n g =
        let u = understood found ds defined p.source p.nodes j.read j.is_read in
        let same : judging R room found p j.read ≡ judged R l p.goals found (phrase_judged (map_phrase (line G) u.known)) =
        ap (λ q. judged R l p.goals found (phrase_judged q)) (sym u.of_lines) in
        go j.read (judging R room found p j.read) refl j.answered j.leaves
        (λ m r s e. grant u.known u.variables u.within u.is_phrase u.named m r s (sym same ∙ e))
      where
        go : (q : ScopedPhrase ℕ) (o : Outcome) → judging R room found p q ≡ o → answer ≡ answer_of o → left ≡ lines_left found o
            → ((m r : ℕ) (s : State) → judging R room found p q ≡ established m r s → Grant R found ds p m s.lines) → Grant R found ds p n left
        go q (established m r s) e a f h =
            let is : m ≡ n = ap place (sym a ∙ g) in
            subst (λ i. Grant R found ds p i left) is (subst (Grant R found ds p m) (sym f) (h m r s e))
        go q (fails byte k) e a f h = let x = ap number (sym a ∙ g) in absurd (let z : ⊥ = omega (arith, x) in z)
        go q (refused why byte k) e a f h = let x = ap number (sym a ∙ g) in absurd (let z : ⊥ = omega (arith, x, refusal_number why) in z)

    pub failed : (byte : ℕ) → answer ≡ Fails byte → HasNoDerivation R ds p
    failed byte g =
        let u = understood found ds defined p.source p.nodes j.read j.is_read in
        let same : judging R room found p j.read ≡ judged R l p.goals found (phrase_judged (map_phrase (line G) u.known)) =
        ap (λ q. judged R l p.goals found (phrase_judged q)) (sym u.of_lines) in
        go j.read (judging R room found p j.read) refl j.answered (λ m s e. failure u.known u.variables u.within u.is_phrase u.named m s (sym same ∙ e))
      where
        go : (q : ScopedPhrase ℕ) (o : Outcome) → judging R room found p q ≡ o → answer ≡ answer_of o
            → ((m : Option ℕ) (s : ℕ) → judging R room found p q ≡ fails m s → HasNoDerivation R ds p) → HasNoDerivation R ds p
        go q (established m r s) e a h = let x = ap number (sym a ∙ g) in absurd (let z : ⊥ = omega (arith, x) in z)
        go q (fails m k) e a h = h m k e
        go q (refused why m k) e a h = let x = ap number (sym a ∙ g) in absurd (let z : ⊥ = omega (arith, x, refusal_number why) in z)
