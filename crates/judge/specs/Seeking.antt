-- How goals are sought: each takes a goal place and costs one step, a standing line is used again, and the limits are met as they come.
use Rattle.std.specs.Prelude.{ℕ, zero, suc, Bool, true, false, if◌then◌else◌, ◌&&◌, List, [], ◌∷◌, ◌++◌, length, Some, None, Option, ◌==◌, nat_lt, nat_le}
use Rattle.lines.specs.declared.line.Line.{Line}
use Rattle.rules.specs.Codes.{line, held}
use Rattle.rules.specs.Quantifiers.{Rule}
use Rattle.rules.specs.Statements.{s_var, Statement, raising, putting, bound_line, typing_line, env_judged, type_judged, sub_judged, has_judged, statement, said}
use Rattle.judge.specs.Goals.{byte_of, Goal, seek_raising, seek_putting, seek_bound, seek_typing, seek_env, seek_type, seek_sub, seek_var, seek_term, exposing, Plan, ask, lay, see, pay, close, give, fail}
use Rattle.judge.specs.Plans.{plan}

pub record Limits : Type 0 where
  -- the most steps, and the most lines
  pub steps : ℕ
  pub room : ℕ

-- the lines that stand and the steps taken
pub record State : Type 0 where
  pub lines : List Line
  pub steps : ℕ

-- why the search ends though nothing is decided
pub data Refusal : Type 0 where
  -- 10: the next step would exceed the count given
  steps_spent : Refusal
  -- 11: no goal place is free
  goals_full : Refusal
  -- 12: a put is refused, where so many lines stand
  store_full : ℕ → Refusal
  -- 12: a number would pass 65,535
  number_passed : Refusal

-- The byte is that of the innermost term whose own line is not put yet, if there is one.
pub data Outcome : Type 0 where
  -- by line n, with this result
  established : (n result : ℕ) → State → Outcome
  -- after so many steps
  fails : (byte : Option ℕ) → (steps : ℕ) → Outcome
  refused : Refusal → (byte : Option ℕ) → (steps : ℕ) → Outcome

-- a standing line that says s is used again where g is sought; 40 to 43 are compared without their results
abbrev pub used_again : Goal → Statement → Bool
used_again (seek_raising A j) (raising B i C p q) = A == B && j == i
used_again (seek_putting B j A) (putting C i D E p q r) = B == C && j == i && A == D
used_again (seek_bound E k) (bound_line F i B p q) = E == F && k == i
used_again (seek_typing E k) (typing_line F i A p q) = E == F && k == i
used_again (seek_env E) (env_judged F p) = E == F
used_again (seek_type E A) (type_judged F B p q) = E == F && A == B
used_again (seek_sub E A B) (sub_judged s F C D p q) = E == F && A == C && B == D
used_again (seek_var E A) (sub_judged s_var F C D p q) = E == F && A == C
used_again goal other = false

-- what is found out by establishing s
abbrev pub result : Statement → ℕ
result (raising A j C p q) = C
result (putting B j A C p q r) = C
result (bound_line E k B p q) = B
result (typing_line E k A p q) = A
result (sub_judged s E A B p q) = B
result (has_judged h E a A p q r) = A
result other = 0

abbrev pub serves : Goal → Option Statement → Bool
serves g None = false
serves g (Some s) = used_again g s

abbrev pub result_of : Option Statement → ℕ
result_of None = 0
result_of (Some s) = result s

-- the first of the lines, numbered from n, that serves the goal, and its result
abbrev pub standing : Goal → ℕ → List Line → Option (ℕ × ℕ)
standing g n [] = None
standing g n (l ∷ lines) = if serves g (statement l) then Some (n, result_of (statement l)) else standing g (suc n) lines

abbrev pub same_line : Line → Line → Bool
same_line l m =
    l.code == m.code && l.c1 == m.c1 && l.c2 == m.c2 && l.c3 == m.c3 && l.c4 == m.c4 && l.c5 == m.c5 && l.c6 == m.c6 && l.c7 == m.c7

-- the first of the lines, numbered from n, that is equal to this one
abbrev pub equal_at : Line → ℕ → List Line → Option ℕ
equal_at l n [] = None
equal_at l n (m ∷ lines) = if same_line l m then Some n else equal_at l (suc n) lines

abbrev pub all_fit : List ℕ → Bool
all_fit [] = true
all_fit (n ∷ ns) = nat_le n 65535 && all_fit ns

-- a step, if one is left
abbrev pub paid : Limits → State → (State → Outcome) → Outcome
paid l s k = if nat_lt s.steps l.steps then k (record { lines = s.lines; steps = suc s.steps }) else refused steps_spent None s.steps

abbrev pub put_last : Limits → State → Statement → (ℕ → State → Outcome) → Outcome
put_last l s u k =
    if all_fit (held u) then
    (if nat_lt (length s.lines) l.room then k (suc (length s.lines)) (record { lines = s.lines ++ line u ∷ []; steps = s.steps })
    else refused (store_full (length s.lines)) None s.steps)
    else refused number_passed None s.steps

abbrev pub put_unless : Limits → State → Statement → (ℕ → State → Outcome) → Option ℕ → Outcome
put_unless l s u k (Some n) = k n s
put_unless l s u k None = put_last l s u k

-- a line that says u: the one that stands, or one put at the end, if its numbers fit and there is room
abbrev pub laid : Limits → State → Statement → (ℕ → State → Outcome) → Outcome
laid l s u k = put_unless l s u k (equal_at (line u) 1 s.lines)

abbrev pub and_then : Outcome → (ℕ → ℕ → State → Outcome) → Outcome
and_then (established n r s) k = k n r s
and_then (fails byte steps) k = fails byte steps
and_then (refused why byte steps) k = refused why byte steps

-- a plan, where premises are sought so
abbrev pub run : Limits → (State → Goal → Outcome) → Plan → State → Outcome
run l seeks (ask g k) s = and_then (seeks s g) (λ n r t. run l seeks (k n r) t)
run l seeks (lay u k) s = laid l s u (λ n t. run l seeks (k n) t)
run l seeks (see g n k) s = run l seeks (k (said s.lines n)) s
run l seeks (pay p) s = paid l s (λ t. run l seeks p t)
run l seeks (close u) s = laid l s u (λ n t. established n (result u) t)
run l seeks (give n r) s = established n r s
run l seeks fail s = fails None s.steps

-- the byte, where none is named yet
abbrev pub or_byte : ℕ → Option ℕ → Option ℕ
or_byte byte None = Some byte
or_byte byte (Some inner) = Some inner

abbrev pub at_byte : ℕ → Outcome → Outcome
at_byte byte (established n r s) = established n r s
at_byte byte (fails inner steps) = fails (or_byte byte inner) steps
at_byte byte (refused why inner steps) = refused why (or_byte byte inner) steps

abbrev pub placed_at : Option ℕ → Outcome → Outcome
placed_at None o = o
placed_at (Some byte) o = at_byte byte o

-- the byte of the term that a goal is about: what ends before it is finished is placed there
abbrev pub byte_at : Goal → Option ℕ
byte_at (seek_term E a) = Some (byte_of a)
byte_at (exposing most E a p T) = Some (byte_of a)
byte_at other = None

-- the plain number of a 40 or 41 fits
abbrev pub fits : Goal → Bool
fits (seek_raising A j) = nat_le j 65535
fits (seek_putting B j A) = nat_le j 65535
fits other = true

abbrev pub use_or_seek : Rule → Limits → (State → Goal → Outcome) → State → Goal → Option (ℕ × ℕ) → Outcome
use_or_seek R l seeks s g (Some found) = paid l s (λ t. established found.0 found.1 t)
use_or_seek R l seeks s g None = run l seeks (plan R (said s.lines) g) s

-- A goal is sought with so many places free: it takes one, a standing line is used for a step, and else its plan is gone through.
abbrev pub seek : Rule → Limits → (places : ℕ) → State → Goal → Outcome
seek R l zero s g = if fits g then refused goals_full None s.steps else refused number_passed None s.steps
seek R l (suc places) s g =
    if fits g then placed_at (byte_at g) (use_or_seek R l (λ t h. seek R l places t h) s g (standing g 1 s.lines))
    else refused number_passed None s.steps
