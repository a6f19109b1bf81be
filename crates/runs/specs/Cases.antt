-- Phrase calls with what they answer.
use Rattle.std.specs.Prelude.{◌≡◌, ℕ, List, [], ◌∷◌, codes, Option, Some, None, IfSome}
use Rattle.lines.specs.declared.answer.Answer.{Answer}
use Rattle.lines.specs.declared.answer.Answer.TheVariants.{Granted, Fails, Unexpected, Unbound, StepsSpent, GoalsFull, StoreFull, Unsound}
use Rattle.lines.specs.declared.answer.Cause.TheVariants.{Reference}
use Rattle.lines.specs.declared.line.Line.{Line}
use Rattle.rules.specs.Quantifiers.{Rule, equal_bounds, least_bound}
use Rattle.runs.specs.Calls.{phrase, PhraseCall, Does}

-- the lines left are said where they are few
pub record Case : Type 0 where
  pub rule : Rule
  pub room : ℕ
  pub found : List Line
  pub call : PhraseCall
  pub answer : Answer
  pub steps : ℕ
  pub left : Option (List Line)

abbrev pub Right : Case → Type 0
Right c = (left : List Line) × Does c.rule c.room c.found (phrase c.call c.answer c.steps) left × IfSome c.left (λ lines. left ≡ lines)

-- a line's code and its first columns, the others 0
abbrev row : (code c1 c2 c3 : ℕ) → Line
row code c1 c2 c3 = record { code = code; c1 = c1; c2 = c2; c3 = c3; c4 = 0; c5 = 0; c6 = 0; c7 = 0 }

-- with so many steps, goal places and lines at most, and a tree table of 1,024 places
abbrev within : (steps goals room : ℕ) → Rule → List ℕ → Answer → (taken : ℕ) → Option (List Line) → Case
within steps goals room R source answer taken left =
    record {
      rule = R;
      room = room;
      found = [];
      call = record { source = source; steps = steps; goals = goals; nodes = 1024 };
      answer = answer;
      steps = taken;
      left = left;
    }

-- as the console calls
abbrev case : Rule → List ℕ → Answer → (taken : ℕ) → Case
case R source answer taken = within 1000 1024 1024 R source answer taken None

abbrev top_listed : List Line
top_listed = row 30 0 0 0 ∷ row 10 0 0 0 ∷ row 50 1 0 0 ∷ row 51 1 2 3 ∷ []

-- after a listing that is not sound
abbrev pub after_fault : Case
after_fault =
    record {
      rule = equal_bounds;
      room = 1024;
      found = row 51 1 1 1 ∷ [];
      call = record { source = codes ":Top;"; steps = 1000; goals = 1024; nodes = 1024 };
      answer = Unsound 1 Reference;
      steps = 0;
      left = Some (row 51 1 1 1 ∷ []);
    }

-- after no lines
abbrev pub from_none : List Case
from_none =
    within 1000 1024 1024 equal_bounds (codes ":Top;") (Granted 4) 2 (Some top_listed)
    ∷ within 2 2 4 equal_bounds (codes ":Top;") (Granted 4) 2 (Some top_listed)
    ∷ within 1 2 4 equal_bounds (codes ":Top;") StepsSpent 1 (Some [])
    ∷ within 2 1 4 equal_bounds (codes ":Top;") GoalsFull 0 (Some [])
    ∷ within 2 2 3 equal_bounds (codes ":Top;") StoreFull 2 (Some [])
    ∷ within 2 2 0 equal_bounds (codes ":Top;") StoreFull 0 (Some [])
    ∷ case least_bound (codes "judge subtype |- All(X)X <: All(X<:Top->Top)X;") (Granted 18) 14
    ∷ case equal_bounds (codes "judge subtype |- All(X)X <: All(X<:Top->Top)X;") (Fails 0) 0
    ∷ case equal_bounds (codes "fun(X<:Top->Top)fun(f:X)f(top);") (Granted 31) 23
    ∷ case equal_bounds (codes "fun(X)fun(f:X)f(top);") (Fails 15) 14
    ∷ case equal_bounds (codes "{fun(x:Top->Top)x}(top);") (Fails 18) 10
    ∷ case equal_bounds (codes "fun(x:Top;") (Unexpected 9) 0
    ∷ case equal_bounds (codes "x;") (Unbound 0) 0
    ∷ []

abbrev pub cases : List Case
cases = after_fault ∷ from_none
