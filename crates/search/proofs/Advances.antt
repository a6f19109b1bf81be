-- A turn is an action.
use Rattle.std.proofs.Common.{◌≡◌, ℕ, List, Result, subst}
use Rattle.lines.specs.declared.line.Line.{Line}
use Rattle.rules.specs.Quantifiers.{Rule}
use Rattle.rules.specs.Statements.{said}
use Rattle.judge.specs.Loop as loop
use Rattle.judge.specs.Loop.{after, action, turn}
use Rattle.judge.specs.Plans.{plan}
use Rattle.actions.specs.Actions.{Terms, answers, sought}
use Rattle.search.specs.Searches.{limits}
use Rattle.search.specs.Frames.{search_at}
use Rattle.search.specs.Goes.{acts, Went}
use Rattle.search.specs.declared.halt.Halt.{Halt}
use Rattle.search.specs.declared.steps.Steps.{Steps}
use Rattle.search.specs.declared.work.Work.{Work}
use Rattle.search.specs.declared.work.Wait.{Wait}
use Rattle.search.specs.declared.turn.Turn.{Turn}

pub turned : (R : Rule) (t : Terms) (n : Steps) (room places : ℕ) (xs ys : List Wait) (w : Work) (lines more : List Line) (r : Result Turn Halt) (a : loop.Action)
    → a ≡ action (after (plan R (said lines) (sought t w.goal)) (answers w.told)) → Went t places xs ys w more n (acts t n room places xs w lines a) r
    → Went t places xs ys w more n (turn R (limits n.most room) (search_at t places xs w lines n.taken)) r
turned R t n room places xs ys w lines more r a e h = subst (λ b. Went t places xs ys w more n (acts t n room places xs w lines b) r) e h
