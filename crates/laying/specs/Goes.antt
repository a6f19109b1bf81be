-- What the code that lays a node does is what the node's plan says.
use Rattle.std.specs.Prelude.{◌≡◌, ℕ, List, None, Ok, Err, Result}
use Rattle.lines.specs.declared.line.Line.{Line}
use Rattle.judge.specs.Goals.{Goal, Placed, Plan}
use Rattle.judge.specs.Seeking.{State, Outcome, refused, run}
use Rattle.actions.specs.Actions.{Terms}
use Rattle.actions.specs.Terms.{placed}
use Rattle.search.specs.Searches.{limits, state, refusal}
use Rattle.search.specs.declared.fault.JudgeFault.{JudgeFault}
use Rattle.laying.specs.declared.stand.Laid.{Laid}

-- The plan goes on with what is given, behind these lines, or is refused.
abbrev pub Goes : (room : ℕ) → (xs ys : List Line) → ((ℕ → Placed → Plan) → Plan) → Terms → Result Laid JudgeFault → Type 0
Goes room xs ys p t (Ok a) =
    (most steps : ℕ) (seeks : State → Goal → Outcome) (k : ℕ → Placed → Plan)
    → run (limits most room) seeks (p k) (state xs steps) ≡ run (limits most room) seeks (k a.env (placed t a.term)) (state ys steps)
Goes room xs ys p t (Err fault) =
    (most steps : ℕ) (seeks : State → Goal → Outcome) (k : ℕ → Placed → Plan)
    → run (limits most room) seeks (p k) (state xs steps) ≡ refused (refusal fault) None steps
