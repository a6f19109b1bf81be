-- What a turn of the code is in the loop.
use Rattle.std.specs.Prelude.{◌≡◌, ℕ, List, None, Option, Ok, Err, Result}
use Rattle.lines.specs.declared.line.Line.{Line}
use Rattle.judge.specs.Seeking.{State, Outcome, fails, refused, paid, steps_spent, goals_full}
use Rattle.search.specs.Searches.{limits, state, refusal}
use Rattle.search.specs.declared.halt.Halt.{Halt}
use Rattle.search.specs.declared.halt.Halt.TheVariants.{Fails, StepsSpent, GoalsFull, Fault}
use Rattle.search.specs.declared.steps.Steps.{Steps}

abbrev pub halted : Halt → (byte : Option ℕ) → (steps : ℕ) → Outcome
halted Fails byte steps = fails byte steps
halted StepsSpent byte steps = refused steps_spent byte steps
halted GoalsFull byte steps = refused goals_full byte steps
halted (Fault fault) byte steps = refused (refusal fault) byte steps

-- a step goes on with the count, or is refused
abbrev pub Paid : Steps → Result Steps Halt → Type 0
Paid n (Ok m) =
    (m.most ≡ n.most) × ((room : ℕ) (lines : List Line) (k : State → Outcome) → paid (limits n.most room) (state lines n.taken) k ≡ k (state lines m.taken))
Paid n (Err halt) =
    (halt ≡ StepsSpent) × ((room : ℕ) (lines : List Line) (k : State → Outcome) → paid (limits n.most room) (state lines n.taken) k ≡ refused steps_spent None n.taken)
