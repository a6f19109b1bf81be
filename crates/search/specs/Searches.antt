-- What the search's records mean to the judge.
use Rattle.std.specs.Prelude.{◌≡◌, ℕ, List, Some, None, Option, Ok, Err, Result}
use Rattle.lines.specs.declared.line.Line.{Line}
use Rattle.rules.specs.Statements.{Statement}
use Rattle.judge.specs.Seeking.{Limits, State, Refusal, store_full, number_passed, Outcome, refused, laid}
use Rattle.actions.specs.Actions.{pair}
use Rattle.actions.specs.declared.told.Found.{Found}
use Rattle.search.specs.declared.fault.JudgeFault.{JudgeFault}
use Rattle.search.specs.declared.fault.JudgeFault.TheVariants.{Store, Number}

abbrev pub found : Option Found → Option (ℕ × ℕ)
found None = None
found (Some f) = Some (pair f)

abbrev pub limits : (most room : ℕ) → Limits
limits most room = record { steps = most; room = room }

abbrev pub state : List Line → (steps : ℕ) → State
state xs steps = record { lines = xs; steps = steps }

abbrev pub refusal : JudgeFault → Refusal
refusal (Store fault) = store_full fault.count
refusal Number = number_passed

-- Having a line stand that says u goes on with line n, or is refused.
abbrev pub Laid : (room : ℕ) → (xs ys : List Line) → Statement → Result ℕ JudgeFault → Type 0
Laid room xs ys u (Ok n) = (most steps : ℕ) (k : ℕ → State → Outcome) → laid (limits most room) (state xs steps) u k ≡ k n (state ys steps)
Laid room xs ys u (Err fault) =
    (most steps : ℕ) (k : ℕ → State → Outcome) → laid (limits most room) (state xs steps) u k ≡ refused (refusal fault) None steps
