-- A turn of the code is one of the loop.
use Rattle.std.specs.Prelude.{◌≡◌, ℕ, ◌<◌, List, ◌∷◌, length, None, Ok, Err, Result}
use Rattle.lines.specs.declared.line.Line.{Line}
use Rattle.judge.specs.Loop as loop
use Rattle.judge.specs.Loop.{on, over, placed_in, act}
use Rattle.judge.specs.Seeking.{established}
use Rattle.actions.specs.Actions.{Terms}
use Rattle.search.specs.Searches.{limits, state}
use Rattle.search.specs.Frames.{wait, stack, free, search_at}
use Rattle.search.specs.Turns.{halted}
use Rattle.search.specs.declared.halt.Halt.{Halt}
use Rattle.search.specs.declared.steps.Steps.{Steps}
use Rattle.search.specs.declared.work.Work.{Work}
use Rattle.search.specs.declared.work.Wait.{Wait}
use Rattle.search.specs.declared.turn.Turn.{Turn}
use Rattle.search.specs.declared.turn.Turn.TheVariants.{On, Over}

-- the action of the goal w, below which the goals xs wait
abbrev pub acts : Terms → Steps → (room places : ℕ) → List Wait → Work → List Line → loop.Action → loop.Turn
acts t n room places xs w lines a = act (limits n.most room) (free places xs) (wait t w) (stack t xs) (state lines n.taken) a

-- the turn x leads to what is answered, with the goals ys and these lines
abbrev pub Went : Terms → (places : ℕ) → (xs ys : List Wait) → Work → List Line → Steps → loop.Turn → Result Turn Halt → Type 0
Went t places xs ys w lines n x (Ok (On v m)) = (x ≡ on (search_at t places ys v lines m.taken)) × (m.most ≡ n.most) × (length ys < places)
Went t places xs ys w lines n x (Ok (Over f m)) = (x ≡ over (established f.line f.result (state lines m.taken))) × (m.most ≡ n.most)
Went t places xs ys w lines n x (Err halt) = (x ≡ over (placed_in (wait t w ∷ stack t xs) (halted halt None n.taken))) × (ys ≡ xs)
