use Rattle.std.proofs.Common.{◌≡◌, ◌∷◌, None, length}
use Rattle.judge.specs.Loop.{placed_in}
use Rattle.tables.specs.Tables.{held}
use Rattle.search.specs.Frames.{wait, stack}
use Rattle.search.specs.Turns.{halted}
use Rattle.search.proofs.stop.placed.Given as goal

abbrev pub invariant-loop-wait : goal.invariant-loop-wait
invariant-loop-wait g l =
    let t = g.T.Tree.terms l.tree in
    placed_in (wait t l.fn.work ∷ stack t (held l.fn.waits)) (halted l.halt None l.steps) ≡ placed_in (stack t (held l.waits)) (halted l.halt l.byte l.steps)

abbrev pub decreases-loop-wait : goal.decreases-loop-wait
decreases-loop-wait g l = length (held l.waits)
