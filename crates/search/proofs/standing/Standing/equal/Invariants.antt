use Rattle.std.proofs.Common.{◌≡◌, suc, drop}
use Rattle.judge.specs.Seeking.{equal_at}
use Rattle.actions.specs.Wides.{widened}
use Rattle.search.proofs.standing.Standing.equal.Given as goal

abbrev pub invariant-loop-n : goal.invariant-loop-n
invariant-loop-n g l =
    let lines = g.S.LineStore.lines l.store in equal_at (widened l.line) 1 lines ≡ equal_at (widened l.line) (suc l.n) (drop l.n lines)
