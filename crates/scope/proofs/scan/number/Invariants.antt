use Rattle.std.proofs.Common.{◌≡◌, ◌+◌, ◌≤◌, length}
use Rattle.scope.proofs.Under.{more}
use Rattle.scope.specs.Resolved.{past_all, in_listing}
use Rattle.scope.specs.Scope.{number}
use Rattle.scope.proofs.scan.number.Given as goal

abbrev pub invariant-loop-node : goal.invariant-loop-node
invariant-loop-node g l =
    let s = in_listing (g.S.LineStore.lines l.store) in
    (l.passed + length l.rest ≤ length l.before) × (number (past_all s l.before).terms l.name ≡ more l.passed (number (past_all s l.rest).terms l.name))

abbrev pub decreases-loop-node : goal.decreases-loop-node
decreases-loop-node g l = length l.rest
