use Rattle.std.proofs.Common.{◌≡◌, ◌+◌, ◌≤◌, length}
use Rattle.scope.proofs.Under.{further}
use Rattle.scope.specs.Resolved.{past_all, in_listing}
use Rattle.scope.specs.Scope.{meaning}
use Rattle.scope.proofs.scan.meaning.Given as goal

abbrev pub invariant-loop-node : goal.invariant-loop-node
invariant-loop-node g l =
    let s = in_listing (g.S.LineStore.lines l.store) in
    (l.passed + length l.rest ≤ length l.before) × (meaning (past_all s l.before).types l.name ≡ further l.passed (meaning (past_all s l.rest).types l.name))

abbrev pub decreases-loop-node : goal.decreases-loop-node
decreases-loop-node g l = length l.rest
