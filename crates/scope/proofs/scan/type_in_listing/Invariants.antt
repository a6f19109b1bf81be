use Rattle.std.proofs.Common.{◌≡◌, ◌≤◌, length}
use Rattle.scope.proofs.First.{first}
use Rattle.scope.specs.Resolved.{in_listing}
use Rattle.scope.specs.Scope.{meaning}
use Rattle.scope.proofs.scan.type_in_listing.Given as goal

abbrev pub invariant-loop-l : goal.invariant-loop-l
invariant-loop-l g l =
    let lines = g.S.LineStore.lines l.store in
    (l.n ≤ length lines) × (meaning (in_listing lines).types l.name ≡ meaning (first lines l.n).types l.name)

abbrev pub decreases-loop-l : goal.decreases-loop-l
decreases-loop-l g l = l.n
