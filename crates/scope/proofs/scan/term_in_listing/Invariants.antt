use Rattle.std.proofs.Common.{◌≡◌, ◌+◌, ◌≤◌, length}
use Rattle.scope.proofs.First.{first}
use Rattle.scope.proofs.Under.{more}
use Rattle.scope.specs.Resolved.{in_listing}
use Rattle.scope.specs.Scope.{number}
use Rattle.scope.proofs.scan.term_in_listing.Given as goal

abbrev pub invariant-loop-l : goal.invariant-loop-l
invariant-loop-l g l =
    let lines = g.S.LineStore.lines l.store in
    (l.passed + l.n ≤ length lines) × (number (in_listing lines).terms l.name ≡ more l.passed (number (first lines l.n).terms l.name))

abbrev pub decreases-loop-l : goal.decreases-loop-l
decreases-loop-l g l = l.n
