use Rattle.std.proofs.Common.{◌≡◌, ◌+◌}
use Rattle.report.proofs.tally.Tally.of.Given as goal
use Rattle.report.specs.Verdicts.{coded_between}

-- with those that are still to come
abbrev pub invariant-loop-line : goal.invariant-loop-line
invariant-loop-line g l =
    let lines = g.S.LineStore.lines l.store in
    (l.tally.judgments + coded_between 50 79 l.line-iterator ≡ coded_between 50 79 lines)
    × (l.tally.definitions + coded_between 91 92 l.line-iterator ≡ coded_between 91 92 lines)
