use Rattle.std.proofs.Common.{take}
use Rattle.checker.proofs.Sessions.{Tracked}
use Rattle.checker.proofs.listing.check_lines.Given as goal
use Rattle.checker.specs.Seen.{Holds}
use Rattle.rules.specs.Faults.{Sound}
use Rattle.rules.specs.Statements.{said}

abbrev pub invariant-loop-n : goal.invariant-loop-n
invariant-loop-n g l =
    let lines = g.S.LineStore.lines l.store in
    Sound g.Q.Quantifier.rule (take l.n lines) × Tracked (said (take l.n lines)) l.session.latest l.session.env
    × Holds l.seen (take l.n lines)
