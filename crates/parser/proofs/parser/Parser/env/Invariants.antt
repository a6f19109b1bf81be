use Rattle.std.proofs.Common.{length}
use Rattle.parser.specs.Parsing.{items}
use Rattle.parser.proofs.Env.{GoesOn}
use Rattle.parser.proofs.parser.Parser.env.Given as goal

abbrev pub invariant-loop-token : goal.invariant-loop-token
invariant-loop-token l = GoesOn l.fn.self l.self

abbrev pub decreases-loop-token : goal.decreases-loop-token
decreases-loop-token l = length (items l.self)
