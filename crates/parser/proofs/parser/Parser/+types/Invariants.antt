use Rattle.std.proofs.Common.{length, ◌+◌, ◌*◌}
use Rattle.parser.specs.Parsing.{items}
use Rattle.parser.proofs.parser.Parser.+types.Given as goal

abbrev pub decreases-all_rest : goal.decreases-all_rest
decreases-all_rest l = 2 * length (items l.self.now)

abbrev pub decreases-arrow_rest : goal.decreases-arrow_rest
decreases-arrow_rest l = 2 * length (items l.self.now)

abbrev pub decreases-read_type : goal.decreases-read_type
decreases-read_type l = 2 * length (items l.self.now) + 1

abbrev pub decreases-type_base : goal.decreases-type_base
decreases-type_base l = 2 * length (items l.self.now)
