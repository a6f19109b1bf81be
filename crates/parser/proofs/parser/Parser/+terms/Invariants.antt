use Rattle.std.proofs.Common.{◌+◌, ◌*◌, length}
use Rattle.parser.specs.Binders.{names}
use Rattle.parser.specs.Parsing.{items}
use Rattle.parser.proofs.Args.{SoFar}
use Rattle.parser.proofs.parser.Parser.+terms.Given as goal

-- the items that are left, and which function calls which with as many
abbrev pub decreases-args : goal.decreases-args
decreases-args l = 4 * length (items l.self.now)

abbrev pub decreases-argument : goal.decreases-argument
decreases-argument l = 4 * length (items l.self.now) + 2

abbrev pub decreases-fold : goal.decreases-fold
decreases-fold l = 4 * length (items l.self.now) + 2

abbrev pub decreases-fun_rest : goal.decreases-fun_rest
decreases-fun_rest l = 4 * length (items l.self.now) + 2

abbrev pub decreases-read_term : goal.decreases-read_term
decreases-read_term l = 4 * length (items l.self.now) + 1

abbrev pub decreases-rec_term : goal.decreases-rec_term
decreases-rec_term l = 4 * length (items l.self.now) + 2

abbrev pub decreases-term_base : goal.decreases-term_base
decreases-term_base l = 4 * length (items l.self.now)

abbrev pub invariant-args-loop-token : goal.invariant-args-loop-token
invariant-args-loop-token l =
    SoFar (names l.types) (names l.terms) l.depth l.first l.fn.self l.fn.function l.self l.function

abbrev pub decreases-args-loop-token : goal.decreases-args-loop-token
decreases-args-loop-token l = length (items l.self)
