use Rattle.std.proofs.Common.{length, ◌≡◌, []}
use Rattle.lexer.specs.Skipping.{skipped}
use Rattle.lexer.proofs.space.skip_space.Given as goal

abbrev pub invariant-loop-rest : goal.invariant-loop-rest
invariant-loop-rest l = skipped l.source_len [] l.initial.rest ≡ skipped l.source_len [] l.rest

abbrev pub decreases-loop-rest : goal.decreases-loop-rest
decreases-loop-rest l = length l.rest
