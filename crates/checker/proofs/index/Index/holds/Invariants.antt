use Rattle.checker.proofs.Indexing.{Walk}
use Rattle.checker.proofs.index.Index.holds.Given as goal
use Rattle.std.proofs.Common.{vec_len}

abbrev pub invariant-loop-m : goal.invariant-loop-m
invariant-loop-m g l = Walk l.before (vec_len l.self.heads) l.l l.m

abbrev pub decreases-loop-m : goal.decreases-loop-m
decreases-loop-m g l = l.m
