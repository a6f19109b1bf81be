use Rattle.std.proofs.Common.{length, ◌≡◌, ◌∷◌, ◌+◌, ◌-◌, ◌≤◌, List, ℕ}
use Rattle.lexer.specs.Skipping.{skipped}
use Rattle.lexer.proofs.space.+skip_comment.Given as goal

-- each call has one comment more open, and none is made with 128: so at most 128 calls are under way at once
abbrev pub decreases-skip_comment : goal.decreases-skip_comment
decreases-skip_comment l = 128 - l.depth

abbrev pub invariant-loop-rest : goal.invariant-loop-rest
invariant-loop-rest l = record {
  shorter : length l.rest ≤ length l.fn.inside;
  skips : (opened : List ℕ) → length opened + 1 ≡ l.depth → skipped l.source_len (l.opening ∷ opened) l.fn.inside ≡ skipped l.source_len (l.opening ∷ opened) l.rest;
}

abbrev pub decreases-loop-rest : goal.decreases-loop-rest
decreases-loop-rest l = length l.rest
