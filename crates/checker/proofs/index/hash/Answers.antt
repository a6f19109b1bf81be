use Rattle.std.proofs.Common.{◌≡◌, ap, ap₂, ◌∙◌}
use Rattle.std.specs.Hash.{le_bytes}
use Rattle.std.specs.Hash.FoldHasher
use Rattle.checker.proofs.index.hash.Goals as goal
use Rattle.checker.specs.Indexes.{hash, four}

pub returns : goal.returns
unfolding hash
returns c =
    let l = c.args.l in
    let first : c.write_u64.new.self ≡ FoldHasher.write FoldHasher.initial (le_bytes 8 (four l.code l.c1 l.c2 l.c3))
    = c.write_u64.ensures ∙ ap₂ (λ h n. FoldHasher.write h (le_bytes 8 n)) c.default-hasher.ensures (c.four.ensures ∙ ap (λ n. four n l.c1 l.c2 l.c3) c.into.ensures) in
    c.finish.ensures ∙ ap FoldHasher.finish (c.write_u64-2.ensures ∙ ap₂ (λ h n. FoldHasher.write h (le_bytes 8 n)) first c.four-2.ensures)
