use Rattle.std.proofs.Common.{◌∷◌, [], ◌++◌, length, set, vec_items, vec_len, sym, ◌∙◌, subst, add-one, arith}
use Rattle.checker.proofs.Indexing.{indexed_add}
use Rattle.checker.proofs.index.Index.add.Goals as goal
use Rattle.checker.specs.Indexes.{Indexed}
use Rattle.std.proofs.lemmas.List.{get_or_read}

pub returns : goal.returns
returns c =
    λ before s e x.
    let v = c.args.self.now in let slot = c.args.slot in let head = c.index.result.now in let size = vec_len v.heads in
    let more = before ++ c.args.l ∷ [] in
    subst (λ next. Indexed more size (set (vec_items v.heads) slot c.args.number) next) (sym c.in_ok-push.ensures.items)
    (subst (λ n. Indexed more size (set (vec_items v.heads) slot n) (vec_items v.next ++ head ∷ [])) (sym (e ∙ add-one (length before)))
    (indexed_add before size (vec_items v.heads) (vec_items v.next) x c.args.l slot head s c.requires
    (get_or_read (vec_items v.heads) slot head (omega (arith, c.requires, x.sized)) c.index.ensures 0)))
