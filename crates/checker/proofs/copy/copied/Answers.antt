use Rattle.std.proofs.Common.{◌++◌, ap, ◌∙◌, Ok}
use Rattle.std.proofs.lemmas.Iterator.Adapters.{items_from_extend}
use Rattle.std.proofs.lemmas.Iterator.Consumers.{YieldsList-from_rest}
use Rattle.checker.proofs.copy.copied.Goals as goal

pub returns : goal.returns
returns g c =
    let lines = g.S.LineStore.lines c.args.store.now in
    let all = items_from_extend {E = Unit {0}} (Ok tt) c.in_ok-extend.ensures.ran (YieldsList-from_rest lines c.iter.ensures) in
    all.0 ∙ ap (λ xs. xs ++ lines) c.in_ok-all.ensures.items
