use Rattle.std.proofs.Common.{◌+◌, refl, sym, ◌∙◌, arith}
use Rattle.actions.specs.Wides.{widened}
use Rattle.search.proofs.Scans.{read, equal_goes_on, equal_found, equal_none}
use Rattle.search.proofs.standing.Standing.equal.Goals as goal

pub returns-then-is-clause-first : goal.returns-then-is-clause-first
returns-then-is-clause-first g c =
    let lines = g.S.LineStore.lines c.args.store.now in let n = c.loop-n.n in
    equal_found lines n (n + 1) refl c.unwrap_or_default.result (read lines n (n + 1) c.get.result _ c.unwrap_or_default.result (omega (arith, c.count-n-end.ensures)) refl c.get.ensures c.unwrap_or_default.ensures)
    (widened c.args.line) c.loop-n.invariant (sym c.if-is.true ∙ c.is.ensures.same)

pub loop-n-preserved : goal.loop-n-preserved
loop-n-preserved g c =
    let lines = g.S.LineStore.lines c.args.store.now in let n = c.loop-n.n in
    equal_goes_on lines n (n + 1) refl c.unwrap_or_default.result (read lines n (n + 1) c.get.result _ c.unwrap_or_default.result (omega (arith, c.count-n-end.ensures)) refl c.get.ensures c.unwrap_or_default.ensures)
    (widened c.args.line) c.loop-n.invariant (sym c.if-is.false ∙ c.is.ensures.same)

pub returns-clause-first : goal.returns-clause-first
returns-clause-first g c = equal_none (g.S.LineStore.lines c.args.store.now) c.loop-n.n (widened c.args.line) (omega (arith, c.count-n-end.ensures)) c.loop-n.invariant
