use Rattle.std.proofs.Common.{◌+◌, refl, sym, ◌∙◌, arith}
use Rattle.actions.specs.Actions.{sought}
use Rattle.actions.proofs.Reused.{answers_line}
use Rattle.search.proofs.Scans.{read, standing_goes_on, standing_found, standing_none}
use Rattle.search.proofs.standing.Standing.serving.Goals as goal

pub returns-in-Some : goal.returns-in-Some
returns-in-Some g c = λ t.
    let lines = g.S.LineStore.lines c.args.store.now in let n = c.loop-n.n in let l = c.unwrap_or_default-line.result in
    standing_found lines n (n + 1) refl l (read lines n (n + 1) c.get.result _ l (omega (arith, c.count-n-end.ensures)) refl c.get.ensures c.unwrap_or_default-line.ensures)
    (sought t c.args.goal) c.in-Some.result (c.loop-n.invariant t) (sym c.in-Some.is ∙ c.answer.ensures ∙ answers_line t c.args.goal l)

pub loop-n-preserved : goal.loop-n-preserved
loop-n-preserved g c = λ t.
    let lines = g.S.LineStore.lines c.args.store.now in let n = c.loop-n.n in let l = c.unwrap_or_default-line.result in
    standing_goes_on lines n (n + 1) refl l (read lines n (n + 1) c.get.result _ l (omega (arith, c.count-n-end.ensures)) refl c.get.ensures c.unwrap_or_default-line.ensures)
    (sought t c.args.goal) (c.loop-n.invariant t) (sym c.in_default.is ∙ c.answer.ensures ∙ answers_line t c.args.goal l)

pub returns : goal.returns
returns g c = λ t.
    standing_none (g.S.LineStore.lines c.args.store.now) c.loop-n.n (sought t c.args.goal) (omega (arith, c.count-n-end.ensures)) (c.loop-n.invariant t)
