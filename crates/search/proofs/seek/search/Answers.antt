use Rattle.std.proofs.Common.{◌<◌, length, sym, ap, ◌∙◌, arith}
use Rattle.std.proofs.lemmas.Grind.{common_steps}
use Rattle.actions.specs.Actions.{sought}
use Rattle.search.specs.Outcomes.{turns}
use Rattle.search.specs.Searches.{found}
use Rattle.search.proofs.Starts.{used, unpaid}
use Rattle.search.proofs.seek.search.Goals as goal

pub returns-in-Ok-clause-cases : goal.returns-in-Ok-clause-cases
returns-in-Ok-clause-cases g c =
    let t = g.T.Tree.terms c.args.tree.now in let h : 0 < length c.args.places.now = grind (arith, common_steps) in
    used g.Q.Quantifier.rule c.args.steps (g.S.LineStore.most c.args.store.now) (turns c.args.steps.most (length c.args.places.now)) (length c.args.places.now)
    (g.S.LineStore.lines c.args.store.now) (sought t c.args.goal) (sym (c.fits.ensures.fits t) ∙ c.if-not-fits.false) h c.in-Some.found.line c.in-Some.found.result
    (ap found (sym c.in-Some.is) ∙ c.serving.ensures t) c.in-Ok.steps c.in-Ok.ensures

pub returns-in-Err-clause-cases : goal.returns-in-Err-clause-cases
returns-in-Err-clause-cases g c =
    let t = g.T.Tree.terms c.args.tree.now in let h : 0 < length c.args.places.now = grind (arith, common_steps) in
    unpaid g.Q.Quantifier.rule c.args.steps (g.S.LineStore.most c.args.store.now) (turns c.args.steps.most (length c.args.places.now)) (length c.args.places.now)
    (g.S.LineStore.lines c.args.store.now) (sought t c.args.goal) (sym (c.fits.ensures.fits t) ∙ c.if-not-fits.false) h c.in-Some.found.line c.in-Some.found.result
    (ap found (sym c.in-Some.is) ∙ c.serving.ensures t) c.in-Err.halt c.in-Err.ensures
    ∙ sym c.before-in-Err.ensures
