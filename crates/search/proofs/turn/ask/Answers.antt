use Rattle.std.proofs.Common.{◌<◌, length, Err, refl, ap, sym, ◌∙◌, subst, arith}
use Rattle.judge.specs.Loop.{to_ask}
use Rattle.actions.specs.Actions.{Terms, sought}
use Rattle.tables.specs.Tables.{held, places}
use Rattle.search.specs.Goes.{Went, acts}
use Rattle.search.specs.Searches.{found}
use Rattle.search.proofs.Acts.{same_halt, ask_used, ask_spent, ask_pushed, one_more, pushed}
use Rattle.search.proofs.turn.ask.Goals as goal

pub returns-in_err-steps-clause-cases : goal.returns-in_err-steps-clause-cases
returns-in_err-steps-clause-cases g c =
    let x = c.args.waits.now in let lines = g.S.LineStore.lines c.args.store.now in let room = g.S.LineStore.most c.args.store.now in
    subst (λ r. (t : Terms)
    → Went t (places x) (held x) (held x) c.args.work lines c.args.steps (acts t c.args.steps room (places x) (held x) c.args.work lines (to_ask (sought t c.args.goal))) r)
    (sym (same_halt c.from_residual.result c.in_err-steps.field-0.0 c.from_residual.ensures.1 ∙ ap Err c.in_err-steps.ensures.0))
    (λ t. (
      ask_spent t c.args.steps room (places x) (held x) c.args.work lines (sought t c.args.goal) (sym (c.fits.ensures.fits t) ∙ c.if-not-fits.false)
          (omega (arith, c.count.ensures.held, c.places.ensures)) c.in-Some.found.line c.in-Some.found.result c.in_err-steps.field-0.0
          (ap found (sym c.in-Some.is) ∙ c.serving.ensures t) c.in_err-steps.ensures,
      refl,
    ))

pub returns-in-Some-clause-cases : goal.returns-in-Some-clause-cases
returns-in-Some-clause-cases g c =
    let x = c.args.waits.now in let lines = g.S.LineStore.lines c.args.store.now in let room = g.S.LineStore.most c.args.store.now in
    λ t. (
      ask_used t c.args.steps room (places x) (held x) c.args.work lines (sought t c.args.goal) (sym (c.fits.ensures.fits t) ∙ c.if-not-fits.false)
          (omega (arith, c.count.ensures.held, c.places.ensures)) c.in-Some.found.line c.in-Some.found.result c.in_ok-steps.steps c.and.result
          (ap found (sym c.in-Some.is) ∙ c.serving.ensures t) c.in_ok-steps.ensures (c.and.ensures t),
      c.in_ok-steps.ensures.0,
      c.requires.place,
    )

pub returns-clause-cases : goal.returns-clause-cases
returns-clause-cases g c =
    let x = c.args.waits.now in let lines = g.S.LineStore.lines c.args.store.now in let room = g.S.LineStore.most c.args.store.now in
    let ys = held c.push.new.self in let h : length (held x) < places x = c.requires.place in
    let e = pushed (held x) ys (places x) _ c.push.result h c.push.ensures.cases in
    λ t. (
      ask_pushed t c.args.steps room (places x) (held x) c.args.work lines (sought t c.args.goal) (sym (c.fits.ensures.fits t) ∙ c.if-not-fits.false)
          (omega (arith, c.count.ensures.held, c.places.ensures)) _ c.new.result ys
          (ap found (sym c.in_default.is) ∙ c.serving.ensures t) refl e (c.new.ensures t),
      refl,
      omega (arith, one_more (held x) ys _ e, c.count.ensures.held, c.places.ensures),
    )
