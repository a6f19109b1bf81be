use Rattle.std.proofs.Common.{ℕ, Err, refl, sym, ap, ◌∙◌, subst, List}
use Rattle.lines.specs.declared.line.Line.{Line}
use Rattle.judge.specs.Loop.{to_pay}
use Rattle.actions.specs.Actions.{Terms}
use Rattle.tables.specs.Tables.{held, places}
use Rattle.search.specs.Goes.{Went, acts}
use Rattle.search.proofs.Acts.{same_halt, stepped, spent}
use Rattle.search.proofs.turn.step.Goals as goal

pub returns-in_err-steps : goal.returns-in_err-steps
returns-in_err-steps c =
    let x = c.args.waits.now in
    subst (λ r. (t : Terms) (room : ℕ) (lines : List Line)
    → Went t (places x) (held x) (held x) c.args.work lines c.args.steps (acts t c.args.steps room (places x) (held x) c.args.work lines to_pay) r)
    (sym (same_halt c.from_residual.result c.in_err-steps.field-0.0 c.from_residual.ensures.1 ∙ ap Err c.in_err-steps.ensures.0))
    (λ t room lines. (spent t c.args.steps room (places x) (held x) c.args.work lines c.in_err-steps.field-0.0 c.in_err-steps.ensures, refl))

pub returns : goal.returns
returns c = λ t room lines. (
  stepped t c.args.steps room _ _ c.args.work lines c.in_ok-steps.steps c.and.result c.in_ok-steps.ensures (c.and.ensures t),
  c.in_ok-steps.ensures.0,
  c.requires.place,
)
