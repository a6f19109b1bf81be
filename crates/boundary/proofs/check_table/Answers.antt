use Rattle.std.proofs.Common.{Ok, inl, inr, ap, ◌∙◌, subst₂}
use Rattle.boundary.proofs.Adopting.{answer_is}
use Rattle.tables.proofs.Adopting.{fits, beyond}
use Rattle.boundary.proofs.check_table.Goals as goal
use Rattle.boundary.specs.Packed.{packed}
use Rattle.tables.proofs.Adopting.{adopted_records}
use Rattle.checker.specs.Checked.{Checked}
use Rattle.lines.specs.declared.answer.Answer.TheVariants.{OutOfForm}
use Rattle.report.specs.RuleNames.{rule_of}

pub returns-in-Ok : goal.returns-in-Ok
returns-in-Ok c =
    let adopted = c.in-Ok.ensures.cases in
    let few = fits c.new-table.result c.args.records.now c.new-table.ensures.records adopted.1 in
    let lines = adopted_records c.new-table.result c.adopt.new.self c.args.records.now (Ok c.in-Ok.field-0) c.new-table.ensures.records few adopted in
    inr (
      few,
      (
        c.check.result,
        c.pack.ensures ∙ ap packed (answer_is c.check.result c.into.result c.into.ensures),
        subst₂ (λ rule xs. Checked (rule_of rule) xs c.check.result) c.rule_numbered.ensures lines c.check.ensures,
      ),
    )

pub returns-in-Err : goal.returns-in-Err
returns-in-Err c =
    let over = beyond c.new-table.result c.args.records.now c.new-table.ensures.records c.in-Err.fault.place c.in-Err.ensures.cases.0 in
    inl (over.0, c.pack-in-Err.ensures ∙ ap packed (c.into-in-Err.ensures ∙ ap OutOfForm over.1))
