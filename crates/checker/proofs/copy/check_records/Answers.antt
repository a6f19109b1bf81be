use Rattle.std.proofs.Common.{subst}
use Rattle.tables.proofs.Adopting.{adopted_ok, adopted_records}
use Rattle.checker.proofs.copy.check_records.Goals as goal
use Rattle.checker.specs.Checked.{Checked}

pub returns : goal.returns
returns g c =
    subst (λ xs. Checked g.Q.Quantifier.rule xs c.check_lines.result)
    (adopted_records c.new-table.result c.adopt.new.self c.args.records.now c.adopt.result c.new-table.ensures.records c.requires c.adopt.ensures.cases)
    c.check_lines.ensures

pub unwrap-requires : goal.unwrap-requires
unwrap-requires g c =
    adopted_ok c.new-table.result c.adopt.new.self c.args.records.now c.adopt.result c.new-table.ensures.records c.requires c.adopt.ensures.cases
