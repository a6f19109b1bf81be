use Rattle.report.proofs.rule_name.RuleName.check.Goals as goal

pub returns-in-LeastBound : goal.returns-in-LeastBound
returns-in-LeastBound g c = rw c.in-LeastBound.is c.check-in-LeastBound.ensures
