use Rattle.std.proofs.Common.{arith}
use Rattle.actions.proofs.Reading.{type_said, no_type}
use Rattle.actions.proofs.shown.TypeLine.of.Goals as goal

pub returns-in-10 : goal.returns-in-10
returns-in-10 c = type_said c.args.line 10 c.in-10.is

pub returns-in-11 : goal.returns-in-11
returns-in-11 c = type_said c.args.line 11 c.in-11.is

pub returns-in-12 : goal.returns-in-12
returns-in-12 c = type_said c.args.line 12 c.in-12.is

pub returns-in-13 : goal.returns-in-13
returns-in-13 c = type_said c.args.line 13 c.in-13.is

pub returns-in-14 : goal.returns-in-14
returns-in-14 c = type_said c.args.line 14 c.in-14.is

pub returns-in_default : goal.returns-in_default
returns-in_default c = no_type c.args.line (λ e. omega arith, λ e. omega arith, λ e. omega arith, λ e. omega arith, λ e. omega arith)
