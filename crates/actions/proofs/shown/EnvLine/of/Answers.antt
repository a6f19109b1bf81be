use Rattle.std.proofs.Common.{arith}
use Rattle.actions.proofs.Reading.{env_said, no_env}
use Rattle.actions.proofs.shown.EnvLine.of.Goals as goal

pub returns-in-30 : goal.returns-in-30
returns-in-30 c = env_said c.args.line 30 c.in-30.is

pub returns-in-31 : goal.returns-in-31
returns-in-31 c = env_said c.args.line 31 c.in-31.is

pub returns-in-32 : goal.returns-in-32
returns-in-32 c = env_said c.args.line 32 c.in-32.is

pub returns-in_default : goal.returns-in_default
returns-in_default c = no_env c.args.line (λ e. omega arith, λ e. omega arith, λ e. omega arith)
