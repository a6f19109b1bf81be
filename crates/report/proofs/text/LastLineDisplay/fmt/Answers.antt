use Rattle.std.proofs.Common.{rules}
use Rattle.report.proofs.Columns.{padded_in_eight}
use Rattle.report.proofs.text.LastLineDisplay.fmt.Goals as goal

pub returns-clause-writes : goal.returns-clause-writes
returns-clause-writes g c = search (rules, padded_in_eight)
