use Rattle.std.proofs.Common.{rules}
use Rattle.std.proofs.lemmas.List.{length-take, take-take}
use Rattle.tables.specs.LineTables.{records}
use Rattle.tables.proofs.line_table.LineTable.adopt.Goals as goal

pub returns-in_err-count-clause-cases : goal.returns-in_err-count-clause-cases
returns-in_err-count-clause-cases c =
    let room = length-take 65535 (records c.args.self.now) in
    search rules

pub returns-in_err-map_err-clause-cases : goal.returns-in_err-map_err-clause-cases
returns-in_err-map_err-clause-cases c =
    let room = length-take 65535 (records c.args.self.now) in
    search rules

pub returns-clause-cases : goal.returns-clause-cases
returns-clause-cases c =
    let room = length-take 65535 (records c.args.self.now) in
    let lines = take-take c.args.n 65535 (records c.args.self.now) in
    search rules
