-- The lines of a table of records.
use Rattle.std.specs.Prelude.{ℕ, ◌≤◌, min, List, length, take}
use Rattle.std.proofs.Common.{length-take, arith}
use Rattle.std.proofs.Math.Nat.{min-le_right}
use Rattle.std.specs.Borrow.{GName}
use Rattle.tables.specs.Tables.{held, contents}
use Rattle.lines.specs.declared.line.Line.{Line}
use Rattle.tables.specs.declared.line_table.LineTable.{LineTable}

-- what stands in all of its slots, and in those of its room
abbrev pub records : LineTable → List Line
records t = contents t.table

abbrev pub every : LineTable → List Line
every t = take 65535 (records t)

-- its lines
abbrev pub standing : LineTable → List Line
standing t = held t.table

-- how many lines it can hold
abbrev pub spaces : LineTable → ℕ
spaces t = min (length (records t)) 65535

-- the slice that was lent to it, by its name in proofs
abbrev pub lender : LineTable → GName
lender t = t.table.slots.ghost_name

-- it holds no more records than its room
abbrev pub Counted : LineTable → Type 0
Counted t = length (held t.table) ≤ spaces t

-- the two laws of a store, proved
pub within_room : (t : LineTable) → length (standing t) ≤ spaces t
within_room t = omega (arith, length-take t.table.len (records t))

pub within_cap : (t : LineTable) → spaces t ≤ 65535
within_cap t = min-le_right (length (records t)) 65535
