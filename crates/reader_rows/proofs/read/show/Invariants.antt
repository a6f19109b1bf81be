use Rattle.std.proofs.Common.{◌≡◌, ◌+◌, ◌≤◌, length}
use Rattle.reader_rows.specs.Rows.{rows_of}
use Rattle.reader_rows.proofs.Writing.{over}
use Rattle.reader_rows.proofs.read.show.Given as goal

abbrev pub invariant-loop-i : goal.invariant-loop-i
invariant-loop-i l = l.rows ≡ over (l.i + 1) (rows_of l.fn.phrase l.nodes) l.fn.rows
