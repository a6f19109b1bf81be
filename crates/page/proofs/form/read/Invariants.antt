use Rattle.std.proofs.Common.{◌≡◌, ◌+◌, ◌-◌, ◌*◌, ◌^◌, ◌≤◌, length}
use Rattle.page.specs.Form.{of_columns}
use Rattle.page.proofs.form.read.Given as goal

-- as many columns from the end are read as were yielded; each counts at most 207 times its power of ten, which is 9 times 23
abbrev pub invariant-loop-byte : goal.invariant-loop-byte
invariant-loop-byte l =
    record {
      value : of_columns (length l.columns - length l.yielded) l.columns 0 * l.power + l.n ≡ of_columns (length l.columns) l.columns 0;
      power : l.power ≡ 10 ^ length l.yielded;
      bound : l.n + 23 ≤ 23 * l.power;
    }
