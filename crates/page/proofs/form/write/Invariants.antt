use Rattle.std.proofs.Common.{◌≡◌, ◌++◌, length, drop}
use Rattle.page.specs.Form.{spaced, in_columns}
use Rattle.page.proofs.form.write.Given as goal

-- the columns from k on are written, and those before it are for what is left of n
abbrev pub invariant-loop-k : goal.invariant-loop-k
invariant-loop-k l = spaced l.k l.rest ++ drop l.k l.columns ≡ in_columns (length l.fn.columns) l.n
