-- What check promises: it accepts exactly the sound listings, and otherwise names the first line at fault and the first cause that holds of it.
use Rattle.std.specs.Prelude.{◌≡◌, ℕ, true, false, List, length, Some, None, Ok, Err, Option, Result}
use Rattle.std.specs.List.{Contains}
use Rattle.checker.specs.Columns.{known, kinds, zero_past, named}
use Rattle.checker.specs.Decide.{at, follows}
use Rattle.lines.specs.declared.answer.Cause.{Cause}
use Rattle.lines.specs.declared.answer.Cause.TheVariants.{Code, Column, Reference, Repeated, Unfounded}
use Rattle.lines.specs.declared.fault.Unsound.{Unsound}
use Rattle.lines.specs.declared.line.Line.{Line}
use Rattle.rules.specs.Faults.{Sound, FirstFault}
use Rattle.rules.specs.Quantifiers.{Rule}

abbrev pub Checked : Rule → List Line → Result ℕ Unsound → Type 0
Checked R lines (Ok n) = (n ≡ length lines) × Sound R lines
Checked R lines (Err fault) = FirstFault R lines fault.line fault.cause

-- the first test that a line fails, where d is the latest definition and E the session environment
abbrev pub Tested : Rule → (before : List Line) → (d E : ℕ) → Line → Option Cause → Type 0
Tested R before d E l (Some Code) = known R l.code ≡ false
Tested R before d E l (Some Column) = (known R l.code ≡ true) × (zero_past (kinds l.code) l ≡ false)
Tested R before d E l (Some Reference) = (known R l.code ≡ true) × (zero_past (kinds l.code) l ≡ true) × (named (at before) (kinds l.code) l ≡ false)
Tested R before d E l (Some Repeated) =
    (known R l.code ≡ true) × (zero_past (kinds l.code) l ≡ true) × (named (at before) (kinds l.code) l ≡ true) × Contains before l
Tested R before d E l (Some Unfounded) =
    (known R l.code ≡ true) × (zero_past (kinds l.code) l ≡ true) × (named (at before) (kinds l.code) l ≡ true) × ¬ (Contains before l) × (follows (at before) d E l ≡ false)
Tested R before d E l None =
    (known R l.code ≡ true) × (zero_past (kinds l.code) l ≡ true) × (named (at before) (kinds l.code) l ≡ true) × ¬ (Contains before l) × (follows (at before) d E l ≡ true)
