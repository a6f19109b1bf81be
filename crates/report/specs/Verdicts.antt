-- The verdict on a page: every place of 46 bytes is taken for a line, and the listing is checked.
use Rattle.std.specs.Prelude.{◌≡◌, ℕ, ◌+◌, ◌-◌, ◌/◌, ◌<◌, ◌≤◌, Bool, if◌then◌else◌, ◌&&◌, ◌⊎◌, List, length, ◌==◌, nat_le, count_by, Result}
use Rattle.checker.specs.Checked.{Checked}
use Rattle.lines.specs.Adopts.{Good, Lowest}
use Rattle.lines.specs.Answers.{number, answer_to}
use Rattle.page.specs.Form.{InForm}
use Rattle.page.specs.Pages.{place, rows}
use Rattle.lines.specs.declared.answer.Answer.{Answer}
use Rattle.lines.specs.declared.answer.Answer.TheVariants.{OutOfForm}
use Rattle.lines.specs.declared.fault.Unsound.{Unsound as UnsoundFault}
use Rattle.lines.specs.declared.line.Line.{Line}
use Rattle.rules.specs.Quantifiers.{Rule}

-- how many places there are, an incomplete last one among them
abbrev pub places : List ℕ → ℕ
places bytes = (length bytes + 45) / 46

-- place p, numbered from 1, is a line: it is one of the first 65535 and in form, and so whole
abbrev pub LineAt : List ℕ → ℕ → Type 0
LineAt bytes = Good (λ p. InForm (place (p - 1) bytes)) 65535

-- the lines that all places are read as
abbrev pub listing : List ℕ → List Line
listing bytes = rows (places bytes) bytes

-- the answer: the lowest place that is no line, or else what the check finds of the lines of all places
abbrev pub Answered : Rule → List ℕ → Answer → Type 0
Answered R bytes a =
    ((p : ℕ) × (a ≡ OutOfForm p) × Lowest (LineAt bytes) (places bytes) p)
    ⊎ (((p : ℕ) → 0 < p → p ≤ places bytes → LineAt bytes p) × ((found : Result ℕ UnsoundFault) × Checked R (listing bytes) found × (a ≡ answer_to found)))

abbrev pub between : (low high code : ℕ) → Bool
between low high code = nat_le low code && nat_le code high

-- how many lines have a code of this range
abbrev pub coded_between : (low high : ℕ) → List Line → ℕ
coded_between low high lines = count_by (λ l. between low high l.code) lines

-- how many of them are concluded: none unless the listing is granted
abbrev pub concluded : (low high : ℕ) → Answer → List Line → ℕ
concluded low high a lines = if number a == 0 then coded_between low high lines else 0
