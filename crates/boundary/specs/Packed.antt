-- What the exported functions answer: an answer as one number.
use Rattle.std.specs.Prelude.{◌≡◌, ℕ, zero, suc, ◌+◌, ◌*◌, ◌^◌, ◌<◌, ◌≤◌, ◌⊎◌, List, length, Result}
use Rattle.checker.specs.Checked.{Checked}
use Rattle.lines.specs.Answers.{number, place, cause_of, answer_to}
use Rattle.lines.specs.declared.answer.Answer.{Answer}
use Rattle.lines.specs.declared.answer.Answer.TheVariants.{OutOfForm}
use Rattle.lines.specs.declared.fault.Unsound.{Unsound}
use Rattle.lines.specs.declared.line.Line.{Line}
use Rattle.report.specs.RuleNames.{rule_of}
use Rattle.report.specs.Verdicts.{Answered}
use Rattle.report.specs.declared.rule_name.RuleName.{RuleName}
use Rattle.report.specs.declared.rule_name.RuleName.TheVariants.{EqualBounds, LeastBound}

abbrev pub packed : Answer → ℕ
packed a = number a * 2 ^ 40 + place a * 2 ^ 8 + cause_of a

abbrev pub numbered_rule : ℕ → RuleName
numbered_rule zero = EqualBounds
numbered_rule (suc n) = LeastBound

-- r is the answer to the bytes as a page
abbrev pub OnPage : (rule : ℕ) → List ℕ → (r : ℕ) → Type 0
OnPage rule bytes r = (a : Answer) × (r ≡ packed a) × Answered (rule_of (numbered_rule rule)) bytes a

-- r is the answer to the records as a listing: what check finds, or 14 at the first place beyond the room
abbrev pub OnTable : (rule : ℕ) → List Line → (r : ℕ) → Type 0
OnTable rule records r =
    ((65535 < length records) × (r ≡ packed (OutOfForm 65536)))
    ⊎ ((length records ≤ 65535) × ((found : Result ℕ Unsound) × (r ≡ packed (answer_to found)) × Checked (rule_of (numbered_rule rule)) records found))
