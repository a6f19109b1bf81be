-- A Result as an Answer.
use Rattle.std.proofs.Common.{◌≡◌, ℕ, MatchResult, Ok, Err, Result}
use Rattle.lines.specs.Answers.{answer_to}
use Rattle.lines.specs.declared.answer.Answer.{Answer}
use Rattle.lines.specs.declared.answer.Answer.TheVariants.{Granted, Unsound as unsound}
use Rattle.lines.specs.declared.fault.Unsound.{Unsound}

pub answer_is : (r : Result ℕ Unsound) (a : Answer) → MatchResult r (λ n. a ≡ Granted n) (λ fault. a ≡ unsound fault.line fault.cause) → a ≡ answer_to r
answer_is (Ok n) a h = h
answer_is (Err fault) a h = h
