-- The calls, each with what it answers and the lines that it leaves.
use Rattle.std.specs.Prelude.{◌≡◌, ℕ, ◌<◌, ◌≤◌, ◌⊎◌, List, length, take, Ok, Err, Result}
use Rattle.checker.specs.Checked.{Checked}
use Rattle.judge.specs.Phrases.{judged, answer_of, steps_of, lines_left}
use Rattle.judge.specs.Seeking.{Outcome}
use Rattle.lexer.specs.Items.{items}
use Rattle.lines.specs.Answers as checked
use Rattle.lines.specs.declared.answer.Answer.{Answer}
use Rattle.lines.specs.declared.answer.Answer.TheVariants.{Granted, SourceTooLong, Unsound, PastCount}
use Rattle.lines.specs.declared.answer.Cause.{Cause}
use Rattle.lines.specs.declared.fault.Unsound.{Unsound as UnsoundFault}
use Rattle.lines.specs.declared.line.Line.{Line}
use Rattle.reader.specs.Reads as reader
use Rattle.reader.specs.Reads.{ReadAs}
use Rattle.reader.specs.declared.fault.ReadFault.{ReadFault}
use Rattle.rules.specs.Faults.{Sound, FirstFault}
use Rattle.rules.specs.Quantifiers.{Rule}
use Rattle.runs.specs.Trees.{phrase_judged}
use Rattle.scope.specs.Definitions.{definitions}
use Rattle.scope.specs.Scoped.{ScopedPhrase}

-- what a phrase is called with: the bytes of its source, the most steps, and how many goals and nodes have a place
pub record PhraseCall : Type 0 where
  pub source : List ℕ
  pub steps : ℕ
  pub goals : ℕ
  pub nodes : ℕ

-- a call and what it answered; of a trial, the mark
pub data Call : Type 0 where
  phrase : PhraseCall → Answer → (steps : ℕ) → Call
  check : Answer → Call
  trial : (mark : ℕ) → Call
  keep : (mark : ℕ) → Answer → Call
  withdraw : (mark : ℕ) → Answer → Call

-- the phrase judged, after these lines and in so much room
abbrev pub judging : Rule → (room : ℕ) → List Line → PhraseCall → ScopedPhrase ℕ → Outcome
judging R room found p q = judged R (record { steps = p.steps; room = room }) p.goals found (phrase_judged q)

-- The first case that holds: the source is too long; the listing is unsound; the source is not read, or a name in it not bound; it is judged.
pub data PhraseDoes (R : Rule) (room : ℕ) (found : List Line) (p : PhraseCall) (answer : Answer) (steps : ℕ) (left : List Line) : Type 0 where
  too_long : 65535 < length p.source → answer ≡ SourceTooLong → steps ≡ 0 → left ≡ found → PhraseDoes R room found p answer steps left
  unsound : (n : ℕ) (c : Cause) → length p.source ≤ 65535 → FirstFault R found n c → answer ≡ Unsound n c → steps ≡ 0 → left ≡ found
      → PhraseDoes R room found p answer steps left
  not_read : (fault : ReadFault) → length p.source ≤ 65535 → Sound R found → ReadAs p.nodes (items p.source) (definitions found) (Err fault)
      → answer ≡ reader.answer_to fault → steps ≡ 0 → left ≡ found → PhraseDoes R room found p answer steps left
  judges : (q : ScopedPhrase ℕ) → length p.source ≤ 65535 → Sound R found → ReadAs p.nodes (items p.source) (definitions found) (Ok q)
      → answer ≡ answer_of (judging R room found p q) → steps ≡ steps_of (judging R room found p q)
      → left ≡ lines_left found (judging R room found p q) → PhraseDoes R room found p answer steps left

-- a call on the lines found answers so and leaves these
abbrev pub Does : Rule → (room : ℕ) → (found : List Line) → Call → (left : List Line) → Type 0
Does R room found (phrase p answer steps) left = PhraseDoes R room found p answer steps left
Does R room found (check answer) left = (r : Result ℕ UnsoundFault) × Checked R found r × (answer ≡ checked.answer_to r) × (left ≡ found)
Does R room found (trial mark) left = (mark ≡ length found) × (left ≡ found)
Does R room found (keep mark answer) left = (answer ≡ Granted mark) × (left ≡ found)
Does R room found (withdraw mark answer) left =
    ((mark ≤ length found) × (answer ≡ Granted mark) × (left ≡ take mark found))
    ⊎ ((length found < mark) × (answer ≡ PastCount mark) × (left ≡ found))
