-- A verdict stays the same under larger limits.
use Rattle.std.proofs.Common.{◌≡◌, ℕ, suc, ◌≤◌, List, [], ◌∷◌, length, Ok, ap, sym, ◌∙◌, subst, arith}
use Rattle.grammar.specs.Derives.{Event, began, ended}
use Rattle.grammar.specs.Reading.{limits, Within}
use Rattle.judge.specs.Phrases.{answer_of, steps_of, lines_left}
use Rattle.judge.specs.Seeking.{Outcome, established, fails, refused}
use Rattle.judge.proofs.Limits.{Kept, larger_limits_same_verdict}
use Rattle.lexer.specs.Items.{Item, items}
use Rattle.lines.specs.Answers.{number}
use Rattle.lines.specs.declared.answer.Answer.{Answer}
use Rattle.lines.specs.declared.line.Line.{Line}
use Rattle.reader.specs.Reads.{ReadAs}
use Rattle.rules.specs.Faults.{Sound}
use Rattle.rules.specs.Quantifiers.{Rule}
use Rattle.runs.specs.Calls.{PhraseCall, judging, PhraseDoes, judges}
use Rattle.runs.specs.Law.{NoSmaller}
use Rattle.runs.specs.Trees.{phrase_judged}
use Rattle.runs.proofs.Phrases.{Judged, refusal_number}
use Rattle.scope.specs.Definitions.{Definition, definitions}
use Rattle.scope.specs.Scoped.{ScopedPhrase}

more_within : (m n c : ℕ) → m ≤ n → (es : List Event) → Within (limits m) c es → Within (limits n) c es
more_within m n c h [] w = tt
more_within m n c h (began depth byte ∷ es) w = (w.0, more_within m n c h es w.1)
more_within m n c h (ended byte ∷ es) w = (let k = w.0 in omega (arith, h, k), more_within m n (suc c) h es w.1)

read_in_more : (m n : ℕ) → m ≤ n → (ts : List Item) (ds : List (Definition ℕ)) (q : ScopedPhrase ℕ) → ReadAs m ts ds (Ok q) → ReadAs n ts ds (Ok q)
read_in_more m n h ts ds q (p, a, e) = (p, (a.0, λ es x. more_within m n 0 h es (a.1 es x)), e)

module _ {R : Rule} {room : ℕ} {found : List Line} (sound : Sound R found) {p : PhraseCall} {answer : Answer} {steps : ℕ} {left : List Line}
    (j : Judged R room found p answer steps left) (verdict : number answer ≤ 1) (more : ℕ) (wider : room ≤ more) (p' : PhraseCall) (larger : NoSmaller p p') where
  abbrev before : Outcome
  before = judging R room found p j.read

  abbrev after : Outcome
  after = judging R more found p' j.read

  kept : Kept before after
  kept =
      larger_limits_same_verdict (record { steps = p.steps; room = room }) (record { steps = p'.steps; room = more }) (larger.1, wider) R
      p.goals p'.goals larger.2 found (phrase_judged j.read)

  same : (o o' : Outcome) → Kept o o' → answer ≡ answer_of o → o ≡ o'
  same (established n r s) o' e a = e
  same (fails byte k) o' e a = e
  same (refused why byte k) o' e a = let x = ap number a in absurd (let z : ⊥ = omega (arith, x, verdict, refusal_number why) in z)

  pub same_verdict : PhraseDoes R more found p' answer steps left
  same_verdict =
      let e = same before after kept j.answered in
      let source = larger.0 in
      judges j.read (subst (λ s. length s ≤ 65535) (sym source) j.short) sound
      (read_in_more p.nodes p'.nodes larger.3 (items p'.source) (definitions found) j.read
      (subst (λ s. ReadAs p.nodes (items s) (definitions found) (Ok j.read)) (sym source) j.is_read))
      (j.answered ∙ ap answer_of e) (j.taken ∙ ap steps_of e) (j.leaves ∙ ap (lines_left found) e)
