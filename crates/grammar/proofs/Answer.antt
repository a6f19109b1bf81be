-- The answer to the items of a source: what is read, or the fault where reading stops.
use Rattle.std.proofs.Common.{◌≡◌, ℕ, ◌↔◌, List, [], ◌∷◌, Result, Ok, Err, refl, ap, subst}
use Rattle.lexer.specs.Items.{Item}
use Rattle.syntax.specs.Named.{NamedPhrase}
use Rattle.grammar.specs.Notation.{phrase, on, part}
use Rattle.grammar.specs.Derives.{Derives}
use Rattle.grammar.specs.Reading.{Limits, count, Answered, Ended}
use Rattle.grammar.specs.Steps.{Reads, ReadsPart, StopsPart}
use Rattle.grammar.specs.declared.fault.SyntaxFault.{SyntaxFault}
use Rattle.grammar.proofs.Unique.{unique}
use Rattle.grammar.proofs.Steps.{reads_part, reads_done}
use Rattle.grammar.proofs.Stopping.{excludes}
use Rattle.grammar.proofs.OneAnswer.{spelled_answered, one_answer}
use Rattle.grammar.proofs.Events.{met_all}
use Rattle.grammar.proofs.FromWritten.{written_spells}
use Rattle.grammar.proofs.Total.{Result_of, reads, stops, total}
use Rattle.grammar.proofs.Stopped.{stopped}

abbrev fault_or : SyntaxFault → Result NamedPhrase SyntaxFault → SyntaxFault
fault_or e (Ok p) = e
fault_or e (Err f) = f

same_err : {e f : SyntaxFault} → ◌≡◌ {A = Result NamedPhrase SyntaxFault} (Err e) (Err f) → e ≡ f
same_err {e} h = ap (fault_or e) h

abbrev Is_ok : Result NamedPhrase SyntaxFault → Type 0
Is_ok (Ok p) = Unit {0}
Is_ok (Err e) = ⊥

ok_not_err : {p : NamedPhrase} {e : SyntaxFault} → ◌≡◌ {A = Result NamedPhrase SyntaxFault} (Ok p) (Err e) → ⊥
ok_not_err h = subst Is_ok h tt

module _ (l : Limits) (items : List Item) (ended : Ended items) where
  abbrev pub PhraseRead : (left : List Item) (n : ℕ) → NamedPhrase → Type 0
  PhraseRead left n p = Reads l phrase 0 0 0 (part on phrase ∷ []) (λ p. p) items left n p

  -- nothing is left
  pub none_left : {left : List Item} {n : ℕ} {p : NamedPhrase} → PhraseRead left n p → left ≡ []
  none_left {left} {n} {p} r = go (total l items ended)
    where
      go : Result_of l items → left ≡ []
      go (reads k p' r') = (unique r.derived r'.derived).rest
      go (stops e s) = absurd (excludes r.derived r.within s)

  pub read_answered : {left : List Item} {n : ℕ} {p : NamedPhrase} → PhraseRead left n p → Answered l items (Ok p)
  read_answered {p = p} r =
      spelled_answered l items p (subst (λ a. Derives phrase 0 0 (part on phrase ∷ []) (λ p. p) items r.events a p) (none_left r) r.derived) r.within

  pub part_answered : {left : List Item} {n : ℕ} {p : NamedPhrase} → ReadsPart l phrase 0 0 0 items left n p → Answered l items (Ok p)
  part_answered r = read_answered (reads_part r reads_done)

  pub answered_read : {p : NamedPhrase} → Answered l items (Ok p) → (n : ℕ) × PhraseRead [] n p
  answered_read a =
      let s = written_spells a.0 in
      (count 0 s.0, record { events = s.0; derived = s.1; within = a.1 s.0 (met_all s.1); counted = refl })

  -- the answer that there is, and it alone
  pub answer : (a : Result NamedPhrase SyntaxFault) × Answered l items a × ((b : Result NamedPhrase SyntaxFault) → Answered l items b → b ≡ a)
  answer = go (total l items ended)
    where
      go : Result_of l items → (a : Result NamedPhrase SyntaxFault) × Answered l items a × ((b : Result NamedPhrase SyntaxFault) → Answered l items b → b ≡ a)
      go (reads n p r) = (Ok p, read_answered r, λ b x. one_answer l items b (Ok p) x (read_answered r))
      go (stops e s) = (Err e, stopped l items s, λ b x. one_answer l items b (Err e) x (stopped l items s))

  pub answered_stops : (e : SyntaxFault) → Answered l items (Err e) → StopsPart l phrase 0 0 0 items e
  answered_stops e a = go (total l items ended)
    where
      go : Result_of l items → StopsPart l phrase 0 0 0 items e
      go (reads n p r) = absurd (ok_not_err (one_answer l items (Ok p) (Err e) (read_answered r) a))
      go (stops e' s) = subst (λ x. StopsPart l phrase 0 0 0 items x) (same_err (one_answer l items (Err e') (Err e) (stopped l items s) a)) s

  -- Reading the phrase stops with a fault just where the fault is the answer.
  pub stops_iff : (e : SyntaxFault) → StopsPart l phrase 0 0 0 items e ↔ Answered l items (Err e)
  stops_iff e = (stopped l items, answered_stops e)

  -- The phrase is read just where it is the answer.
  pub reads_iff : (p : NamedPhrase) → ((n : ℕ) × PhraseRead [] n p) ↔ Answered l items (Ok p)
  reads_iff p = (λ r. read_answered r.1, answered_read)
