-- What is promised of a phrase that is read in an empty tree is the answer to the source.
use Rattle.std.proofs.Common.{◌≡◌, ℕ, [], ◌∷◌, length, Ok, Err, ap, subst}
use Rattle.syntax.specs.declared.phrase.Phrase.{Phrase}
use Rattle.syntax.specs.Layout.{nodes as phrase_nodes, record_of}
use Rattle.syntax.specs.Named.{NamedPhrase}
use Rattle.grammar.specs.Notation.{phrase, on, part}
use Rattle.grammar.specs.Reading.{limits, Answered}
use Rattle.grammar.specs.Steps.{Reads, ReadsPart, StopsPart}
use Rattle.grammar.specs.declared.fault.SyntaxFault.{SyntaxFault}
use Rattle.grammar.proofs.Steps.{reads_part, reads_done}
use Rattle.grammar.proofs.OneAnswer.{spelled_answered}
use Rattle.grammar.proofs.Stopped.{stopped}
use Rattle.tables.specs.Tables.{places}
use Rattle.parser.specs.Parsing.{items, nodes, placed, limits as limits_of, ParsedPhrase}
use Rattle.parser.specs.declared.parser.Parser.{Parser}

module _ (old new : Parser) (k : ℕ) (empty : nodes old ≡ []) (room : places old.tree ≡ k) where
  in_room : limits_of old ≡ limits k
  in_room = ap limits room

  none_placed : placed old ≡ 0
  none_placed = ap length empty

  answered_read : {n : ℕ} {p : NamedPhrase} → ReadsPart (limits_of old) phrase 0 (placed old) 0 (items old) [] n p → Answered (limits k) (items old) (Ok p)
  answered_read {n} {p} h =
      let at_limits : ReadsPart (limits k) phrase 0 (placed old) 0 (items old) [] n p = subst (λ l. ReadsPart l phrase 0 (placed old) 0 (items old) [] n p) in_room h in
      let from_none : ReadsPart (limits k) phrase 0 0 0 (items old) [] n p = subst (λ c. ReadsPart (limits k) phrase 0 c 0 (items old) [] n p) none_placed at_limits in
      let r : Reads (limits k) phrase 0 0 0 (part on phrase ∷ []) (λ p. p) (items old) [] n p = reads_part from_none reads_done in
      spelled_answered (limits k) (items old) p r.derived r.within

  pub phrase_answered : (x : Phrase) → ParsedPhrase old new (Ok x) → (p : NamedPhrase) × Answered (limits k) (items old) (Ok p) × (x ≡ record_of p) × (nodes new ≡ phrase_nodes p)
  phrase_answered x h = let l = h.2 empty in (h.0, answered_read h.1, l.1, l.0)

  pub fault_answered : (e : SyntaxFault) → ParsedPhrase old new (Err e) → Answered (limits k) (items old) (Err e)
  fault_answered e h =
      stopped (limits k) (items old)
      (subst (λ c. StopsPart (limits k) phrase 0 c 0 (items old) e) none_placed (subst (λ l. StopsPart l phrase 0 (placed old) 0 (items old) e) in_room h))
