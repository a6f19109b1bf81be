-- A phrase that is read and whose names are all bound.
use Rattle.std.proofs.Common.{◌≡◌, ℕ, List, Result, Ok, Err, refl, sym, ◌∙◌, subst}
use Rattle.std.specs.Prelude.{⊤}
use Rattle.lexer.specs.Items.{Item}
use Rattle.grammar.specs.Reading.{limits, Answered}
use Rattle.syntax.specs.Layout as named
use Rattle.syntax.specs.Named.{NamedPhrase}
use Rattle.syntax.specs.declared.node.Node.{Node}
use Rattle.syntax.specs.declared.phrase.Phrase.{Phrase}
use Rattle.scope.specs.Definitions.{Definition}
use Rattle.scope.specs.Resolved.{Scoped}
use Rattle.scope.specs.Scope.{scope}
use Rattle.scope.specs.Scoped.{ScopedPhrase}
use Rattle.scope.specs.ScopedLayout as scoped
use Rattle.scope.specs.declared.unbound.Unbound.{Unbound}
use Rattle.scope.proofs.Laws.{record_kept}
use Rattle.reader.specs.Reads.{ReadAs}

module _ (n : ℕ) (items : List Item) (ds : List (Definition ℕ)) (p : NamedPhrase) (x : Phrase) (old new : List Node) where
  abbrev pub Read : Type 0
  Read = (q : ScopedPhrase ℕ) × ReadAs n items ds (Ok q) × (new ≡ scoped.nodes q) × (x ≡ scoped.record_of q)

  scoped_as : Answered (limits n) items (Ok p) → x ≡ named.record_of p → (s : Result (ScopedPhrase ℕ) ℕ) → scope ds p ≡ s → (r : ⊤) → Scoped s new (Ok r) → Read
  scoped_as a kept (Ok q) e r h = (q, (p, a, e), h, kept ∙ sym (record_kept ℕ ds p q e))
  scoped_as a kept (Err byte) e r h = absurd h

  pub read_ok : Answered (limits n) items (Ok p) → x ≡ named.record_of p → old ≡ named.nodes p
      → ((p : NamedPhrase) → old ≡ named.nodes p → Scoped (scope ds p) new (Ok tt)) → Read
  read_ok a kept laid h = scoped_as a kept (scope ds p) refl tt (h p laid)
