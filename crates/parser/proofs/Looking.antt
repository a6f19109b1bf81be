-- What stands next in a source: it is used, or may not stand there.
use Rattle.std.proofs.Common.{◌≡◌, refl, sym, ap, subst, ◌∙◌, Bool, true, false, not, List, Ok}
use Rattle.std.proofs.lemmas.Option.{none-some}
use Rattle.lexer.specs.Coming.{used}
use Rattle.lexer.specs.Items.{Item, ends}
use Rattle.lexer.specs.declared.token.Token.{Token}
use Rattle.lexer.specs.declared.token.Word.{Word}
use Rattle.grammar.specs.Notation.{the, same_word}
use Rattle.grammar.specs.declared.fault.SyntaxFault.TheVariants.{Unexpected}
use Rattle.grammar.proofs.Words.{same_word-refl, same_word_is, not_the}
use Rattle.parser.specs.Parsing.{Looked, TakesWord, Refuses}

pub takes_it : (w : Word) (t : Token) (old new : List Item) → ends w ≡ false → Looked old (Ok t) → new ≡ used old → t.word ≡ w → TakesWord w old new (Ok true)
takes_it w t old new e h u i =
    (t, h.0, h.1, subst (λ z. same_word w z ≡ true) (sym i) (same_word-refl w), u ∙ h.2 (ap ends i ∙ e))

test_fails : (v w : Word) → (w ≡ v → ⊥) → (b : Bool) → same_word v w ≡ b → same_word v w ≡ false
test_fails v w h true e = absurd (h (sym (same_word_is v w e)))
test_fails v w h false e = e

pub leaves_it : (w : Word) (t : Token) (old : List Item) → Looked old (Ok t) → (t.word ≡ w → ⊥) → TakesWord w old old (Ok false)
leaves_it w t old h i = (t, h.0, h.1, test_fails w t.word i (same_word w t.word) refl, refl)

pub refuses_it : (w : Word) (t : Token) (old : List Item) → Looked old (Ok t) → (t.word ≡ w → ⊥) → Refuses (the w) old (Unexpected t.byte)
refuses_it w t old h i = (Ok t, h.0, h.1, λ y. none-some y.0 (sym (not_the t i) ∙ y.1), refl)

pub not_true : (b : Bool) → not b ≡ false → b ≡ true
not_true true h = refl
not_true false h = sym h
