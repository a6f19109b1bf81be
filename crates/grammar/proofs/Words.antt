-- Which tokens may stand: a word's test tells whether it is that word.
use Rattle.std.proofs.Common.{◌≡◌, ℕ, ◌⊎◌, Bool, true, false, List, [], ◌∷◌, Option, Some, None, Ok, if◌then◌else◌, nat_eq, get_or, refl, ap, ◌∙◌, sym, subst, inl, inr, arith}
use Rattle.std.proofs.lemmas.Bool.{eq-eqb, eqb-true}
use Rattle.std.proofs.lemmas.Option.{none-some, same_Some}
use Rattle.std.specs.Cmp.Lexicographic.{pointwise, same_text}
use Rattle.lexer.specs.Items.{Item}
use Rattle.lexer.specs.Names.{same}
use Rattle.lexer.specs.declared.name.Name.{Name}
use Rattle.lexer.specs.declared.token.Token.{Token}
use Rattle.lexer.specs.declared.token.Word.{Word}
use Rattle.lexer.specs.declared.token.Word.TheVariants.{All, LetType, Rec, Top, Fold, Fun, Judge, LetTerm, RecTerm, TopTerm, Unfold, Colon, Below, Arrow, Equal, Turnstile, Open, Close, OpenBrace, CloseBrace, Semicolon, Unused, Name as Named, End}
use Rattle.grammar.specs.Grammar.{rows, other}
use Rattle.grammar.specs.Notation.{Kind, the, at, a_name, name_at, number, same_word, taken, Row, Entry}
use Rattle.grammar.specs.Derives.{pick, choose}

same_bytes : (xs : List ℕ) → pointwise nat_eq xs xs ≡ true
same_bytes [] = refl
same_bytes (x ∷ xs) = rw (eq-eqb x x refl) (same_bytes xs)

pub same_word-refl : (w : Word) → same_word w w ≡ true
same_word-refl (Named w) = same_bytes w.bytes
same_word-refl w = refl

abbrev words : List Word
words = All ∷ LetType ∷ Rec ∷ Top ∷ Fold ∷ Fun ∷ Judge ∷ LetTerm ∷ RecTerm ∷ TopTerm ∷ Unfold ∷ Colon ∷ Below ∷ Arrow ∷ Equal ∷ Turnstile ∷ Open ∷ Close ∷ OpenBrace ∷ CloseBrace ∷ Semicolon ∷ Unused ∷ Unused ∷ End ∷ []

abbrev Listed : Word → Type 0
Listed w = (get_or words (number w) End ≡ w) ⊎ ((x : Name) × (w ≡ Named x))

listed : (w : Word) → Listed w
listed (Named x) = inr (x, refl)
listed w = inl refl

same_number : (v w : Word) → same_word v w ≡ true → number v ≡ number w
same_number (Named v) (Named w) e = refl
same_number (Named v) w e = eqb-true 22 (number w) e
same_number v w e = eqb-true (number v) (number w) e

same_name : (v w : Name) → same v w ≡ true → Named v ≡ Named w
same_name v w e = ap (λ b. Named (record { bytes = b })) (same_text v.bytes w.bytes (sym e))

pub same_word_is : (v w : Word) → same_word v w ≡ true → v ≡ w
same_word_is v w e = go (listed v) (listed w)
  where
    n : number v ≡ number w
    n = same_number v w e

    go : Listed v → Listed w → v ≡ w
    go (inl a) (inl b) = sym a ∙ ap (λ k. get_or words k End) n ∙ b
    go (inl a) (inr b) = absurd (less (sym (n ∙ ap number b.1)) (ap number (sym a ∙ ap (λ k. get_or words k End) (n ∙ ap number b.1))))
      where
        less : 22 ≡ number v → number v ≡ 21 → ⊥
        less h k = omega (arith, h, k)
    go (inr a) (inl b) = absurd (less (sym n ∙ ap number a.1) (ap number (sym b ∙ ap (λ k. get_or words k End) (sym n ∙ ap number a.1))))
      where
        less : number w ≡ 22 → number w ≡ 21 → ⊥
        less h k = omega (arith, h, k)
    go (inr a) (inr b) = a.1 ∙ same_name a.0 b.0 (subst (λ x. same_word x (Named b.0) ≡ true) a.1 (subst (λ y. same_word v y ≡ true) b.1 e)) ∙ sym b.1

-- a word that a guard wants stands, or does not

pub is_the : (t : Token) {w : Word} → t.word ≡ w → taken (the w) t ≡ Some tt
is_the t {w} e = ap (λ b. if b then Some tt else None) (ap (same_word w) e ∙ same_word-refl w)

pub is_at : (t : Token) {w : Word} → t.word ≡ w → taken (at w) t ≡ Some t.byte
is_at t {w} e = ap (λ b. if b then Some t.byte else None) (ap (same_word w) e ∙ same_word-refl w)

pub is_name : (t : Token) {x : Name} → t.word ≡ Named x → taken a_name t ≡ Some x
is_name t e = rw e refl

pub is_name_at : (t : Token) {x : Name} → t.word ≡ Named x → taken name_at t ≡ Some (t.byte, x)
is_name_at t e = rw e refl

test_no : (v w : Word) → (w ≡ v → ⊥) → same_word v w ≡ false
test_no v w h = go (same_word v w) refl
  where
    go : (b : Bool) → same_word v w ≡ b → same_word v w ≡ false
    go true e = absurd (h (sym (same_word_is v w e)))
    go false e = e

pub not_the : (t : Token) {w : Word} → (t.word ≡ w → ⊥) → taken (the w) t ≡ None
not_the t {w} h = ap (λ b. if b then Some tt else None) (test_no w t.word h)

pub not_at : (t : Token) {w : Word} → (t.word ≡ w → ⊥) → taken (at w) t ≡ None
not_at t {w} h = ap (λ b. if b then Some t.byte else None) (test_no w t.word h)

pub not_name : (t : Token) → ((x : Name) → t.word ≡ Named x → ⊥) → taken a_name t ≡ None
not_name t h = go t.word refl
  where
    go : (w : Word) → t.word ≡ w → taken a_name t ≡ None
    go (Named x) e = absurd (h x e)
    go w e = rw e refl

pub not_name_at : (t : Token) → ((x : Name) → t.word ≡ Named x → ⊥) → taken name_at t ≡ None
not_name_at t h = go t.word refl
  where
    go : (w : Word) → t.word ≡ w → taken name_at t ≡ None
    go (Named x) e = absurd (h x e)
    go w e = rw e refl

-- the row that a word begins, found by computing
pub chosen : {K : Kind} (t : Token) (ts : List Item) (w : Word) {o : Option (Row K)} → t.word ≡ w → choose K (Ok (record { word = w; byte = t.byte }) ∷ ts) ≡ o
    → choose K (Ok t ∷ ts) ≡ o
chosen {K} t ts w {o} e h = subst (λ u. choose K (Ok (record { word = u; byte = t.byte }) ∷ ts) ≡ o) (sym e) h

-- where none of the entries takes the token
abbrev pub NoneTakes : {K : Kind} → List (Entry K) → Token → Type 0
NoneTakes [] t = Unit {0}
NoneTakes (e ∷ es) t = (taken e.first t ≡ None) × NoneTakes es t

pub picked_none : {K : Kind} (es : List (Entry K)) (t : Token) (ρ : Option (Row K)) → NoneTakes es t → pick es t ρ ≡ ρ
picked_none [] t ρ h = refl
picked_none (e ∷ es) t ρ h = rw (h.0) (picked_none es t ρ h.1)

pub chosen_other : {K : Kind} (t : Token) (ts : List Item) → NoneTakes (rows K) t → choose K (Ok t ∷ ts) ≡ other K
chosen_other {K} t ts h = picked_none (rows K) t (other K) h

-- what a token is that was let stand

some_if : {A : Type 0} (b : Bool) (x : A) {y : A} → (if b then Some x else None) ≡ Some y → (b ≡ true) × (x ≡ y)
some_if true x e = (refl, same_Some _ _ e)
some_if false x e = absurd (none-some _ e)

pub word_of_the : (t : Token) (w : Word) {x : Unit {0}} → taken (the w) t ≡ Some x → t.word ≡ w
word_of_the t w e = sym (same_word_is w t.word (some_if (same_word w t.word) tt e).0)

pub word_of_at : (t : Token) (w : Word) {byte : ℕ} → taken (at w) t ≡ Some byte → t.word ≡ w
word_of_at t w e = sym (same_word_is w t.word (some_if (same_word w t.word) t.byte e).0)

pub byte_of_at : (t : Token) (w : Word) {byte : ℕ} → taken (at w) t ≡ Some byte → t.byte ≡ byte
byte_of_at t w e = (some_if (same_word w t.word) t.byte e).1

pub word_of_name : (t : Token) {x : Name} → taken a_name t ≡ Some x → t.word ≡ Named x
word_of_name t {x} e = go t.word refl
  where
    go : (w : Word) → t.word ≡ w → t.word ≡ Named x
    go (Named y) h = h ∙ ap Named (same_Some y x (rw h at e))
    go w h = absurd (none-some x (rw h at e))

name_taken : (t : Token) {x : ℕ × Name} → taken name_at t ≡ Some x → (t.word ≡ Named x.1) × (t.byte ≡ x.0)
name_taken t {x} e = go t.word refl
  where
    go : (w : Word) → t.word ≡ w → (t.word ≡ Named x.1) × (t.byte ≡ x.0)
    go (Named y) h = let k = same_Some (t.byte, y) x (rw h at e) in (h ∙ ap (λ z. Named z.1) k, ap (λ z. z.0) k)
    go w h = absurd (none-some x (rw h at e))

pub word_of_name_at : (t : Token) {x : ℕ × Name} → taken name_at t ≡ Some x → t.word ≡ Named x.1
word_of_name_at t e = (name_taken t e).0

pub byte_of_name_at : (t : Token) {x : ℕ × Name} → taken name_at t ≡ Some x → t.byte ≡ x.0
byte_of_name_at t e = (name_taken t e).1
