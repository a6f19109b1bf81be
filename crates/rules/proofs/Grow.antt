-- Sound listings cut to their first lines, and with a line added at the end.
use Rattle.std.proofs.Common.{◌≡◌, ℕ, zero, suc, ◌<◌, ◌⊎◌, List, [], ◌∷◌, ◌++◌, length, take, Some, sym, refl, ap, ◌∙◌, subst, inl, inr, ⊎_elim, arith}
use Rattle.lines.specs.declared.line.Line.{Line}
use Rattle.rules.specs.Faults.{Fine, Sound}
use Rattle.rules.specs.Quantifiers.{Rule}
use Rattle.rules.specs.Statements.{Statement, statement, said}
use Rattle.rules.proofs.Whole.{◌⊑◌, numbered_front, said_line, line_said}
use Rattle.std.proofs.lemmas.List.{take_all, take-take, take-append-le}
use Rattle.std.specs.List.{slice_get}
use Rattle.std.proofs.lemmas.Option.{none-some}

pub cut_sound : (R : Rule) (lines : List Line) → Sound R lines → (m : ℕ) → Sound R (take m lines)
cut_sound R lines sound m n l e =
    let (h, f) = numbered_front lines m (suc n) l e in
    subst (λ before. Fine R before l) (sym (take-take n m lines (omega arith))) (sound n l f)

module _ {X : Type 0} where
  nth_below : (xs : List X) (x y : X) (n : ℕ) → slice_get xs n ≡ Some y → slice_get (xs ++ x ∷ []) n ≡ Some y
  nth_below [] x y n e = absurd (none-some _ e)
  nth_below (z ∷ xs) x y zero e = e
  nth_below (z ∷ xs) x y (suc n) e = nth_below xs x y n e

  nth_last : (xs : List X) (x : X) → slice_get (xs ++ x ∷ []) (length xs) ≡ Some x
  nth_last [] x = refl
  nth_last (z ∷ xs) x = nth_last xs x

  nth_added : (xs : List X) (x y : X) (n : ℕ) → slice_get (xs ++ x ∷ []) n ≡ Some y
      → ((n < length xs) × (slice_get xs n ≡ Some y)) ⊎ ((n ≡ length xs) × (x ≡ y))
  nth_added [] x y zero e = inr (refl, (cc))
  nth_added [] x y (suc n) e = absurd (none-some _ e)
  nth_added (z ∷ xs) x y zero e = inl (omega arith, e)
  nth_added (z ∷ xs) x y (suc n) e =
      ⊎_elim (λ below. inl (omega arith, below.1)) (λ last. inr (ap suc last.0, last.1)) (nth_added xs x y n e)

pub added_sound : (R : Rule) (lines : List Line) → Sound R lines → (l : Line) → Fine R lines l → Sound R (lines ++ l ∷ [])
added_sound R lines sound l fine n k e =
    ⊎_elim (λ below. subst (λ before. Fine R before k) (sym (take-append-le n lines (l ∷ []) (omega arith))) (sound n k below.1))
    (λ last.
    let same : take n (lines ++ l ∷ []) ≡ lines =
    take-append-le n lines (l ∷ []) (omega arith) ∙ take_all n lines (omega arith) in
    subst (λ before. Fine R before k) (sym same) (subst (λ m. Fine R lines m) last.1 fine)) (nth_added lines l k n e)

pub said_added : (lines : List Line) (l : Line) → said lines ⊑ said (lines ++ l ∷ [])
said_added lines l zero s e = absurd (none-some _ e)
said_added lines l (suc n) s e =
    let (k, f, g) = said_line lines (suc n) s e in
    line_said (lines ++ l ∷ []) (suc n) k s (nth_below lines l k n f) g

pub said_last : (lines : List Line) (l : Line) (s : Statement) → statement l ≡ Some s → said (lines ++ l ∷ []) (suc (length lines)) ≡ Some s
said_last lines l s e = line_said (lines ++ l ∷ []) (suc (length lines)) l s (nth_last lines l) e
