-- Lines by their numbers.
use Rattle.std.proofs.Common.{◌≡◌, ℕ, zero, suc, ◌+◌, ◌-◌, ◌<◌, List, [], ◌∷◌, length, take, drop, Some, None, sym, refl, ap, ◌∙◌, le_of_suc-le-suc, add-one, arith}
use Rattle.std.proofs.Math.Seq.{drop-nil}
use Rattle.lines.specs.Stores.{numbered}
use Rattle.std.proofs.lemmas.Option.{slice_get_past, none-some}
use Rattle.std.specs.List.{slice_get}

module _ {X : Type 0} where
  pub nth_take : (k i : ℕ) (xs : List X) → i < k → slice_get (take k xs) i ≡ slice_get xs i
  nth_take zero i xs h = absurd (omega arith)
  nth_take (suc k) i [] h = refl
  nth_take (suc k) zero (x ∷ xs) h = refl
  nth_take (suc k) (suc i) (x ∷ xs) h = nth_take k i xs (le_of_suc-le-suc h)

  pub numbered_is : (xs : List X) (n : ℕ) → 0 < n → numbered xs n ≡ slice_get xs (n - 1)
  numbered_is xs zero h = absurd (omega arith)
  numbered_is xs (suc n) h = ap (slice_get xs) (omega arith)

  pub numbered_past : (xs : List X) (n : ℕ) → length xs < n → numbered xs n ≡ None
  numbered_past xs n h = numbered_is xs n (omega arith) ∙ slice_get_past xs (n - 1) (omega arith)

  -- what is left after i lines, by line m, the next one
  pub drop_first : (xs : List X) (i m : ℕ) (x : X) → m ≡ i + 1 → numbered xs m ≡ Some x → drop i xs ≡ x ∷ drop m xs
  drop_first xs i m x n e = go xs i x (ap (numbered xs) (sym (n ∙ add-one i)) ∙ e) ∙ ap (λ k. x ∷ drop k xs) (sym (n ∙ add-one i))
    where
      go : (xs : List X) (i : ℕ) (x : X) → numbered xs (suc i) ≡ Some x → drop i xs ≡ x ∷ drop (suc i) xs
      go [] i x e = absurd (none-some x e)
      go (y ∷ xs) zero x e = let same : y ≡ x = cc in ap (λ z. z ∷ xs) same
      go (y ∷ xs) (suc i) x e = go xs i x e

  pub drop_none : (xs : List X) (i m : ℕ) → m ≡ i + 1 → numbered xs m ≡ None → drop i xs ≡ []
  drop_none xs i m n e = go xs i (ap (numbered xs) (sym (n ∙ add-one i)) ∙ e)
    where
      go : (xs : List X) (i : ℕ) → numbered xs (suc i) ≡ None → drop i xs ≡ []
      go [] i e = drop-nil i
      go (y ∷ xs) zero e = absurd (none-some y (sym e))
      go (y ∷ xs) (suc i) e = go xs i e
