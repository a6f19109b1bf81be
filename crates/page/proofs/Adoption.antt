-- The search for the lowest place that is out of form.
use Rattle.std.proofs.Common.{◌≡◌, ℕ, ◌+◌, ◌-◌, ◌<◌, ◌≤◌, List, [], length, Option, Some, None, sym, subst, arith}
use Rattle.std.specs.List.{AllWithin, HoldsAt}
use Rattle.std.specs.Option.{MatchOption}
use Rattle.std.specs.Simd.{first_chunks}
use Rattle.page.proofs.Rows.{length-first_chunks, get_or-first_chunks}
use Rattle.page.specs.Form.{InForm}
use Rattle.page.specs.Pages.{place}

-- what a search of the first t places, as chunks, says of them
module _ (s : List ℕ) (t : ℕ) where
  abbrev chunks : List (List ℕ)
  chunks = first_chunks 46 t s

  long : length chunks ≡ t
  long = length-first_chunks 46 t s

  below : (i : ℕ) → i ≤ t → AllWithin InForm chunks 0 i → (k : ℕ) → k < i → InForm (place k s)
  below i h all k l = subst InForm (get_or-first_chunks t k s [] (omega arith)) (all k [] (omega arith) l)

  pub searched : (r : Option ℕ) →
      MatchOption r (AllWithin InForm chunks 0 (length chunks)) (λ i. (i < length chunks) × HoldsAt (λ x. InForm x → ⊥) chunks i × AllWithin InForm chunks 0 i) →
      MatchOption r ((k : ℕ) → k < t → InForm (place k s)) (λ i. (i < t) × (InForm (place i s) → ⊥) × ((k : ℕ) → k < i → InForm (place k s)))
  searched None f = λ k h. below (length chunks) (omega (arith, long)) f k (omega (arith, long))
  searched (Some i) f =
      let h : i < t = omega (arith, f.0, long) in
      (h, λ g. f.1 [] (subst InForm (sym (get_or-first_chunks t i s [] h)) g), below i (omega arith) f.2)

-- places counted from 0, in place of from 1
pub from_zero : (s : List ℕ) (n : ℕ) → ((p : ℕ) → 0 < p → p ≤ n → InForm (place (p - 1) s)) → (k : ℕ) → k < n → InForm (place k s)
from_zero s n f k h =
    let e : k + 1 - 1 ≡ k = omega arith in
    subst (λ j. InForm (place j s)) e (f (k + 1) (omega arith) (omega arith))
