-- A scan of the lines, one after another.
use Rattle.std.proofs.Common.{◌≡◌, ℕ, zero, suc, ◌+◌, ◌<◌, ◌≤◌, Bool, true, false, cond, List, [], ◌∷◌, length, drop, Some, None, Option, refl, ap, sym, ◌∙◌, add-one, arith}
use Rattle.std.proofs.Math.Seq.{drop-nil}
use Rattle.lines.specs.Stores.{numbered}
use Rattle.lines.specs.declared.line.Line.{Line}
use Rattle.lines.proofs.Numbered.{drop_first}
use Rattle.std.proofs.lemmas.Option.{none-some}
use Rattle.std.specs.Option.{UnwrapsOrElse}
use Rattle.rules.specs.Statements.{statement}
use Rattle.judge.specs.Goals.{Goal}
use Rattle.judge.specs.Seeking.{serves, result_of, standing, same_line, equal_at}
use Rattle.actions.proofs.Reused.{Answer}

stands : (lines : List Line) (n : ℕ) → n < length lines → numbered lines (n + 1) ≡ None → ⊥
stands lines n h e = go lines n h (ap (numbered lines) (sym (add-one n)) ∙ e)
  where
    go : (xs : List Line) (k : ℕ) → k < length xs → numbered xs (suc k) ≡ None → ⊥
    go [] k h e = omega (arith, h)
    go (x ∷ xs) zero h e = none-some x (sym e)
    go (x ∷ xs) (suc k) h e = go xs k (omega (arith, h)) e

-- the line that is read is the next one
pub read : (lines : List Line) (n m : ℕ) (o : Option Line) (D : Line → Type 0) (l : Line) → n < length lines → m ≡ n + 1 → o ≡ numbered lines m → UnwrapsOrElse o D l
    → drop n lines ≡ l ∷ drop m lines
read lines n m None D l h is e u = absurd (stands lines n h (ap (numbered lines) (sym is) ∙ sym e))
read lines n m (Some x) D l h is e u = drop_first lines n m l is (sym e ∙ ap Some (sym u))

pub none_left : (lines : List Line) (n : ℕ) → length lines ≤ n → drop n lines ≡ []
none_left [] n h = drop-nil n
none_left (x ∷ xs) zero h = absurd (let z : ⊥ = omega (arith, h) in z)
none_left (x ∷ xs) (suc n) h = none_left xs n (omega (arith, h))

pub standing_passes : (g : Goal) (n : ℕ) (l : Line) (xs : List Line) → None ≡ Answer g (statement l) → standing g n (l ∷ xs) ≡ standing g (suc n) xs
standing_passes g n l xs e = go (serves g (statement l)) e
  where
    go : (b : Bool) → None ≡ cond b (Some (result_of (statement l))) None → cond b (Some (n, result_of (statement l))) (standing g (suc n) xs) ≡ standing g (suc n) xs
    go true e = absurd (none-some _ e)
    go false e = refl

pub standing_here : (g : Goal) (n r : ℕ) (l : Line) (xs : List Line) → Some r ≡ Answer g (statement l) → standing g n (l ∷ xs) ≡ Some (n, r)
standing_here g n r l xs e = go (serves g (statement l)) e
  where
    go : (b : Bool) → Some r ≡ cond b (Some (result_of (statement l))) None → cond b (Some (n, result_of (statement l))) (standing g (suc n) xs) ≡ Some (n, r)
    go true e = let same : r ≡ result_of (statement l) = cc in ap (λ k. Some (n, k)) (sym same)
    go false e = absurd (none-some _ (sym e))

pub equal_passes : (l : Line) (n : ℕ) (m : Line) (xs : List Line) → false ≡ same_line l m → equal_at l n (m ∷ xs) ≡ equal_at l (suc n) xs
equal_passes l n m xs e = ap (λ b. cond b (Some n) (equal_at l (suc n) xs)) (sym e)

pub equal_here : (l : Line) (n : ℕ) (m : Line) (xs : List Line) → true ≡ same_line l m → equal_at l n (m ∷ xs) ≡ Some n
equal_here l n m xs e = ap (λ b. cond b (Some n) (equal_at l (suc n) xs)) (sym e)

-- as far as the scan has come

module _ (lines : List Line) (n m : ℕ) (is : m ≡ n + 1) (l : Line) (next : drop n lines ≡ l ∷ drop m lines) where
  number : suc n ≡ m
  number = omega (arith, is)

  pub standing_goes_on : (g : Goal) → standing g 1 lines ≡ standing g (suc n) (drop n lines) → None ≡ Answer g (statement l)
      → standing g 1 lines ≡ standing g (suc m) (drop m lines)
  standing_goes_on g h e =
      h ∙ ap (standing g (suc n)) next ∙ standing_passes g (suc n) l (drop m lines) e ∙ ap (λ k. standing g (suc k) (drop m lines)) number

  pub standing_found : (g : Goal) (r : ℕ) → standing g 1 lines ≡ standing g (suc n) (drop n lines) → Some r ≡ Answer g (statement l)
      → Some (m, r) ≡ standing g 1 lines
  standing_found g r h e =
      sym (h ∙ ap (standing g (suc n)) next ∙ standing_here g (suc n) r l (drop m lines) e ∙ ap (λ k. Some (k, r)) number)

  pub equal_goes_on : (k : Line) → equal_at k 1 lines ≡ equal_at k (suc n) (drop n lines) → false ≡ same_line k l
      → equal_at k 1 lines ≡ equal_at k (suc m) (drop m lines)
  equal_goes_on k h e =
      h ∙ ap (equal_at k (suc n)) next ∙ equal_passes k (suc n) l (drop m lines) e ∙ ap (λ i. equal_at k (suc i) (drop m lines)) number

  pub equal_found : (k : Line) → equal_at k 1 lines ≡ equal_at k (suc n) (drop n lines) → true ≡ same_line k l → Some m ≡ equal_at k 1 lines
  equal_found k h e = sym (h ∙ ap (equal_at k (suc n)) next ∙ equal_here k (suc n) l (drop m lines) e ∙ ap Some number)

-- no line was the one that is sought

pub standing_none : (lines : List Line) (n : ℕ) (g : Goal) → length lines ≤ n → standing g 1 lines ≡ standing g (suc n) (drop n lines) → None ≡ standing g 1 lines
standing_none lines n g h e = sym (e ∙ ap (standing g (suc n)) (none_left lines n h))

pub equal_none : (lines : List Line) (n : ℕ) (k : Line) → length lines ≤ n → equal_at k 1 lines ≡ equal_at k (suc n) (drop n lines) → None ≡ equal_at k 1 lines
equal_none lines n k h e = sym (e ∙ ap (equal_at k (suc n)) (none_left lines n h))
