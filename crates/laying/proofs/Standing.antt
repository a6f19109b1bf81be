-- A line that stands goes on standing, and is not put again.
use Rattle.std.proofs.Common.{◌≡◌, ℕ, suc, ◌+◌, Bool, true, false, cond, List, [], ◌∷◌, ◌++◌, length, Some, None, Option, refl, ap, sym, ◌∙◌, arith}
use Rattle.std.specs.Prelude.{nat_lt}
use Rattle.std.proofs.lemmas.Option.{none-some}
use Rattle.std.proofs.lemmas.Bool.{eq-eqb}
use Rattle.lines.specs.declared.line.Line.{Line}
use Rattle.rules.specs.Codes.{line, held}
use Rattle.rules.specs.Statements.{Statement, type_line, top'}
use Rattle.judge.specs.Seeking.{Limits, State, Outcome, refused, store_full, number_passed, same_line, equal_at, all_fit, put_unless, laid}

-- line n says u
abbrev pub Stands : Statement → ℕ → State → Type 0
Stands u n s = equal_at (line u) 1 s.lines ≡ Some n

-- a line Top that stands in s stands in t
abbrev pub Keeps : State → State → Type 0
Keeps s t = (n : ℕ) → Stands (type_line top') n s → Stands (type_line top') n t

pub via : (s t r : State) → Keeps s t → Keeps t r → Keeps s r
via s t r f g = λ n h. g n (f n h)

same : (l : Line) → same_line l l ≡ true
same l =
    rw (eq-eqb l.code l.code refl, eq-eqb l.c1 l.c1 refl, eq-eqb l.c2 l.c2 refl, eq-eqb l.c3 l.c3 refl, eq-eqb l.c4 l.c4 refl, eq-eqb l.c5 l.c5 refl, eq-eqb l.c6 l.c6 refl, eq-eqb l.c7 l.c7 refl)

stays : (l m : Line) (k : ℕ) (xs : List Line) (n : ℕ) → equal_at l k xs ≡ Some n → equal_at l k (xs ++ m ∷ []) ≡ Some n
stays l m k [] n e = absurd (none-some n e)
stays l m k (x ∷ xs) n e = go (same_line l x) (stays l m (suc k) xs n) e
  where
    go : (b : Bool) → (equal_at l (suc k) xs ≡ Some n → equal_at l (suc k) (xs ++ m ∷ []) ≡ Some n)
        → cond b (Some k) (equal_at l (suc k) xs) ≡ Some n → cond b (Some k) (equal_at l (suc k) (xs ++ m ∷ [])) ≡ Some n
    go true h e = e
    go false h e = h e

-- where none stood, the one that is put is found
found_last : (l : Line) (k : ℕ) (xs : List Line) → equal_at l (suc k) xs ≡ None → equal_at l (suc k) (xs ++ l ∷ []) ≡ Some (suc (k + length xs))
found_last l k [] e = rw (same l) (ap (λ i. Some (suc i)) (let z : k ≡ k + 0 = omega arith in z))
found_last l k (x ∷ xs) e =
    go (same_line l x) (λ e. found_last l (suc k) xs e ∙ ap (λ i. Some (suc i)) (let z : suc k + length xs ≡ k + suc (length xs) = omega arith in z)) e
  where
    go : (b : Bool) → (equal_at l (suc (suc k)) xs ≡ None → equal_at l (suc (suc k)) (xs ++ l ∷ []) ≡ Some (suc (k + suc (length xs))))
        → cond b (Some (suc k)) (equal_at l (suc (suc k)) xs) ≡ None
        → cond b (Some (suc k)) (equal_at l (suc (suc k)) (xs ++ l ∷ [])) ≡ Some (suc (k + suc (length xs)))
    go true h e = absurd (none-some _ (sym e))
    go false h e = h e

module _ (l : Limits) where
  -- what follows is asked for only where the line stands
  pub laid_same : (s : State) (u : Statement) (f g : ℕ → State → Outcome)
      → ((n : ℕ) (t : State) → Keeps s t → Stands u n t → f n t ≡ g n t) → laid l s u f ≡ laid l s u g
  laid_same s u f g h = go (equal_at (line u) 1 s.lines) refl
    where
      t : State
      t = record { lines = s.lines ++ line u ∷ []; steps = s.steps }

      go : (o : Option ℕ) → equal_at (line u) 1 s.lines ≡ o → put_unless l s u f o ≡ put_unless l s u g o
      go (Some n) e = h n s (λ n x. x) e
      go None e =
          ap (λ z. cond (all_fit (held u)) (cond (nat_lt (length s.lines) l.room) z (refused (store_full (length s.lines)) None s.steps))
          (refused number_passed None s.steps))
          (h (suc (length s.lines)) t (λ n x. stays (line (type_line top')) (line u) 1 s.lines n x) (found_last (line u) 0 s.lines e ∙ ap (λ i. Some (suc i)) (let z : 0 + length s.lines ≡ length s.lines = omega arith in z)))

  pub laid_again : (s : State) (u : Statement) (n : ℕ) (f : ℕ → State → Outcome) → Stands u n s → laid l s u f ≡ f n s
  laid_again s u n f e = ap (put_unless l s u f) e
