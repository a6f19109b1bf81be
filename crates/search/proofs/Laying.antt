-- What having a line stand comes to.
use Rattle.std.proofs.Common.{◌≡◌, ℕ, zero, suc, ◌+◌, ◌<◌, ◌≤◌, Bool, true, false, cond, List, [], ◌∷◌, ◌++◌, length, get_or, Some, None, ap, sym, ◌∙◌, arith}
use Rattle.std.specs.Prelude.{nat_lt, Ok, Err}
use Rattle.std.proofs.lemmas.Bool.{and_parts, leb-true, lt-ltb, le-ltb}
use Rattle.lines.specs.declared.line.Line.{Line}
use Rattle.lines.specs.declared.store.StoreFault.{StoreFault}
use Rattle.rules.specs.Statements.{Statement}
use Rattle.rules.specs.Codes.{held, line}
use Rattle.judge.specs.Seeking.{State, Outcome, store_full, number_passed, refused, equal_at, all_fit, put_unless, put_last, laid}
use Rattle.search.specs.Searches.{limits, state, Laid}
use Rattle.search.specs.declared.fault.JudgeFault.TheVariants.{Store, Number}

-- numbers that fit are those of a line
pub fitting : (ns : List ℕ) (i : ℕ) → all_fit ns ≡ true → get_or ns i 0 ≤ 65535
fitting [] i e = omega arith
fitting (n ∷ ns) zero e = leb-true n 65535 (and_parts _ _ e).0
fitting (n ∷ ns) (suc i) e = fitting ns i (and_parts _ _ e).1

module _ (room : ℕ) (xs : List Line) (u : Statement) where
  pub laid_stands : (n : ℕ) → Some n ≡ equal_at (line u) 1 xs → Laid room xs xs u (Ok n)
  laid_stands n e = λ most steps k. ap (put_unless (limits most room) (state xs steps) u k) (sym e)

  module _ (none : None ≡ equal_at (line u) 1 xs) where
    put_now : (most steps : ℕ) (k : ℕ → State → Outcome) → laid (limits most room) (state xs steps) u k ≡ put_last (limits most room) (state xs steps) u k
    put_now most steps k = ap (put_unless (limits most room) (state xs steps) u k) (sym none)

    pub laid_wide : all_fit (held u) ≡ false → Laid room xs xs u (Err Number)
    laid_wide e = λ most steps k.
        put_now most steps k ∙ ap (λ b. cond b
        (cond (nat_lt (length xs) room) (k (suc (length xs)) (state (xs ++ line u ∷ []) steps)) (refused (store_full (length xs)) None steps))
        (refused number_passed None steps)) e

    module _ (fit : all_fit (held u) ≡ true) where
      with_room : (b : Bool) → nat_lt (length xs) room ≡ b → (most steps : ℕ) (k : ℕ → State → Outcome)
          → laid (limits most room) (state xs steps) u k ≡ cond b (k (suc (length xs)) (state (xs ++ line u ∷ []) steps)) (refused (store_full (length xs)) None steps)
      with_room b e most steps k =
          put_now most steps k
          ∙ ap (λ b. cond b
          (cond (nat_lt (length xs) room) (k (suc (length xs)) (state (xs ++ line u ∷ []) steps)) (refused (store_full (length xs)) None steps))
          (refused number_passed None steps)) fit
          ∙ ap (λ b. cond b (k (suc (length xs)) (state (xs ++ line u ∷ []) steps)) (refused (store_full (length xs)) None steps)) e

      pub laid_put : (n : ℕ) (ys : List Line) (l : Line) → l ≡ line u → length xs < room → n ≡ length xs + 1 → ys ≡ xs ++ l ∷ [] → Laid room xs ys u (Ok n)
      laid_put n ys l same less is e = λ most steps k.
          with_room true (lt-ltb (length xs) room less) most steps k
          ∙ (λ i. k (number i) (state (stands i) steps))
        where
          number : suc (length xs) ≡ n
          number = omega (arith, is)

          stands : xs ++ line u ∷ [] ≡ ys
          stands = ap (λ m. xs ++ m ∷ []) (sym same) ∙ sym e

      pub laid_full : (fault : StoreFault) → length xs ≡ room → fault.count ≡ length xs → Laid room xs xs u (Err (Store fault))
      laid_full fault full is = λ most steps k.
          with_room false (le-ltb (length xs) room (omega (arith, full))) most steps k ∙ ap (λ n. refused (store_full n) None steps) (sym is)
