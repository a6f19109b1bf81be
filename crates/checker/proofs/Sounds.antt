-- Sound lists of lines, grown line by line; a line without fault; a line at fault by its cause.
use Rattle.std.proofs.Common.{◌≡◌, ℕ, zero, suc, ◌<◌, ◌≤◌, T, List, [], ◌∷◌, ◌++◌, length, take, drop, Some, sym, ap, subst, arith}
use Rattle.lines.specs.Answers.{cause_number}
use Rattle.lines.specs.Stores.{numbered}
use Rattle.lines.specs.declared.answer.Cause.TheVariants.{Code, Column, Reference, Repeated, Unfounded}
use Rattle.lines.specs.declared.answer.Cause.{Cause}
use Rattle.lines.specs.declared.line.Line.{Line}
use Rattle.rules.proofs.Grow.{added_sound}
use Rattle.rules.specs.Faults.{admitted, numbers, AllZero, AllName, Right, AtFault, Fine, Sound}
use Rattle.rules.specs.Follows.{Follows}
use Rattle.rules.specs.Quantifiers.{Rule}
use Rattle.rules.specs.Statements.{Statement, statement, said, columns}
use Rattle.std.proofs.lemmas.Option.{none-some}

pub each_cause : (P : Cause → Type 0) → P Code → P Column → P Reference → P Repeated → P Unfounded → (c : Cause) → P c
each_cause P a b c d e Code = a
each_cause P a b c d e Column = b
each_cause P a b c d e Reference = c
each_cause P a b c d e Repeated = d
each_cause P a b c d e Unfounded = e

module _ (R : Rule) (before : List Line) (l : Line) (s : Statement) where
  pub at_cause : (c : Cause) → statement l ≡ Some s → (Right R before l s c → ⊥) → ((d : Cause) → cause_number d < cause_number c → Right R before l s d)
      → AtFault R before l c
  at_cause c e wrong right = rw e (wrong, right)

  -- the causes below the number n
  rights : (n : ℕ) → (1 < n → Right R before l s Code) → (2 < n → Right R before l s Column) → (3 < n → Right R before l s Reference)
      → (4 < n → Right R before l s Repeated) → n ≤ 5 → (d : Cause) → cause_number d < n → Right R before l s d
  rights n a b c d last = each_cause (λ d. cause_number d < n → Right R before l s d) a b c d (λ k. absurd (omega arith))

  module _ (e : statement l ≡ Some s) where
    pub at_code : (T (admitted R s) → ⊥) → AtFault R before l Code
    at_code wrong =
        at_cause Code e wrong
        (rights 1 (λ k. absurd (omega arith)) (λ k. absurd (omega arith)) (λ k. absurd (omega arith)) (λ k. absurd (omega arith)) (omega arith))

    module _ (code : T (admitted R s)) where
      pub at_column : (AllZero (drop (length (columns s)) (numbers l)) → ⊥) → AtFault R before l Column
      at_column wrong =
          at_cause Column e wrong
          (rights 2 (λ _. code) (λ k. absurd (omega arith)) (λ k. absurd (omega arith)) (λ k. absurd (omega arith)) (omega arith))

      module _ (zeros : AllZero (drop (length (columns s)) (numbers l))) where
        pub at_reference : (AllName before (columns s) → ⊥) → AtFault R before l Reference
        at_reference wrong =
            at_cause Reference e wrong (rights 3 (λ _. code) (λ _. zeros) (λ k. absurd (omega arith)) (λ k. absurd (omega arith)) (omega arith))

        module _ (names : AllName before (columns s)) where
          pub at_repeated : (((n : ℕ) → numbered before n ≡ Some l → ⊥) → ⊥) → AtFault R before l Repeated
          at_repeated wrong = at_cause Repeated e wrong (rights 4 (λ _. code) (λ _. zeros) (λ _. names) (λ k. absurd (omega arith)) (omega arith))

          module _ (new : (n : ℕ) → numbered before n ≡ Some l → ⊥) where
            pub at_unfounded : (Follows (said before) s → ⊥) → AtFault R before l Unfounded
            at_unfounded wrong = at_cause Unfounded e wrong (rights 5 (λ _. code) (λ _. zeros) (λ _. names) (λ _. new) (omega arith))

            pub fine_from : Follows (said before) s → Fine R before l
            fine_from follows = (s, e, each_cause (Right R before l s) code zeros names new follows)

pub take_next : {X : Type 0} (xs : List X) (n : ℕ) (x : X) → numbered xs (suc n) ≡ Some x → take (suc n) xs ≡ take n xs ++ x ∷ []
take_next [] n x e = absurd (none-some _ e)
take_next (y ∷ xs) zero x e = let same : y ≡ x = cc in ap (λ z. z ∷ []) same
take_next (y ∷ xs) (suc n) x e = ap (λ ys. y ∷ ys) (take_next xs n x e)

module _ (R : Rule) (lines : List Line) where
  pub sound_next : (n : ℕ) (l : Line) → numbered lines (suc n) ≡ Some l → Sound R (take n lines) → Fine R (take n lines) l → Sound R (take (suc n) lines)
  sound_next n l e sound fine = subst (Sound R) (sym (take_next lines n l e)) (added_sound R (take n lines) sound l fine)
