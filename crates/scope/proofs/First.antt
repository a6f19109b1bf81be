-- What the first lines of a listing define, read from the last of them backwards.
use Rattle.std.proofs.Common.{◌≡◌, ◌≢◌, ℕ, zero, suc, ◌+◌, ◌-◌, ◌<◌, ◌≤◌, Bool, true, false, cond, eqb, List, [], ◌∷◌, ◌++◌, length, take, Option, Some, None, sym, refl, ap, ◌∙◌, arith}
use Rattle.std.proofs.lemmas.Bool.{ne_eqb}
use Rattle.std.proofs.lemmas.List.{take_all}
use Rattle.std.proofs.lemmas.List.Sums.{fold-append}
use Rattle.std.specs.List.{fold, flat_map}
use Rattle.std.specs.Option.{option_eq}
use Rattle.lexer.specs.Names.{same}
use Rattle.lexer.specs.declared.name.Name.{Name}
use Rattle.lines.specs.Stores.{numbered}
use Rattle.lines.specs.declared.line.Line.{Line}
use Rattle.scope.specs.Definitions.{defined_in, name_given, type_defined, term_defined}
use Rattle.scope.specs.Resolved.{in_listing}
use Rattle.scope.specs.Scope.{InScope, stands_for, define, of_definitions, meaning, number, suc_of}
use Rattle.scope.proofs.Under.{more}

abbrev pub first : List Line → ℕ → InScope ℕ
first lines n = of_definitions (flat_map (defined_in lines) (take n lines))

module _ {A B : Type 0} (f : A → List B) where
  flat_map-last : (xs : List A) (x : A) → flat_map f (xs ++ x ∷ []) ≡ flat_map f xs ++ f x
  flat_map-last [] x = append-none (f x)
    where
      append-none : (ys : List B) → ys ++ [] ≡ ys
      append-none [] = refl
      append-none (y ∷ ys) = ap (λ zs. y ∷ zs) (append-none ys)
  flat_map-last (y ∷ xs) x = ap (λ zs. f y ++ zs) (flat_map-last xs x) ∙ regroup (f y) (flat_map f xs) (f x)
    where
      regroup : (a b c : List B) → a ++ (b ++ c) ≡ a ++ b ++ c
      regroup [] b c = refl
      regroup (z ∷ a) b c = ap (λ zs. z ∷ zs) (regroup a b c)

take-numbered : (xs : List Line) (n : ℕ) (x : Line) → numbered xs n ≡ Some x → take n xs ≡ take (n - 1) xs ++ x ∷ []
take-numbered xs zero x e = absurd cc
take-numbered xs (suc n) x e = go xs n e ∙ ap (λ k. take k xs ++ x ∷ []) (omega arith)
  where
    go : (xs : List Line) (n : ℕ) → numbered xs (suc n) ≡ Some x → take (suc n) xs ≡ take n xs ++ x ∷ []
    go [] n e = absurd cc
    go (y ∷ xs) zero e = let same : y ≡ x = cc in ap (λ z. z ∷ []) same
    go (y ∷ xs) (suc n) e = ap (λ zs. y ∷ zs) (go xs n e)

first-step : (lines : List Line) (n : ℕ) (l : Line) → numbered lines n ≡ Some l → first lines n ≡ fold define (first lines (n - 1)) (defined_in lines l)
first-step lines n l e =
    ap (λ ls. of_definitions (flat_map (defined_in lines) ls)) (take-numbered lines n l e)
    ∙ ap of_definitions (flat_map-last (defined_in lines) (take (n - 1) lines) l)
    ∙ fold-append define (record { types = []; terms = [] }) (flat_map (defined_in lines) (take (n - 1) lines)) (defined_in lines l)

pub first-all : (lines : List Line) (n : ℕ) → n ≡ length lines → in_listing lines ≡ first lines n
first-all lines n e = ap (λ ls. of_definitions (flat_map (defined_in lines) ls)) (sym (take_all n lines (omega arith)))

pub numbered-positive : (xs : List Line) (n : ℕ) (x : Line) → numbered xs n ≡ Some x → 0 < n
numbered-positive xs zero x e = absurd cc
numbered-positive xs (suc n) x e = omega arith

numbered-none : (xs : List Line) (n : ℕ) → n ≤ length xs → numbered xs n ≡ None → n ≡ 0
numbered-none xs zero h e = refl
numbered-none xs (suc n) h e = go xs n h e
  where
    go : (xs : List Line) (n : ℕ) → suc n ≤ length xs → numbered xs (suc n) ≡ None → suc n ≡ 0
    go [] n h e = absurd (omega arith)
    go (y ∷ xs) zero h e = absurd cc
    go (y ∷ xs) (suc n) h e = absurd (omega (arith, go xs n (omega arith) e))

pub first-none : (lines : List Line) (n : ℕ) → n ≤ length lines → numbered lines n ≡ None → first lines n ≡ record { types = []; terms = [] }
first-none lines n h e = ap (first lines) (numbered-none lines n h e)

-- ---- what one line adds

defined-type : (lines : List Line) (l : Line) → l.code ≡ 91 → defined_in lines l ≡ type_defined (name_given lines l) l.c3
defined-type lines l e = ap (λ c. cond (eqb c 91) (type_defined (name_given lines l) l.c3) (cond (eqb c 92) (term_defined (name_given lines l)) [])) e

defined-term : (lines : List Line) (l : Line) → l.code ≡ 92 → defined_in lines l ≡ term_defined (name_given lines l)
defined-term lines l e = ap (λ c. cond (eqb c 91) (type_defined (name_given lines l) l.c3) (cond (eqb c 92) (term_defined (name_given lines l)) [])) e

types-kept : (lines : List Line) (l : Line) (s : InScope ℕ) → l.code ≢ 91 → (fold define s (defined_in lines l)).types ≡ s.types
types-kept lines l s ne = go (eqb l.code 91) (eqb l.code 92) (name_given lines l) (ne_eqb l.code 91 ne)
  where
    go : (a b : Bool) (o : Option Name) → a ≡ false → (fold define s (cond a (type_defined o l.c3) (cond b (term_defined o) []))).types ≡ s.types
    go true b o e = absurd cc
    go false true None e = refl
    go false true (Some w) e = refl
    go false false o e = refl

terms-kept : (lines : List Line) (l : Line) (s : InScope ℕ) → l.code ≢ 92 → (fold define s (defined_in lines l)).terms ≡ s.terms
terms-kept lines l s ne = go (eqb l.code 91) (eqb l.code 92) (name_given lines l) (ne_eqb l.code 92 ne)
  where
    go : (a b : Bool) (o : Option Name) → b ≡ false → (fold define s (cond a (type_defined o l.c3) (cond b (term_defined o) []))).terms ≡ s.terms
    go true b None e = refl
    go true b (Some w) e = refl
    go false true o e = absurd cc
    go false false o e = refl

-- ---- the line before which all is looked up

module _ (lines : List Line) (n : ℕ) (l : Line) (w : Name) (here : numbered lines n ≡ Some l) where
  pub type-other : l.code ≢ 91 → meaning (first lines n).types w ≡ meaning (first lines (n - 1)).types w
  type-other ne = ap (λ s. meaning s.types w) (first-step lines n l here) ∙ ap (λ givers. meaning givers w) (types-kept lines l (first lines (n - 1)) ne)

  pub type-hit : l.code ≡ 91 → option_eq same (name_given lines l) (Some w) ≡ true → meaning (first lines n).types w ≡ Some (stands_for l.c3)
  type-hit is hit =
      ap (λ s. meaning s.types w) (first-step lines n l here)
      ∙ ap (λ ds. meaning (fold define (first lines (n - 1)) ds).types w) (defined-type lines l is)
      ∙ go (name_given lines l) hit
    where
      go : (o : Option Name) → option_eq same o (Some w) ≡ true → meaning (fold define (first lines (n - 1)) (type_defined o l.c3)).types w ≡ Some (stands_for l.c3)
      go None e = absurd cc
      go (Some v) e = ap (λ b. cond b (Some (stands_for l.c3)) (meaning (first lines (n - 1)).types w)) e

  pub type-miss : l.code ≡ 91 → option_eq same (name_given lines l) (Some w) ≡ false → meaning (first lines n).types w ≡ meaning (first lines (n - 1)).types w
  type-miss is miss =
      ap (λ s. meaning s.types w) (first-step lines n l here)
      ∙ ap (λ ds. meaning (fold define (first lines (n - 1)) ds).types w) (defined-type lines l is)
      ∙ go (name_given lines l) miss
    where
      go : (o : Option Name) → option_eq same o (Some w) ≡ false → meaning (fold define (first lines (n - 1)) (type_defined o l.c3)).types w ≡ meaning (first lines (n - 1)).types w
      go None e = refl
      go (Some v) e = ap (λ b. cond b (Some (stands_for l.c3)) (meaning (first lines (n - 1)).types w)) e

  pub term-other : l.code ≢ 92 → number (first lines n).terms w ≡ number (first lines (n - 1)).terms w
  term-other ne = ap (λ s. number s.terms w) (first-step lines n l here) ∙ ap (λ names. number names w) (terms-kept lines l (first lines (n - 1)) ne)

  pub term-hit : l.code ≡ 92 → option_eq same (name_given lines l) (Some w) ≡ true → number (first lines n).terms w ≡ Some 1
  term-hit is hit =
      ap (λ s. number s.terms w) (first-step lines n l here)
      ∙ ap (λ ds. number (fold define (first lines (n - 1)) ds).terms w) (defined-term lines l is)
      ∙ go (name_given lines l) hit
    where
      go : (o : Option Name) → option_eq same o (Some w) ≡ true → number (fold define (first lines (n - 1)) (term_defined o)).terms w ≡ Some 1
      go None e = absurd cc
      go (Some v) e = ap (λ b. cond b (Some 1) (suc_of (number (first lines (n - 1)).terms w))) e

  pub term-miss : l.code ≡ 92 → option_eq same (name_given lines l) (Some w) ≡ false → number (first lines n).terms w ≡ suc_of (number (first lines (n - 1)).terms w)
  term-miss is miss =
      ap (λ s. number s.terms w) (first-step lines n l here)
      ∙ ap (λ ds. number (fold define (first lines (n - 1)) ds).terms w) (defined-term lines l is)
      ∙ go (name_given lines l) miss
    where
      go : (o : Option Name) → option_eq same o (Some w) ≡ false → number (fold define (first lines (n - 1)) (term_defined o)).terms w ≡ suc_of (number (first lines (n - 1)).terms w)
      go None e = refl
      go (Some v) e = ap (λ b. cond b (Some 1) (suc_of (number (first lines (n - 1)).terms w))) e

pub more-suc_of : (n : ℕ) (m : Option ℕ) → more n (suc_of m) ≡ more (n + 1) m
more-suc_of n None = refl
more-suc_of n (Some k) = ap Some (omega arith)
