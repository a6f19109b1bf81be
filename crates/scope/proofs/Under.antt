-- Names under the binders of a source: the binders stand in front of what else is in scope.
use Rattle.std.proofs.Common.{◌≡◌, ℕ, suc, ◌+◌, ◌<◌, ◌≤◌, Bool, true, false, List, [], ◌∷◌, length, Option, Some, None, cond, sym, refl, ap, ◌∙◌, arith}
use Rattle.lexer.specs.Names.{same, number_of}
use Rattle.lexer.specs.declared.name.Name.{Name}
use Rattle.scope.specs.Scope.{TypeGiver, binder, definition, InScope, Meaning, variable, stands_for, meaning, number, one_further, suc_of, variables}

abbrev pub further : {X : Type 0} → ℕ → Option (Meaning X) → Option (Meaning X)
further n None = None
further n (Some (variable k)) = Some (variable (n + k))
further n (Some (stands_for x)) = Some (stands_for x)

abbrev pub more : ℕ → Option ℕ → Option ℕ
more n None = None
more n (Some k) = Some (n + k)

-- what a name means that is the k-th binder of the source, or none of them
abbrev pub type_found : {X : Type 0} → Option ℕ → ℕ → Option (Meaning X) → Option (Meaning X)
type_found None n m = further n m
type_found (Some k) n m = Some (variable k)

abbrev pub term_found : Option ℕ → ℕ → Option ℕ → Option ℕ
term_found None n m = more n m
term_found (Some k) n m = Some k

module _ {X : Type 0} where
  abbrev pub binders : List Name → List (TypeGiver X) → List (TypeGiver X)
  binders [] givers = givers
  binders (w ∷ ws) givers = binder w ∷ binders ws givers

abbrev pub somes : List Name → List (Option Name) → List (Option Name)
somes [] names = names
somes (w ∷ ws) names = Some w ∷ somes ws names

abbrev pub under : {X : Type 0} → (types terms : List Name) → InScope X → InScope X
under types terms s = record { types = binders types s.types; terms = somes terms s.terms }

module _ {X : Type 0} where
  further-one : (n : ℕ) (m : Option (Meaning X)) → one_further (further n m) ≡ further (suc n) m
  further-one n None = refl
  further-one n (Some (variable k)) = ap (λ i. Some (variable i)) (omega arith)
  further-one n (Some (stands_for x)) = refl

  further-zero : (m : Option (Meaning X)) → further 0 m ≡ m
  further-zero None = refl
  further-zero (Some (variable k)) = ap (λ i. Some (variable i)) (omega arith)
  further-zero (Some (stands_for x)) = refl

  pub meaning-binders : (ws : List Name) (givers : List (TypeGiver X)) (w : Name) → meaning (binders ws givers) w ≡ type_found (number_of ws w) (length ws) (meaning givers w)
  meaning-binders [] givers w = sym (further-zero (meaning givers w))
  meaning-binders (v ∷ vs) givers w = go (same v w) (number_of vs w) (meaning-binders vs givers w)
    where
      go : (b : Bool) (found : Option ℕ) → meaning (binders vs givers) w ≡ type_found found (length vs) (meaning givers w)
          → cond b (Some (variable 1)) (one_further (meaning (binders vs givers) w)) ≡ type_found (cond b (Some 1) (suc_of found)) (suc (length vs)) (meaning givers w)
      go true found h = refl
      go false None h = ap one_further h ∙ further-one (length vs) (meaning givers w)
      go false (Some k) h = ap one_further h

more-suc : (n : ℕ) (m : Option ℕ) → suc_of (more n m) ≡ more (suc n) m
more-suc n None = refl
more-suc n (Some k) = ap Some (omega arith)

more-zero : (m : Option ℕ) → more 0 m ≡ m
more-zero None = refl
more-zero (Some k) = ap Some (omega arith)

pub number-somes : (ws : List Name) (names : List (Option Name)) (w : Name) → number (somes ws names) w ≡ term_found (number_of ws w) (length ws) (number names w)
number-somes [] names w = sym (more-zero (number names w))
number-somes (v ∷ vs) names w = go (same v w) (number_of vs w) (number-somes vs names w)
  where
    go : (b : Bool) (found : Option ℕ) → number (somes vs names) w ≡ term_found found (length vs) (number names w)
        → cond b (Some 1) (suc_of (number (somes vs names) w)) ≡ term_found (cond b (Some 1) (suc_of found)) (suc (length vs)) (number names w)
    go true found h = refl
    go false None h = ap suc_of h ∙ more-suc (length vs) (number names w)
    go false (Some k) h = ap suc_of h

module _ {X : Type 0} where
  pub meaning-within : (givers : List (TypeGiver X)) (w : Name) (k : ℕ) → meaning givers w ≡ Some (variable k) → (0 < k) × (k ≤ variables givers)
  meaning-within [] w k e = absurd cc
  meaning-within (binder v ∷ givers) w k e = go (same v w) (meaning givers w) (λ i f. meaning-within givers w i f) e
    where
      go : (b : Bool) (m : Option (Meaning X)) → ((i : ℕ) → m ≡ Some (variable i) → (0 < i) × (i ≤ variables givers))
          → cond b (Some (variable 1)) (one_further m) ≡ Some (variable k) → (0 < k) × (k ≤ suc (variables givers))
      go true m h e = let one : 1 ≡ k = cc in (omega arith, omega arith)
      go false None h e = absurd cc
      go false (Some (variable i)) h e = let one : suc i ≡ k = cc in (omega arith, omega (arith, (h i refl).1))
      go false (Some (stands_for x)) h e = absurd cc
  meaning-within (definition v x ∷ givers) w k e = go (same v w) (λ f. meaning-within givers w k f) e
    where
      go : (b : Bool) → (meaning givers w ≡ Some (variable k) → (0 < k) × (k ≤ variables givers))
          → cond b (Some (stands_for x)) (meaning givers w) ≡ Some (variable k) → (0 < k) × (k ≤ variables givers)
      go true h e = absurd cc
      go false h e = h e

number-further : (b : Bool) (m : Option ℕ) (k n : ℕ) → ((i : ℕ) → m ≡ Some i → (0 < i) × (i ≤ n)) → cond b (Some 1) (suc_of m) ≡ Some k → (0 < k) × (k ≤ suc n)
number-further true m k n h e = let one : 1 ≡ k = cc in (omega arith, omega arith)
number-further false None k n h e = absurd cc
number-further false (Some i) k n h e = let one : suc i ≡ k = cc in (omega arith, omega (arith, (h i refl).1))

pub number-within : (names : List (Option Name)) (w : Name) (k : ℕ) → number names w ≡ Some k → (0 < k) × (k ≤ length names)
number-within [] w k e = absurd cc
number-within (None ∷ names) w k e = number-further false (number names w) k (length names) (λ i f. number-within names w i f) e
number-within (Some v ∷ names) w k e = number-further (same v w) (number names w) k (length names) (λ i f. number-within names w i f) e
