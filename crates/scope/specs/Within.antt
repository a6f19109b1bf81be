-- Scoped phrases whose variables are all among those that are in scope: n type variables and m term variables.
use Rattle.std.specs.Prelude.{ℕ, suc, ◌<◌, ◌≤◌, List, [], ◌∷◌, ⊤}
use Rattle.scope.specs.Scoped.{ScopedType, top, var, defined, arrow, all, all_unbounded, rec, ScopedTerm, top_term, term_var, fun, appl, fun2, fun2_unbounded, appl2, fold_term, unfold_term, rec_term, ScopedBinding, type_binding, term_binding, ScopedPhrase, let_type, let_type_unbounded, let_term, let_term_untyped, of_type, of_term, judge_env, judge_type, judge_subtype, judge_term}

module _ {X : Type 0} where
  abbrev pub TypeWithin : (n : ℕ) → ScopedType X → Type 0
  TypeWithin n top = ⊤
  TypeWithin n (var k) = (0 < k) × (k ≤ n)
  TypeWithin n (defined x) = ⊤
  TypeWithin n (arrow A B) = TypeWithin n A × TypeWithin n B
  TypeWithin n (all A B) = TypeWithin n A × TypeWithin (suc n) B
  TypeWithin n (all_unbounded B) = TypeWithin (suc n) B
  TypeWithin n (rec B) = TypeWithin (suc n) B

  abbrev pub TermWithin : (n m : ℕ) → ScopedTerm X → Type 0
  TermWithin n m (top_term byte) = ⊤
  TermWithin n m (term_var byte k) = (0 < k) × (k ≤ m)
  TermWithin n m (fun byte A b) = TypeWithin n A × TermWithin n (suc m) b
  TermWithin n m (appl byte b a) = TermWithin n m b × TermWithin n m a
  TermWithin n m (fun2 byte A b) = TypeWithin n A × TermWithin (suc n) m b
  TermWithin n m (fun2_unbounded byte b) = TermWithin (suc n) m b
  TermWithin n m (appl2 byte b A) = TermWithin n m b × TypeWithin n A
  TermWithin n m (fold_term byte A a) = TypeWithin n A × TermWithin n m a
  TermWithin n m (unfold_term byte a) = TermWithin n m a
  TermWithin n m (rec_term byte A b) = TypeWithin n A × TermWithin n (suc m) b

  -- an environment, and something behind it that stands among its variables too
  abbrev pub EnvWithin : (n m : ℕ) → List (ScopedBinding X) → (ℕ → ℕ → Type 0) → Type 0
  EnvWithin n m [] Rest = Rest n m
  EnvWithin n m (type_binding w A ∷ E) Rest = TypeWithin n A × EnvWithin (suc n) m E Rest
  EnvWithin n m (term_binding w A ∷ E) Rest = TypeWithin n A × EnvWithin n (suc m) E Rest

  abbrev pub PhraseWithin : (n m : ℕ) → ScopedPhrase X → Type 0
  PhraseWithin n m (let_type w B A) = TypeWithin n B × TypeWithin n A
  PhraseWithin n m (let_type_unbounded w A) = TypeWithin n A
  PhraseWithin n m (let_term w A b) = TypeWithin n A × TermWithin n m b
  PhraseWithin n m (let_term_untyped w b) = TermWithin n m b
  PhraseWithin n m (of_type A) = TypeWithin n A
  PhraseWithin n m (of_term a) = TermWithin n m a
  PhraseWithin n m (judge_env E) = EnvWithin n m E (λ i j. ⊤)
  PhraseWithin n m (judge_type E A) = EnvWithin n m E (λ i j. TypeWithin i A)
  PhraseWithin n m (judge_subtype E A B) = EnvWithin n m E (λ i j. TypeWithin i A × TypeWithin i B)
  PhraseWithin n m (judge_term E a A) = EnvWithin n m E (λ i j. TermWithin i j a × TypeWithin i A)
