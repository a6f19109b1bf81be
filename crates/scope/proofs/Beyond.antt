-- What is farther away means nothing to a phrase whose names are all bound nearer: so definitions mean nothing to a closed one.
use Rattle.std.proofs.Common.{◌≡◌, ℕ, Bool, true, false, cond, List, [], ◌∷◌, ◌++◌, Option, Some, None, Ok, Result, refl, ap, ◌∙◌}
use Rattle.std.specs.Option.{ok_or, option_map}
use Rattle.lexer.specs.Names.{same}
use Rattle.lexer.specs.declared.name.Name.{Name}
use Rattle.scope.proofs.Places.{both-ok, three-ok, one-ok}
use Rattle.scope.specs.Definitions.{Definition}
use Rattle.scope.specs.Scope.{TypeGiver, binder, definition, InScope, Meaning, variable, stands_for, meaning, one_further, number, suc_of, type_of, one, both, three, bind_type, bind_term, behind, of_definitions, scope_type, scope_term, scope_env, scope_in, scope}
use Rattle.scope.specs.Scoped as scoped
use Rattle.scope.specs.Scoped.{ScopedType, ScopedTerm, ScopedBinding, ScopedPhrase}
use Rattle.syntax.specs.Named as named
use Rattle.syntax.specs.Named.{NamedType, NamedTerm, Binding, NamedPhrase}

-- all of s, and behind it all of t
abbrev pub beyond : {X : Type 0} → InScope X → InScope X → InScope X
beyond s t = record { types = s.types ++ t.types; terms = s.terms ++ t.terms }

keep-two : {A B C : Type 0} (h : A → B → C) (a : Result A ℕ) (b : Result B ℕ) (a' : Result A ℕ) (b' : Result B ℕ)
    → ((x : A) → a ≡ Ok x → a' ≡ Ok x) → ((y : B) → b ≡ Ok y → b' ≡ Ok y) → (z : C) → both h a b ≡ Ok z → both h a' b' ≡ Ok z
keep-two h a b a' b' p q z e =
    let (x, y, d, k, i) = both-ok h a b z e in
    ap (λ r. both h r b') (p x d) ∙ ap (both h (Ok x)) (q y k) ∙ ap Ok i

keep-one : {A B : Type 0} (h : A → B) (a : Result A ℕ) (a' : Result A ℕ) → ((x : A) → a ≡ Ok x → a' ≡ Ok x) → (z : B) → one h a ≡ Ok z → one h a' ≡ Ok z
keep-one h a a' p z e = let (x, d, i) = one-ok h a z e in ap (one h) (p x d) ∙ ap Ok i

keep-three : {A B C D : Type 0} (h : A → B → C → D) (a : Result A ℕ) (b : Result B ℕ) (c : Result C ℕ) (a' : Result A ℕ) (b' : Result B ℕ) (c' : Result C ℕ)
    → ((x : A) → a ≡ Ok x → a' ≡ Ok x) → ((y : B) → b ≡ Ok y → b' ≡ Ok y) → ((w : C) → c ≡ Ok w → c' ≡ Ok w) → (z : D) → three h a b c ≡ Ok z → three h a' b' c' ≡ Ok z
keep-three h a b c a' b' c' p q r z e =
    let (x, y, w, d, k, j, i) = three-ok h a b c z e in
    ap (λ v. three h v b' c') (p x d) ∙ ap (λ v. three h (Ok x) v c') (q y k) ∙ ap (three h (Ok x) (Ok y)) (r w j) ∙ ap Ok i

number-next : (b : Bool) (found next : Option ℕ) (k : ℕ) → ((i : ℕ) → found ≡ Some i → next ≡ Some i) → cond b (Some 1) (suc_of found) ≡ Some k → cond b (Some 1) (suc_of next) ≡ Some k
number-next true found next k h e = e
number-next false None next k h e = absurd cc
number-next false (Some i) next k h e = ap suc_of (h i refl) ∙ e

number-beyond : (xs ys : List (Option Name)) (w : Name) (k : ℕ) → number xs w ≡ Some k → number (xs ++ ys) w ≡ Some k
number-beyond [] ys w k e = absurd cc
number-beyond (None ∷ xs) ys w k e = number-next false (number xs w) (number (xs ++ ys) w) k (λ i f. number-beyond xs ys w i f) e
number-beyond (Some v ∷ xs) ys w k e = number-next (same v w) (number xs w) (number (xs ++ ys) w) k (λ i f. number-beyond xs ys w i f) e

module _ {X : Type 0} where
  meaning-beyond : (xs ys : List (TypeGiver X)) (w : Name) (m : Meaning X) → meaning xs w ≡ Some m → meaning (xs ++ ys) w ≡ Some m
  meaning-beyond [] ys w m e = absurd cc
  meaning-beyond (binder v ∷ xs) ys w m e = go (same v w) (meaning xs w) (λ n f. meaning-beyond xs ys w n f) e
    where
      go : (b : Bool) (found : Option (Meaning X)) → ((n : Meaning X) → found ≡ Some n → meaning (xs ++ ys) w ≡ Some n)
          → cond b (Some (variable 1)) (one_further found) ≡ Some m → cond b (Some (variable 1)) (one_further (meaning (xs ++ ys) w)) ≡ Some m
      go true found h e = e
      go false None h e = absurd cc
      go false (Some n) h e = ap one_further (h n refl) ∙ e
  meaning-beyond (definition v x ∷ xs) ys w m e = go (same v w) (λ f. meaning-beyond xs ys w m f) e
    where
      go : (b : Bool) → (meaning xs w ≡ Some m → meaning (xs ++ ys) w ≡ Some m)
          → cond b (Some (stands_for x)) (meaning xs w) ≡ Some m → cond b (Some (stands_for x)) (meaning (xs ++ ys) w) ≡ Some m
      go true h e = e
      go false h e = h e

  type-leaf : (m n : Option (Meaning X)) (byte : ℕ) (B : ScopedType X) → ((x : Meaning X) → m ≡ Some x → n ≡ Some x) → ok_or (option_map type_of m) byte ≡ Ok B → ok_or (option_map type_of n) byte ≡ Ok B
  type-leaf None n byte B h e = absurd cc
  type-leaf (Some x) n byte B h e = ap (λ m. ok_or (option_map type_of m) byte) (h x refl) ∙ e

  term-leaf : (m n : Option ℕ) (byte : ℕ) (b : ScopedTerm X) → ((x : ℕ) → m ≡ Some x → n ≡ Some x) → ok_or (option_map (scoped.term_var byte) m) byte ≡ Ok b → ok_or (option_map (scoped.term_var byte) n) byte ≡ Ok b
  term-leaf None n byte b h e = absurd cc
  term-leaf (Some x) n byte b h e = ap (λ m. ok_or (option_map (scoped.term_var byte) m) byte) (h x refl) ∙ e

  pub type-beyond : (A : NamedType) (s t : InScope X) (B : ScopedType X) → scope_type s A ≡ Ok B → scope_type (beyond s t) A ≡ Ok B
  type-beyond named.top s t z e = e
  type-beyond (named.name byte w) s t z e = type-leaf (meaning s.types w) (meaning (s.types ++ t.types) w) byte z (λ m f. meaning-beyond s.types t.types w m f) e
  type-beyond (named.arrow A B) s t z e = keep-two scoped.arrow (scope_type s A) (scope_type s B) _ _ (λ x d. type-beyond A s t x d) (λ y d. type-beyond B s t y d) z e
  type-beyond (named.all w A B) s t z e = keep-two scoped.all (scope_type s A) (scope_type (bind_type w s) B) _ _ (λ x d. type-beyond A s t x d) (λ y d. type-beyond B (bind_type w s) t y d) z e
  type-beyond (named.all_unbounded w B) s t z e = keep-one scoped.all_unbounded (scope_type (bind_type w s) B) _ (λ x d. type-beyond B (bind_type w s) t x d) z e
  type-beyond (named.rec w B) s t z e = keep-one scoped.rec (scope_type (bind_type w s) B) _ (λ x d. type-beyond B (bind_type w s) t x d) z e

  pub term-beyond : (a : NamedTerm) (s t : InScope X) (z : ScopedTerm X) → scope_term s a ≡ Ok z → scope_term (beyond s t) a ≡ Ok z
  term-beyond (named.top_term byte) s t z e = e
  term-beyond (named.term_name byte w) s t z e = term-leaf (number s.terms w) (number (s.terms ++ t.terms) w) byte z (λ k f. number-beyond s.terms t.terms w k f) e
  term-beyond (named.fun byte w A b) s t z e = keep-two (scoped.fun byte) (scope_type s A) (scope_term (bind_term w s) b) _ _ (λ x d. type-beyond A s t x d) (λ y d. term-beyond b (bind_term w s) t y d) z e
  term-beyond (named.appl byte b a) s t z e = keep-two (scoped.appl byte) (scope_term s b) (scope_term s a) _ _ (λ x d. term-beyond b s t x d) (λ y d. term-beyond a s t y d) z e
  term-beyond (named.fun2 byte w A b) s t z e = keep-two (scoped.fun2 byte) (scope_type s A) (scope_term (bind_type w s) b) _ _ (λ x d. type-beyond A s t x d) (λ y d. term-beyond b (bind_type w s) t y d) z e
  term-beyond (named.fun2_unbounded byte w b) s t z e = keep-one (scoped.fun2_unbounded byte) (scope_term (bind_type w s) b) _ (λ x d. term-beyond b (bind_type w s) t x d) z e
  term-beyond (named.appl2 byte b A) s t z e = keep-two (scoped.appl2 byte) (scope_term s b) (scope_type s A) _ _ (λ x d. term-beyond b s t x d) (λ y d. type-beyond A s t y d) z e
  term-beyond (named.fold_term byte A a) s t z e = keep-two (scoped.fold_term byte) (scope_type s A) (scope_term s a) _ _ (λ x d. type-beyond A s t x d) (λ y d. term-beyond a s t y d) z e
  term-beyond (named.unfold_term byte a) s t z e = keep-one (scoped.unfold_term byte) (scope_term s a) _ (λ x d. term-beyond a s t x d) z e
  term-beyond (named.rec_term byte w A b) s t z e = keep-two (scoped.rec_term byte) (scope_type s A) (scope_term (bind_term w s) b) _ _ (λ x d. type-beyond A s t x d) (λ y d. term-beyond b (bind_term w s) t y d) z e

  pub env-beyond : (E : List Binding) (s t : InScope X) (F : List (ScopedBinding X)) → scope_env s E ≡ Ok F → scope_env (beyond s t) E ≡ Ok F
  env-beyond [] s t z e = e
  env-beyond (named.type_binding w A ∷ E) s t z e =
      keep-two (λ B F. scoped.type_binding w B ∷ F) (scope_type s A) (scope_env (bind_type w s) E) _ _ (λ x d. type-beyond A s t x d) (λ y d. env-beyond E (bind_type w s) t y d) z e
  env-beyond (named.term_binding w A ∷ E) s t z e =
      keep-two (λ B F. scoped.term_binding w B ∷ F) (scope_type s A) (scope_env (bind_term w s) E) _ _ (λ x d. type-beyond A s t x d) (λ y d. env-beyond E (bind_term w s) t y d) z e

  behind-beyond : (E : List Binding) (s t : InScope X) → behind (beyond s t) E ≡ beyond (behind s E) t
  behind-beyond [] s t = refl
  behind-beyond (named.type_binding w A ∷ E) s t = behind-beyond E (bind_type w s) t
  behind-beyond (named.term_binding w A ∷ E) s t = behind-beyond E (bind_term w s) t

  type-behind : (E : List Binding) (A : NamedType) (s t : InScope X) (B : ScopedType X) → scope_type (behind s E) A ≡ Ok B → scope_type (behind (beyond s t) E) A ≡ Ok B
  type-behind E A s t B e = ap (λ u. scope_type u A) (behind-beyond E s t) ∙ type-beyond A (behind s E) t B e

  term-behind : (E : List Binding) (a : NamedTerm) (s t : InScope X) (b : ScopedTerm X) → scope_term (behind s E) a ≡ Ok b → scope_term (behind (beyond s t) E) a ≡ Ok b
  term-behind E a s t b e = ap (λ u. scope_term u a) (behind-beyond E s t) ∙ term-beyond a (behind s E) t b e

  pub phrase-beyond : (p : NamedPhrase) (s t : InScope X) (q : ScopedPhrase X) → scope_in s p ≡ Ok q → scope_in (beyond s t) p ≡ Ok q
  phrase-beyond (named.let_type w B A) s t z e = keep-two (scoped.let_type w) (scope_type s B) (scope_type s A) _ _ (λ x d. type-beyond B s t x d) (λ y d. type-beyond A s t y d) z e
  phrase-beyond (named.let_type_unbounded w A) s t z e = keep-one (scoped.let_type_unbounded w) (scope_type s A) _ (λ x d. type-beyond A s t x d) z e
  phrase-beyond (named.let_term w A b) s t z e = keep-two (scoped.let_term w) (scope_type s A) (scope_term s b) _ _ (λ x d. type-beyond A s t x d) (λ y d. term-beyond b s t y d) z e
  phrase-beyond (named.let_term_untyped w b) s t z e = keep-one (scoped.let_term_untyped w) (scope_term s b) _ (λ x d. term-beyond b s t x d) z e
  phrase-beyond (named.of_type A) s t z e = keep-one scoped.of_type (scope_type s A) _ (λ x d. type-beyond A s t x d) z e
  phrase-beyond (named.of_term a) s t z e = keep-one scoped.of_term (scope_term s a) _ (λ x d. term-beyond a s t x d) z e
  phrase-beyond (named.judge_env E) s t z e = keep-one scoped.judge_env (scope_env s E) _ (λ x d. env-beyond E s t x d) z e
  phrase-beyond (named.judge_type E A) s t z e =
      keep-two scoped.judge_type (scope_env s E) (scope_type (behind s E) A) _ _ (λ x d. env-beyond E s t x d) (λ y d. type-behind E A s t y d) z e
  phrase-beyond (named.judge_subtype E A B) s t z e =
      keep-three scoped.judge_subtype (scope_env s E) (scope_type (behind s E) A) (scope_type (behind s E) B) _ _ _ (λ x d. env-beyond E s t x d) (λ y d. type-behind E A s t y d) (λ y d. type-behind E B s t y d) z e
  phrase-beyond (named.judge_term E a A) s t z e =
      keep-three scoped.judge_term (scope_env s E) (scope_term (behind s E) a) (scope_type (behind s E) A) _ _ _ (λ x d. env-beyond E s t x d) (λ y d. term-behind E a s t y d) (λ y d. type-behind E A s t y d) z e

  -- a phrase whose names are bound without definitions is the same after any
  pub closed-same : (p : NamedPhrase) (ds : List (Definition X)) (q : ScopedPhrase X) → scope [] p ≡ Ok q → scope ds p ≡ Ok q
  closed-same p ds q e = phrase-beyond p (of_definitions []) (of_definitions ds) q e
