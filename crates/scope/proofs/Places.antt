-- A thing takes as many places once its names are looked up as before.
use Rattle.std.proofs.Common.{◌≡◌, ℕ, ◌+◌, List, [], ◌∷◌, Option, Some, None, Ok, Err, Result, sym, refl, ap, ◌∙◌}
use Rattle.std.specs.Option.{ok_or, option_map}
use Rattle.scope.specs.Scope.{InScope, Meaning, variable, stands_for, meaning, number, bind_type, bind_term, behind, type_of, one, both, three, scope_type, scope_term, scope_env, scope_in}
use Rattle.scope.specs.Scoped as scoped
use Rattle.scope.specs.Scoped.{ScopedType, ScopedTerm, ScopedBinding, ScopedPhrase}
use Rattle.scope.specs.ScopedLayout as laid
use Rattle.syntax.specs.Layout as read
use Rattle.syntax.specs.Named as named
use Rattle.syntax.specs.Named.{NamedType, NamedTerm, Binding, NamedPhrase}

pub both-ok : {A B C : Type 0} (h : A → B → C) (a : Result A ℕ) (b : Result B ℕ) (z : C) → both h a b ≡ Ok z → (x : A) × (y : B) × (a ≡ Ok x) × (b ≡ Ok y) × (h x y ≡ z)
both-ok h (Ok x) (Ok y) z e = (x, y, refl, refl, cc)
both-ok h (Ok x) (Err byte) z e = absurd cc
both-ok h (Err byte) b z e = absurd cc

pub three-ok : {A B C D : Type 0} (h : A → B → C → D) (a : Result A ℕ) (b : Result B ℕ) (c : Result C ℕ) (z : D) → three h a b c ≡ Ok z
    → (x : A) × (y : B) × (w : C) × (a ≡ Ok x) × (b ≡ Ok y) × (c ≡ Ok w) × (h x y w ≡ z)
three-ok h (Ok x) (Ok y) (Ok w) z e = (x, y, w, refl, refl, refl, cc)
three-ok h (Ok x) (Ok y) (Err byte) z e = absurd cc
three-ok h (Ok x) (Err byte) c z e = absurd cc
three-ok h (Err byte) b c z e = absurd cc

pub one-ok : {A B : Type 0} (h : A → B) (a : Result A ℕ) (z : B) → one h a ≡ Ok z → (x : A) × (a ≡ Ok x) × (h x ≡ z)
one-ok h (Ok x) z e = (x, refl, cc)
one-ok h (Err byte) z e = absurd cc

places-two : {A B C : Type 0} (h : A → B → C) (out : C → ℕ) (f : A → ℕ) (g : B → ℕ) (a : Result A ℕ) (b : Result B ℕ) (m n : ℕ)
    → ((x : A) (y : B) → out (h x y) ≡ f x + g y + 1) → ((x : A) → a ≡ Ok x → f x ≡ m) → ((y : B) → b ≡ Ok y → g y ≡ n) → (z : C) → both h a b ≡ Ok z → out z ≡ m + n + 1
places-two h out f g a b m n sum p q z e =
    let (x, y, d, k, i) = both-ok h a b z e in
    ap out (sym i) ∙ sum x y ∙ ap (λ j. j + g y + 1) (p x d) ∙ ap (λ j. m + j + 1) (q y k)

places-one : {A B : Type 0} (h : A → B) (out : B → ℕ) (f : A → ℕ) (a : Result A ℕ) (m : ℕ)
    → ((x : A) → out (h x) ≡ f x + 1) → ((x : A) → a ≡ Ok x → f x ≡ m) → (z : B) → one h a ≡ Ok z → out z ≡ m + 1
places-one h out f a m sum p z e = let (x, d, i) = one-ok h a z e in ap out (sym i) ∙ sum x ∙ ap (λ j. j + 1) (p x d)

module _ {X : Type 0} where
  leaf-places : (m : Option (Meaning X)) (byte : ℕ) (B : ScopedType X) → ok_or (option_map type_of m) byte ≡ Ok B → laid.type_places B ≡ 1
  leaf-places None byte B e = absurd cc
  leaf-places (Some (variable k)) byte B e = let same : scoped.var k ≡ B = cc in ap laid.type_places (sym same)
  leaf-places (Some (stands_for x)) byte B e = let same : scoped.defined x ≡ B = cc in ap laid.type_places (sym same)

  pub places-type : (A : NamedType) (s : InScope X) (B : ScopedType X) → scope_type s A ≡ Ok B → laid.type_places B ≡ read.type_places A
  places-type named.top s B e = let same : scoped.top ≡ B = cc in ap laid.type_places (sym same)
  places-type (named.name byte w) s B e = leaf-places (meaning s.types w) byte B e
  places-type (named.arrow A C) s B e = places-two scoped.arrow laid.type_places laid.type_places laid.type_places _ _ _ _ (λ x y. refl) (λ x d. places-type A s x d) (λ y d. places-type C s y d) B e
  places-type (named.all w A C) s B e = places-two scoped.all laid.type_places laid.type_places laid.type_places _ _ _ _ (λ x y. refl) (λ x d. places-type A s x d) (λ y d. places-type C _ y d) B e
  places-type (named.all_unbounded w C) s B e = places-one scoped.all_unbounded laid.type_places laid.type_places _ _ (λ x. refl) (λ x d. places-type C _ x d) B e
  places-type (named.rec w C) s B e = places-one scoped.rec laid.type_places laid.type_places _ _ (λ x. refl) (λ x d. places-type C _ x d) B e

  leaf-term-places : (m : Option ℕ) (byte : ℕ) (t : ScopedTerm X) → ok_or (option_map (scoped.term_var byte) m) byte ≡ Ok t → laid.term_places t ≡ 1
  leaf-term-places None byte t e = absurd cc
  leaf-term-places (Some k) byte t e = let same : scoped.term_var byte k ≡ t = cc in ap laid.term_places (sym same)

  pub places-term : (a : NamedTerm) (s : InScope X) (t : ScopedTerm X) → scope_term s a ≡ Ok t → laid.term_places t ≡ read.term_places a
  places-term (named.top_term byte) s t e = let same : scoped.top_term byte ≡ t = cc in ap laid.term_places (sym same)
  places-term (named.term_name byte w) s t e = leaf-term-places (number s.terms w) byte t e
  places-term (named.fun byte w A b) s t e = places-two (scoped.fun byte) laid.term_places laid.type_places laid.term_places _ _ _ _ (λ x y. refl) (λ x d. places-type A _ x d) (λ y d. places-term b _ y d) t e
  places-term (named.appl byte b a) s t e = places-two (scoped.appl byte) laid.term_places laid.term_places laid.term_places _ _ _ _ (λ x y. refl) (λ x d. places-term b _ x d) (λ y d. places-term a _ y d) t e
  places-term (named.fun2 byte w A b) s t e = places-two (scoped.fun2 byte) laid.term_places laid.type_places laid.term_places _ _ _ _ (λ x y. refl) (λ x d. places-type A _ x d) (λ y d. places-term b _ y d) t e
  places-term (named.appl2 byte b A) s t e = places-two (scoped.appl2 byte) laid.term_places laid.term_places laid.type_places _ _ _ _ (λ x y. refl) (λ x d. places-term b _ x d) (λ y d. places-type A _ y d) t e
  places-term (named.fold_term byte A a) s t e = places-two (scoped.fold_term byte) laid.term_places laid.type_places laid.term_places _ _ _ _ (λ x y. refl) (λ x d. places-type A _ x d) (λ y d. places-term a _ y d) t e
  places-term (named.rec_term byte w A b) s t e = places-two (scoped.rec_term byte) laid.term_places laid.type_places laid.term_places _ _ _ _ (λ x y. refl) (λ x d. places-type A _ x d) (λ y d. places-term b _ y d) t e
  places-term (named.fun2_unbounded byte w b) s t e = places-one (scoped.fun2_unbounded byte) laid.term_places laid.term_places _ _ (λ x. refl) (λ x d. places-term b _ x d) t e
  places-term (named.unfold_term byte a) s t e = places-one (scoped.unfold_term byte) laid.term_places laid.term_places _ _ (λ x. refl) (λ x d. places-term a _ x d) t e

  pub places-env : (E : List Binding) (s : InScope X) (F : List (ScopedBinding X)) → scope_env s E ≡ Ok F → laid.env_places F ≡ read.env_places E
  places-env [] s F e = let same : [] ≡ F = cc in ap laid.env_places (sym same)
  places-env (named.type_binding w A ∷ E) s F e =
      let (x, G, d, k, i) = both-ok _ (scope_type s A) (scope_env (bind_type w s) E) F e in
      let p = places-type A s x d in
      let q = places-env E _ G k in
      ap laid.env_places (sym i) ∙ simp (p, q)
  places-env (named.term_binding w A ∷ E) s F e =
      let (x, G, d, k, i) = both-ok _ (scope_type s A) (scope_env (bind_term w s) E) F e in
      let p = places-type A s x d in
      let q = places-env E _ G k in
      ap laid.env_places (sym i) ∙ simp (p, q)

  -- the record of a phrase is the same once its names are looked up
  pub record-same : (p : NamedPhrase) (s : InScope X) (q : ScopedPhrase X) → scope_in s p ≡ Ok q → laid.record_of q ≡ read.record_of p
  record-same (named.let_type w B A) s q e =
      let (x, y, d, k, i) = both-ok (scoped.let_type w) (scope_type s B) (scope_type s A) q e in
      let p = places-type B s x d in
      let r = places-type A s y k in
      ap laid.record_of (sym i) ∙ simp (p, r)
  record-same (named.let_type_unbounded w A) s q e =
      let (x, d, i) = one-ok (scoped.let_type_unbounded w) (scope_type s A) q e in
      let p = places-type A s x d in
      ap laid.record_of (sym i) ∙ simp p
  record-same (named.let_term w A b) s q e =
      let (x, y, d, k, i) = both-ok (scoped.let_term w) (scope_type s A) (scope_term s b) q e in
      let p = places-type A s x d in
      let r = places-term b s y k in
      ap laid.record_of (sym i) ∙ simp (p, r)
  record-same (named.let_term_untyped w b) s q e =
      let (x, d, i) = one-ok (scoped.let_term_untyped w) (scope_term s b) q e in
      let p = places-term b s x d in
      ap laid.record_of (sym i) ∙ simp p
  record-same (named.of_type A) s q e =
      let (x, d, i) = one-ok scoped.of_type (scope_type s A) q e in
      let p = places-type A s x d in
      ap laid.record_of (sym i) ∙ simp p
  record-same (named.of_term a) s q e =
      let (x, d, i) = one-ok scoped.of_term (scope_term s a) q e in
      let p = places-term a s x d in
      ap laid.record_of (sym i) ∙ simp p
  record-same (named.judge_env E) s q e =
      let (x, d, i) = one-ok scoped.judge_env (scope_env s E) q e in
      ap laid.record_of (sym i)
  record-same (named.judge_type E A) s q e =
      let (x, y, d, k, i) = both-ok scoped.judge_type (scope_env s E) (scope_type (behind s E) A) q e in
      let p = places-env E s x d in
      let r = places-type A (behind s E) y k in
      ap laid.record_of (sym i) ∙ simp (p, r)
  record-same (named.judge_subtype E A B) s q e =
      let (x, y, z, d, k, j, i) = three-ok scoped.judge_subtype (scope_env s E) (scope_type (behind s E) A) (scope_type (behind s E) B) q e in
      let o = places-env E s x d in
      let p = places-type A (behind s E) y k in
      let r = places-type B (behind s E) z j in
      ap laid.record_of (sym i) ∙ simp (o, p, r)
  record-same (named.judge_term E a A) s q e =
      let (x, y, z, d, k, j, i) = three-ok scoped.judge_term (scope_env s E) (scope_term (behind s E) a) (scope_type (behind s E) A) q e in
      let o = places-env E s x d in
      let p = places-term a (behind s E) y k in
      let r = places-type A (behind s E) z j in
      ap laid.record_of (sym i) ∙ simp (o, p, r)
