-- The variables of a scoped phrase are among those in scope.
use Rattle.std.proofs.Common.{◌≡◌, ℕ, ◌<◌, ◌≤◌, List, [], ◌∷◌, length, Option, Some, None, Ok, refl, subst}
use Rattle.std.specs.Bool.{⊤}
use Rattle.std.specs.Option.{ok_or, option_map}
use Rattle.scope.proofs.Places.{both-ok, three-ok, one-ok}
use Rattle.scope.proofs.Under.{meaning-within, number-within}
use Rattle.scope.specs.Scope.{InScope, Meaning, variable, stands_for, variables, meaning, number, type_of, bind_type, bind_term, behind, scope_type, scope_term, scope_env, scope_in}
use Rattle.scope.specs.Scoped as scoped
use Rattle.scope.specs.Scoped.{ScopedType, ScopedTerm, ScopedBinding, ScopedPhrase}
use Rattle.scope.specs.Within.{TypeWithin, TermWithin, EnvWithin, PhraseWithin}
use Rattle.syntax.specs.Named as named
use Rattle.syntax.specs.Named.{NamedType, NamedTerm, Binding, NamedPhrase}

module _ {X : Type 0} where
  type-leaf : (n byte : ℕ) (m : Option (Meaning X)) (B : ScopedType X) → ((k : ℕ) → m ≡ Some (variable k) → (0 < k) × (k ≤ n)) → ok_or (option_map type_of m) byte ≡ Ok B → TypeWithin n B
  type-leaf n byte None B h e = absurd cc
  type-leaf n byte (Some (variable k)) B h e = let is : scoped.var k ≡ B = cc in subst (TypeWithin n) is (h k refl)
  type-leaf n byte (Some (stands_for x)) B h e = let is : scoped.defined x ≡ B = cc in subst (TypeWithin n) is tt

  term-leaf : (n l byte : ℕ) (m : Option ℕ) (b : ScopedTerm X) → ((k : ℕ) → m ≡ Some k → (0 < k) × (k ≤ l)) → ok_or (option_map (scoped.term_var byte) m) byte ≡ Ok b → TermWithin n l b
  term-leaf n l byte None b h e = absurd cc
  term-leaf n l byte (Some k) b h e = let is : scoped.term_var byte k ≡ b = cc in subst (TermWithin n l) is (h k refl)

  pub type-within : (A : NamedType) (s : InScope X) (B : ScopedType X) → scope_type s A ≡ Ok B → TypeWithin (variables s.types) B
  type-within named.top s z e = let is : scoped.top ≡ z = cc in subst (TypeWithin (variables s.types)) is tt
  type-within (named.name byte w) s z e = type-leaf (variables s.types) byte (meaning s.types w) z (λ k f. meaning-within s.types w k f) e
  type-within (named.arrow A B) s z e =
      let (x, y, d, k, i) = both-ok scoped.arrow (scope_type s A) (scope_type s B) z e in
      subst (TypeWithin (variables s.types)) i (type-within A s x d, type-within B s y k)
  type-within (named.all w A B) s z e =
      let (x, y, d, k, i) = both-ok scoped.all (scope_type s A) (scope_type (bind_type w s) B) z e in
      subst (TypeWithin (variables s.types)) i (type-within A s x d, type-within B (bind_type w s) y k)
  type-within (named.all_unbounded w B) s z e =
      let (x, d, i) = one-ok scoped.all_unbounded (scope_type (bind_type w s) B) z e in
      subst (TypeWithin (variables s.types)) i (type-within B (bind_type w s) x d)
  type-within (named.rec w B) s z e =
      let (x, d, i) = one-ok scoped.rec (scope_type (bind_type w s) B) z e in
      subst (TypeWithin (variables s.types)) i (type-within B (bind_type w s) x d)

  pub term-within : (a : NamedTerm) (s : InScope X) (z : ScopedTerm X) → scope_term s a ≡ Ok z → TermWithin (variables s.types) (length s.terms) z
  term-within (named.top_term byte) s z e = let is : scoped.top_term byte ≡ z = cc in subst (TermWithin (variables s.types) (length s.terms)) is tt
  term-within (named.term_name byte w) s z e = term-leaf (variables s.types) (length s.terms) byte (number s.terms w) z (λ k f. number-within s.terms w k f) e
  term-within (named.fun byte w A b) s z e =
      let (x, y, d, k, i) = both-ok (scoped.fun byte) (scope_type s A) (scope_term (bind_term w s) b) z e in
      subst (TermWithin (variables s.types) (length s.terms)) i (type-within A s x d, term-within b (bind_term w s) y k)
  term-within (named.appl byte b a) s z e =
      let (x, y, d, k, i) = both-ok (scoped.appl byte) (scope_term s b) (scope_term s a) z e in
      subst (TermWithin (variables s.types) (length s.terms)) i (term-within b s x d, term-within a s y k)
  term-within (named.fun2 byte w A b) s z e =
      let (x, y, d, k, i) = both-ok (scoped.fun2 byte) (scope_type s A) (scope_term (bind_type w s) b) z e in
      subst (TermWithin (variables s.types) (length s.terms)) i (type-within A s x d, term-within b (bind_type w s) y k)
  term-within (named.fun2_unbounded byte w b) s z e =
      let (x, d, i) = one-ok (scoped.fun2_unbounded byte) (scope_term (bind_type w s) b) z e in
      subst (TermWithin (variables s.types) (length s.terms)) i (term-within b (bind_type w s) x d)
  term-within (named.appl2 byte b A) s z e =
      let (x, y, d, k, i) = both-ok (scoped.appl2 byte) (scope_term s b) (scope_type s A) z e in
      subst (TermWithin (variables s.types) (length s.terms)) i (term-within b s x d, type-within A s y k)
  term-within (named.fold_term byte A a) s z e =
      let (x, y, d, k, i) = both-ok (scoped.fold_term byte) (scope_type s A) (scope_term s a) z e in
      subst (TermWithin (variables s.types) (length s.terms)) i (type-within A s x d, term-within a s y k)
  term-within (named.unfold_term byte a) s z e =
      let (x, d, i) = one-ok (scoped.unfold_term byte) (scope_term s a) z e in
      subst (TermWithin (variables s.types) (length s.terms)) i (term-within a s x d)
  term-within (named.rec_term byte w A b) s z e =
      let (x, y, d, k, i) = both-ok (scoped.rec_term byte) (scope_type s A) (scope_term (bind_term w s) b) z e in
      subst (TermWithin (variables s.types) (length s.terms)) i (type-within A s x d, term-within b (bind_term w s) y k)

  pub env-within : (E : List Binding) (s : InScope X) (F : List (ScopedBinding X)) (Rest : ℕ → ℕ → Type 0) → scope_env s E ≡ Ok F → Rest (variables (behind s E).types) (length (behind s E).terms)
      → EnvWithin (variables s.types) (length s.terms) F Rest
  env-within [] s F Rest e h = let is : [] ≡ F = cc in subst (λ G. EnvWithin (variables s.types) (length s.terms) G Rest) is h
  env-within (named.type_binding w A ∷ E) s F Rest e h =
      let (x, y, d, k, i) = both-ok (λ B G. scoped.type_binding w B ∷ G) (scope_type s A) (scope_env (bind_type w s) E) F e in
      subst (λ G. EnvWithin (variables s.types) (length s.terms) G Rest) i (type-within A s x d, env-within E (bind_type w s) y Rest k h)
  env-within (named.term_binding w A ∷ E) s F Rest e h =
      let (x, y, d, k, i) = both-ok (λ B G. scoped.term_binding w B ∷ G) (scope_type s A) (scope_env (bind_term w s) E) F e in
      subst (λ G. EnvWithin (variables s.types) (length s.terms) G Rest) i (type-within A s x d, env-within E (bind_term w s) y Rest k h)

  pub phrase-within : (p : NamedPhrase) (s : InScope X) (q : ScopedPhrase X) → scope_in s p ≡ Ok q → PhraseWithin (variables s.types) (length s.terms) q
  phrase-within (named.let_type w B A) s z e =
      let (x, y, d, k, i) = both-ok (scoped.let_type w) (scope_type s B) (scope_type s A) z e in
      subst (PhraseWithin (variables s.types) (length s.terms)) i (type-within B s x d, type-within A s y k)
  phrase-within (named.let_type_unbounded w A) s z e =
      let (x, d, i) = one-ok (scoped.let_type_unbounded w) (scope_type s A) z e in
      subst (PhraseWithin (variables s.types) (length s.terms)) i (type-within A s x d)
  phrase-within (named.let_term w A b) s z e =
      let (x, y, d, k, i) = both-ok (scoped.let_term w) (scope_type s A) (scope_term s b) z e in
      subst (PhraseWithin (variables s.types) (length s.terms)) i (type-within A s x d, term-within b s y k)
  phrase-within (named.let_term_untyped w b) s z e =
      let (x, d, i) = one-ok (scoped.let_term_untyped w) (scope_term s b) z e in
      subst (PhraseWithin (variables s.types) (length s.terms)) i (term-within b s x d)
  phrase-within (named.of_type A) s z e =
      let (x, d, i) = one-ok scoped.of_type (scope_type s A) z e in
      subst (PhraseWithin (variables s.types) (length s.terms)) i (type-within A s x d)
  phrase-within (named.of_term a) s z e =
      let (x, d, i) = one-ok scoped.of_term (scope_term s a) z e in
      subst (PhraseWithin (variables s.types) (length s.terms)) i (term-within a s x d)
  phrase-within (named.judge_env E) s z e =
      let (x, d, i) = one-ok scoped.judge_env (scope_env s E) z e in
      subst (PhraseWithin (variables s.types) (length s.terms)) i (env-within E s x (λ n m. ⊤) d tt)
  phrase-within (named.judge_type E A) s z e =
      let (x, y, d, k, i) = both-ok scoped.judge_type (scope_env s E) (scope_type (behind s E) A) z e in
      subst (PhraseWithin (variables s.types) (length s.terms)) i (env-within E s x (λ n m. TypeWithin n y) d (type-within A (behind s E) y k))
  phrase-within (named.judge_subtype E A B) s z e =
      let (x, y, v, d, k, j, i) = three-ok scoped.judge_subtype (scope_env s E) (scope_type (behind s E) A) (scope_type (behind s E) B) z e in
      subst (PhraseWithin (variables s.types) (length s.terms)) i (env-within E s x (λ n m. TypeWithin n y × TypeWithin n v) d (type-within A (behind s E) y k, type-within B (behind s E) v j))
  phrase-within (named.judge_term E a A) s z e =
      let (x, y, v, d, k, j, i) = three-ok scoped.judge_term (scope_env s E) (scope_term (behind s E) a) (scope_type (behind s E) A) z e in
      subst (PhraseWithin (variables s.types) (length s.terms)) i (env-within E s x (λ n m. TermWithin n m y × TypeWithin n v) d (term-within a (behind s E) y k, type-within A (behind s E) v j))
