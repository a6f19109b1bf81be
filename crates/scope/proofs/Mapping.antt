-- Looking names up commutes with other names for types.
use Rattle.std.proofs.Common.{◌≡◌, ℕ, Bool, true, false, cond, List, [], ◌∷◌, map, Option, Some, None, Ok, Err, Result, refl, ap, ◌∙◌}
use Rattle.std.specs.List.{fold}
use Rattle.std.specs.Option.{ok_or, option_map}
use Rattle.lexer.specs.Names.{same}
use Rattle.lexer.specs.declared.name.Name.{Name}
use Rattle.scope.specs.Definitions.{Definition, let_type, let_term, let_unnamed}
use Rattle.scope.specs.Mapped.{map_type, map_term, map_env, map_phrase, map_definition}
use Rattle.scope.specs.Scope.{TypeGiver, binder, definition, InScope, Meaning, variable, stands_for, meaning, one_further, number, type_of, one, both, three, bind_type, bind_term, behind, define, of_definitions, scope_type, scope_term, scope_env, scope_in, scope}
use Rattle.scope.specs.Scoped as scoped
use Rattle.scope.specs.Scoped.{ScopedType, ScopedTerm, ScopedBinding, ScopedPhrase}
use Rattle.syntax.specs.Named as named
use Rattle.syntax.specs.Named.{NamedType, NamedTerm, Binding, NamedPhrase}

map-both : {A B C A' B' C' : Type 0} (h : A → B → C) (h' : A' → B' → C') (f : A → A') (g : B → B') (k : C → C') → ((x : A) (y : B) → h' (f x) (g y) ≡ k (h x y))
    → (a : Result A ℕ) (b : Result B ℕ) → both h' (one f a) (one g b) ≡ one k (both h a b)
map-both h h' f g k same (Ok x) (Ok y) = ap Ok (same x y)
map-both h h' f g k same (Ok x) (Err byte) = refl
map-both h h' f g k same (Err byte) b = refl

map-one : {A B A' B' : Type 0} (h : A → B) (h' : A' → B') (f : A → A') (k : B → B') → ((x : A) → h' (f x) ≡ k (h x)) → (a : Result A ℕ) → one h' (one f a) ≡ one k (one h a)
map-one h h' f k same (Ok x) = ap Ok (same x)
map-one h h' f k same (Err byte) = refl

both-parts : {A B C : Type 0} (h : A → B → C) {a c : Result A ℕ} {b d : Result B ℕ} → a ≡ c → b ≡ d → both h a b ≡ both h c d
both-parts h {a} {c} {b} {d} p q = ap (λ r. both h r b) p ∙ ap (both h c) q

map-three : {A B C D A' B' C' D' : Type 0} (h : A → B → C → D) (h' : A' → B' → C' → D') (f : A → A') (g : B → B') (e : C → C') (k : D → D')
    → ((x : A) (y : B) (z : C) → h' (f x) (g y) (e z) ≡ k (h x y z))
    → (a : Result A ℕ) (b : Result B ℕ) (c : Result C ℕ) → three h' (one f a) (one g b) (one e c) ≡ one k (three h a b c)
map-three h h' f g e k alike (Ok x) (Ok y) (Ok z) = ap Ok (alike x y z)
map-three h h' f g e k alike (Ok x) (Ok y) (Err byte) = refl
map-three h h' f g e k alike (Ok x) (Err byte) c = refl
map-three h h' f g e k alike (Err byte) b c = refl

abbrev map_giver : {X Y : Type 0} → (X → Y) → TypeGiver X → TypeGiver Y
map_giver f (binder w) = binder w
map_giver f (definition w x) = definition w (f x)

abbrev pub map_scope : {X Y : Type 0} → (X → Y) → InScope X → InScope Y
map_scope f s = record { types = map (map_giver f) s.types; terms = s.terms }

abbrev map_meaning : {X Y : Type 0} → (X → Y) → Meaning X → Meaning Y
map_meaning f (variable k) = variable k
map_meaning f (stands_for x) = stands_for (f x)

module _ {X Y : Type 0} (f : X → Y) where
  meaning-map : (givers : List (TypeGiver X)) (w : Name) → meaning (map (map_giver f) givers) w ≡ option_map (map_meaning f) (meaning givers w)
  meaning-map [] w = refl
  meaning-map (binder v ∷ givers) w = go (same v w) (meaning givers w) (meaning-map givers w)
    where
      go : (b : Bool) (m : Option (Meaning X)) → meaning (map (map_giver f) givers) w ≡ option_map (map_meaning f) m
          → cond b (Some (variable 1)) (one_further (meaning (map (map_giver f) givers) w)) ≡ option_map (map_meaning f) (cond b (Some (variable 1)) (one_further m))
      go true m h = refl
      go false None h = ap one_further h
      go false (Some (variable k)) h = ap one_further h
      go false (Some (stands_for x)) h = ap one_further h
  meaning-map (definition v x ∷ givers) w = go (same v w) (meaning-map givers w)
    where
      go : (b : Bool) → meaning (map (map_giver f) givers) w ≡ option_map (map_meaning f) (meaning givers w)
          → cond b (Some (stands_for (f x))) (meaning (map (map_giver f) givers) w) ≡ option_map (map_meaning f) (cond b (Some (stands_for x)) (meaning givers w))
      go true h = refl
      go false h = h

  type-leaf : (m : Option (Meaning X)) (byte : ℕ) → ok_or (option_map type_of (option_map (map_meaning f) m)) byte ≡ one (map_type f) (ok_or (option_map type_of m) byte)
  type-leaf None byte = refl
  type-leaf (Some (variable k)) byte = refl
  type-leaf (Some (stands_for x)) byte = refl

  term-leaf : (m : Option ℕ) (byte : ℕ) → ok_or (option_map {U = ScopedTerm Y} (scoped.term_var byte) m) byte ≡ one (map_term f) (ok_or (option_map {U = ScopedTerm X} (scoped.term_var byte) m) byte)
  term-leaf None byte = refl
  term-leaf (Some k) byte = refl

  pub type-map : (A : NamedType) (s : InScope X) → scope_type (map_scope f s) A ≡ one (map_type f) (scope_type s A)
  type-map named.top s = refl
  type-map (named.name byte w) s = ap (λ m. ok_or (option_map type_of m) byte) (meaning-map s.types w) ∙ type-leaf (meaning s.types w) byte
  type-map (named.arrow A B) s = both-parts scoped.arrow (type-map A s) (type-map B s) ∙ map-both scoped.arrow scoped.arrow (map_type f) (map_type f) (map_type f) (λ x y. refl) (scope_type s A) (scope_type s B)
  type-map (named.all w A B) s = both-parts scoped.all (type-map A s) (type-map B (bind_type w s)) ∙ map-both scoped.all scoped.all (map_type f) (map_type f) (map_type f) (λ x y. refl) (scope_type s A) (scope_type (bind_type w s) B)
  type-map (named.all_unbounded w B) s = ap (one scoped.all_unbounded) (type-map B (bind_type w s)) ∙ map-one scoped.all_unbounded scoped.all_unbounded (map_type f) (map_type f) (λ x. refl) (scope_type (bind_type w s) B)
  type-map (named.rec w B) s = ap (one scoped.rec) (type-map B (bind_type w s)) ∙ map-one scoped.rec scoped.rec (map_type f) (map_type f) (λ x. refl) (scope_type (bind_type w s) B)

  pub term-map : (a : NamedTerm) (s : InScope X) → scope_term (map_scope f s) a ≡ one (map_term f) (scope_term s a)
  term-map (named.top_term byte) s = refl
  term-map (named.term_name byte w) s = term-leaf (number s.terms w) byte
  term-map (named.fun byte w A b) s = both-parts (scoped.fun byte) (type-map A s) (term-map b (bind_term w s)) ∙ map-both (scoped.fun byte) (scoped.fun byte) (map_type f) (map_term f) (map_term f) (λ x y. refl) (scope_type s A) (scope_term (bind_term w s) b)
  term-map (named.appl byte b a) s = both-parts (scoped.appl byte) (term-map b s) (term-map a s) ∙ map-both (scoped.appl byte) (scoped.appl byte) (map_term f) (map_term f) (map_term f) (λ x y. refl) (scope_term s b) (scope_term s a)
  term-map (named.fun2 byte w A b) s = both-parts (scoped.fun2 byte) (type-map A s) (term-map b (bind_type w s)) ∙ map-both (scoped.fun2 byte) (scoped.fun2 byte) (map_type f) (map_term f) (map_term f) (λ x y. refl) (scope_type s A) (scope_term (bind_type w s) b)
  term-map (named.fun2_unbounded byte w b) s = ap (one (scoped.fun2_unbounded byte)) (term-map b (bind_type w s)) ∙ map-one (scoped.fun2_unbounded byte) (scoped.fun2_unbounded byte) (map_term f) (map_term f) (λ x. refl) (scope_term (bind_type w s) b)
  term-map (named.appl2 byte b A) s = both-parts (scoped.appl2 byte) (term-map b s) (type-map A s) ∙ map-both (scoped.appl2 byte) (scoped.appl2 byte) (map_term f) (map_type f) (map_term f) (λ x y. refl) (scope_term s b) (scope_type s A)
  term-map (named.fold_term byte A a) s = both-parts (scoped.fold_term byte) (type-map A s) (term-map a s) ∙ map-both (scoped.fold_term byte) (scoped.fold_term byte) (map_type f) (map_term f) (map_term f) (λ x y. refl) (scope_type s A) (scope_term s a)
  term-map (named.unfold_term byte a) s = ap (one (scoped.unfold_term byte)) (term-map a s) ∙ map-one (scoped.unfold_term byte) (scoped.unfold_term byte) (map_term f) (map_term f) (λ x. refl) (scope_term s a)
  term-map (named.rec_term byte w A b) s = both-parts (scoped.rec_term byte) (type-map A s) (term-map b (bind_term w s)) ∙ map-both (scoped.rec_term byte) (scoped.rec_term byte) (map_type f) (map_term f) (map_term f) (λ x y. refl) (scope_type s A) (scope_term (bind_term w s) b)

  pub env-map : (E : List Binding) (s : InScope X) → scope_env (map_scope f s) E ≡ one (map_env f) (scope_env s E)
  env-map [] s = refl
  env-map (named.type_binding w A ∷ E) s =
      both-parts (λ B F. scoped.type_binding w B ∷ F) (type-map A s) (env-map E (bind_type w s))
      ∙ map-both (λ B F. scoped.type_binding w B ∷ F) (λ B F. scoped.type_binding w B ∷ F) (map_type f) (map_env f) (map_env f) (λ x y. refl) (scope_type s A) (scope_env (bind_type w s) E)
  env-map (named.term_binding w A ∷ E) s =
      both-parts (λ B F. scoped.term_binding w B ∷ F) (type-map A s) (env-map E (bind_term w s))
      ∙ map-both (λ B F. scoped.term_binding w B ∷ F) (λ B F. scoped.term_binding w B ∷ F) (map_type f) (map_env f) (map_env f) (λ x y. refl) (scope_type s A) (scope_env (bind_term w s) E)

  behind-map : (E : List Binding) (s : InScope X) → behind (map_scope f s) E ≡ map_scope f (behind s E)
  behind-map [] s = refl
  behind-map (named.type_binding w A ∷ E) s = behind-map E (bind_type w s)
  behind-map (named.term_binding w A ∷ E) s = behind-map E (bind_term w s)

  type-behind : (E : List Binding) (A : NamedType) (s : InScope X) → scope_type (behind (map_scope f s) E) A ≡ one (map_type f) (scope_type (behind s E) A)
  type-behind E A s = ap (λ t. scope_type t A) (behind-map E s) ∙ type-map A (behind s E)

  term-behind : (E : List Binding) (a : NamedTerm) (s : InScope X) → scope_term (behind (map_scope f s) E) a ≡ one (map_term f) (scope_term (behind s E) a)
  term-behind E a s = ap (λ t. scope_term t a) (behind-map E s) ∙ term-map a (behind s E)

  pub phrase-map : (p : NamedPhrase) (s : InScope X) → scope_in (map_scope f s) p ≡ one (map_phrase f) (scope_in s p)
  phrase-map (named.let_type w B A) s = both-parts (scoped.let_type w) (type-map B s) (type-map A s) ∙ map-both (scoped.let_type w) (scoped.let_type w) (map_type f) (map_type f) (map_phrase f) (λ x y. refl) (scope_type s B) (scope_type s A)
  phrase-map (named.let_type_unbounded w A) s = ap (one (scoped.let_type_unbounded w)) (type-map A s) ∙ map-one (scoped.let_type_unbounded w) (scoped.let_type_unbounded w) (map_type f) (map_phrase f) (λ x. refl) (scope_type s A)
  phrase-map (named.let_term w A b) s = both-parts (scoped.let_term w) (type-map A s) (term-map b s) ∙ map-both (scoped.let_term w) (scoped.let_term w) (map_type f) (map_term f) (map_phrase f) (λ x y. refl) (scope_type s A) (scope_term s b)
  phrase-map (named.let_term_untyped w b) s = ap (one (scoped.let_term_untyped w)) (term-map b s) ∙ map-one (scoped.let_term_untyped w) (scoped.let_term_untyped w) (map_term f) (map_phrase f) (λ x. refl) (scope_term s b)
  phrase-map (named.of_type A) s = ap (one scoped.of_type) (type-map A s) ∙ map-one scoped.of_type scoped.of_type (map_type f) (map_phrase f) (λ x. refl) (scope_type s A)
  phrase-map (named.of_term a) s = ap (one scoped.of_term) (term-map a s) ∙ map-one scoped.of_term scoped.of_term (map_term f) (map_phrase f) (λ x. refl) (scope_term s a)
  phrase-map (named.judge_env E) s = ap (one scoped.judge_env) (env-map E s) ∙ map-one scoped.judge_env scoped.judge_env (map_env f) (map_phrase f) (λ x. refl) (scope_env s E)
  phrase-map (named.judge_type E A) s =
      both-parts scoped.judge_type (env-map E s) (type-behind E A s)
      ∙ map-both scoped.judge_type scoped.judge_type (map_env f) (map_type f) (map_phrase f) (λ x y. refl) (scope_env s E) (scope_type (behind s E) A)
  phrase-map (named.judge_subtype E A B) s =
      both-parts (λ u z. u z) (both-parts scoped.judge_subtype (env-map E s) (type-behind E A s)) (type-behind E B s)
      ∙ map-three scoped.judge_subtype scoped.judge_subtype (map_env f) (map_type f) (map_type f) (map_phrase f) (λ x y z. refl) (scope_env s E) (scope_type (behind s E) A) (scope_type (behind s E) B)
  phrase-map (named.judge_term E a A) s =
      both-parts (λ u z. u z) (both-parts scoped.judge_term (env-map E s) (term-behind E a s)) (type-behind E A s)
      ∙ map-three scoped.judge_term scoped.judge_term (map_env f) (map_term f) (map_type f) (map_phrase f) (λ x y z. refl) (scope_env s E) (scope_term (behind s E) a) (scope_type (behind s E) A)

  definitions-map : (ds : List (Definition X)) (s : InScope X) → fold define (map_scope f s) (map (map_definition f) ds) ≡ map_scope f (fold define s ds)
  definitions-map [] s = refl
  definitions-map (let_type w x ∷ ds) s = definitions-map ds (define s (let_type w x))
  definitions-map (let_term w ∷ ds) s = definitions-map ds (define s (let_term w))
  definitions-map (let_unnamed ∷ ds) s = definitions-map ds (define s let_unnamed)

  -- what a Let name stands for may be replaced before names are looked up or after
  pub scope-map : (ds : List (Definition X)) (p : NamedPhrase) → scope (map (map_definition f) ds) p ≡ one (map_phrase f) (scope ds p)
  scope-map ds p = ap (λ s. scope_in s p) (definitions-map ds (record { types = []; terms = [] })) ∙ phrase-map p (of_definitions ds)
