-- The nodes of a whole phrase, resolved: those of its bindings, of which each is in scope behind its own node, and of its parts.
use Rattle.std.proofs.Common.{◌≡◌, ℕ, ◌+◌, ◌≤◌, List, [], ◌∷◌, ◌++◌, length, Ok, Err, Result, sym, refl, ap, ◌∙◌, arith, length-append}
use Rattle.std.proofs.lemmas.List.Sums.{fold-append}
use Rattle.scope.proofs.Lengths.{length-type, length-term, length-env}
use Rattle.scope.proofs.Nodes.{resolved-append, resolved-closed, resolved-own, Closed, closed-type, closed-term}
use Rattle.scope.proofs.Places.{places-type, places-term, places-env}
use Rattle.scope.proofs.Ties.{most, tie-type, tie-term}
use Rattle.scope.specs.Resolved.{resolved_node, past, past_all, resolved}
use Rattle.scope.specs.Scope.{InScope, variables, bind_type, bind_term, bind, behind, one, both, three, scope_type, scope_term, scope_env, scope_in}
use Rattle.scope.specs.Scoped as scoped
use Rattle.scope.specs.Scoped.{ScopedType, ScopedTerm, ScopedBinding, ScopedPhrase}
use Rattle.scope.specs.ScopedLayout as laid
use Rattle.syntax.specs.Layout as read
use Rattle.syntax.specs.Named as named
use Rattle.syntax.specs.Named.{NamedType, NamedTerm, Binding, NamedPhrase}
use Rattle.syntax.specs.declared.node.Node.{Node}
use Rattle.syntax.specs.declared.node.Node.TheVariants.{TypeBinding, TermBinding}

join-two : {A B C : Type 0} (f : A → List Node) (g : B → List Node) (h : A → B → C) (out : C → List Node) (a : Result A ℕ) (b : Result B ℕ)
    → ((x : A) (y : B) → a ≡ Ok x → b ≡ Ok y → out (h x y) ≡ f x ++ g y) → both ◌++◌ (one f a) (one g b) ≡ one out (both h a b)
join-two f g h out (Ok x) (Ok y) same = ap Ok (sym (same x y refl refl))
join-two f g h out (Ok x) (Err byte) same = refl
join-two f g h out (Err byte) b same = refl

join-three : {A B C D : Type 0} (e : A → List Node) (f : B → List Node) (g : C → List Node) (h : A → B → C → D) (out : D → List Node) (a : Result A ℕ) (b : Result B ℕ) (c : Result C ℕ)
    → ((x : A) (y : B) (z : C) → a ≡ Ok x → b ≡ Ok y → c ≡ Ok z → out (h x y z) ≡ e x ++ f y ++ g z)
    → both ◌++◌ (both ◌++◌ (one e a) (one f b)) (one g c) ≡ one out (three h a b c)
join-three e f g h out (Ok x) (Ok y) (Ok z) same = ap Ok (sym (same x y z refl refl refl))
join-three e f g h out (Ok x) (Ok y) (Err byte) same = refl
join-three e f g h out (Ok x) (Err byte) c same = refl
join-three e f g h out (Err byte) b c same = refl

join-one : {A B : Type 0} (f : A → List Node) (h : A → B) (out : B → List Node) (a : Result A ℕ) → ((x : A) → out (h x) ≡ f x) → one f a ≡ one out (one h a)
join-one f h out (Ok x) same = ap Ok (sym (same x))
join-one f h out (Err byte) same = refl

-- ---- environments

past-binding : (b : Binding) (s : InScope ℕ) (n : ℕ) → past_all s (read.binding_nodes n b) ≡ bind b s
past-binding (named.type_binding w A) s n =
    fold-append past s (read.type_nodes [] n A) (TypeBinding w (read.type_node n A) ∷ []) ∙ ap (bind_type w) ((closed-type [] n A).keeps s)
past-binding (named.term_binding w A) s n =
    fold-append past s (read.type_nodes [] n A) (TermBinding w (read.type_node n A) ∷ []) ∙ ap (bind_term w) ((closed-type [] n A).keeps s)

pub past-env : (E : List Binding) (s : InScope ℕ) (n : ℕ) → past_all s (read.env_nodes n E) ≡ behind s E
past-env [] s n = refl
past-env (b ∷ E) s n =
    let m = n + read.binding_places b in
    fold-append past s (read.binding_nodes n b) (read.env_nodes m E) ∙ ap (λ t. past_all t (read.env_nodes m E)) (past-binding b s n) ∙ past-env E (bind b s) m

-- what a binding adds
types-behind : (E : List Binding) (s : InScope ℕ) → variables (behind s E).types ≤ variables s.types + read.env_places E
types-behind [] s = omega arith
types-behind (named.type_binding w A ∷ E) s = omega (arith, types-behind E (bind_type w s))
types-behind (named.term_binding w A ∷ E) s = omega (arith, types-behind E (bind_term w s))

terms-behind : (E : List Binding) (s : InScope ℕ) → length (behind s E).terms ≤ length s.terms + read.env_places E
terms-behind [] s = omega arith
terms-behind (named.type_binding w A ∷ E) s = omega (arith, terms-behind E (bind_type w s))
terms-behind (named.term_binding w A ∷ E) s = omega (arith, terms-behind E (bind_term w s))

resolved-binding : (s t : InScope ℕ) (xs : List Node) (z : Node) (ys : List Node) → Closed xs → resolved_node s z ≡ Ok z → past s z ≡ t
    → resolved s (xs ++ z ∷ [] ++ ys) ≡ both ◌++◌ (both ◌++◌ (resolved s xs) (Ok (z ∷ []))) (resolved t ys)
resolved-binding s t xs z ys p own e =
    resolved-append s (xs ++ z ∷ []) ys
    ∙ ap (λ r. both ◌++◌ r (resolved (past_all s (xs ++ z ∷ [])) ys)) (resolved-closed s xs (z ∷ []) p ∙ ap (both ◌++◌ (resolved s xs)) (resolved-own s z own))
    ∙ ap (λ u. both ◌++◌ (both ◌++◌ (resolved s xs) (Ok (z ∷ []))) (resolved u ys)) (fold-append past s xs (z ∷ []) ∙ ap (λ u. past u z) (p.keeps s) ∙ e)

join-binding : {A B C : Type 0} (f : A → List Node) (z : Node) (g : B → List Node) (h : A → B → C) (out : C → List Node) (a : Result A ℕ) (b : Result B ℕ)
    → ((x : A) (y : B) → a ≡ Ok x → b ≡ Ok y → out (h x y) ≡ f x ++ z ∷ [] ++ g y) → both ◌++◌ (both ◌++◌ (one f a) (Ok (z ∷ []))) (one g b) ≡ one out (both h a b)
join-binding f z g h out (Ok x) (Ok y) same = ap Ok (sym (same x y refl refl))
join-binding f z g h out (Ok x) (Err byte) same = refl
join-binding f z g h out (Err byte) b same = refl

pub tie-env : (E : List Binding) (s : InScope ℕ) (n : ℕ) → read.env_places E + variables s.types ≤ most → resolved s (read.env_nodes n E) ≡ one (laid.env_nodes n) (scope_env s E)
tie-env [] s n h = refl
tie-env (named.type_binding w A ∷ E) s n h =
    let z = TypeBinding w (read.type_node n A) in
    let m = n + (read.type_places A + 1) in
    resolved-binding s (bind_type w s) (read.type_nodes [] n A) z (read.env_nodes m E) (closed-type [] n A) refl refl
    ∙ ap (λ r. both ◌++◌ (both ◌++◌ r (Ok (z ∷ []))) (resolved (bind_type w s) (read.env_nodes m E))) (tie-type A s [] [] n (omega arith))
    ∙ ap (both ◌++◌ (both ◌++◌ (one (laid.type_nodes n) (scope_type s A)) (Ok (z ∷ [])))) (tie-env E (bind_type w s) m (omega arith))
    ∙ join-binding (laid.type_nodes n) z (laid.env_nodes m) (λ B F. scoped.type_binding w B ∷ F) (laid.env_nodes n) (scope_type s A) (scope_env (bind_type w s) E)
    (λ x y d e. let p = places-type A s x d in simp p)
tie-env (named.term_binding w A ∷ E) s n h =
    let z = TermBinding w (read.type_node n A) in
    let m = n + (read.type_places A + 1) in
    resolved-binding s (bind_term w s) (read.type_nodes [] n A) z (read.env_nodes m E) (closed-type [] n A) refl refl
    ∙ ap (λ r. both ◌++◌ (both ◌++◌ r (Ok (z ∷ []))) (resolved (bind_term w s) (read.env_nodes m E))) (tie-type A s [] [] n (omega arith))
    ∙ ap (both ◌++◌ (both ◌++◌ (one (laid.type_nodes n) (scope_type s A)) (Ok (z ∷ [])))) (tie-env E (bind_term w s) m (omega arith))
    ∙ join-binding (laid.type_nodes n) z (laid.env_nodes m) (λ B F. scoped.term_binding w B ∷ F) (laid.env_nodes n) (scope_type s A) (scope_env (bind_term w s) E)
    (λ x y d e. let p = places-type A s x d in simp p)

-- ---- phrases

parts-two : {A B C : Type 0} (s t : InScope ℕ) (f : A → List Node) (g : B → List Node) (h : A → B → C) (out : C → List Node) (a : Result A ℕ) (b : Result B ℕ) (xs ys : List Node)
    → past_all s xs ≡ t → resolved s xs ≡ one f a → resolved t ys ≡ one g b → ((x : A) (y : B) → a ≡ Ok x → b ≡ Ok y → out (h x y) ≡ f x ++ g y)
    → resolved s (xs ++ ys) ≡ one out (both h a b)
parts-two s t f g h out a b xs ys p d e same =
    resolved-append s xs ys
    ∙ ap (λ u. both ◌++◌ (resolved s xs) (resolved u ys)) p
    ∙ ap (λ r. both ◌++◌ r (resolved t ys)) d
    ∙ ap (both ◌++◌ (one f a)) e
    ∙ join-two f g h out a b same

parts-three : {A B C D : Type 0} (s t : InScope ℕ) (e : A → List Node) (f : B → List Node) (g : C → List Node) (h : A → B → C → D) (out : D → List Node) (a : Result A ℕ) (b : Result B ℕ) (c : Result C ℕ)
    (xs ys zs : List Node) → past_all s xs ≡ t → Closed ys → resolved s xs ≡ one e a → resolved t ys ≡ one f b → resolved t zs ≡ one g c
    → ((x : A) (y : B) (z : C) → a ≡ Ok x → b ≡ Ok y → c ≡ Ok z → out (h x y z) ≡ e x ++ f y ++ g z)
    → resolved s (xs ++ ys ++ zs) ≡ one out (three h a b c)
parts-three s t e f g h out a b c xs ys zs p q i j k same =
    resolved-append s (xs ++ ys) zs
    ∙ ap (λ u. both ◌++◌ (resolved s (xs ++ ys)) (resolved u zs)) (fold-append past s xs ys ∙ ap (λ u. past_all u ys) p ∙ q.keeps t)
    ∙ ap (λ r. both ◌++◌ r (resolved t zs)) (resolved-append s xs ys ∙ ap (λ u. both ◌++◌ (resolved s xs) (resolved u ys)) p ∙ ap (λ r. both ◌++◌ r (resolved t ys)) i ∙ ap (both ◌++◌ (one e a)) j)
    ∙ ap (both ◌++◌ (both ◌++◌ (one e a) (one f b))) k
    ∙ join-three e f g h out a b c same

-- all numbers fit that a phrase of so many nodes has
pub tie-phrase : (p : NamedPhrase) (s : InScope ℕ) → length (read.nodes p) + variables s.types ≤ most → length (read.nodes p) + length s.terms ≤ most
    → resolved s (read.nodes p) ≡ one laid.nodes (scope_in s p)
tie-phrase (named.let_type w B A) s h k =
    let m = read.type_places B in
    let long = length-append (read.type_nodes [] 0 B) (read.type_nodes [] m A) in
    let i = length-type B [] 0 in
    let j = length-type A [] m in
    parts-two s s (laid.type_nodes 0) (laid.type_nodes m) (scoped.let_type w) laid.nodes (scope_type s B) (scope_type s A) (read.type_nodes [] 0 B) (read.type_nodes [] m A)
    ((closed-type [] 0 B).keeps s) (tie-type B s [] [] 0 (omega arith)) (tie-type A s [] [] m (omega arith))
    (λ x y d e. let p = places-type B s x d in simp p)
tie-phrase (named.let_type_unbounded w A) s h k =
    let i = length-type A [] 0 in
    tie-type A s [] [] 0 (omega arith) ∙ join-one (laid.type_nodes 0) (scoped.let_type_unbounded w) laid.nodes (scope_type s A) (λ x. refl)
tie-phrase (named.let_term w A b) s h k =
    let m = read.type_places A in
    let long = length-append (read.type_nodes [] 0 A) (read.term_nodes [] [] m b) in
    let i = length-type A [] 0 in
    let j = length-term b [] [] m in
    parts-two s s (laid.type_nodes 0) (laid.term_nodes m) (scoped.let_term w) laid.nodes (scope_type s A) (scope_term s b) (read.type_nodes [] 0 A) (read.term_nodes [] [] m b)
    ((closed-type [] 0 A).keeps s) (tie-type A s [] [] 0 (omega arith)) (tie-term b s [] [] m (omega arith) (omega arith))
    (λ x y d e. let p = places-type A s x d in simp p)
tie-phrase (named.let_term_untyped w b) s h k =
    let i = length-term b [] [] 0 in
    tie-term b s [] [] 0 (omega arith) (omega arith) ∙ join-one (laid.term_nodes 0) (scoped.let_term_untyped w) laid.nodes (scope_term s b) (λ x. refl)
tie-phrase (named.of_type A) s h k =
    let i = length-type A [] 0 in
    tie-type A s [] [] 0 (omega arith) ∙ join-one (laid.type_nodes 0) scoped.of_type laid.nodes (scope_type s A) (λ x. refl)
tie-phrase (named.of_term a) s h k =
    let i = length-term a [] [] 0 in
    tie-term a s [] [] 0 (omega arith) (omega arith) ∙ join-one (laid.term_nodes 0) scoped.of_term laid.nodes (scope_term s a) (λ x. refl)
tie-phrase (named.judge_env E) s h k =
    let i = length-env E 0 in
    tie-env E s 0 (omega arith) ∙ join-one (laid.env_nodes 0) scoped.judge_env laid.nodes (scope_env s E) (λ x. refl)
tie-phrase (named.judge_type E A) s h k =
    let m = read.env_places E in
    let t = behind s E in
    let long = length-append (read.env_nodes 0 E) (read.type_nodes [] m A) in
    let i = length-env E 0 in
    let j = length-type A [] m in
    let more = types-behind E s in
    parts-two s t (laid.env_nodes 0) (laid.type_nodes m) scoped.judge_type laid.nodes (scope_env s E) (scope_type t A) (read.env_nodes 0 E) (read.type_nodes [] m A)
    (past-env E s 0) (tie-env E s 0 (omega arith)) (tie-type A t [] [] m (omega arith))
    (λ x y d e. let p = places-env E s x d in simp p)
tie-phrase (named.judge_subtype E A B) s h k =
    let m = read.env_places E in
    let n = m + read.type_places A in
    let t = behind s E in
    let long = length-append (read.env_nodes 0 E ++ read.type_nodes [] m A) (read.type_nodes [] n B) in
    let wide = length-append (read.env_nodes 0 E) (read.type_nodes [] m A) in
    let i = length-env E 0 in
    let j = length-type A [] m in
    let l = length-type B [] n in
    let more = types-behind E s in
    parts-three s t (laid.env_nodes 0) (laid.type_nodes m) (laid.type_nodes n) scoped.judge_subtype laid.nodes (scope_env s E) (scope_type t A) (scope_type t B)
    (read.env_nodes 0 E) (read.type_nodes [] m A) (read.type_nodes [] n B)
    (past-env E s 0) (closed-type [] m A) (tie-env E s 0 (omega arith)) (tie-type A t [] [] m (omega arith)) (tie-type B t [] [] n (omega arith))
    (λ x y z d e f. let p = places-env E s x d in let q = places-type A t y e in simp (p, q))
tie-phrase (named.judge_term E a A) s h k =
    let m = read.env_places E in
    let n = m + read.term_places a in
    let t = behind s E in
    let long = length-append (read.env_nodes 0 E ++ read.term_nodes [] [] m a) (read.type_nodes [] n A) in
    let wide = length-append (read.env_nodes 0 E) (read.term_nodes [] [] m a) in
    let i = length-env E 0 in
    let j = length-term a [] [] m in
    let l = length-type A [] n in
    let more = types-behind E s in
    let farther = terms-behind E s in
    parts-three s t (laid.env_nodes 0) (laid.term_nodes m) (laid.type_nodes n) scoped.judge_term laid.nodes (scope_env s E) (scope_term t a) (scope_type t A)
    (read.env_nodes 0 E) (read.term_nodes [] [] m a) (read.type_nodes [] n A)
    (past-env E s 0) (closed-term [] [] m a) (tie-env E s 0 (omega arith)) (tie-term a t [] [] m (omega arith) (omega arith)) (tie-type A t [] [] n (omega arith))
    (λ x y z d e f. let p = places-env E s x d in let q = places-term a t y e in simp (p, q))
