-- The nodes of a phrase, resolved, are the nodes of the phrase with its names looked up.
use Rattle.std.proofs.Common.{◌≡◌, ℕ, ◌+◌, ◌≤◌, List, [], ◌∷◌, length, Option, Some, None, Ok, sym, refl, ap, ◌∙◌, arith}
use Rattle.std.proofs.Math.Nat.{min-eq_left}
use Rattle.std.specs.Option.{ok_or, option_map}
use Rattle.lexer.specs.Names.{number_of}
use Rattle.lexer.specs.declared.name.Name.{Name}
use Rattle.scope.proofs.Nodes.{closed-type, closed-term, tie-one, tie-two}
use Rattle.scope.proofs.Places.{places-type, places-term}
use Rattle.scope.proofs.Under.{binders, somes, under, further, more, type_found, term_found, meaning-binders, number-somes, meaning-within, number-within}
use Rattle.scope.specs.Resolved.{outside, type_node, term_node, resolved}
use Rattle.scope.specs.Scope.{InScope, variables, Meaning, variable, stands_for, meaning, number, type_of, one, both, scope_type, scope_term}
use Rattle.scope.specs.Scoped as scoped
use Rattle.scope.specs.Scoped.{ScopedType, ScopedTerm}
use Rattle.scope.specs.ScopedLayout as laid
use Rattle.syntax.specs.Layout as read
use Rattle.syntax.specs.Named as named
use Rattle.syntax.specs.Named.{NamedType, NamedTerm}
use Rattle.syntax.specs.declared.node.Node.TheVariants.{TypeVar, TermVar, Arrow, All, AllUnbounded, RecType, Fun, Appl, Fun2, Fun2Unbounded, Appl2, Fold, Unfold, RecTerm}

abbrev pub most : ℕ
most = 18446744073709551615

outside-fits : (inside k : ℕ) → inside + k ≤ most → outside inside k ≡ inside + k
outside-fits inside k h = min-eq_left h

type-leaf : (byte inside n k : ℕ) (m : Option (Meaning ℕ)) → ((i : ℕ) → m ≡ Some (variable i) → inside + i ≤ most)
    → both ◌∷◌ (type_node byte inside m) (Ok []) ≡ one (laid.type_nodes n) (ok_or (option_map type_of (further inside m)) byte)
type-leaf byte inside n k None h = refl
type-leaf byte inside n k (Some (variable i)) h = ap (λ j. Ok (TypeVar j ∷ [])) (outside-fits inside i (h i refl))
type-leaf byte inside n k (Some (stands_for line)) h = refl

tie-type-name : (s : InScope ℕ) (ws : List Name) (n byte : ℕ) (w : Name) → length ws + 1 + variables s.types ≤ most
    → resolved s (read.type_leaf (number_of ws w) byte w (length ws) ∷ []) ≡ one (laid.type_nodes n) (ok_or (option_map type_of (meaning (binders ws s.types) w)) byte)
tie-type-name s ws n byte w fits =
    go (number_of ws w) ∙ ap (λ m. one (laid.type_nodes n) (ok_or (option_map type_of m) byte)) (sym (meaning-binders ws s.types w))
  where
    go : (found : Option ℕ) → resolved s (read.type_leaf found byte w (length ws) ∷ []) ≡ one (laid.type_nodes n) (ok_or (option_map type_of (type_found found (length ws) (meaning s.types w))) byte)
    go None = type-leaf byte (length ws) n 0 (meaning s.types w) (λ i e. omega (arith, (meaning-within s.types w i e).1))
    go (Some k) = refl

term-leaf : (byte inside n : ℕ) (m : Option ℕ) → ((i : ℕ) → m ≡ Some i → inside + i ≤ most)
    → both ◌∷◌ (term_node byte inside m) (Ok []) ≡ one (laid.term_nodes n) (ok_or (option_map (scoped.term_var byte) (more inside m)) byte)
term-leaf byte inside n None h = refl
term-leaf byte inside n (Some i) h = ap (λ j. Ok (TermVar byte j ∷ [])) (outside-fits inside i (h i refl))

tie-term-name : (s : InScope ℕ) (vs : List Name) (n byte : ℕ) (w : Name) → length vs + 1 + length s.terms ≤ most
    → resolved s (read.term_leaf (number_of vs w) byte w (length vs) ∷ []) ≡ one (laid.term_nodes n) (ok_or (option_map (scoped.term_var byte) (number (somes vs s.terms) w)) byte)
tie-term-name s vs n byte w fits =
    go (number_of vs w) ∙ ap (λ m. one (laid.term_nodes n) (ok_or (option_map (scoped.term_var byte) m) byte)) (sym (number-somes vs s.terms w))
  where
    go : (found : Option ℕ) → resolved s (read.term_leaf found byte w (length vs) ∷ []) ≡ one (laid.term_nodes n) (ok_or (option_map (scoped.term_var byte) (term_found found (length vs) (number s.terms w))) byte)
    go None = term-leaf byte (length vs) n (number s.terms w) (λ i e. omega (arith, (number-within s.terms w i e).1))
    go (Some k) = refl

pub tie-type : (A : NamedType) (s : InScope ℕ) (ws vs : List Name) (n : ℕ) → length ws + read.type_places A + variables s.types ≤ most
    → resolved s (read.type_nodes ws n A) ≡ one (laid.type_nodes n) (scope_type (under ws vs s) A)
tie-type named.top s ws vs n h = refl
tie-type (named.name byte w) s ws vs n h = tie-type-name s ws n byte w h
tie-type (named.arrow A B) s ws vs n h =
    let m = n + read.type_places A in
    let t = under ws vs s in
    tie-two s (laid.type_nodes n) (laid.type_nodes m) scoped.arrow (laid.type_nodes n) (scope_type t A) (scope_type (under ws vs s) B) (read.type_nodes ws n A) (read.type_nodes ws m B) (Arrow (read.type_node n A) (read.type_node m B))
    refl (closed-type ws n A) (closed-type ws m B) (tie-type A s ws vs n (omega arith)) (tie-type B s ws vs m (omega arith))
    (λ x y d e. let p = places-type A t x d in let q = places-type B (under ws vs s) y e in simp (p, q))
tie-type (named.all w A B) s ws vs n h =
    let m = n + read.type_places A in
    let t = under ws vs s in
    tie-two s (laid.type_nodes n) (laid.type_nodes m) scoped.all (laid.type_nodes n) (scope_type t A) (scope_type (under (w ∷ ws) vs s) B) (read.type_nodes ws n A) (read.type_nodes (w ∷ ws) m B) (All (read.type_node n A) (read.type_node m B))
    refl (closed-type ws n A) (closed-type (w ∷ ws) m B) (tie-type A s ws vs n (omega arith)) (tie-type B s (w ∷ ws) vs m (omega arith))
    (λ x y d e. let p = places-type A t x d in let q = places-type B (under (w ∷ ws) vs s) y e in simp (p, q))
tie-type (named.all_unbounded w B) s ws vs n h =
    tie-one s (laid.type_nodes n) scoped.all_unbounded (laid.type_nodes n) (scope_type (under (w ∷ ws) vs s) B) (read.type_nodes (w ∷ ws) n B) (AllUnbounded n (read.type_node n B)) refl (closed-type (w ∷ ws) n B) (tie-type B s (w ∷ ws) vs n (omega arith))
    (λ x d. let p = places-type B (under (w ∷ ws) vs s) x d in simp p)
tie-type (named.rec w B) s ws vs n h =
    tie-one s (laid.type_nodes n) scoped.rec (laid.type_nodes n) (scope_type (under (w ∷ ws) vs s) B) (read.type_nodes (w ∷ ws) n B) (RecType (read.type_node n B)) refl (closed-type (w ∷ ws) n B) (tie-type B s (w ∷ ws) vs n (omega arith))
    (λ x d. let p = places-type B (under (w ∷ ws) vs s) x d in simp p)

pub tie-term : (a : NamedTerm) (s : InScope ℕ) (ws vs : List Name) (n : ℕ) → length ws + read.term_places a + variables s.types ≤ most → length vs + read.term_places a + length s.terms ≤ most
    → resolved s (read.term_nodes ws vs n a) ≡ one (laid.term_nodes n) (scope_term (under ws vs s) a)
tie-term (named.top_term byte) s ws vs n h k = refl
tie-term (named.term_name byte w) s ws vs n h k = tie-term-name s vs n byte w k
tie-term (named.fun byte w A b) s ws vs n h k =
    let m = n + read.type_places A in
    let t = under ws vs s in
    tie-two s (laid.type_nodes n) (laid.term_nodes m) (scoped.fun byte) (laid.term_nodes n) (scope_type t A) (scope_term (under ws (w ∷ vs) s) b) (read.type_nodes ws n A) (read.term_nodes ws (w ∷ vs) m b) (Fun byte (read.type_node n A) (read.term_node m b))
    refl (closed-type ws n A) (closed-term ws (w ∷ vs) m b) (tie-type A s ws vs n (omega arith)) (tie-term b s ws (w ∷ vs) m (omega arith) (omega arith))
    (λ x y d e. let p = places-type A t x d in let q = places-term b (under ws (w ∷ vs) s) y e in simp (p, q))
tie-term (named.appl byte b a) s ws vs n h k =
    let m = n + read.term_places b in
    let t = under ws vs s in
    tie-two s (laid.term_nodes n) (laid.term_nodes m) (scoped.appl byte) (laid.term_nodes n) (scope_term t b) (scope_term (under ws vs s) a) (read.term_nodes ws vs n b) (read.term_nodes ws vs m a) (Appl byte (read.term_node n b) (read.term_node m a))
    refl (closed-term ws vs n b) (closed-term ws vs m a) (tie-term b s ws vs n (omega arith) (omega arith)) (tie-term a s ws vs m (omega arith) (omega arith))
    (λ x y d e. let p = places-term b t x d in let q = places-term a (under ws vs s) y e in simp (p, q))
tie-term (named.fun2 byte w A b) s ws vs n h k =
    let m = n + read.type_places A in
    let t = under ws vs s in
    tie-two s (laid.type_nodes n) (laid.term_nodes m) (scoped.fun2 byte) (laid.term_nodes n) (scope_type t A) (scope_term (under (w ∷ ws) vs s) b) (read.type_nodes ws n A) (read.term_nodes (w ∷ ws) vs m b) (Fun2 byte (read.type_node n A) (read.term_node m b))
    refl (closed-type ws n A) (closed-term (w ∷ ws) vs m b) (tie-type A s ws vs n (omega arith)) (tie-term b s (w ∷ ws) vs m (omega arith) (omega arith))
    (λ x y d e. let p = places-type A t x d in let q = places-term b (under (w ∷ ws) vs s) y e in simp (p, q))
tie-term (named.fun2_unbounded byte w b) s ws vs n h k =
    tie-one s (laid.term_nodes n) (scoped.fun2_unbounded byte) (laid.term_nodes n) (scope_term (under (w ∷ ws) vs s) b) (read.term_nodes (w ∷ ws) vs n b) (Fun2Unbounded byte n (read.term_node n b)) refl (closed-term (w ∷ ws) vs n b) (tie-term b s (w ∷ ws) vs n (omega arith) (omega arith))
    (λ x d. let p = places-term b (under (w ∷ ws) vs s) x d in simp p)
tie-term (named.appl2 byte b A) s ws vs n h k =
    let m = n + read.term_places b in
    let t = under ws vs s in
    tie-two s (laid.term_nodes n) (laid.type_nodes m) (scoped.appl2 byte) (laid.term_nodes n) (scope_term t b) (scope_type (under ws vs s) A) (read.term_nodes ws vs n b) (read.type_nodes ws m A) (Appl2 byte (read.term_node n b) (read.type_node m A))
    refl (closed-term ws vs n b) (closed-type ws m A) (tie-term b s ws vs n (omega arith) (omega arith)) (tie-type A s ws vs m (omega arith))
    (λ x y d e. let p = places-term b t x d in let q = places-type A (under ws vs s) y e in simp (p, q))
tie-term (named.fold_term byte A a) s ws vs n h k =
    let m = n + read.type_places A in
    let t = under ws vs s in
    tie-two s (laid.type_nodes n) (laid.term_nodes m) (scoped.fold_term byte) (laid.term_nodes n) (scope_type t A) (scope_term (under ws vs s) a) (read.type_nodes ws n A) (read.term_nodes ws vs m a) (Fold byte (read.type_node n A) (read.term_node m a))
    refl (closed-type ws n A) (closed-term ws vs m a) (tie-type A s ws vs n (omega arith)) (tie-term a s ws vs m (omega arith) (omega arith))
    (λ x y d e. let p = places-type A t x d in let q = places-term a (under ws vs s) y e in simp (p, q))
tie-term (named.unfold_term byte a) s ws vs n h k =
    tie-one s (laid.term_nodes n) (scoped.unfold_term byte) (laid.term_nodes n) (scope_term (under ws vs s) a) (read.term_nodes ws vs n a) (Unfold byte (read.term_node n a)) refl (closed-term ws vs n a) (tie-term a s ws vs n (omega arith) (omega arith))
    (λ x d. let p = places-term a (under ws vs s) x d in simp p)
tie-term (named.rec_term byte w A b) s ws vs n h k =
    let m = n + read.type_places A in
    let t = under ws vs s in
    tie-two s (laid.type_nodes n) (laid.term_nodes m) (scoped.rec_term byte) (laid.term_nodes n) (scope_type t A) (scope_term (under ws (w ∷ vs) s) b) (read.type_nodes ws n A) (read.term_nodes ws (w ∷ vs) m b) (RecTerm byte (read.type_node n A) (read.term_node m b))
    refl (closed-type ws n A) (closed-term ws (w ∷ vs) m b) (tie-type A s ws vs n (omega arith)) (tie-term b s ws (w ∷ vs) m (omega arith) (omega arith))
    (λ x y d e. let p = places-type A t x d in let q = places-term b (under ws (w ∷ vs) s) y e in simp (p, q))
