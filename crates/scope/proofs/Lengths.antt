-- How many nodes a phrase has.
use Rattle.std.proofs.Common.{◌≡◌, ℕ, ◌+◌, List, [], ◌∷◌, ◌++◌, length, Option, refl, ap, ◌∙◌, length-append}
use Rattle.lexer.specs.Names.{number_of}
use Rattle.lexer.specs.declared.name.Name.{Name}
use Rattle.syntax.specs.Layout as read
use Rattle.syntax.specs.Named as named
use Rattle.syntax.specs.Named.{NamedType, NamedTerm, Binding}
use Rattle.syntax.specs.declared.node.Node.{Node}

length-one : (xs : List Node) (z : Node) (m : ℕ) → length xs ≡ m → length (xs ++ z ∷ []) ≡ m + 1
length-one xs z m p = length-append xs (z ∷ []) ∙ ap (λ i. i + 1) p

length-two : (xs ys : List Node) (z : Node) (m n : ℕ) → length xs ≡ m → length ys ≡ n → length (xs ++ ys ++ z ∷ []) ≡ m + n + 1
length-two xs ys z m n p q = length-append (xs ++ ys) (z ∷ []) ∙ ap (λ i. i + 1) (length-append xs ys ∙ ap (λ i. i + length ys) p ∙ ap (λ i. m + i) q)

pub length-type : (A : NamedType) (ws : List Name) (n : ℕ) → length (read.type_nodes ws n A) ≡ read.type_places A
length-type named.top ws n = refl
length-type (named.name byte w) ws n = go (number_of ws w)
  where
    go : (found : Option ℕ) → length (read.type_leaf found byte w (length ws) ∷ []) ≡ 1
    go found = refl
length-type (named.arrow A B) ws n = length-two (read.type_nodes ws n A) (read.type_nodes ws (n + read.type_places A) B) _ _ _ (length-type A ws n) (length-type B ws (n + read.type_places A))
length-type (named.all w A B) ws n = length-two (read.type_nodes ws n A) (read.type_nodes (w ∷ ws) (n + read.type_places A) B) _ _ _ (length-type A ws n) (length-type B (w ∷ ws) (n + read.type_places A))
length-type (named.all_unbounded w B) ws n = length-one (read.type_nodes (w ∷ ws) n B) _ _ (length-type B (w ∷ ws) n)
length-type (named.rec w B) ws n = length-one (read.type_nodes (w ∷ ws) n B) _ _ (length-type B (w ∷ ws) n)

pub length-term : (a : NamedTerm) (ws vs : List Name) (n : ℕ) → length (read.term_nodes ws vs n a) ≡ read.term_places a
length-term (named.top_term byte) ws vs n = refl
length-term (named.term_name byte w) ws vs n = go (number_of vs w)
  where
    go : (found : Option ℕ) → length (read.term_leaf found byte w (length vs) ∷ []) ≡ 1
    go found = refl
length-term (named.fun byte w A b) ws vs n = length-two (read.type_nodes ws n A) (read.term_nodes ws (w ∷ vs) (n + read.type_places A) b) _ _ _ (length-type A ws n) (length-term b ws (w ∷ vs) (n + read.type_places A))
length-term (named.appl byte b a) ws vs n = length-two (read.term_nodes ws vs n b) (read.term_nodes ws vs (n + read.term_places b) a) _ _ _ (length-term b ws vs n) (length-term a ws vs (n + read.term_places b))
length-term (named.fun2 byte w A b) ws vs n = length-two (read.type_nodes ws n A) (read.term_nodes (w ∷ ws) vs (n + read.type_places A) b) _ _ _ (length-type A ws n) (length-term b (w ∷ ws) vs (n + read.type_places A))
length-term (named.fun2_unbounded byte w b) ws vs n = length-one (read.term_nodes (w ∷ ws) vs n b) _ _ (length-term b (w ∷ ws) vs n)
length-term (named.appl2 byte b A) ws vs n = length-two (read.term_nodes ws vs n b) (read.type_nodes ws (n + read.term_places b) A) _ _ _ (length-term b ws vs n) (length-type A ws (n + read.term_places b))
length-term (named.fold_term byte A a) ws vs n = length-two (read.type_nodes ws n A) (read.term_nodes ws vs (n + read.type_places A) a) _ _ _ (length-type A ws n) (length-term a ws vs (n + read.type_places A))
length-term (named.unfold_term byte a) ws vs n = length-one (read.term_nodes ws vs n a) _ _ (length-term a ws vs n)
length-term (named.rec_term byte w A b) ws vs n = length-two (read.type_nodes ws n A) (read.term_nodes ws (w ∷ vs) (n + read.type_places A) b) _ _ _ (length-type A ws n) (length-term b ws (w ∷ vs) (n + read.type_places A))

length-binding : (b : Binding) (n : ℕ) → length (read.binding_nodes n b) ≡ read.binding_places b
length-binding (named.type_binding w A) n = length-one (read.type_nodes [] n A) _ _ (length-type A [] n)
length-binding (named.term_binding w A) n = length-one (read.type_nodes [] n A) _ _ (length-type A [] n)

pub length-env : (E : List Binding) (n : ℕ) → length (read.env_nodes n E) ≡ read.env_places E
length-env [] n = refl
length-env (b ∷ E) n =
    length-append (read.binding_nodes n b) (read.env_nodes (n + read.binding_places b) E)
    ∙ ap (λ i. i + length (read.env_nodes (n + read.binding_places b) E)) (length-binding b n)
    ∙ ap (λ i. read.binding_places b + i) (length-env E (n + read.binding_places b))
