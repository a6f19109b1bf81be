-- A type, a term or a binding has as many nodes as it takes places.
use Rattle.std.proofs.Common.{◌≡◌, ℕ, ◌+◌, List, [], ◌∷◌, ◌++◌, length, refl, ap, ap₂, ◌∙◌}
use Rattle.std.proofs.lemmas.List.{length-append}
use Rattle.lexer.specs.declared.name.Name.{Name}
use Rattle.syntax.specs.Layout.{type_places, term_places, binding_places, env_places, type_nodes, term_nodes, binding_nodes, env_nodes}
use Rattle.syntax.specs.Named.{NamedType, top, name, arrow, all, all_unbounded, rec, NamedTerm, top_term, term_name, fun, appl, fun2, fun2_unbounded, appl2, fold_term, unfold_term, rec_term, Binding, type_binding, term_binding}
use Rattle.syntax.specs.declared.node.Node.{Node}

pub length_one_part : (xs : List Node) (x : Node) (k : ℕ) → length xs ≡ k → length (xs ++ x ∷ []) ≡ k + 1
length_one_part xs x k h = length-append xs (x ∷ []) ∙ ap (λ n. n + 1) h

pub length_two_parts : (xs ys : List Node) (x : Node) (j k : ℕ) → length xs ≡ j → length ys ≡ k → length (xs ++ ys ++ x ∷ []) ≡ j + k + 1
length_two_parts xs ys x j k h i = length_one_part (xs ++ ys) x (j + k) (length-append xs ys ∙ ap₂ ◌+◌ h i)

pub type_length : (types : List Name) (n : ℕ) (A : NamedType) → length (type_nodes types n A) ≡ type_places A
type_length types n top = refl
type_length types n (name byte w) = refl
type_length types n (arrow A B) =
    length_two_parts (type_nodes types n A) (type_nodes types (n + type_places A) B) _ (type_places A) (type_places B) (type_length types n A) (type_length types (n + type_places A) B)
type_length types n (all w A B) =
    length_two_parts (type_nodes types n A) (type_nodes (w ∷ types) (n + type_places A) B) _ (type_places A) (type_places B) (type_length types n A) (type_length (w ∷ types) (n + type_places A) B)
type_length types n (all_unbounded w B) = length_one_part (type_nodes (w ∷ types) n B) _ (type_places B) (type_length (w ∷ types) n B)
type_length types n (rec w B) = length_one_part (type_nodes (w ∷ types) n B) _ (type_places B) (type_length (w ∷ types) n B)

pub term_length : (types terms : List Name) (n : ℕ) (a : NamedTerm) → length (term_nodes types terms n a) ≡ term_places a
term_length types terms n (top_term byte) = refl
term_length types terms n (term_name byte w) = refl
term_length types terms n (fun byte w A b) =
    length_two_parts (type_nodes types n A) (term_nodes types (w ∷ terms) (n + type_places A) b) _ (type_places A) (term_places b) (type_length types n A) (term_length types (w ∷ terms) (n + type_places A) b)
term_length types terms n (appl byte b a) =
    length_two_parts (term_nodes types terms n b) (term_nodes types terms (n + term_places b) a) _ (term_places b) (term_places a) (term_length types terms n b) (term_length types terms (n + term_places b) a)
term_length types terms n (fun2 byte w A b) =
    length_two_parts (type_nodes types n A) (term_nodes (w ∷ types) terms (n + type_places A) b) _ (type_places A) (term_places b) (type_length types n A) (term_length (w ∷ types) terms (n + type_places A) b)
term_length types terms n (fun2_unbounded byte w b) = length_one_part (term_nodes (w ∷ types) terms n b) _ (term_places b) (term_length (w ∷ types) terms n b)
term_length types terms n (appl2 byte b A) =
    length_two_parts (term_nodes types terms n b) (type_nodes types (n + term_places b) A) _ (term_places b) (type_places A) (term_length types terms n b) (type_length types (n + term_places b) A)
term_length types terms n (fold_term byte A a) =
    length_two_parts (type_nodes types n A) (term_nodes types terms (n + type_places A) a) _ (type_places A) (term_places a) (type_length types n A) (term_length types terms (n + type_places A) a)
term_length types terms n (unfold_term byte a) = length_one_part (term_nodes types terms n a) _ (term_places a) (term_length types terms n a)
term_length types terms n (rec_term byte w A b) =
    length_two_parts (type_nodes types n A) (term_nodes types (w ∷ terms) (n + type_places A) b) _ (type_places A) (term_places b) (type_length types n A) (term_length types (w ∷ terms) (n + type_places A) b)

pub binding_length : (n : ℕ) (b : Binding) → length (binding_nodes n b) ≡ binding_places b
binding_length n (type_binding w A) = length_one_part (type_nodes [] n A) _ (type_places A) (type_length [] n A)
binding_length n (term_binding w A) = length_one_part (type_nodes [] n A) _ (type_places A) (type_length [] n A)

pub env_length : (n : ℕ) (E : List Binding) → length (env_nodes n E) ≡ env_places E
env_length n [] = refl
env_length n (b ∷ bs) =
    length-append (binding_nodes n b) (env_nodes (n + binding_places b) bs) ∙ ap₂ ◌+◌ (binding_length n b) (env_length (n + binding_places b) bs)
