-- The nodes of a term, laid part by part.
use Rattle.std.proofs.Common.{◌≡◌, ℕ, ◌+◌, List, [], ◌∷◌, ◌++◌, length, ap, ap₂, ◌∙◌, subst}
use Rattle.std.proofs.lemmas.List.{length-append}
use Rattle.lexer.specs.declared.name.Name.{Name}
use Rattle.syntax.specs.Layout.{type_nodes, type_node, type_places, term_nodes, term_node, term_places}
use Rattle.syntax.specs.Named.{NamedType, NamedTerm, fun, appl, fun2, fun2_unbounded, appl2, fold_term, unfold_term, rec_term}
use Rattle.syntax.specs.declared.node.Node.{Node}
use Rattle.syntax.specs.declared.node.Node.TheVariants.{Fun, Appl, Fun2, Fun2Unbounded, Appl2, Fold, Unfold, RecTerm}
use Rattle.syntax.proofs.Lengths.{term_length}
use Rattle.parser.proofs.Nodes.{one_part, two_parts, node_number, laid_length}
use Rattle.parser.specs.Parsing.{LaidType, LaidTerm, GivenTerm}

module _ (types terms : List Name) where
  pub laid_term_length : (old new : List Node) (a : NamedTerm) (n : ℕ) → LaidTerm types terms old new a n → length new ≡ length old + term_places a
  laid_term_length old new a n h =
      ap length h.0 ∙ length-append old (term_nodes types terms (length old) a) ∙ ap (λ j. length old + j) (term_length types terms (length old) a)

  pub given_term_laid : (old new after : List Node) (a : NamedTerm) (x : Node) (n : ℕ) → GivenTerm types terms old new a x → after ≡ new ++ x ∷ []
      → n ≡ length new → LaidTerm types terms old after a n
  given_term_laid old new after a x n g h e =
      (h ∙ g, e ∙ node_number old (term_nodes types terms (length old) a) new x (term_places a) g (term_length types terms (length old) a))

  pub given_fun : (byte : ℕ) (w : Name) (old mid new : List Node) (A : NamedType) (b : NamedTerm) (domain body : ℕ) → LaidType types old mid A domain
      → LaidTerm types (w ∷ terms) mid new b body → GivenTerm types terms old new (fun byte w A b) (Fun byte domain body)
  given_fun byte w old mid new A b domain body h k =
      let m = laid_length types old mid A domain h in
      two_parts old (type_nodes types (length old) A) mid new (λ j. term_nodes types (w ∷ terms) j b) (length old + type_places A) _ _ h.0 m k.0
      (ap₂ (Fun byte) h.1 (k.1 ∙ ap (λ j. term_node j b) m))

  pub given_appl : (byte : ℕ) (front old new : List Node) (b a : NamedTerm) (function argument : ℕ) → LaidTerm types terms front old b function
      → LaidTerm types terms old new a argument → GivenTerm types terms front new (appl byte b a) (Appl byte function argument)
  given_appl byte front old new b a function argument h k =
      let m = laid_term_length front old b function h in
      two_parts front (term_nodes types terms (length front) b) old new (λ j. term_nodes types terms j a) (length front + term_places b) _ _ h.0 m k.0
      (ap₂ (Appl byte) h.1 (k.1 ∙ ap (λ j. term_node j a) m))

  pub given_fun2 : (byte : ℕ) (w : Name) (old mid new : List Node) (A : NamedType) (b : NamedTerm) (bound body : ℕ) → LaidType types old mid A bound
      → LaidTerm (w ∷ types) terms mid new b body → GivenTerm types terms old new (fun2 byte w A b) (Fun2 byte bound body)
  given_fun2 byte w old mid new A b bound body h k =
      let m = laid_length types old mid A bound h in
      two_parts old (type_nodes types (length old) A) mid new (λ j. term_nodes (w ∷ types) terms j b) (length old + type_places A) _ _ h.0 m k.0
      (ap₂ (Fun2 byte) h.1 (k.1 ∙ ap (λ j. term_node j b) m))

  pub given_fun2_unbounded : (byte : ℕ) (w : Name) (old new : List Node) (b : NamedTerm) (first body : ℕ) → first ≡ length old
      → LaidTerm (w ∷ types) terms old new b body → GivenTerm types terms old new (fun2_unbounded byte w b) (Fun2Unbounded byte first body)
  given_fun2_unbounded byte w old new b first body e k =
      one_part old new (term_nodes (w ∷ types) terms (length old) b) _ _ k.0 (ap₂ (Fun2Unbounded byte) e k.1)

  pub given_appl2 : (byte : ℕ) (front old new : List Node) (b : NamedTerm) (A : NamedType) (function argument : ℕ) → LaidTerm types terms front old b function
      → LaidType types old new A argument → GivenTerm types terms front new (appl2 byte b A) (Appl2 byte function argument)
  given_appl2 byte front old new b A function argument h k =
      let m = laid_term_length front old b function h in
      two_parts front (term_nodes types terms (length front) b) old new (λ j. type_nodes types j A) (length front + term_places b) _ _ h.0 m k.0
      (ap₂ (Appl2 byte) h.1 (k.1 ∙ ap (λ j. type_node j A) m))

  pub given_fold : (byte : ℕ) (old mid new : List Node) (A : NamedType) (a : NamedTerm) (to argument : ℕ) → LaidType types old mid A to
      → LaidTerm types terms mid new a argument → GivenTerm types terms old new (fold_term byte A a) (Fold byte to argument)
  given_fold byte old mid new A a to argument h k =
      let m = laid_length types old mid A to h in
      two_parts old (type_nodes types (length old) A) mid new (λ j. term_nodes types terms j a) (length old + type_places A) _ _ h.0 m k.0
      (ap₂ (Fold byte) h.1 (k.1 ∙ ap (λ j. term_node j a) m))

  pub given_unfold : (byte : ℕ) (old new : List Node) (a : NamedTerm) (argument : ℕ) → LaidTerm types terms old new a argument
      → GivenTerm types terms old new (unfold_term byte a) (Unfold byte argument)
  given_unfold byte old new a argument k = one_part old new (term_nodes types terms (length old) a) _ _ k.0 (ap (Unfold byte) k.1)

  pub given_rec : (byte : ℕ) (w : Name) (old mid new : List Node) (A : NamedType) (b : NamedTerm) (domain body : ℕ) → LaidType types old mid A domain
      → LaidTerm types (w ∷ terms) mid new b body → GivenTerm types terms old new (rec_term byte w A b) (RecTerm byte domain body)
  given_rec byte w old mid new A b domain body h k =
      let m = laid_length types old mid A domain h in
      two_parts old (type_nodes types (length old) A) mid new (λ j. term_nodes types (w ∷ terms) j b) (length old + type_places A) _ _ h.0 m k.0
      (ap₂ (RecTerm byte) h.1 (k.1 ∙ ap (λ j. term_node j b) m))

pub laid_term_at : (types types1 terms terms1 : List Name) (old before new : List Node) (a : NamedTerm) (n : ℕ) → types ≡ types1 → terms ≡ terms1 → old ≡ before
    → LaidTerm types terms old new a n → LaidTerm types1 terms1 before new a n
laid_term_at types types1 terms terms1 old before new a n e f i h =
    subst (λ y. LaidTerm y terms1 before new a n) e (subst (λ y. LaidTerm types y before new a n) f (subst (λ y. LaidTerm types terms y new a n) i h))
