-- The nodes of a type, laid part by part.
use Rattle.std.proofs.Common.{◌≡◌, ℕ, pred, ◌+◌, List, [], ◌∷◌, ◌++◌, length, ap, ap₂, ◌∙◌, sym, subst, append_assoc, add-one}
use Rattle.std.proofs.lemmas.List.{length-append}
use Rattle.lexer.specs.declared.name.Name.{Name}
use Rattle.syntax.specs.Layout.{type_places, type_node, type_nodes}
use Rattle.syntax.specs.Named.{NamedType, arrow, all, all_unbounded, rec}
use Rattle.syntax.specs.declared.node.Node.{Node}
use Rattle.syntax.specs.declared.node.Node.TheVariants.{Arrow, All, AllUnbounded, RecType}
use Rattle.syntax.proofs.Lengths.{type_length}
use Rattle.parser.specs.Parsing.{LaidType, GivenType}

pub one_part : (old new ns : List Node) (x y : Node) → new ≡ old ++ ns → x ≡ y → new ++ x ∷ [] ≡ old ++ (ns ++ y ∷ [])
one_part old new ns x y h e = ap₂ (λ a b. a ++ b ∷ []) h e ∙ append_assoc old ns (y ∷ [])

pub two_parts : (front ns old new : List Node) (more : ℕ → List Node) (m : ℕ) (x y : Node) → old ≡ front ++ ns → length old ≡ m
    → new ≡ old ++ more (length old) → x ≡ y → new ++ x ∷ [] ≡ front ++ (ns ++ more m ++ y ∷ [])
two_parts front ns old new more m x y h l k e =
    ap₂ (λ a b. a ++ b ∷ []) (k ∙ ap₂ (λ a j. a ++ more j) h l ∙ append_assoc front ns (more m)) e ∙ append_assoc front (ns ++ more m) (y ∷ [])

-- its number is that of the next place
pub node_number : (old ns new : List Node) (x : Node) (k : ℕ) → new ++ x ∷ [] ≡ old ++ ns → length ns ≡ k → length new ≡ pred (length old + k)
node_number old ns new x k h l =
    ap pred (sym (add-one (length new)) ∙ sym (length-append new (x ∷ [])) ∙ ap length h ∙ length-append old ns ∙ ap (λ j. length old + j) l)

pub laid_at : (types binders : List Name) (old before new : List Node) (A : NamedType) (n : ℕ) → types ≡ binders → old ≡ before → LaidType types old new A n
    → LaidType binders before new A n
laid_at types binders old before new A n e i h =
    subst (λ y. LaidType y before new A n) e (subst (λ y. LaidType types y new A n) i h)

module _ (types : List Name) where
  pub laid_length : (old new : List Node) (A : NamedType) (n : ℕ) → LaidType types old new A n → length new ≡ length old + type_places A
  laid_length old new A n h =
      ap length h.0 ∙ length-append old (type_nodes types (length old) A) ∙ ap (λ j. length old + j) (type_length types (length old) A)

  pub given_laid : (old new after : List Node) (A : NamedType) (x : Node) (n : ℕ) → GivenType types old new A x → after ≡ new ++ x ∷ [] → n ≡ length new
      → LaidType types old after A n
  given_laid old new after A x n g h e =
      (h ∙ g, e ∙ node_number old (type_nodes types (length old) A) new x (type_places A) g (type_length types (length old) A))

  pub given_arrow : (front old new : List Node) (A B : NamedType) (left right : ℕ) → LaidType types front old A left → LaidType types old new B right
      → GivenType types front new (arrow A B) (Arrow left right)
  given_arrow front old new A B left right a b =
      let m = laid_length front old A left a in
      two_parts front (type_nodes types (length front) A) old new (λ k. type_nodes types k B) (length front + type_places A) _ _ a.0 m b.0
      (ap₂ Arrow a.1 (b.1 ∙ ap (λ k. type_node k B) m))

  pub given_all : (w : Name) (old mid new : List Node) (A B : NamedType) (bound body : ℕ) → LaidType types old mid A bound → LaidType (w ∷ types) mid new B body
      → GivenType types old new (all w A B) (All bound body)
  given_all w old mid new A B bound body a b =
      let m = laid_length old mid A bound a in
      two_parts old (type_nodes types (length old) A) mid new (λ k. type_nodes (w ∷ types) k B) (length old + type_places A) _ _ a.0 m b.0
      (ap₂ All a.1 (b.1 ∙ ap (λ k. type_node k B) m))

  pub given_all_unbounded : (w : Name) (old new : List Node) (B : NamedType) (first body : ℕ) → first ≡ length old → LaidType (w ∷ types) old new B body
      → GivenType types old new (all_unbounded w B) (AllUnbounded first body)
  given_all_unbounded w old new B first body e b = one_part old new (type_nodes (w ∷ types) (length old) B) _ _ b.0 (ap₂ AllUnbounded e b.1)

  pub given_rec : (w : Name) (old new : List Node) (B : NamedType) (body : ℕ) → LaidType (w ∷ types) old new B body
      → GivenType types old new (rec w B) (RecType body)
  given_rec w old new B body b = one_part old new (type_nodes (w ∷ types) (length old) B) _ _ b.0 (ap RecType b.1)
