-- A node's term is formed of the terms of its parts.
use Rattle.std.proofs.Common.{◌≡◌, ℕ, zero, suc, ◌<◌, ◌≤◌, Bool, true, false, cond, List, [], ◌∷◌, length, get_or, refl, ap, sym, ◌∙◌, arith}
use Rattle.std.specs.Prelude.{nat_lt}
use Rattle.std.proofs.lemmas.Bool.{ltb-true}
use mathlib.Core.Path.{fun_ext}
use Rattle.judge.specs.Goals.{Placed, top_placed, fun_placed, appl_placed, fun2_placed, appl2_placed, fold_placed, unfold_placed, rec_placed}
use Rattle.actions.specs.Terms.{placed, formed}
use Rattle.actions.specs.Nodes.{no_term, node_within, node_term, part_of, with_parts}
use Rattle.actions.specs.declared.tree.Term.{Term}
use Rattle.actions.specs.declared.tree.Form.{Form}
use Rattle.actions.specs.declared.tree.Form.TheVariants.{Top, Var, Fun, Appl, Fun2, Appl2, Fold, Unfold, Rec}

module _ (xs : List Term) where
  enough : (f g n : ℕ) → n < f → n < g → node_within f xs n ≡ node_within g xs n
  enough zero g n h k = absurd (let z : ⊥ = omega (arith, h) in z)
  enough (suc f) zero n h k = absurd (let z : ⊥ = omega (arith, k) in z)
  enough (suc f) (suc g) n h k =
      ap (λ p. placed p (get_or xs n no_term)) (fun_ext (λ m. go m (nat_lt m n) refl (λ i j. enough f g m i j)))
    where
      go : (m : ℕ) (b : Bool) → nat_lt m n ≡ b → (m < f → m < g → node_within f xs m ≡ node_within g xs m)
          → cond b (node_within f xs m) (top_placed 0 0) ≡ cond b (node_within g xs m) (top_placed 0 0)
      go m true e again = let less = ltb-true m n e in again (omega (arith, less, h)) (omega (arith, less, k))
      go m false e again = refl

  past_all : (ys : List Term) (n : ℕ) → length ys ≤ n → get_or ys n no_term ≡ no_term
  past_all [] n h = refl
  past_all (y ∷ ys) zero h = absurd (let z : ⊥ = omega (arith, h) in z)
  past_all (y ∷ ys) (suc n) h = past_all ys n (omega (arith, h))

  no_node : top_placed 0 0 ≡ node_term xs (length xs)
  no_node = sym (ap (placed (λ m. cond (nat_lt m (length xs)) (node_within (length xs) xs m) (top_placed 0 0))) (past_all xs (length xs) (omega arith)))

  -- part m of node n
  part : (n m : ℕ) → cond (nat_lt m n) (node_within n xs m) (top_placed 0 0) ≡ node_term xs (part_of (length xs) n m)
  part n m = go (nat_lt m n) refl
    where
      go : (b : Bool) → nat_lt m n ≡ b → cond b (node_within n xs m) (top_placed 0 0) ≡ node_term xs (cond b m (length xs))
      go true e = enough n (suc m) m (ltb-true m n e) (omega arith)
      go false e = no_node

  abbrev below : (n : ℕ) → ℕ → Placed
  below n m = cond (nat_lt m n) (node_within n xs m) (top_placed 0 0)

  forms : (n byte line : ℕ) (f : Form) → formed (below n) byte line f ≡ formed (node_term xs) byte line (with_parts (length xs) n f)
  forms n byte line Top = refl
  forms n byte line (Var k) = refl
  forms n byte line (Fun A b) = ap (λ t. fun_placed byte A t line) (part n b)
  forms n byte line (Appl b a) = λ i. appl_placed byte (part n b i) (part n a i) line
  forms n byte line (Fun2 A b) = ap (λ t. fun2_placed byte A t line) (part n b)
  forms n byte line (Appl2 b A) = ap (λ t. appl2_placed byte t A line) (part n b)
  forms n byte line (Fold A a) = ap (λ t. fold_placed byte A t line) (part n a)
  forms n byte line (Unfold a) = ap (λ t. unfold_placed byte t line) (part n a)
  forms n byte line (Rec A b) = ap (λ t. rec_placed byte A t line) (part n b)

  pub node_formed : (n : ℕ) (m : Term) (f : Form) → m ≡ get_or xs n no_term → f ≡ with_parts (length xs) n m.form
      → node_term xs n ≡ formed (node_term xs) m.byte m.line f
  node_formed n m f e is =
      ap (placed (below n)) (sym e) ∙ forms n m.byte m.line m.form ∙ ap (formed (node_term xs) m.byte m.line) (sym is)
