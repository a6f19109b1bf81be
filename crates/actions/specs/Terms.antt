-- The term of a node, by the terms of the nodes that are its parts.
use Rattle.std.specs.Prelude.{ℕ}
use Rattle.judge.specs.Goals.{Placed, top_placed, var_placed, fun_placed, appl_placed, fun2_placed, appl2_placed, fold_placed, unfold_placed, rec_placed}
use Rattle.actions.specs.declared.tree.Term.{Term}
use Rattle.actions.specs.declared.tree.Form.{Form}
use Rattle.actions.specs.declared.tree.Form.TheVariants.{Top, Var, Fun, Appl, Fun2, Appl2, Fold, Unfold, Rec}

abbrev pub formed : (ℕ → Placed) → (byte line : ℕ) → Form → Placed
formed t byte n Top = top_placed byte n
formed t byte n (Var k) = var_placed byte k n
formed t byte n (Fun A b) = fun_placed byte A (t b) n
formed t byte n (Appl b a) = appl_placed byte (t b) (t a) n
formed t byte n (Fun2 A b) = fun2_placed byte A (t b) n
formed t byte n (Appl2 b A) = appl2_placed byte (t b) A n
formed t byte n (Fold A a) = fold_placed byte A (t a) n
formed t byte n (Unfold a) = unfold_placed byte (t a) n
formed t byte n (Rec A b) = rec_placed byte A (t b) n

abbrev pub placed : (ℕ → Placed) → Term → Placed
placed t m = formed t m.byte m.line m.form
