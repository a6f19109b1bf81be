-- The terms of nodes in a list, parts before what they are parts of. A part that does not stand before is none, and none is the term top on line 0.
use Rattle.std.specs.Prelude.{ℕ, zero, suc, if◌then◌else◌, List, get_or, nat_lt}
use Rattle.judge.specs.Goals.{Placed, top_placed}
use Rattle.actions.specs.Terms.{placed}
use Rattle.actions.specs.declared.tree.Term.{Term}
use Rattle.actions.specs.declared.tree.Form.{Form}
use Rattle.actions.specs.declared.tree.Form.TheVariants.{Top, Var, Fun, Appl, Fun2, Appl2, Fold, Unfold, Rec}

abbrev pub no_term : Term
no_term = record { byte = 0; line = 0; form = Top }

-- going down so many times at most
abbrev pub node_within : ℕ → List Term → (n : ℕ) → Placed
node_within zero xs n = top_placed 0 0
node_within (suc most) xs n = placed (λ m. if nat_lt m n then node_within most xs m else top_placed 0 0) (get_or xs n no_term)

abbrev pub node_term : List Term → (n : ℕ) → Placed
node_term xs n = node_within (suc n) xs n

-- part m of node n, or the number past all nodes
abbrev pub part_of : (past n m : ℕ) → ℕ
part_of past n m = if nat_lt m n then m else past

abbrev pub with_parts : (past n : ℕ) → Form → Form
with_parts past n Top = Top
with_parts past n (Var k) = Var k
with_parts past n (Fun A b) = Fun A (part_of past n b)
with_parts past n (Appl b a) = Appl (part_of past n b) (part_of past n a)
with_parts past n (Fun2 A b) = Fun2 A (part_of past n b)
with_parts past n (Appl2 b A) = Appl2 (part_of past n b) A
with_parts past n (Fold A a) = Fold A (part_of past n a)
with_parts past n (Unfold a) = Unfold (part_of past n a)
with_parts past n (Rec A b) = Rec A (part_of past n b)
