-- The lines of the nodes of a phrase, node by node.
use Rattle.std.specs.Prelude.{ℕ, Bool, true, false, ◌||◌, List, [], ◌∷◌, ◌++◌, length, get_or, ◌==◌}
use Rattle.rules.specs.Statements.{top', var', arrow', all', rec', top_term', var_term', fun', appl', fun2', appl2', fold_term', unfold_term', rec_term', with_term', with_type', type_line, term_line, env_line}
use Rattle.judge.specs.Goals.{Placed, top_placed, var_placed, fun_placed, appl_placed, fun2_placed, appl2_placed, fold_placed, unfold_placed, rec_placed, line_at, Plan, lay}
use Rattle.syntax.specs.declared.node.Node.{Node}
use Rattle.syntax.specs.declared.node.Node.TheVariants.{Top, TypeVar, TypeName, TypeLine, Arrow, All, AllUnbounded, RecType, TopTerm, TermVar, TermName, Fun, Appl, Fun2, Fun2Unbounded, Appl2, Fold, Unfold, RecTerm, TypeBinding, TermBinding}

-- A type's or a binding's node stands on a line and has no byte; no such node is asked for more than its line.
abbrev pub on_line : ℕ → Placed
on_line n = top_placed 0 n

-- what stands for node i, where ps stand for the nodes from 0
abbrev pub node_at : List Placed → ℕ → Placed
node_at ps i = get_or ps i (on_line 0)

abbrev pub node_line : List Placed → ℕ → ℕ
node_line ps i = line_at (node_at ps i)

-- Node x behind those for which ps stand, in the environment E: the environment behind it, and what stands for it. A name that is not
-- looked up puts nothing.
abbrev pub node_laid : (E : ℕ) → List Placed → Node → (ℕ → Placed → Plan) → Plan
node_laid E ps Top k = lay (type_line top') (λ n. k E (on_line n))
node_laid E ps (TypeVar i) k = lay (type_line (var' i)) (λ n. k E (on_line n))
node_laid E ps (TypeName byte name inside) k = k E (on_line 0)
node_laid E ps (TypeLine n) k = k E (on_line n)
node_laid E ps (Arrow A B) k = lay (type_line (arrow' (node_line ps A) (node_line ps B))) (λ n. k E (on_line n))
node_laid E ps (All A B) k = lay (type_line (all' (node_line ps A) (node_line ps B))) (λ n. k E (on_line n))
node_laid E ps (AllUnbounded first B) k = lay (type_line top') (λ a. lay (type_line (all' a (node_line ps B))) (λ n. k E (on_line n)))
node_laid E ps (RecType B) k = lay (type_line (rec' (node_line ps B))) (λ n. k E (on_line n))
node_laid E ps (TopTerm byte) k = lay (term_line top_term') (λ n. k E (top_placed byte n))
node_laid E ps (TermVar byte i) k = lay (term_line (var_term' i)) (λ n. k E (var_placed byte i n))
node_laid E ps (TermName byte name inside) k = k E (on_line 0)
node_laid E ps (Fun byte A b) k =
    lay (term_line (fun' (node_line ps A) (node_line ps b))) (λ n. k E (fun_placed byte (node_line ps A) (node_at ps b) n))
node_laid E ps (Appl byte b a) k =
    lay (term_line (appl' (node_line ps b) (node_line ps a))) (λ n. k E (appl_placed byte (node_at ps b) (node_at ps a) n))
node_laid E ps (Fun2 byte A b) k =
    lay (term_line (fun2' (node_line ps A) (node_line ps b))) (λ n. k E (fun2_placed byte (node_line ps A) (node_at ps b) n))
node_laid E ps (Fun2Unbounded byte first b) k =
    lay (type_line top') (λ m. lay (term_line (fun2' m (node_line ps b))) (λ n. k E (fun2_placed byte m (node_at ps b) n)))
node_laid E ps (Appl2 byte b A) k =
    lay (term_line (appl2' (node_line ps b) (node_line ps A))) (λ n. k E (appl2_placed byte (node_at ps b) (node_line ps A) n))
node_laid E ps (Fold byte A a) k =
    lay (term_line (fold_term' (node_line ps A) (node_line ps a))) (λ n. k E (fold_placed byte (node_line ps A) (node_at ps a) n))
node_laid E ps (Unfold byte a) k = lay (term_line (unfold_term' (node_line ps a))) (λ n. k E (unfold_placed byte (node_at ps a) n))
node_laid E ps (RecTerm byte A b) k =
    lay (term_line (rec_term' (node_line ps A) (node_line ps b))) (λ n. k E (rec_placed byte (node_line ps A) (node_at ps b) n))
node_laid E ps (TypeBinding name A) k = lay (env_line (with_type' E (node_line ps A))) (λ n. k n (on_line n))
node_laid E ps (TermBinding name A) k = lay (env_line (with_term' E (node_line ps A))) (λ n. k n (on_line n))

-- an omitted bound stands before node i
abbrev pub opens_at : Node → ℕ → Bool
opens_at (AllUnbounded first B) i = first == i
opens_at (Fun2Unbounded byte first b) i = first == i
opens_at other i = false

abbrev pub opens : List Node → ℕ → Bool
opens [] i = false
opens (x ∷ xs) i = opens_at x i || opens xs i

abbrev pub opened : Bool → Plan → Plan
opened true p = lay (type_line top') (λ n. p)
opened false p = p

-- The nodes xs behind those for which ps stand; an omitted bound stands before the nodes that are marked.
abbrev pub nodes_laid : (marked : ℕ → Bool) → (E : ℕ) → List Placed → List Node → (ℕ → List Placed → Plan) → Plan
nodes_laid marked E ps [] k = k E ps
nodes_laid marked E ps (x ∷ xs) k = opened (marked (length ps)) (node_laid E ps x (λ F p. nodes_laid marked F (ps ++ p ∷ []) xs k))
