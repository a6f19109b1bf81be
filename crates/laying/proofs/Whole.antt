-- The nodes of a whole tree, with the marks that they give themselves, come to its plan.
use Rattle.std.proofs.Common.{◌≡◌, ℕ, ◌+◌, ◌<◌, Bool, false, List, [], ◌++◌, refl, ap, sym, ◌∙◌}
use Rattle.judge.specs.Goals.{Goal, Placed, Plan}
use Rattle.judge.specs.Phrases.{type_laid, term_laid}
use Rattle.judge.specs.Seeking.{Limits, State, Outcome, run}
use Rattle.scope.specs.Scoped.{ScopedType, ScopedTerm}
use Rattle.scope.specs.ScopedLayout.{type_nodes, term_nodes}
use Rattle.laying.specs.Nodes.{opens, nodes_laid}
use Rattle.laying.specs.Trees.{judged_type, judged_term}
use Rattle.laying.proofs.Types.{shut, After_type, type_run}
use Rattle.laying.proofs.Terms.{After_term, term_run}
use Rattle.laying.proofs.Marked.{or_none, marks_type, marks_term}

module _ (l : Limits) (seeks : State → Goal → Outcome) (E : ℕ) (k : ℕ → List Placed → Plan) (s : State) where
  pub whole_type : (A : ScopedType ℕ) (k' : ℕ → Plan) → After_type l seeks (opens (type_nodes 0 A)) E 0 A [] [] k k' s
      → run l seeks (nodes_laid (opens (type_nodes 0 A)) E [] (type_nodes 0 A ++ []) k) s ≡ run l seeks (type_laid (judged_type A) k') s
  whole_type A k' h =
      let marked = opens (type_nodes 0 A) in
      type_run l seeks marked E A false 0 [] [] k k' s refl (marks_type marked A false 0 (sym (or_none (marked 0)), λ i x y. refl)) (shut l seeks marked s) h

  pub whole_term : (a : ScopedTerm ℕ) (k' : Placed → Plan) → After_term l seeks (opens (term_nodes 0 a)) E 0 a [] [] k k' s
      → run l seeks (nodes_laid (opens (term_nodes 0 a)) E [] (term_nodes 0 a ++ []) k) s ≡ run l seeks (term_laid (judged_term a) k') s
  whole_term a k' h =
      let marked = opens (term_nodes 0 a) in
      term_run l seeks marked E a false 0 [] [] k k' s refl (marks_term marked a false 0 (sym (or_none (marked 0)), λ i x y. refl)) (shut l seeks marked s) h
