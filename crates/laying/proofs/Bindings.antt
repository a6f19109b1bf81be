-- The nodes of bindings come to their plan.
use Rattle.std.proofs.Common.{◌≡◌, ℕ, ◌+◌, Bool, false, List, [], ◌∷◌, ◌++◌, length, refl, ap, ◌∙◌, arith}
use Rattle.std.specs.Prelude.{⊤}
use Rattle.std.proofs.lemmas.List.{append_assoc}
use Rattle.rules.specs.Statements.{Statement, env_line, with_term', with_type'}
use Rattle.judge.specs.Goals.{Goal, Placed, Plan, lay}
use Rattle.judge.specs.Phrases.{bindings_laid}
use Rattle.judge.specs.Seeking.{Limits, State, Outcome, run}
use Rattle.scope.specs.Scoped.{ScopedBinding, type_binding, term_binding}
use Rattle.scope.specs.ScopedLayout.{type_places, type_node, type_nodes, env_places, env_nodes}
use Rattle.syntax.specs.declared.node.Node.{Node}
use Rattle.syntax.specs.declared.node.Node.TheVariants.{TypeBinding, TermBinding}
use Rattle.laying.specs.Nodes.{on_line, node_line, opened, nodes_laid}
use Rattle.laying.specs.Trees.{judged_bindings}
use Rattle.laying.proofs.Standing.{Keeps, via, laid_same}
use Rattle.laying.proofs.Types.{First, Marks, first_added, one_longer, first_via, shut, open_run, type_run}

-- of the nodes of the bindings, numbered from n, those are marked before which an omitted bound stands
abbrev pub Marks_env : (ℕ → Bool) → ℕ → List (ScopedBinding ℕ) → Type 0
Marks_env marked n [] = ⊤
Marks_env marked n (type_binding w A ∷ bs) = Marks marked false n A × (marked (n + type_places A) ≡ false) × Marks_env marked (n + (type_places A + 1)) bs
Marks_env marked n (term_binding w A ∷ bs) = Marks marked false n A × (marked (n + type_places A) ≡ false) × Marks_env marked (n + (type_places A + 1)) bs

four : (xs : List Node) (z : Node) (ys rest : List Node) → ((xs ++ z ∷ []) ++ ys) ++ rest ≡ xs ++ (z ∷ ys ++ rest)
four xs z ys rest = append_assoc (xs ++ z ∷ []) ys rest ∙ append_assoc xs (z ∷ []) (ys ++ rest)

module _ (l : Limits) (seeks : State → Goal → Outcome) (marked : ℕ → Bool) where
  -- what is to hold behind the nodes, in the environment F
  abbrev pub After_env : (n : ℕ) → List (ScopedBinding ℕ) → List Placed → List Node → (ℕ → List Placed → Plan) → (ℕ → Plan) → State → Type 0
  After_env n bs ps rest k k' s =
      (F : ℕ) (qs : List Placed) (t : State) → First ps qs → length qs ≡ n + env_places bs → Keeps s t
      → run l seeks (nodes_laid marked F qs rest k) t ≡ run l seeks (k' F) t

  -- a binding's own line
  own_line : (n : ℕ) (qs : List Placed) (rest : List Node) (k : ℕ → List Placed → Plan) (u : Statement) (k' : ℕ → Plan) (s : State)
      → length qs ≡ n → marked n ≡ false
      → ((F : ℕ) (t : State) → Keeps s t → run l seeks (nodes_laid marked F (qs ++ on_line F ∷ []) rest k) t ≡ run l seeks (k' F) t)
      → run l seeks (opened (marked (length qs)) (lay u (λ F. nodes_laid marked F (qs ++ on_line F ∷ []) rest k))) s ≡ run l seeks (lay u k') s
  own_line n qs rest k u k' s len e h =
      open_run l seeks marked false (marked (length qs)) (lay u (λ F. nodes_laid marked F (qs ++ on_line F ∷ []) rest k)) s (ap marked len ∙ e) (shut l seeks marked s)
      ∙ laid_same l s u (λ m t. run l seeks (nodes_laid marked m (qs ++ on_line m ∷ []) rest k) t) (λ m t. run l seeks (k' m) t) (λ m t x y. h m t x)

  pub bindings_run : (bs : List (ScopedBinding ℕ)) (E n : ℕ) (ps : List Placed) (rest : List Node) (k : ℕ → List Placed → Plan) (k' : ℕ → Plan) (s : State)
      → length ps ≡ n → Marks_env marked n bs → After_env n bs ps rest k k' s
      → run l seeks (nodes_laid marked E ps (env_nodes n bs ++ rest) k) s ≡ run l seeks (bindings_laid (judged_bindings bs) E k') s
  bindings_run [] E n ps rest k k' s lp e h = h E ps s (λ i less. refl) (omega (arith, lp)) (λ m x. x)
  bindings_run (type_binding w A ∷ bs) E n ps rest k k' s lp (e, f, g) h =
      let X = TypeBinding w (type_node n A) in let m = n + (type_places A + 1) in
      ap (λ xs. run l seeks (nodes_laid marked E ps xs k) s) (four (type_nodes n A) X (env_nodes m bs) rest)
      ∙ type_run l seeks marked E A false n ps (X ∷ env_nodes m bs ++ rest) k (λ a. lay (env_line (with_type' E a)) (λ F. bindings_laid (judged_bindings bs) F k')) s lp e (shut l seeks marked s) (λ qs t a x lq y is.
      own_line (n + type_places A) qs (env_nodes m bs ++ rest) k (env_line (with_type' E (node_line qs (type_node n A)))) (λ F. bindings_laid (judged_bindings bs) F k') t lq f (λ F r q.
      bindings_run bs F m (qs ++ on_line F ∷ []) rest k k' r (omega (arith, one_longer qs (on_line F), lq)) g (λ G rs r' z lr w.
      h G rs r' (first_via ps qs rs (omega (arith, lp, lq)) x (first_via qs (qs ++ on_line F ∷ []) rs (omega (arith, one_longer qs (on_line F))) (first_added qs (on_line F)) z)) (omega (arith, lr)) (via s t r' y (via t r r' q w))))
      ∙ (λ i. run l seeks (lay (env_line (with_type' E (is i))) (λ F. bindings_laid (judged_bindings bs) F k')) t))
  bindings_run (term_binding w A ∷ bs) E n ps rest k k' s lp (e, f, g) h =
      let X = TermBinding w (type_node n A) in let m = n + (type_places A + 1) in
      ap (λ xs. run l seeks (nodes_laid marked E ps xs k) s) (four (type_nodes n A) X (env_nodes m bs) rest)
      ∙ type_run l seeks marked E A false n ps (X ∷ env_nodes m bs ++ rest) k (λ a. lay (env_line (with_term' E a)) (λ F. bindings_laid (judged_bindings bs) F k')) s lp e (shut l seeks marked s) (λ qs t a x lq y is.
      own_line (n + type_places A) qs (env_nodes m bs ++ rest) k (env_line (with_term' E (node_line qs (type_node n A)))) (λ F. bindings_laid (judged_bindings bs) F k') t lq f (λ F r q.
      bindings_run bs F m (qs ++ on_line F ∷ []) rest k k' r (omega (arith, one_longer qs (on_line F), lq)) g (λ G rs r' z lr w.
      h G rs r' (first_via ps qs rs (omega (arith, lp, lq)) x (first_via qs (qs ++ on_line F ∷ []) rs (omega (arith, one_longer qs (on_line F))) (first_added qs (on_line F)) z)) (omega (arith, lr)) (via s t r' y (via t r r' q w))))
      ∙ (λ i. run l seeks (lay (env_line (with_term' E (is i))) (λ F. bindings_laid (judged_bindings bs) F k')) t))
