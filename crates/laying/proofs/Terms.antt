-- The nodes of a term come to its plan.
use Rattle.std.proofs.Common.{◌≡◌, ℕ, pred, ◌+◌, ◌<◌, ◌≤◌, Bool, true, false, List, [], ◌∷◌, ◌++◌, length, refl, ap, sym, ◌∙◌, arith, subst}
use Rattle.std.proofs.lemmas.List.{append_assoc}
use Rattle.rules.specs.Statements.{type_line, term_line, top', top_term', var_term', fun', appl', fun2', appl2', fold_term', unfold_term', rec_term'}
use Rattle.judge.specs.Goals.{Goal, Placed, top_placed, var_placed, fun_placed, appl_placed, fun2_placed, appl2_placed, fold_placed, unfold_placed, rec_placed, line_at, Plan, lay}
use Rattle.judge.specs.Phrases.{type_laid, term_laid}
use Rattle.judge.specs.Seeking.{Limits, State, Outcome, run}
use Rattle.scope.specs.Scoped.{ScopedTerm, top_term, term_var, fun, appl, fun2, fun2_unbounded, appl2, fold_term, unfold_term, rec_term}
use Rattle.scope.specs.ScopedLayout.{type_places, type_node, type_nodes, term_places, term_node, term_nodes}
use Rattle.syntax.specs.declared.node.Node.{Node}
use Rattle.syntax.specs.declared.node.Node.TheVariants.{Fun, Appl, Fun2, Fun2Unbounded, Appl2, Fold, Unfold, RecTerm}
use Rattle.laying.specs.Nodes.{node_at, node_line, nodes_laid}
use Rattle.laying.specs.Trees.{judged_type, judged_term}
use Rattle.laying.proofs.Standing.{Keeps, via, laid_same}
use Rattle.laying.proofs.Types.{First, Marks, some_type, added, first_added, one_longer, three, before, pred_less, type_inside, first_via, Open, shut, one_line, two_lines, open_first, type_run}

-- of the nodes of a, numbered from n, those are marked before which an omitted bound stands; the first is, if so is b
abbrev pub Marks_term : (ℕ → Bool) → Bool → ℕ → ScopedTerm ℕ → Type 0
Marks_term marked b n (top_term byte) = marked n ≡ b
Marks_term marked b n (term_var byte v) = marked n ≡ b
Marks_term marked b n (fun byte A a) =
    Marks marked b n A × Marks_term marked false (n + type_places A) a × (marked (n + type_places A + term_places a) ≡ false)
Marks_term marked b n (appl byte c a) =
    Marks_term marked b n c × Marks_term marked false (n + term_places c) a × (marked (n + term_places c + term_places a) ≡ false)
Marks_term marked b n (fun2 byte A a) =
    Marks marked b n A × Marks_term marked false (n + type_places A) a × (marked (n + type_places A + term_places a) ≡ false)
Marks_term marked b n (fun2_unbounded byte a) = (marked n ≡ true) × Marks_term marked true n a × (marked (n + term_places a) ≡ false)
Marks_term marked b n (appl2 byte c A) =
    Marks_term marked b n c × Marks marked false (n + term_places c) A × (marked (n + term_places c + type_places A) ≡ false)
Marks_term marked b n (fold_term byte A a) =
    Marks marked b n A × Marks_term marked false (n + type_places A) a × (marked (n + type_places A + term_places a) ≡ false)
Marks_term marked b n (unfold_term byte a) = Marks_term marked b n a × (marked (n + term_places a) ≡ false)
Marks_term marked b n (rec_term byte A a) =
    Marks marked b n A × Marks_term marked false (n + type_places A) a × (marked (n + type_places A + term_places a) ≡ false)

pub some_term : (n : ℕ) (a : ScopedTerm ℕ) → (x : Node) × (xs : List Node) × (term_nodes n a ≡ x ∷ xs)
some_term n (top_term byte) = (_, _, refl)
some_term n (term_var byte v) = (_, _, refl)
some_term n (fun byte A a) = let (x, xs, e) = some_type n A in (x, _, ap (λ ys. ys ++ term_nodes (n + type_places A) a ++ Fun byte (type_node n A) (term_node (n + type_places A) a) ∷ []) e)
some_term n (appl byte c a) = let (x, xs, e) = some_term n c in (x, _, ap (λ ys. ys ++ term_nodes (n + term_places c) a ++ Appl byte (term_node n c) (term_node (n + term_places c) a) ∷ []) e)
some_term n (fun2 byte A a) = let (x, xs, e) = some_type n A in (x, _, ap (λ ys. ys ++ term_nodes (n + type_places A) a ++ Fun2 byte (type_node n A) (term_node (n + type_places A) a) ∷ []) e)
some_term n (fun2_unbounded byte a) = let (x, xs, e) = some_term n a in (x, _, ap (λ ys. ys ++ Fun2Unbounded byte n (term_node n a) ∷ []) e)
some_term n (appl2 byte c A) = let (x, xs, e) = some_term n c in (x, _, ap (λ ys. ys ++ type_nodes (n + term_places c) A ++ Appl2 byte (term_node n c) (type_node (n + term_places c) A) ∷ []) e)
some_term n (fold_term byte A a) = let (x, xs, e) = some_type n A in (x, _, ap (λ ys. ys ++ term_nodes (n + type_places A) a ++ Fold byte (type_node n A) (term_node (n + type_places A) a) ∷ []) e)
some_term n (unfold_term byte a) = let (x, xs, e) = some_term n a in (x, _, ap (λ ys. ys ++ Unfold byte (term_node n a) ∷ []) e)
some_term n (rec_term byte A a) = let (x, xs, e) = some_type n A in (x, _, ap (λ ys. ys ++ term_nodes (n + type_places A) a ++ RecTerm byte (type_node n A) (term_node (n + type_places A) a) ∷ []) e)

pub term_some : (a : ScopedTerm ℕ) → 1 ≤ term_places a
term_some (top_term byte) = omega arith
term_some (term_var byte v) = omega arith
term_some (fun byte A a) = omega arith
term_some (appl byte c a) = omega arith
term_some (fun2 byte A a) = omega arith
term_some (fun2_unbounded byte a) = omega arith
term_some (appl2 byte c A) = omega arith
term_some (fold_term byte A a) = omega arith
term_some (unfold_term byte a) = omega arith
term_some (rec_term byte A a) = omega arith

pub term_inside : (n : ℕ) (a : ScopedTerm ℕ) → term_node n a < n + term_places a
term_inside n a = pred_less (n + term_places a) (omega (arith, term_some a))

module _ (l : Limits) (seeks : State → Goal → Outcome) (marked : ℕ → Bool) (E : ℕ) where
  -- what is to hold behind the nodes of a, of what stands for it
  abbrev pub After_term : (n : ℕ) → ScopedTerm ℕ → List Placed → List Node → (ℕ → List Placed → Plan) → (Placed → Plan) → State → Type 0
  After_term n a ps rest k k' s =
      (qs : List Placed) (t : State) (w : Placed) → First ps qs → length qs ≡ n + term_places a → Keeps s t → node_at qs (term_node n a) ≡ w
      → run l seeks (nodes_laid marked E qs rest k) t ≡ run l seeks (k' w) t

  last : (n places : ℕ) (ps qs : List Placed) (rest : List Node) (k : ℕ → List Placed → Plan) (k' : Placed → Plan) (s t r : State) (w : Placed)
      → length ps ≡ n → length qs ≡ n + places → First ps qs → Keeps s t → Keeps t r
      → ((qs : List Placed) (t : State) (w : Placed) → First ps qs → length qs ≡ n + (places + 1) → Keeps s t → node_at qs (pred (n + (places + 1))) ≡ w
      → run l seeks (nodes_laid marked E qs rest k) t ≡ run l seeks (k' w) t)
      → run l seeks (nodes_laid marked E (qs ++ w ∷ []) rest k) r ≡ run l seeks (k' w) r
  last n places ps qs rest k k' s t r w lp lq f o q h =
      h (qs ++ w ∷ []) r w (first_via ps qs (qs ++ w ∷ []) (omega (arith, lp, lq)) f (first_added qs w)) (omega (arith, one_longer qs w, lq)) (via s t r o q)
      (ap (node_at (qs ++ w ∷ [])) (before (n + (places + 1)) (length qs) (omega (arith, lq))) ∙ added qs w)

  pub term_run : (a : ScopedTerm ℕ) (b : Bool) (n : ℕ) (ps : List Placed) (rest : List Node) (k : ℕ → List Placed → Plan) (k' : Placed → Plan) (s : State)
      → length ps ≡ n → Marks_term marked b n a → Open l seeks marked b s → After_term n a ps rest k k' s
      → run l seeks (nodes_laid marked E ps (term_nodes n a ++ rest) k) s ≡ run l seeks (term_laid (judged_term a) k') s
  term_run (top_term byte) b n ps rest k k' s lp e o h =
      one_line l seeks marked E b n ps rest k (term_line top_term') (λ m. top_placed byte m) (λ m. k' (top_placed byte m)) s lp e o (λ m t q. last n 0 ps ps rest k k' s s t (top_placed byte m) lp (omega (arith, lp)) (λ i less. refl) (λ m x. x) q h)
  term_run (term_var byte v) b n ps rest k k' s lp e o h =
      one_line l seeks marked E b n ps rest k (term_line (var_term' v)) (λ m. var_placed byte v m) (λ m. k' (var_placed byte v m)) s lp e o (λ m t q. last n 0 ps ps rest k k' s s t (var_placed byte v m) lp (omega (arith, lp)) (λ i less. refl) (λ m x. x) q h)
  term_run (fun byte A a) b n ps rest k k' s lp (e, f, g) o h =
      let m = n + type_places A in let X = Fun byte (type_node n A) (term_node m a) in
      ap (λ xs. run l seeks (nodes_laid marked E ps xs k) s) (three (type_nodes n A) (term_nodes m a) X rest)
      ∙ type_run l seeks marked E A b n ps (term_nodes m a ++ X ∷ rest) k (λ d₁. term_laid (judged_term a) (λ d₂. lay (term_line (fun' d₁ (line_at d₂))) (λ d. k' (fun_placed byte d₁ d₂ d)))) s lp e o (λ qs t d₁ x lq y is.
      term_run a false m qs (X ∷ rest) k (λ d₂. lay (term_line (fun' d₁ (line_at d₂))) (λ d. k' (fun_placed byte d₁ d₂ d))) t lq f (shut l seeks marked t) (λ rs r d₂ z lr w it.
      one_line l seeks marked E false (m + term_places a) rs rest k (term_line (fun' (node_line rs (type_node n A)) (line_at (node_at rs (term_node m a))))) (λ d. (fun_placed byte (node_line rs (type_node n A)) (node_at rs (term_node m a)) d)) (λ d. k' (fun_placed byte (node_line rs (type_node n A)) (node_at rs (term_node m a)) d)) r lr g (shut l seeks marked r) (λ d r' q.
      last n (type_places A + term_places a) ps rs rest k k' s r r' (fun_placed byte (node_line rs (type_node n A)) (node_at rs (term_node m a)) d) lp (omega (arith, lr)) (first_via ps qs rs (omega (arith, lp, lq)) x z) (via s t r y w) q h)
      ∙ (λ i. run l seeks (lay (term_line (fun' ((ap line_at (z (type_node n A) (subst (λ len. type_node n A < len) (sym lq) (type_inside n A))) ∙ is) i) (line_at (it i)))) (λ d. k' (fun_placed byte ((ap line_at (z (type_node n A) (subst (λ len. type_node n A < len) (sym lq) (type_inside n A))) ∙ is) i) (it i) d))) r)))
  term_run (appl byte c a) b n ps rest k k' s lp (e, f, g) o h =
      let m = n + term_places c in let X = Appl byte (term_node n c) (term_node m a) in
      ap (λ xs. run l seeks (nodes_laid marked E ps xs k) s) (three (term_nodes n c) (term_nodes m a) X rest)
      ∙ term_run c b n ps (term_nodes m a ++ X ∷ rest) k (λ d₁. term_laid (judged_term a) (λ d₂. lay (term_line (appl' (line_at d₁) (line_at d₂))) (λ d. k' (appl_placed byte d₁ d₂ d)))) s lp e o (λ qs t d₁ x lq y is.
      term_run a false m qs (X ∷ rest) k (λ d₂. lay (term_line (appl' (line_at d₁) (line_at d₂))) (λ d. k' (appl_placed byte d₁ d₂ d))) t lq f (shut l seeks marked t) (λ rs r d₂ z lr w it.
      one_line l seeks marked E false (m + term_places a) rs rest k (term_line (appl' (line_at (node_at rs (term_node n c))) (line_at (node_at rs (term_node m a))))) (λ d. (appl_placed byte (node_at rs (term_node n c)) (node_at rs (term_node m a)) d)) (λ d. k' (appl_placed byte (node_at rs (term_node n c)) (node_at rs (term_node m a)) d)) r lr g (shut l seeks marked r) (λ d r' q.
      last n (term_places c + term_places a) ps rs rest k k' s r r' (appl_placed byte (node_at rs (term_node n c)) (node_at rs (term_node m a)) d) lp (omega (arith, lr)) (first_via ps qs rs (omega (arith, lp, lq)) x z) (via s t r y w) q h)
      ∙ (λ i. run l seeks (lay (term_line (appl' (line_at (((z (term_node n c) (subst (λ len. term_node n c < len) (sym lq) (term_inside n c))) ∙ is) i)) (line_at (it i)))) (λ d. k' (appl_placed byte (((z (term_node n c) (subst (λ len. term_node n c < len) (sym lq) (term_inside n c))) ∙ is) i) (it i) d))) r)))
  term_run (fun2 byte A a) b n ps rest k k' s lp (e, f, g) o h =
      let m = n + type_places A in let X = Fun2 byte (type_node n A) (term_node m a) in
      ap (λ xs. run l seeks (nodes_laid marked E ps xs k) s) (three (type_nodes n A) (term_nodes m a) X rest)
      ∙ type_run l seeks marked E A b n ps (term_nodes m a ++ X ∷ rest) k (λ d₁. term_laid (judged_term a) (λ d₂. lay (term_line (fun2' d₁ (line_at d₂))) (λ d. k' (fun2_placed byte d₁ d₂ d)))) s lp e o (λ qs t d₁ x lq y is.
      term_run a false m qs (X ∷ rest) k (λ d₂. lay (term_line (fun2' d₁ (line_at d₂))) (λ d. k' (fun2_placed byte d₁ d₂ d))) t lq f (shut l seeks marked t) (λ rs r d₂ z lr w it.
      one_line l seeks marked E false (m + term_places a) rs rest k (term_line (fun2' (node_line rs (type_node n A)) (line_at (node_at rs (term_node m a))))) (λ d. (fun2_placed byte (node_line rs (type_node n A)) (node_at rs (term_node m a)) d)) (λ d. k' (fun2_placed byte (node_line rs (type_node n A)) (node_at rs (term_node m a)) d)) r lr g (shut l seeks marked r) (λ d r' q.
      last n (type_places A + term_places a) ps rs rest k k' s r r' (fun2_placed byte (node_line rs (type_node n A)) (node_at rs (term_node m a)) d) lp (omega (arith, lr)) (first_via ps qs rs (omega (arith, lp, lq)) x z) (via s t r y w) q h)
      ∙ (λ i. run l seeks (lay (term_line (fun2' ((ap line_at (z (type_node n A) (subst (λ len. type_node n A < len) (sym lq) (type_inside n A))) ∙ is) i) (line_at (it i)))) (λ d. k' (fun2_placed byte ((ap line_at (z (type_node n A) (subst (λ len. type_node n A < len) (sym lq) (type_inside n A))) ∙ is) i) (it i) d))) r)))
  term_run (fun2_unbounded byte c) b n ps rest k k' s lp (e, f, g) o h =
      let X = Fun2Unbounded byte n (term_node n c) in
      let (x, xs, is) = some_term n c in
      ap (λ xs. run l seeks (nodes_laid marked E ps xs k) s) (append_assoc (term_nodes n c) (X ∷ []) rest)
      ∙ open_first l seeks marked E ps (term_nodes n c ++ X ∷ rest) x (xs ++ X ∷ rest) k s (ap (λ ys. ys ++ X ∷ rest) is) (ap marked lp ∙ e)
      ∙ laid_same l s (type_line top') (λ a t. run l seeks (nodes_laid marked E ps (term_nodes n c ++ X ∷ rest) k) t) (λ a t. run l seeks (term_laid (judged_term c) (λ u. lay (term_line (fun2' a (line_at u))) (λ d. k' (fun2_placed byte a u d)))) t) (λ a t y st.
      term_run c true n ps (X ∷ rest) k (λ u. lay (term_line (fun2' a (line_at u))) (λ d. k' (fun2_placed byte a u d))) t lp f (λ z. (a, st)) (λ rs r u z lr w it.
      two_lines l seeks marked E (n + term_places c) rs rest k (λ a. term_line (fun2' a (line_at (node_at rs (term_node n c))))) (λ a d. fun2_placed byte a (node_at rs (term_node n c)) d) a (λ d. k' (fun2_placed byte a (node_at rs (term_node n c)) d)) r lr g (w a st) (λ d r' q.
      last n (term_places c) ps rs rest k k' s r r' (fun2_placed byte a (node_at rs (term_node n c)) d) lp lr z (via s t r y w) q h)
      ∙ (λ i. run l seeks (lay (term_line (fun2' a (line_at (it i)))) (λ d. k' (fun2_placed byte a (it i) d))) r)))
  term_run (appl2 byte c A) b n ps rest k k' s lp (e, f, g) o h =
      let m = n + term_places c in let X = Appl2 byte (term_node n c) (type_node m A) in
      ap (λ xs. run l seeks (nodes_laid marked E ps xs k) s) (three (term_nodes n c) (type_nodes m A) X rest)
      ∙ term_run c b n ps (type_nodes m A ++ X ∷ rest) k (λ d₁. type_laid (judged_type A) (λ d₂. lay (term_line (appl2' (line_at d₁) d₂)) (λ d. k' (appl2_placed byte d₁ d₂ d)))) s lp e o (λ qs t d₁ x lq y is.
      type_run l seeks marked E A false m qs (X ∷ rest) k (λ d₂. lay (term_line (appl2' (line_at d₁) d₂)) (λ d. k' (appl2_placed byte d₁ d₂ d))) t lq f (shut l seeks marked t) (λ rs r d₂ z lr w it.
      one_line l seeks marked E false (m + type_places A) rs rest k (term_line (appl2' (line_at (node_at rs (term_node n c))) (node_line rs (type_node m A)))) (λ d. (appl2_placed byte (node_at rs (term_node n c)) (node_line rs (type_node m A)) d)) (λ d. k' (appl2_placed byte (node_at rs (term_node n c)) (node_line rs (type_node m A)) d)) r lr g (shut l seeks marked r) (λ d r' q.
      last n (term_places c + type_places A) ps rs rest k k' s r r' (appl2_placed byte (node_at rs (term_node n c)) (node_line rs (type_node m A)) d) lp (omega (arith, lr)) (first_via ps qs rs (omega (arith, lp, lq)) x z) (via s t r y w) q h)
      ∙ (λ i. run l seeks (lay (term_line (appl2' (line_at (((z (term_node n c) (subst (λ len. term_node n c < len) (sym lq) (term_inside n c))) ∙ is) i)) (it i))) (λ d. k' (appl2_placed byte (((z (term_node n c) (subst (λ len. term_node n c < len) (sym lq) (term_inside n c))) ∙ is) i) (it i) d))) r)))
  term_run (fold_term byte A a) b n ps rest k k' s lp (e, f, g) o h =
      let m = n + type_places A in let X = Fold byte (type_node n A) (term_node m a) in
      ap (λ xs. run l seeks (nodes_laid marked E ps xs k) s) (three (type_nodes n A) (term_nodes m a) X rest)
      ∙ type_run l seeks marked E A b n ps (term_nodes m a ++ X ∷ rest) k (λ d₁. term_laid (judged_term a) (λ d₂. lay (term_line (fold_term' d₁ (line_at d₂))) (λ d. k' (fold_placed byte d₁ d₂ d)))) s lp e o (λ qs t d₁ x lq y is.
      term_run a false m qs (X ∷ rest) k (λ d₂. lay (term_line (fold_term' d₁ (line_at d₂))) (λ d. k' (fold_placed byte d₁ d₂ d))) t lq f (shut l seeks marked t) (λ rs r d₂ z lr w it.
      one_line l seeks marked E false (m + term_places a) rs rest k (term_line (fold_term' (node_line rs (type_node n A)) (line_at (node_at rs (term_node m a))))) (λ d. (fold_placed byte (node_line rs (type_node n A)) (node_at rs (term_node m a)) d)) (λ d. k' (fold_placed byte (node_line rs (type_node n A)) (node_at rs (term_node m a)) d)) r lr g (shut l seeks marked r) (λ d r' q.
      last n (type_places A + term_places a) ps rs rest k k' s r r' (fold_placed byte (node_line rs (type_node n A)) (node_at rs (term_node m a)) d) lp (omega (arith, lr)) (first_via ps qs rs (omega (arith, lp, lq)) x z) (via s t r y w) q h)
      ∙ (λ i. run l seeks (lay (term_line (fold_term' ((ap line_at (z (type_node n A) (subst (λ len. type_node n A < len) (sym lq) (type_inside n A))) ∙ is) i) (line_at (it i)))) (λ d. k' (fold_placed byte ((ap line_at (z (type_node n A) (subst (λ len. type_node n A < len) (sym lq) (type_inside n A))) ∙ is) i) (it i) d))) r)))
  term_run (unfold_term byte c) b n ps rest k k' s lp (f, g) o h =
      let X = Unfold byte (term_node n c) in
      ap (λ xs. run l seeks (nodes_laid marked E ps xs k) s) (append_assoc (term_nodes n c) (X ∷ []) rest)
      ∙ term_run c b n ps (X ∷ rest) k (λ u. lay (term_line (unfold_term' (line_at u))) (λ d. k' (unfold_placed byte u d))) s lp f o (λ rs r u x lr y it.
      one_line l seeks marked E false (n + term_places c) rs rest k (term_line (unfold_term' (line_at (node_at rs (term_node n c))))) (λ d. unfold_placed byte (node_at rs (term_node n c)) d) (λ d. k' (unfold_placed byte (node_at rs (term_node n c)) d)) r lr g (shut l seeks marked r) (λ d r' q.
      last n (term_places c) ps rs rest k k' s r r' (unfold_placed byte (node_at rs (term_node n c)) d) lp lr x y q h)
      ∙ (λ i. run l seeks (lay (term_line (unfold_term' (line_at (it i)))) (λ d. k' (unfold_placed byte (it i) d))) r))
  term_run (rec_term byte A a) b n ps rest k k' s lp (e, f, g) o h =
      let m = n + type_places A in let X = RecTerm byte (type_node n A) (term_node m a) in
      ap (λ xs. run l seeks (nodes_laid marked E ps xs k) s) (three (type_nodes n A) (term_nodes m a) X rest)
      ∙ type_run l seeks marked E A b n ps (term_nodes m a ++ X ∷ rest) k (λ d₁. term_laid (judged_term a) (λ d₂. lay (term_line (rec_term' d₁ (line_at d₂))) (λ d. k' (rec_placed byte d₁ d₂ d)))) s lp e o (λ qs t d₁ x lq y is.
      term_run a false m qs (X ∷ rest) k (λ d₂. lay (term_line (rec_term' d₁ (line_at d₂))) (λ d. k' (rec_placed byte d₁ d₂ d))) t lq f (shut l seeks marked t) (λ rs r d₂ z lr w it.
      one_line l seeks marked E false (m + term_places a) rs rest k (term_line (rec_term' (node_line rs (type_node n A)) (line_at (node_at rs (term_node m a))))) (λ d. (rec_placed byte (node_line rs (type_node n A)) (node_at rs (term_node m a)) d)) (λ d. k' (rec_placed byte (node_line rs (type_node n A)) (node_at rs (term_node m a)) d)) r lr g (shut l seeks marked r) (λ d r' q.
      last n (type_places A + term_places a) ps rs rest k k' s r r' (rec_placed byte (node_line rs (type_node n A)) (node_at rs (term_node m a)) d) lp (omega (arith, lr)) (first_via ps qs rs (omega (arith, lp, lq)) x z) (via s t r y w) q h)
      ∙ (λ i. run l seeks (lay (term_line (rec_term' ((ap line_at (z (type_node n A) (subst (λ len. type_node n A < len) (sym lq) (type_inside n A))) ∙ is) i) (line_at (it i)))) (λ d. k' (rec_placed byte ((ap line_at (z (type_node n A) (subst (λ len. type_node n A < len) (sym lq) (type_inside n A))) ∙ is) i) (it i) d))) r)))
