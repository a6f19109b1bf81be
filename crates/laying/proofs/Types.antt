-- The nodes of a type come to its plan.
use Rattle.std.proofs.Common.{◌≡◌, ℕ, zero, suc, pred, ◌+◌, ◌<◌, ◌≤◌, Bool, true, false, List, [], ◌∷◌, ◌++◌, length, refl, ap, sym, ◌∙◌, arith, subst, add-one}
use Rattle.std.proofs.lemmas.Bool.{true≢false}
use Rattle.std.proofs.lemmas.List.{append_assoc, get_or_append_left}
use Rattle.std.proofs.Math.Seq.{get_or-append_seam}
use Rattle.rules.specs.Statements.{Statement, type_line, top', all', arrow', rec', var'}
use Rattle.judge.specs.Goals.{Goal, Placed, line_at, Plan, lay}
use Rattle.judge.specs.Phrases.{type_laid}
use Rattle.judge.specs.Seeking.{Limits, State, Outcome, laid, run}
use Rattle.scope.specs.Scoped.{ScopedType, top, var, defined, arrow, all, all_unbounded, rec}
use Rattle.scope.specs.ScopedLayout.{type_places, type_node, type_nodes}
use Rattle.syntax.specs.declared.node.Node.{Node}
use Rattle.syntax.specs.declared.node.Node.TheVariants.{Arrow, All, AllUnbounded, RecType}
use Rattle.laying.specs.Nodes.{on_line, node_at, node_line, node_laid, opened, nodes_laid}
use Rattle.laying.specs.Trees.{judged_type}
use Rattle.laying.proofs.Standing.{Stands, Keeps, via, laid_same, laid_again}

-- ps stand first in qs
abbrev pub First : List Placed → List Placed → Type 0
First ps qs = (i : ℕ) → i < length ps → node_at qs i ≡ node_at ps i

-- of the nodes of A, numbered from n, those are marked before which an omitted bound stands; the first is, if so is b
abbrev pub Marks : (ℕ → Bool) → Bool → ℕ → ScopedType ℕ → Type 0
Marks marked b n top = marked n ≡ b
Marks marked b n (var k) = marked n ≡ b
Marks marked b n (defined x) = marked n ≡ b
Marks marked b n (arrow A B) =
    Marks marked b n A × Marks marked false (n + type_places A) B × (marked (n + type_places A + type_places B) ≡ false)
Marks marked b n (all A B) =
    Marks marked b n A × Marks marked false (n + type_places A) B × (marked (n + type_places A + type_places B) ≡ false)
Marks marked b n (all_unbounded B) = (marked n ≡ true) × Marks marked true n B × (marked (n + type_places B) ≡ false)
Marks marked b n (rec B) = Marks marked b n B × (marked (n + type_places B) ≡ false)

pub some_type : (n : ℕ) (A : ScopedType ℕ) → (x : Node) × (xs : List Node) × (type_nodes n A ≡ x ∷ xs)
some_type n top = (_, _, refl)
some_type n (var k) = (_, _, refl)
some_type n (defined x) = (_, _, refl)
some_type n (arrow A B) = let (x, xs, e) = some_type n A in (x, _, ap (λ ys. ys ++ type_nodes (n + type_places A) B ++ Arrow (type_node n A) (type_node (n + type_places A) B) ∷ []) e)
some_type n (all A B) = let (x, xs, e) = some_type n A in (x, _, ap (λ ys. ys ++ type_nodes (n + type_places A) B ++ All (type_node n A) (type_node (n + type_places A) B) ∷ []) e)
some_type n (all_unbounded B) = let (x, xs, e) = some_type n B in (x, _, ap (λ ys. ys ++ AllUnbounded n (type_node n B) ∷ []) e)
some_type n (rec B) = let (x, xs, e) = some_type n B in (x, _, ap (λ ys. ys ++ RecType (type_node n B) ∷ []) e)

pub added : (ps : List Placed) (p : Placed) → node_at (ps ++ p ∷ []) (length ps) ≡ p
added ps p = get_or-append_seam ps p [] (on_line 0)

pub first_added : (ps : List Placed) (p : Placed) → First ps (ps ++ p ∷ [])
first_added ps p = λ i h. get_or_append_left ps (p ∷ []) (on_line 0) i h

pub one_longer : (ps : List Placed) (p : Placed) → length (ps ++ p ∷ []) ≡ length ps + 1
one_longer [] p = refl
one_longer (q ∷ ps) p = let e = one_longer ps p in omega (arith, e)

pub three : (xs ys : List Node) (z : Node) (rest : List Node) → (xs ++ ys ++ z ∷ []) ++ rest ≡ xs ++ (ys ++ z ∷ rest)
three xs ys z rest = append_assoc (xs ++ ys) (z ∷ []) rest ∙ append_assoc xs ys (z ∷ rest)

pub before : (n m : ℕ) → n ≡ m + 1 → pred n ≡ m
before n m e = ap pred (e ∙ add-one m)

pub type_some : (A : ScopedType ℕ) → 1 ≤ type_places A
type_some top = omega arith
type_some (var k) = omega arith
type_some (defined x) = omega arith
type_some (arrow A B) = omega arith
type_some (all A B) = omega arith
type_some (all_unbounded B) = omega arith
type_some (rec B) = omega arith

pub pred_less : (n : ℕ) → 1 ≤ n → pred n < n
pred_less zero h = omega (arith, h)
pred_less (suc n) h = omega arith

pub type_inside : (n : ℕ) (A : ScopedType ℕ) → type_node n A < n + type_places A
type_inside n A = pred_less (n + type_places A) (omega (arith, type_some A))

pub first_via : (ps qs rs : List Placed) → length ps ≤ length qs → First ps qs → First qs rs → First ps rs
first_via ps qs rs h f g = λ i less. g i (omega (arith, h, less)) ∙ f i less

module _ (l : Limits) (seeks : State → Goal → Outcome) (marked : ℕ → Bool) where
  -- a line Top stands, where one is to stand
  abbrev pub Open : Bool → State → Type 0
  Open b s = b ≡ true → (a : ℕ) × Stands (type_line top') a s

  pub shut : (s : State) → Open false s
  shut s e = absurd (true≢false (sym e))

  pub open_run : (b c : Bool) (p : Plan) (s : State) → c ≡ b → Open b s → run l seeks (opened c p) s ≡ run l seeks p s
  open_run true true p s e o = laid_again l s (type_line top') (o refl).0 (λ n t. run l seeks p t) (o refl).1
  open_run true false p s e o = refl
  open_run false true p s e o = absurd (true≢false e)
  open_run false false p s e o = refl

  -- a node that puts one line
  pub one_line : (E : ℕ) (b : Bool) (n : ℕ) (qs : List Placed) (rest : List Node) (k : ℕ → List Placed → Plan) (u : Statement) (P : ℕ → Placed) (k' : ℕ → Plan) (s : State)
      → length qs ≡ n → marked n ≡ b → Open b s
      → ((m : ℕ) (t : State) → Keeps s t → run l seeks (nodes_laid marked E (qs ++ P m ∷ []) rest k) t ≡ run l seeks (k' m) t)
      → run l seeks (opened (marked (length qs)) (lay u (λ m. nodes_laid marked E (qs ++ P m ∷ []) rest k))) s ≡ run l seeks (lay u k') s
  one_line E b n qs rest k u P k' s len e o h =
      open_run b (marked (length qs)) (lay u (λ m. nodes_laid marked E (qs ++ P m ∷ []) rest k)) s (ap marked len ∙ e) o
      ∙ laid_same l s u (λ m t. run l seeks (nodes_laid marked E (qs ++ P m ∷ []) rest k) t) (λ m t. run l seeks (k' m) t) (λ m t x y. h m t x)

  -- Top stands: a node that has it as its bound, and puts one line
  pub two_lines : (E n : ℕ) (qs : List Placed) (rest : List Node) (k : ℕ → List Placed → Plan) (w : ℕ → Statement) (P : ℕ → ℕ → Placed) (a : ℕ) (k' : ℕ → Plan) (s : State)
      → length qs ≡ n → marked n ≡ false → Stands (type_line top') a s
      → ((m : ℕ) (t : State) → Keeps s t → run l seeks (nodes_laid marked E (qs ++ P a m ∷ []) rest k) t ≡ run l seeks (k' m) t)
      → run l seeks (opened (marked (length qs)) (lay (type_line top') (λ a. lay (w a) (λ m. nodes_laid marked E (qs ++ P a m ∷ []) rest k)))) s ≡ run l seeks (lay (w a) k') s
  two_lines E n qs rest k w P a k' s len e st h =
      open_run false (marked (length qs)) (lay (type_line top') (λ a. lay (w a) (λ m. nodes_laid marked E (qs ++ P a m ∷ []) rest k))) s (ap marked len ∙ e) (shut s)
      ∙ laid_again l s (type_line top') a (λ a t. run l seeks (lay (w a) (λ m. nodes_laid marked E (qs ++ P a m ∷ []) rest k)) t) st
      ∙ laid_same l s (w a) (λ m t. run l seeks (nodes_laid marked E (qs ++ P a m ∷ []) rest k) t) (λ m t. run l seeks (k' m) t) (λ m t x y. h m t x)

  open_now : (c : Bool) (p : Plan) (s : State) → c ≡ true → run l seeks (opened c p) s ≡ laid l s (type_line top') (λ a t. run l seeks p t)
  open_now true p s e = refl
  open_now false p s e = absurd (true≢false (sym e))

  -- the omitted bound that stands before these nodes
  pub open_first : (E : ℕ) (ps : List Placed) (ys : List Node) (x : Node) (xs : List Node) (k : ℕ → List Placed → Plan) (s : State) → ys ≡ x ∷ xs → marked (length ps) ≡ true
      → run l seeks (nodes_laid marked E ps ys k) s ≡ laid l s (type_line top') (λ a t. run l seeks (nodes_laid marked E ps ys k) t)
  open_first E ps ys x xs k s is e =
      subst (λ ys. run l seeks (nodes_laid marked E ps ys k) s ≡ laid l s (type_line top') (λ a t. run l seeks (nodes_laid marked E ps ys k) t)) (sym is)
      (open_now (marked (length ps)) p s e
      ∙ laid_same l s (type_line top') (λ a t. run l seeks p t) (λ a t. run l seeks (nodes_laid marked E ps (x ∷ xs) k) t) (λ a t y st.
      sym (open_run true (marked (length ps)) p t e (λ z. (a, st)))))
    where
      p : Plan
      p = node_laid E ps x (λ F q. nodes_laid marked F (ps ++ q ∷ []) xs k)

  module _ (E : ℕ) where
    -- what is to hold behind the nodes of A, of the line m
    abbrev pub After_type : (n : ℕ) → ScopedType ℕ → List Placed → List Node → (ℕ → List Placed → Plan) → (ℕ → Plan) → State → Type 0
    After_type n A ps rest k k' s =
        (qs : List Placed) (t : State) (m : ℕ) → First ps qs → length qs ≡ n + type_places A → Keeps s t → node_line qs (type_node n A) ≡ m
        → run l seeks (nodes_laid marked E qs rest k) t ≡ run l seeks (k' m) t

    last : (n places : ℕ) (ps qs : List Placed) (rest : List Node) (k : ℕ → List Placed → Plan) (k' : ℕ → Plan) (s t r : State) (m : ℕ)
        → length ps ≡ n → length qs ≡ n + places → First ps qs → Keeps s t → Keeps t r
        → ((qs : List Placed) (t : State) (m : ℕ) → First ps qs → length qs ≡ n + (places + 1) → Keeps s t → node_line qs (pred (n + (places + 1))) ≡ m
        → run l seeks (nodes_laid marked E qs rest k) t ≡ run l seeks (k' m) t)
        → run l seeks (nodes_laid marked E (qs ++ on_line m ∷ []) rest k) r ≡ run l seeks (k' m) r
    last n places ps qs rest k k' s t r m lp lq f o q h =
        h (qs ++ on_line m ∷ []) r m (first_via ps qs (qs ++ on_line m ∷ []) (omega (arith, lp, lq)) f (first_added qs (on_line m))) (omega (arith, one_longer qs (on_line m), lq)) (via s t r o q)
        (ap (node_line (qs ++ on_line m ∷ [])) (before (n + (places + 1)) (length qs) (omega (arith, lq))) ∙ ap line_at (added qs (on_line m)))

    pub type_run : (A : ScopedType ℕ) (b : Bool) (n : ℕ) (ps : List Placed) (rest : List Node) (k : ℕ → List Placed → Plan) (k' : ℕ → Plan) (s : State)
        → length ps ≡ n → Marks marked b n A → Open b s → After_type n A ps rest k k' s
        → run l seeks (nodes_laid marked E ps (type_nodes n A ++ rest) k) s ≡ run l seeks (type_laid (judged_type A) k') s
    type_run top b n ps rest k k' s lp e o h =
        one_line E b n ps rest k (type_line top') on_line k' s lp e o (λ m t q. last n 0 ps ps rest k k' s s t m lp (omega (arith, lp)) (λ i less. refl) (λ m x. x) q h)
    type_run (var v) b n ps rest k k' s lp e o h =
        one_line E b n ps rest k (type_line (var' v)) on_line k' s lp e o (λ m t q. last n 0 ps ps rest k k' s s t m lp (omega (arith, lp)) (λ i less. refl) (λ m x. x) q h)
    type_run (defined m) b n ps rest k k' s lp e o h =
        open_run b (marked (length ps)) (nodes_laid marked E (ps ++ on_line m ∷ []) rest k) s (ap marked lp ∙ e) o
        ∙ last n 0 ps ps rest k k' s s s m lp (omega (arith, lp)) (λ i less. refl) (λ m x. x) (λ m x. x) h
    type_run (arrow A B) b n ps rest k k' s lp (e, f, g) o h =
        let m = n + type_places A in let X = Arrow (type_node n A) (type_node m B) in
        ap (λ xs. run l seeks (nodes_laid marked E ps xs k) s) (three (type_nodes n A) (type_nodes m B) X rest)
        ∙ type_run A b n ps (type_nodes m B ++ X ∷ rest) k (λ a. type_laid (judged_type B) (λ c. lay (type_line (arrow' a c)) k')) s lp e o (λ qs t a x lq y is.
        type_run B false m qs (X ∷ rest) k (λ c. lay (type_line (arrow' a c)) k') t lq f (shut t) (λ rs r c z lr w it.
        one_line E false (m + type_places B) rs rest k (type_line (arrow' (node_line rs (type_node n A)) (node_line rs (type_node m B)))) on_line k' r lr g (shut r) (λ d r' q.
        last n (type_places A + type_places B) ps rs rest k k' s r r' d lp (omega (arith, lr)) (first_via ps qs rs (omega (arith, lp, lq)) x z) (via s t r y w) q h)
        ∙ (λ i. run l seeks (lay (type_line (arrow' ((ap line_at (z (type_node n A) (subst (λ len. type_node n A < len) (sym lq) (type_inside n A))) ∙ is) i) (it i))) k') r)))
    type_run (all A B) b n ps rest k k' s lp (e, f, g) o h =
        let m = n + type_places A in let X = All (type_node n A) (type_node m B) in
        ap (λ xs. run l seeks (nodes_laid marked E ps xs k) s) (three (type_nodes n A) (type_nodes m B) X rest)
        ∙ type_run A b n ps (type_nodes m B ++ X ∷ rest) k (λ a. type_laid (judged_type B) (λ c. lay (type_line (all' a c)) k')) s lp e o (λ qs t a x lq y is.
        type_run B false m qs (X ∷ rest) k (λ c. lay (type_line (all' a c)) k') t lq f (shut t) (λ rs r c z lr w it.
        one_line E false (m + type_places B) rs rest k (type_line (all' (node_line rs (type_node n A)) (node_line rs (type_node m B)))) on_line k' r lr g (shut r) (λ d r' q.
        last n (type_places A + type_places B) ps rs rest k k' s r r' d lp (omega (arith, lr)) (first_via ps qs rs (omega (arith, lp, lq)) x z) (via s t r y w) q h)
        ∙ (λ i. run l seeks (lay (type_line (all' ((ap line_at (z (type_node n A) (subst (λ len. type_node n A < len) (sym lq) (type_inside n A))) ∙ is) i) (it i))) k') r)))
    type_run (all_unbounded B) b n ps rest k k' s lp (e, f, g) o h =
        let X = AllUnbounded n (type_node n B) in
        let (x, xs, is) = some_type n B in
        ap (λ xs. run l seeks (nodes_laid marked E ps xs k) s) (append_assoc (type_nodes n B) (X ∷ []) rest)
        ∙ open_first E ps (type_nodes n B ++ X ∷ rest) x (xs ++ X ∷ rest) k s (ap (λ ys. ys ++ X ∷ rest) is) (ap marked lp ∙ e)
        ∙ laid_same l s (type_line top') (λ a t. run l seeks (nodes_laid marked E ps (type_nodes n B ++ X ∷ rest) k) t) (λ a t. run l seeks (type_laid (judged_type B) (λ c. lay (type_line (all' a c)) k')) t) (λ a t y st.
        type_run B true n ps (X ∷ rest) k (λ c. lay (type_line (all' a c)) k') t lp f (λ z. (a, st)) (λ rs r c z lr w it.
        two_lines E (n + type_places B) rs rest k (λ a. type_line (all' a (node_line rs (type_node n B)))) (λ a m. on_line m) a k' r lr g (w a st) (λ d r' q.
        last n (type_places B) ps rs rest k k' s r r' d lp lr z (via s t r y w) q h)
        ∙ (λ i. run l seeks (lay (type_line (all' a (it i))) k') r)))
    type_run (rec B) b n ps rest k k' s lp (f, g) o h =
        let X = RecType (type_node n B) in
        ap (λ xs. run l seeks (nodes_laid marked E ps xs k) s) (append_assoc (type_nodes n B) (X ∷ []) rest)
        ∙ type_run B b n ps (X ∷ rest) k (λ c. lay (type_line (rec' c)) k') s lp f o (λ rs r c x lr y it.
        one_line E false (n + type_places B) rs rest k (type_line (rec' (node_line rs (type_node n B)))) on_line k' r lr g (shut r) (λ d r' q.
        last n (type_places B) ps rs rest k k' s r r' d lp lr x y q h)
        ∙ (λ i. run l seeks (lay (type_line (rec' (it i))) k') r))
