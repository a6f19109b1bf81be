-- Nodes that are resolved one after another: those of two parts and of the thing that they are parts of.
use Rattle.std.proofs.Common.{◌≡◌, ℕ, ◌+◌, List, [], ◌∷◌, ◌++◌, length, Option, Some, None, Ok, Err, Result, sym, refl, ap, ◌∙◌}
use Rattle.std.proofs.lemmas.List.Sums.{fold-append}
use Rattle.lexer.specs.Names.{number_of}
use Rattle.lexer.specs.declared.name.Name.{Name}
use Rattle.scope.specs.Resolved.{resolved_node, past, past_all, resolved}
use Rattle.scope.specs.Scope.{InScope, one, both}
use Rattle.syntax.specs.Layout as read
use Rattle.syntax.specs.Named as named
use Rattle.syntax.specs.Named.{NamedType, NamedTerm}
use Rattle.syntax.specs.declared.node.Node.{Node}
use Rattle.syntax.specs.declared.node.Node.TheVariants.{Arrow, All, AllUnbounded, RecType, Fun, Appl, Fun2, Fun2Unbounded, Appl2, Fold, Unfold, RecTerm}

pub resolved-append : (s : InScope ℕ) (xs ys : List Node) → resolved s (xs ++ ys) ≡ both ◌++◌ (resolved s xs) (resolved (past_all s xs) ys)
resolved-append s [] ys = one_side (resolved s ys)
  where
    one_side : (r : Result (List Node) ℕ) → r ≡ both ◌++◌ (Ok []) r
    one_side (Ok ns) = refl
    one_side (Err byte) = refl
resolved-append s (n ∷ xs) ys = ap (both ◌∷◌ (resolved_node s n)) (resolved-append (past s n) xs ys) ∙ regroup (resolved_node s n) (resolved (past s n) xs) (resolved (past_all (past s n) xs) ys)
  where
    regroup : (a : Result Node ℕ) (b c : Result (List Node) ℕ) → both ◌∷◌ a (both ◌++◌ b c) ≡ both ◌++◌ (both ◌∷◌ a b) c
    regroup (Ok a) (Ok b) (Ok c) = refl
    regroup (Ok a) (Ok b) (Err c) = refl
    regroup (Ok a) (Err b) c = refl
    regroup (Err a) b c = refl

-- nodes that are no bindings, of a type or a term: all that is in scope behind them is in scope in front of them
pub record Closed (xs : List Node) : Type 0 where
  pub keeps : (s : InScope ℕ) → past_all s xs ≡ s

pub closed-append : (xs ys : List Node) → Closed xs → Closed ys → Closed (xs ++ ys)
closed-append xs ys p q = record { keeps = λ s. fold-append past s xs ys ∙ ap (λ t. past_all t ys) (p.keeps s) ∙ q.keeps s }

pub closed-one : {xs : List Node} (z : Node) → Closed xs → ((s : InScope ℕ) → past s z ≡ s) → Closed (xs ++ z ∷ [])
closed-one {xs} z p r = closed-append xs (z ∷ []) p (record { keeps = r })

pub closed-two : {xs ys : List Node} (z : Node) → Closed xs → Closed ys → ((s : InScope ℕ) → past s z ≡ s) → Closed (xs ++ ys ++ z ∷ [])
closed-two {xs} {ys} z p q r = closed-append (xs ++ ys) (z ∷ []) (closed-append xs ys p q) (record { keeps = r })

pub closed-type : (ws : List Name) (n : ℕ) (A : NamedType) → Closed (read.type_nodes ws n A)
closed-type ws n named.top = record { keeps = λ s. refl }
closed-type ws n (named.name byte w) = go (number_of ws w)
  where
    go : (found : Option ℕ) → Closed (read.type_leaf found byte w (length ws) ∷ [])
    go None = record { keeps = λ s. refl }
    go (Some k) = record { keeps = λ s. refl }
closed-type ws n (named.arrow A B) = closed-two (Arrow (read.type_node n A) (read.type_node (n + read.type_places A) B)) (closed-type ws n A) (closed-type ws (n + read.type_places A) B) (λ t. refl)
closed-type ws n (named.all w A B) = closed-two (All (read.type_node n A) (read.type_node (n + read.type_places A) B)) (closed-type ws n A) (closed-type (w ∷ ws) (n + read.type_places A) B) (λ t. refl)
closed-type ws n (named.all_unbounded w B) = closed-one (AllUnbounded n (read.type_node n B)) (closed-type (w ∷ ws) n B) (λ t. refl)
closed-type ws n (named.rec w B) = closed-one (RecType (read.type_node n B)) (closed-type (w ∷ ws) n B) (λ t. refl)

pub closed-term : (ws vs : List Name) (n : ℕ) (a : NamedTerm) → Closed (read.term_nodes ws vs n a)
closed-term ws vs n (named.top_term byte) = record { keeps = λ s. refl }
closed-term ws vs n (named.term_name byte w) = go (number_of vs w)
  where
    go : (found : Option ℕ) → Closed (read.term_leaf found byte w (length vs) ∷ [])
    go None = record { keeps = λ s. refl }
    go (Some k) = record { keeps = λ s. refl }
closed-term ws vs n (named.fun byte w A b) = closed-two (Fun byte (read.type_node n A) (read.term_node (n + read.type_places A) b)) (closed-type ws n A) (closed-term ws (w ∷ vs) (n + read.type_places A) b) (λ t. refl)
closed-term ws vs n (named.appl byte b a) = closed-two (Appl byte (read.term_node n b) (read.term_node (n + read.term_places b) a)) (closed-term ws vs n b) (closed-term ws vs (n + read.term_places b) a) (λ t. refl)
closed-term ws vs n (named.fun2 byte w A b) = closed-two (Fun2 byte (read.type_node n A) (read.term_node (n + read.type_places A) b)) (closed-type ws n A) (closed-term (w ∷ ws) vs (n + read.type_places A) b) (λ t. refl)
closed-term ws vs n (named.fun2_unbounded byte w b) = closed-one (Fun2Unbounded byte n (read.term_node n b)) (closed-term (w ∷ ws) vs n b) (λ t. refl)
closed-term ws vs n (named.appl2 byte b A) = closed-two (Appl2 byte (read.term_node n b) (read.type_node (n + read.term_places b) A)) (closed-term ws vs n b) (closed-type ws (n + read.term_places b) A) (λ t. refl)
closed-term ws vs n (named.fold_term byte A a) = closed-two (Fold byte (read.type_node n A) (read.term_node (n + read.type_places A) a)) (closed-type ws n A) (closed-term ws vs (n + read.type_places A) a) (λ t. refl)
closed-term ws vs n (named.unfold_term byte a) = closed-one (Unfold byte (read.term_node n a)) (closed-term ws vs n a) (λ t. refl)
closed-term ws vs n (named.rec_term byte w A b) = closed-two (RecTerm byte (read.type_node n A) (read.term_node (n + read.type_places A) b)) (closed-type ws n A) (closed-term ws (w ∷ vs) (n + read.type_places A) b) (λ t. refl)

-- ---- a thing of one or two parts and its own node

pub resolved-closed : (s : InScope ℕ) (xs ys : List Node) → Closed xs → resolved s (xs ++ ys) ≡ both ◌++◌ (resolved s xs) (resolved s ys)
resolved-closed s xs ys p = resolved-append s xs ys ∙ ap (λ t. both ◌++◌ (resolved s xs) (resolved t ys)) (p.keeps s)

pub resolved-own : (s : InScope ℕ) (z : Node) → resolved_node s z ≡ Ok z → resolved s (z ∷ []) ≡ Ok (z ∷ [])
resolved-own s z e = ap (λ r. both ◌∷◌ r (Ok [])) e

pub tie-one : {A B : Type 0} (s : InScope ℕ) (f : A → List Node) (h : A → B) (out : B → List Node) (a : Result A ℕ) (xs : List Node) (z : Node)
    → resolved_node s z ≡ Ok z → Closed xs → resolved s xs ≡ one f a → ((x : A) → a ≡ Ok x → out (h x) ≡ f x ++ z ∷ [])
    → resolved s (xs ++ z ∷ []) ≡ one out (one h a)
tie-one {A = A} s f h out a xs z own p e same =
    resolved-closed s xs (z ∷ []) p ∙ ap (both ◌++◌ (resolved s xs)) (resolved-own s z own) ∙ ap (λ r. both ◌++◌ r (Ok (z ∷ []))) e ∙ go a same
  where
    go : (a : Result A ℕ) → ((x : A) → a ≡ Ok x → out (h x) ≡ f x ++ z ∷ []) → both ◌++◌ (one f a) (Ok (z ∷ [])) ≡ one out (one h a)
    go (Ok x) same = ap Ok (sym (same x refl))
    go (Err byte) same = refl

pub tie-two : {A B C : Type 0} (s : InScope ℕ) (f : A → List Node) (g : B → List Node) (h : A → B → C) (out : C → List Node) (a : Result A ℕ) (b : Result B ℕ) (xs ys : List Node) (z : Node)
    → resolved_node s z ≡ Ok z → Closed xs → Closed ys → resolved s xs ≡ one f a → resolved s ys ≡ one g b
    → ((x : A) (y : B) → a ≡ Ok x → b ≡ Ok y → out (h x y) ≡ f x ++ g y ++ z ∷ [])
    → resolved s (xs ++ ys ++ z ∷ []) ≡ one out (both h a b)
tie-two {A = A} {B = B} s f g h out a b xs ys z own p q d e same =
    resolved-closed s (xs ++ ys) (z ∷ []) (closed-append xs ys p q)
    ∙ ap (both ◌++◌ (resolved s (xs ++ ys))) (resolved-own s z own)
    ∙ ap (λ r. both ◌++◌ r (Ok (z ∷ []))) (resolved-closed s xs ys p ∙ ap (λ r. both ◌++◌ r (resolved s ys)) d ∙ ap (both ◌++◌ (one f a)) e)
    ∙ go a b same
  where
    go : (a : Result A ℕ) (b : Result B ℕ) → ((x : A) (y : B) → a ≡ Ok x → b ≡ Ok y → out (h x y) ≡ f x ++ g y ++ z ∷ [])
        → both ◌++◌ (both ◌++◌ (one f a) (one g b)) (Ok (z ∷ [])) ≡ one out (both h a b)
    go (Ok x) (Ok y) same = ap Ok (sym (same x y refl refl))
    go (Ok x) (Err byte) same = refl
    go (Err byte) b same = refl
