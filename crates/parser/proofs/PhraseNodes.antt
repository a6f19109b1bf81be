-- The nodes of a phrase, laid part by part in a tree that had none; and those of an environment, binding by binding.
use Rattle.std.proofs.Common.{◌≡◌, ℕ, ◌+◌, List, [], ◌∷◌, ◌++◌, length, refl, ap, ap₂, ◌∙◌, sym, subst, append_assoc, append-nil, length-append}
use Rattle.lexer.specs.declared.name.Name.{Name}
use Rattle.syntax.specs.Layout.{type_places, type_node, type_nodes, term_places, term_node, term_nodes, binding_places, binding_nodes, env_places, env_nodes}
use Rattle.syntax.specs.Named.{NamedType, NamedTerm, Binding, type_binding, term_binding, let_type, let_type_unbounded, let_term, let_term_untyped, of_type, of_term, judge_env, judge_type, judge_subtype, judge_term}
use Rattle.syntax.specs.declared.node.Node.{Node}
use Rattle.syntax.specs.declared.node.Node.TheVariants.{TypeBinding, TermBinding}
use Rattle.syntax.specs.declared.phrase.Phrase.TheVariants.{LetType, LetTypeUnbounded, LetTerm, LetTermUntyped, TypePhrase, TermPhrase, JudgeEnv, JudgeType, JudgeSubtype, JudgeTerm}
use Rattle.syntax.proofs.Lengths.{type_length, term_length, binding_length, env_length}
use Rattle.parser.proofs.Nodes.{one_part}
use Rattle.parser.specs.Parsing.{LaidType, LaidTerm, LaidEnv, GivenBinding, LaidPhrase}

-- a binding, and the bindings behind it

pub given_type_binding : (w : Name) (old new : List Node) (A : NamedType) (n : ℕ) → LaidType [] old new A n → GivenBinding old new (type_binding w A) (TypeBinding w n)
given_type_binding w old new A n h = one_part old new (type_nodes [] (length old) A) _ _ h.0 (ap (TypeBinding w) h.1)

pub given_term_binding : (w : Name) (old new : List Node) (A : NamedType) (n : ℕ) → LaidType [] old new A n → GivenBinding old new (term_binding w A) (TermBinding w n)
given_term_binding w old new A n h = one_part old new (type_nodes [] (length old) A) _ _ h.0 (ap (TermBinding w) h.1)

pub laid_more : (old mid after new : List Node) (b : Binding) (x : Node) (E : List Binding) → GivenBinding old mid b x → after ≡ mid ++ x ∷ [] → LaidEnv after new E
    → LaidEnv old new (b ∷ E)
laid_more old mid after new b x E g i h =
    h ∙ ap₂ (λ y n. y ++ env_nodes n E) behind numbered ∙ append_assoc old (binding_nodes (length old) b) (env_nodes (length old + binding_places b) E)
  where
    behind : after ≡ old ++ binding_nodes (length old) b
    behind = i ∙ g

    numbered : length after ≡ length old + binding_places b
    numbered = ap length behind ∙ length-append old (binding_nodes (length old) b) ∙ ap (λ n. length old + n) (binding_length (length old) b)

pub laid_none : (old : List Node) → LaidEnv old old []
laid_none old = sym (append-nil old)

pub term_laid_at : (old before new : List Node) (a : NamedTerm) (n : ℕ) → old ≡ before → LaidTerm [] [] old new a n → LaidTerm [] [] before new a n
term_laid_at old before new a n e h = subst (λ y. LaidTerm [] [] y new a n) e h

-- what stands in the tree, and how many nodes they are
abbrev pub Holds : List Node → List Node → ℕ → Type 0
Holds tree xs k = (tree ≡ xs) × (length xs ≡ k)

number_next : {tree xs : List Node} {k : ℕ} → Holds tree xs k → length tree ≡ k
number_next h = ap length h.0 ∙ h.1

-- the first part

first_type : (old new : List Node) (A : NamedType) (n : ℕ) → old ≡ [] → LaidType [] old new A n → Holds new (type_nodes [] 0 A) (type_places A) × (n ≡ type_node 0 A)
first_type old new A n e h =
    ((h.0 ∙ ap (λ y. y ++ type_nodes [] (length y) A) e, type_length [] 0 A), h.1 ∙ ap (λ y. type_node (length y) A) e)

first_term : (old new : List Node) (a : NamedTerm) (n : ℕ) → old ≡ [] → LaidTerm [] [] old new a n → Holds new (term_nodes [] [] 0 a) (term_places a) × (n ≡ term_node 0 a)
first_term old new a n e h =
    ((h.0 ∙ ap (λ y. y ++ term_nodes [] [] (length y) a) e, term_length [] [] 0 a), h.1 ∙ ap (λ y. term_node (length y) a) e)

first_env : (old new : List Node) (E : List Binding) → old ≡ [] → LaidEnv old new E → Holds new (env_nodes 0 E) (env_places E)
first_env old new E e h = (h ∙ ap (λ y. y ++ env_nodes (length y) E) e, env_length 0 E)

-- a part behind those that stand

next_type : {xs : List Node} {k : ℕ} (old new : List Node) (A : NamedType) (n : ℕ) → Holds old xs k → LaidType [] old new A n
    → Holds new (xs ++ type_nodes [] k A) (k + type_places A) × (n ≡ type_node k A)
next_type {xs} {k} old new A n t h = (
  (h.0 ∙ ap₂ (λ y j. y ++ type_nodes [] j A) t.0 (number_next t), length-append xs (type_nodes [] k A) ∙ ap₂ ◌+◌ t.1 (type_length [] k A)),
  h.1 ∙ ap (λ j. type_node j A) (number_next t),
)

next_term : {xs : List Node} {k : ℕ} (old new : List Node) (a : NamedTerm) (n : ℕ) → Holds old xs k → LaidTerm [] [] old new a n
    → Holds new (xs ++ term_nodes [] [] k a) (k + term_places a) × (n ≡ term_node k a)
next_term {xs} {k} old new a n t h = (
  (h.0 ∙ ap₂ (λ y j. y ++ term_nodes [] [] j a) t.0 (number_next t), length-append xs (term_nodes [] [] k a) ∙ ap₂ ◌+◌ t.1 (term_length [] [] k a)),
  h.1 ∙ ap (λ j. term_node j a) (number_next t),
)

-- the phrases

pub laid_let_type : (w : Name) (old mid new : List Node) (B A : NamedType) (bound to : ℕ) → LaidType [] old mid B bound → LaidType [] mid new A to
    → LaidPhrase old new (let_type w B A) (LetType w bound to)
laid_let_type w old mid new B A bound to b a e =
    let x = first_type old mid B bound e b in let y = next_type mid new A to x.0 a in (y.0.0, ap₂ (LetType w) x.1 y.1)

pub laid_let_type_unbounded : (w : Name) (old new : List Node) (A : NamedType) (to : ℕ) → LaidType [] old new A to
    → LaidPhrase old new (let_type_unbounded w A) (LetTypeUnbounded w to)
laid_let_type_unbounded w old new A to a e = let x = first_type old new A to e a in (x.0.0, ap (LetTypeUnbounded w) x.1)

pub laid_let_term : (w : Name) (old mid new : List Node) (A : NamedType) (b : NamedTerm) (stated term : ℕ) → LaidType [] old mid A stated
    → LaidTerm [] [] mid new b term → LaidPhrase old new (let_term w A b) (LetTerm w stated term)
laid_let_term w old mid new A b stated term a h e =
    let x = first_type old mid A stated e a in let y = next_term mid new b term x.0 h in (y.0.0, ap₂ (LetTerm w) x.1 y.1)

pub laid_let_term_untyped : (w : Name) (old new : List Node) (b : NamedTerm) (term : ℕ) → LaidTerm [] [] old new b term
    → LaidPhrase old new (let_term_untyped w b) (LetTermUntyped w term)
laid_let_term_untyped w old new b term h e = let x = first_term old new b term e h in (x.0.0, ap (LetTermUntyped w) x.1)

pub laid_of_type : (old new : List Node) (A : NamedType) (node : ℕ) → LaidType [] old new A node → LaidPhrase old new (of_type A) (TypePhrase node)
laid_of_type old new A node a e = let x = first_type old new A node e a in (x.0.0, ap TypePhrase x.1)

pub laid_of_term : (old new : List Node) (a : NamedTerm) (node : ℕ) → LaidTerm [] [] old new a node → LaidPhrase old new (of_term a) (TermPhrase node)
laid_of_term old new a node h e = let x = first_term old new a node e h in (x.0.0, ap TermPhrase x.1)

pub laid_judge_env : (old new : List Node) (E : List Binding) → LaidEnv old new E → LaidPhrase old new (judge_env E) JudgeEnv
laid_judge_env old new E h e = ((first_env old new E e h).0, refl)

pub laid_judge_type : (old mid new : List Node) (E : List Binding) (A : NamedType) (node : ℕ) → LaidEnv old mid E → LaidType [] mid new A node
    → LaidPhrase old new (judge_type E A) (JudgeType node)
laid_judge_type old mid new E A node h a e = let x = next_type mid new A node (first_env old mid E e h) a in (x.0.0, ap JudgeType x.1)

pub laid_judge_subtype : (old m1 m2 new : List Node) (E : List Binding) (A B : NamedType) (left right : ℕ) → LaidEnv old m1 E → LaidType [] m1 m2 A left
    → LaidType [] m2 new B right → LaidPhrase old new (judge_subtype E A B) (JudgeSubtype left right)
laid_judge_subtype old m1 m2 new E A B left right h a b e =
    let x = next_type m1 m2 A left (first_env old m1 E e h) a in
    let y = next_type m2 new B right x.0 b in
    (y.0.0, ap₂ JudgeSubtype x.1 y.1)

pub laid_judge_term : (old m1 m2 new : List Node) (E : List Binding) (a : NamedTerm) (A : NamedType) (term stated : ℕ) → LaidEnv old m1 E
    → LaidTerm [] [] m1 m2 a term → LaidType [] m2 new A stated → LaidPhrase old new (judge_term E a A) (JudgeTerm term stated)
laid_judge_term old m1 m2 new E a A term stated h b c e =
    let x = next_term m1 m2 a term (first_env old m1 E e h) b in
    let y = next_type m2 new A stated x.0 c in
    (y.0.0, ap₂ JudgeTerm x.1 y.1)
