-- The nodes of a phrase whose names have been looked up, in the order of the nodes of the phrase as it was read.
-- n is the number of the first; a type that a Let definition gives is named by its line.
use Rattle.std.specs.Prelude.{ℕ, pred, ◌+◌, List, [], ◌∷◌, ◌++◌}
use Rattle.scope.specs.Scoped.{ScopedType, top, var, defined, arrow, all, all_unbounded, rec, ScopedTerm, top_term, term_var, fun, appl, fun2, fun2_unbounded, appl2, fold_term, unfold_term, rec_term, ScopedBinding, type_binding, term_binding, ScopedPhrase, let_type, let_type_unbounded, let_term, let_term_untyped, of_type, of_term, judge_env, judge_type, judge_subtype, judge_term}
use Rattle.syntax.specs.declared.node.Node.{Node}
use Rattle.syntax.specs.declared.node.Node.TheVariants.{Top, TypeVar, TypeLine, Arrow, All, AllUnbounded, RecType, TopTerm, TermVar, Fun, Appl, Fun2, Fun2Unbounded, Appl2, Fold, Unfold, RecTerm, TypeBinding, TermBinding}
use Rattle.syntax.specs.declared.phrase.Phrase.{Phrase}
use Rattle.syntax.specs.declared.phrase.Phrase.TheVariants.{LetType, LetTypeUnbounded, LetTerm, LetTermUntyped, TypePhrase, TermPhrase, JudgeEnv, JudgeType, JudgeSubtype, JudgeTerm}

abbrev pub type_places : {X : Type 0} → ScopedType X → ℕ
type_places top = 1
type_places (var k) = 1
type_places (defined x) = 1
type_places (arrow A B) = type_places A + type_places B + 1
type_places (all A B) = type_places A + type_places B + 1
type_places (all_unbounded B) = type_places B + 1
type_places (rec B) = type_places B + 1

abbrev pub term_places : {X : Type 0} → ScopedTerm X → ℕ
term_places (top_term byte) = 1
term_places (term_var byte k) = 1
term_places (fun byte A b) = type_places A + term_places b + 1
term_places (appl byte b a) = term_places b + term_places a + 1
term_places (fun2 byte A b) = type_places A + term_places b + 1
term_places (fun2_unbounded byte b) = term_places b + 1
term_places (appl2 byte b A) = term_places b + type_places A + 1
term_places (fold_term byte A a) = type_places A + term_places a + 1
term_places (unfold_term byte a) = term_places a + 1
term_places (rec_term byte A b) = type_places A + term_places b + 1

-- the number of its own node, the last one
abbrev pub type_node : {X : Type 0} → ℕ → ScopedType X → ℕ
type_node n A = pred (n + type_places A)

abbrev pub term_node : {X : Type 0} → ℕ → ScopedTerm X → ℕ
term_node n a = pred (n + term_places a)

abbrev pub type_nodes : ℕ → ScopedType ℕ → List Node
type_nodes n top = Top ∷ []
type_nodes n (var k) = TypeVar k ∷ []
type_nodes n (defined line) = TypeLine line ∷ []
type_nodes n (arrow A B) =
    let m = n + type_places A in
    type_nodes n A ++ type_nodes m B ++ Arrow (type_node n A) (type_node m B) ∷ []
type_nodes n (all A B) =
    let m = n + type_places A in
    type_nodes n A ++ type_nodes m B ++ All (type_node n A) (type_node m B) ∷ []
type_nodes n (all_unbounded B) = type_nodes n B ++ AllUnbounded n (type_node n B) ∷ []
type_nodes n (rec B) = type_nodes n B ++ RecType (type_node n B) ∷ []

abbrev pub term_nodes : ℕ → ScopedTerm ℕ → List Node
term_nodes n (top_term byte) = TopTerm byte ∷ []
term_nodes n (term_var byte k) = TermVar byte k ∷ []
term_nodes n (fun byte A b) =
    let m = n + type_places A in
    type_nodes n A ++ term_nodes m b ++ Fun byte (type_node n A) (term_node m b) ∷ []
term_nodes n (appl byte b a) =
    let m = n + term_places b in
    term_nodes n b ++ term_nodes m a ++ Appl byte (term_node n b) (term_node m a) ∷ []
term_nodes n (fun2 byte A b) =
    let m = n + type_places A in
    type_nodes n A ++ term_nodes m b ++ Fun2 byte (type_node n A) (term_node m b) ∷ []
term_nodes n (fun2_unbounded byte b) = term_nodes n b ++ Fun2Unbounded byte n (term_node n b) ∷ []
term_nodes n (appl2 byte b A) =
    let m = n + term_places b in
    term_nodes n b ++ type_nodes m A ++ Appl2 byte (term_node n b) (type_node m A) ∷ []
term_nodes n (fold_term byte A a) =
    let m = n + type_places A in
    type_nodes n A ++ term_nodes m a ++ Fold byte (type_node n A) (term_node m a) ∷ []
term_nodes n (unfold_term byte a) = term_nodes n a ++ Unfold byte (term_node n a) ∷ []
term_nodes n (rec_term byte A b) =
    let m = n + type_places A in
    type_nodes n A ++ term_nodes m b ++ RecTerm byte (type_node n A) (term_node m b) ∷ []

abbrev pub binding_places : {X : Type 0} → ScopedBinding X → ℕ
binding_places (type_binding w A) = type_places A + 1
binding_places (term_binding w A) = type_places A + 1

abbrev pub binding_nodes : ℕ → ScopedBinding ℕ → List Node
binding_nodes n (type_binding w A) = type_nodes n A ++ TypeBinding w (type_node n A) ∷ []
binding_nodes n (term_binding w A) = type_nodes n A ++ TermBinding w (type_node n A) ∷ []

abbrev pub env_places : {X : Type 0} → List (ScopedBinding X) → ℕ
env_places [] = 0
env_places (b ∷ bs) = binding_places b + env_places bs

abbrev pub env_nodes : ℕ → List (ScopedBinding ℕ) → List Node
env_nodes n [] = []
env_nodes n (b ∷ bs) = binding_nodes n b ++ env_nodes (n + binding_places b) bs

-- the nodes of a phrase, from number 0
abbrev pub nodes : ScopedPhrase ℕ → List Node
nodes (let_type w B A) = type_nodes 0 B ++ type_nodes (type_places B) A
nodes (let_type_unbounded w A) = type_nodes 0 A
nodes (let_term w A b) = type_nodes 0 A ++ term_nodes (type_places A) b
nodes (let_term_untyped w b) = term_nodes 0 b
nodes (of_type A) = type_nodes 0 A
nodes (of_term a) = term_nodes 0 a
nodes (judge_env E) = env_nodes 0 E
nodes (judge_type E A) = env_nodes 0 E ++ type_nodes (env_places E) A
nodes (judge_subtype E A B) =
    env_nodes 0 E ++ type_nodes (env_places E) A ++ type_nodes (env_places E + type_places A) B
nodes (judge_term E a A) =
    env_nodes 0 E ++ term_nodes (env_places E) a ++ type_nodes (env_places E + term_places a) A

-- the record of a phrase
abbrev pub record_of : {X : Type 0} → ScopedPhrase X → Phrase
record_of (let_type w B A) = LetType w (type_node 0 B) (type_node (type_places B) A)
record_of (let_type_unbounded w A) = LetTypeUnbounded w (type_node 0 A)
record_of (let_term w A b) = LetTerm w (type_node 0 A) (term_node (type_places A) b)
record_of (let_term_untyped w b) = LetTermUntyped w (term_node 0 b)
record_of (of_type A) = TypePhrase (type_node 0 A)
record_of (of_term a) = TermPhrase (term_node 0 a)
record_of (judge_env E) = JudgeEnv
record_of (judge_type E A) = JudgeType (type_node (env_places E) A)
record_of (judge_subtype E A B) =
    let n = env_places E in
    JudgeSubtype (type_node n A) (type_node (n + type_places A) B)
record_of (judge_term E a A) =
    let n = env_places E in
    JudgeTerm (term_node n a) (type_node (n + term_places a) A)
