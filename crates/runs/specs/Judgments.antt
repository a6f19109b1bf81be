-- What a source asks to be judged: from its bytes, by the grammar and the meaning of names, and from the definitions in force.
use Rattle.std.specs.Prelude.{◌≡◌, ℕ, List, map, Ok}
use Rattle.std.specs.List.{fold}
use Rattle.grammar.specs.Written.{WrittenPhrase}
use Rattle.lexer.specs.Items.{items}
use Rattle.rules.specs.Derivations.{Judgment, is_env, is_type, is_sub, has, Derivable}
use Rattle.rules.specs.Quantifiers.{Rule}
use Rattle.rules.specs.Syntax as rules
use Rattle.rules.specs.Syntax.{Ty, Tm, Env, with_term, with_type}
use Rattle.runs.specs.Definitions.{Definition, named}
use Rattle.scope.specs.Scope.{scope}
use Rattle.scope.specs.Scoped as scoped
use Rattle.scope.specs.Scoped.{ScopedType, ScopedTerm, ScopedBinding, ScopedPhrase}
use Rattle.syntax.specs.Named.{NamedPhrase}

-- types and terms of a source as those of the rules: a Let name is its type, an omitted bound Top

abbrev pub type_of : ScopedType Ty → Ty
type_of scoped.top = rules.top
type_of (scoped.var k) = rules.var k
type_of (scoped.defined A) = A
type_of (scoped.arrow A B) = rules.arrow (type_of A) (type_of B)
type_of (scoped.all A B) = rules.all (type_of A) (type_of B)
type_of (scoped.all_unbounded B) = rules.all rules.top (type_of B)
type_of (scoped.rec B) = rules.rec (type_of B)

abbrev pub term_of : ScopedTerm Ty → Tm
term_of (scoped.top_term byte) = rules.top_term
term_of (scoped.term_var byte k) = rules.var_term k
term_of (scoped.fun byte A b) = rules.fun (type_of A) (term_of b)
term_of (scoped.appl byte b a) = rules.appl (term_of b) (term_of a)
term_of (scoped.fun2 byte A b) = rules.fun2 (type_of A) (term_of b)
term_of (scoped.fun2_unbounded byte b) = rules.fun2 rules.top (term_of b)
term_of (scoped.appl2 byte b A) = rules.appl2 (term_of b) (type_of A)
term_of (scoped.fold_term byte A a) = rules.fold_term (type_of A) (term_of a)
term_of (scoped.unfold_term byte a) = rules.unfold_term (term_of a)
term_of (scoped.rec_term byte A b) = rules.rec_term (type_of A) (term_of b)

-- an environment with a binding after it
abbrev pub bound_with : Env → ScopedBinding Ty → Env
bound_with Γ (scoped.type_binding w A) = with_type Γ (type_of A)
bound_with Γ (scoped.term_binding w A) = with_term Γ (type_of A)

-- with bindings after it
abbrev pub env_of : Env → List (ScopedBinding Ty) → Env
env_of Γ E = fold bound_with Γ E

-- J is a judgment of the phrase in the session environment Γ: of a term, or a let without a type, there is one for each type
abbrev pub Asks : Env → ScopedPhrase Ty → Judgment → Type 0
Asks Γ (scoped.let_type w B A) J = J ≡ is_sub Γ (type_of A) (type_of B)
Asks Γ (scoped.let_type_unbounded w A) J = J ≡ is_sub Γ (type_of A) rules.top
Asks Γ (scoped.let_term w A b) J = J ≡ has Γ (term_of b) (type_of A)
Asks Γ (scoped.let_term_untyped w b) J = (A : Ty) × (J ≡ has Γ (term_of b) A)
Asks Γ (scoped.of_type A) J = J ≡ is_type Γ (type_of A)
Asks Γ (scoped.of_term a) J = (A : Ty) × (J ≡ has Γ (term_of a) A)
Asks Γ (scoped.judge_env E) J = J ≡ is_env (env_of Γ E)
Asks Γ (scoped.judge_type E A) J = J ≡ is_type (env_of Γ E) (type_of A)
Asks Γ (scoped.judge_subtype E A B) J = J ≡ is_sub (env_of Γ E) (type_of A) (type_of B)
Asks Γ (scoped.judge_term E a A) J = J ≡ has (env_of Γ E) (term_of a) (type_of A)

-- the source is the phrase q after these definitions
abbrev pub IsPhrase : List ℕ → List Definition → ScopedPhrase Ty → Type 0
IsPhrase source ds q = (p : NamedPhrase) × WrittenPhrase (items source) p × (scope (map named ds) p ≡ Ok q)

-- A is a type of the term a, and below every type that the rules give it
abbrev pub LeastType : Rule → Env → Tm → Ty → Type 0
LeastType R Γ a A = Derivable R (has Γ a A) × ((B : Ty) → Derivable R (has Γ a B) → Derivable R (is_sub Γ A B))
