-- What the names of a phrase mean. Types' and terms' names are looked up apart; the nearest that has the name is meant:
-- a binder around it, the innermost first; a binding in front of it, the latest first; a definition, the latest first.
use Rattle.std.specs.Prelude.{ℕ, suc, List, [], ◌∷◌, Option, Some, None, Ok, Err, Result, if◌then◌else◌}
use Rattle.std.specs.List.{fold}
use Rattle.std.specs.Option.{ok_or, option_map}
use Rattle.lexer.specs.Names.{same}
use Rattle.lexer.specs.declared.name.Name.{Name}
use Rattle.syntax.specs.Named as named
use Rattle.syntax.specs.Named.{NamedType, NamedTerm, Binding, NamedPhrase}
use Rattle.scope.specs.Definitions.{Definition, let_type, let_term, let_unnamed}
use Rattle.scope.specs.Scoped as scoped
use Rattle.scope.specs.Scoped.{ScopedType, ScopedTerm, ScopedBinding, ScopedPhrase}

-- what gives a meaning to a type's name: a binder or a binding, or a definition, which X names
pub data TypeGiver (X : Type 0) : Type 0 where
  binder : Name → TypeGiver X
  definition : Name → X → TypeGiver X

-- what is in scope, the nearest first; of terms only their names, and none for a term that no name means
pub record InScope (X : Type 0) : Type 0 where
  pub types : List (TypeGiver X)
  pub terms : List (Option Name)

-- what a type's name means: a type variable, or the type that X names
pub data Meaning (X : Type 0) : Type 0 where
  variable : ℕ → Meaning X
  stands_for : X → Meaning X

abbrev pub suc_of : Option ℕ → Option ℕ
suc_of None = None
suc_of (Some k) = Some (suc k)

-- a term's name is always a variable, and all that is in scope counts
abbrev pub number : List (Option Name) → Name → Option ℕ
number [] w = None
number (None ∷ names) w = suc_of (number names w)
number (Some v ∷ names) w = if same v w then Some 1 else suc_of (number names w)

module _ {X : Type 0} where
  -- how many type variables are in scope
  abbrev pub variables : List (TypeGiver X) → ℕ
  variables [] = 0
  variables (binder w ∷ givers) = suc (variables givers)
  variables (definition w x ∷ givers) = variables givers

  abbrev pub one_further : Option (Meaning X) → Option (Meaning X)
  one_further None = None
  one_further (Some (variable k)) = Some (variable (suc k))
  one_further (Some (stands_for x)) = Some (stands_for x)

  -- definitions add nothing to the number of a type variable
  abbrev pub meaning : List (TypeGiver X) → Name → Option (Meaning X)
  meaning [] w = None
  meaning (binder v ∷ givers) w = if same v w then Some (variable 1) else one_further (meaning givers w)
  meaning (definition v x ∷ givers) w = if same v w then Some (stands_for x) else meaning givers w

  abbrev pub bind_type : Name → InScope X → InScope X
  bind_type w s = record s { types = binder w ∷ s.types }

  abbrev pub bind_term : Name → InScope X → InScope X
  bind_term w s = record s { terms = Some w ∷ s.terms }

  abbrev pub define : InScope X → Definition X → InScope X
  define s (let_type w x) = record s { types = definition w x ∷ s.types }
  define s (let_term w) = bind_term w s
  define s let_unnamed = record s { terms = None ∷ s.terms }

  -- what is in scope where a source begins
  abbrev pub of_definitions : List (Definition X) → InScope X
  of_definitions ds = fold define (record { types = []; terms = [] }) ds

  abbrev pub bind : Binding → InScope X → InScope X
  bind (named.type_binding w A) s = bind_type w s
  bind (named.term_binding w A) s = bind_term w s

  -- what is in scope behind an environment
  abbrev pub behind : InScope X → List Binding → InScope X
  behind s E = fold (λ t b. bind b t) s E

-- one, two and three parts of a thing, from left to right: the first name that is not bound is that of the first part that has one
abbrev pub one : {A B : Type 0} → (A → B) → Result A ℕ → Result B ℕ
one f (Ok a) = Ok (f a)
one f (Err byte) = Err byte

abbrev pub both : {A B C : Type 0} → (A → B → C) → Result A ℕ → Result B ℕ → Result C ℕ
both f (Ok a) (Ok b) = Ok (f a b)
both f (Ok a) (Err byte) = Err byte
both f (Err byte) b = Err byte

abbrev pub three : {A B C D : Type 0} → (A → B → C → D) → Result A ℕ → Result B ℕ → Result C ℕ → Result D ℕ
three f a b c = both (λ g z. g z) (both f a b) c

module _ {X : Type 0} where
  abbrev pub type_of : Meaning X → ScopedType X
  type_of (variable k) = scoped.var k
  type_of (stands_for x) = scoped.defined x

  -- the type with its names looked up, or the byte of the first that is not bound
  abbrev pub scope_type : InScope X → NamedType → Result (ScopedType X) ℕ
  scope_type s named.top = Ok scoped.top
  scope_type s (named.name byte w) = ok_or (option_map type_of (meaning s.types w)) byte
  scope_type s (named.arrow A B) = both scoped.arrow (scope_type s A) (scope_type s B)
  scope_type s (named.all w A B) = both scoped.all (scope_type s A) (scope_type (bind_type w s) B)
  scope_type s (named.all_unbounded w B) = one scoped.all_unbounded (scope_type (bind_type w s) B)
  scope_type s (named.rec w B) = one scoped.rec (scope_type (bind_type w s) B)

  abbrev pub scope_term : InScope X → NamedTerm → Result (ScopedTerm X) ℕ
  scope_term s (named.top_term byte) = Ok (scoped.top_term byte)
  scope_term s (named.term_name byte w) = ok_or (option_map (scoped.term_var byte) (number s.terms w)) byte
  scope_term s (named.fun byte w A b) = both (scoped.fun byte) (scope_type s A) (scope_term (bind_term w s) b)
  scope_term s (named.appl byte b a) = both (scoped.appl byte) (scope_term s b) (scope_term s a)
  scope_term s (named.fun2 byte w A b) = both (scoped.fun2 byte) (scope_type s A) (scope_term (bind_type w s) b)
  scope_term s (named.fun2_unbounded byte w b) = one (scoped.fun2_unbounded byte) (scope_term (bind_type w s) b)
  scope_term s (named.appl2 byte b A) = both (scoped.appl2 byte) (scope_term s b) (scope_type s A)
  scope_term s (named.fold_term byte A a) = both (scoped.fold_term byte) (scope_type s A) (scope_term s a)
  scope_term s (named.unfold_term byte a) = one (scoped.unfold_term byte) (scope_term s a)
  scope_term s (named.rec_term byte w A b) = both (scoped.rec_term byte) (scope_type s A) (scope_term (bind_term w s) b)

  -- a binding is in scope behind it
  abbrev pub scope_env : InScope X → List Binding → Result (List (ScopedBinding X)) ℕ
  scope_env s [] = Ok []
  scope_env s (named.type_binding w A ∷ E) =
      both (λ B F. scoped.type_binding w B ∷ F) (scope_type s A) (scope_env (bind_type w s) E)
  scope_env s (named.term_binding w A ∷ E) =
      both (λ B F. scoped.term_binding w B ∷ F) (scope_type s A) (scope_env (bind_term w s) E)

  abbrev pub scope_in : InScope X → NamedPhrase → Result (ScopedPhrase X) ℕ
  scope_in s (named.let_type w B A) = both (scoped.let_type w) (scope_type s B) (scope_type s A)
  scope_in s (named.let_type_unbounded w A) = one (scoped.let_type_unbounded w) (scope_type s A)
  scope_in s (named.let_term w A b) = both (scoped.let_term w) (scope_type s A) (scope_term s b)
  scope_in s (named.let_term_untyped w b) = one (scoped.let_term_untyped w) (scope_term s b)
  scope_in s (named.of_type A) = one scoped.of_type (scope_type s A)
  scope_in s (named.of_term a) = one scoped.of_term (scope_term s a)
  scope_in s (named.judge_env E) = one scoped.judge_env (scope_env s E)
  scope_in s (named.judge_type E A) = both scoped.judge_type (scope_env s E) (scope_type (behind s E) A)
  scope_in s (named.judge_subtype E A B) =
      let t = behind s E in
      three scoped.judge_subtype (scope_env s E) (scope_type t A) (scope_type t B)
  scope_in s (named.judge_term E a A) =
      let t = behind s E in
      three scoped.judge_term (scope_env s E) (scope_term t a) (scope_type t A)

  -- the phrase after these definitions, the last of which is the latest; a definition's own name is not in scope in it
  abbrev pub scope : List (Definition X) → NamedPhrase → Result (ScopedPhrase X) ℕ
  scope ds p = scope_in (of_definitions ds) p
