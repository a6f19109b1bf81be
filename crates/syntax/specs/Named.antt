-- Phrases with their names as the source has them. A byte is that of a name or keyword, and of an application that of its parenthesis.
use Rattle.std.specs.Prelude.{ℕ, List}
use Rattle.lexer.specs.declared.name.Name.{Name}

pub data NamedType : Type 0 where
  top : NamedType
  name : (byte : ℕ) → Name → NamedType
  arrow : NamedType → NamedType → NamedType
  -- All(X<:A)B and All(X)B
  all : Name → NamedType → NamedType → NamedType
  all_unbounded : Name → NamedType → NamedType
  -- Rec(X)B
  rec : Name → NamedType → NamedType

pub data NamedTerm : Type 0 where
  top_term : (byte : ℕ) → NamedTerm
  term_name : (byte : ℕ) → Name → NamedTerm
  -- fun(x:A)b and b(a)
  fun : (byte : ℕ) → Name → NamedType → NamedTerm → NamedTerm
  appl : (byte : ℕ) → NamedTerm → NamedTerm → NamedTerm
  -- fun(X<:A)b, fun(X)b and b(:A)
  fun2 : (byte : ℕ) → Name → NamedType → NamedTerm → NamedTerm
  fun2_unbounded : (byte : ℕ) → Name → NamedTerm → NamedTerm
  appl2 : (byte : ℕ) → NamedTerm → NamedType → NamedTerm
  fold_term : (byte : ℕ) → NamedType → NamedTerm → NamedTerm
  unfold_term : (byte : ℕ) → NamedTerm → NamedTerm
  -- rec(x:A)b
  rec_term : (byte : ℕ) → Name → NamedType → NamedTerm → NamedTerm

-- X<:A and x:A
pub data Binding : Type 0 where
  type_binding : Name → NamedType → Binding
  term_binding : Name → NamedType → Binding

pub data NamedPhrase : Type 0 where
  let_type : Name → (bound to : NamedType) → NamedPhrase
  let_type_unbounded : Name → (to : NamedType) → NamedPhrase
  let_term : Name → (stated : NamedType) → NamedTerm → NamedPhrase
  let_term_untyped : Name → NamedTerm → NamedPhrase
  of_type : NamedType → NamedPhrase
  of_term : NamedTerm → NamedPhrase
  judge_env : List Binding → NamedPhrase
  judge_type : List Binding → NamedType → NamedPhrase
  judge_subtype : List Binding → (left right : NamedType) → NamedPhrase
  judge_term : List Binding → NamedTerm → (stated : NamedType) → NamedPhrase
