-- Phrases whose names have been looked up. A variable is a number, counted outward from 1, types' and terms' apart.
-- A Let name stands for a type: X says how types are named, for which it is the line of one or the type itself.
use Rattle.std.specs.Prelude.{ℕ, List}
use Rattle.lexer.specs.declared.name.Name.{Name}

pub data ScopedType (X : Type 0) : Type 0 where
  top : ScopedType X
  var : (number : ℕ) → ScopedType X
  -- the type that a Let definition gives
  defined : X → ScopedType X
  arrow : ScopedType X → ScopedType X → ScopedType X
  -- All(X<:A)B and All(X)B
  all : ScopedType X → ScopedType X → ScopedType X
  all_unbounded : ScopedType X → ScopedType X
  -- Rec(X)B
  rec : ScopedType X → ScopedType X

pub data ScopedTerm (X : Type 0) : Type 0 where
  top_term : (byte : ℕ) → ScopedTerm X
  term_var : (byte number : ℕ) → ScopedTerm X
  -- fun(x:A)b and b(a)
  fun : (byte : ℕ) → ScopedType X → ScopedTerm X → ScopedTerm X
  appl : (byte : ℕ) → ScopedTerm X → ScopedTerm X → ScopedTerm X
  -- fun(X<:A)b, fun(X)b and b(:A)
  fun2 : (byte : ℕ) → ScopedType X → ScopedTerm X → ScopedTerm X
  fun2_unbounded : (byte : ℕ) → ScopedTerm X → ScopedTerm X
  appl2 : (byte : ℕ) → ScopedTerm X → ScopedType X → ScopedTerm X
  fold_term : (byte : ℕ) → ScopedType X → ScopedTerm X → ScopedTerm X
  unfold_term : (byte : ℕ) → ScopedTerm X → ScopedTerm X
  -- rec(x:A)b
  rec_term : (byte : ℕ) → ScopedType X → ScopedTerm X → ScopedTerm X

-- X<:A and x:A
pub data ScopedBinding (X : Type 0) : Type 0 where
  type_binding : Name → ScopedType X → ScopedBinding X
  term_binding : Name → ScopedType X → ScopedBinding X

pub data ScopedPhrase (X : Type 0) : Type 0 where
  let_type : Name → (bound to : ScopedType X) → ScopedPhrase X
  let_type_unbounded : Name → (to : ScopedType X) → ScopedPhrase X
  let_term : Name → (stated : ScopedType X) → ScopedTerm X → ScopedPhrase X
  let_term_untyped : Name → ScopedTerm X → ScopedPhrase X
  of_type : ScopedType X → ScopedPhrase X
  of_term : ScopedTerm X → ScopedPhrase X
  judge_env : List (ScopedBinding X) → ScopedPhrase X
  judge_type : List (ScopedBinding X) → ScopedType X → ScopedPhrase X
  judge_subtype : List (ScopedBinding X) → (left right : ScopedType X) → ScopedPhrase X
  judge_term : List (ScopedBinding X) → ScopedTerm X → (stated : ScopedType X) → ScopedPhrase X
