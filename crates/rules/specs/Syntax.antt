-- Types, terms and environments. Variables are numbered outward from 1, type and term binders apart:
-- a term binder shifts no type variable, and an arrow binds nothing.
use Rattle.std.specs.Prelude.{ℕ, zero, suc, pred, ◌≤◌, if◌then◌else◌, ◌==◌, nat_lt}

pub data Ty : Type 0 where
  top : Ty
  var : ℕ → Ty
  arrow : Ty → Ty → Ty
  -- All(X<:A)B
  all : Ty → Ty → Ty
  -- Rec(X)B
  rec : Ty → Ty

pub data Tm : Type 0 where
  top_term : Tm
  var_term : ℕ → Tm
  -- fun(x:A)b and b(a)
  fun : Ty → Tm → Tm
  appl : Tm → Tm → Tm
  -- fun(X<:A)b and b(:A)
  fun2 : Ty → Tm → Tm
  appl2 : Tm → Ty → Tm
  fold_term : Ty → Tm → Tm
  unfold_term : Tm → Tm
  -- rec(x:A)b
  rec_term : Ty → Tm → Tm

pub data Env : Type 0 where
  empty : Env
  -- E,x:A
  with_term : Env → Ty → Env
  -- E,X<:A
  with_type : Env → Ty → Env

-- A with every variable above j raised by 1
abbrev pub lift : ℕ → Ty → Ty
lift j top = top
lift j (var k) = var (if nat_lt j k then suc k else k)
lift j (arrow A B) = arrow (lift j A) (lift j B)
lift j (all A B) = all (lift j A) (lift (suc j) B)
lift j (rec B) = rec (lift (suc j) B)

-- B with A put for variable j, and higher variables lowered by 1
abbrev pub put : ℕ → Ty → Ty → Ty
put j A top = top
put j A (var k) = if k == j then A else var (if nat_lt j k then pred k else k)
put j A (arrow B C) = arrow (put j A B) (put j A C)
put j A (all B C) = all (put j A B) (put (suc j) (lift 0 A) C)
put j A (rec B) = rec (put (suc j) (lift 0 A) B)

-- A is the bound of type variable k in E
pub data Bound : Env → ℕ → Ty → Type 0 where
  bound_here : {E : Env} {A : Ty} → Bound (with_type E A) 1 (lift 0 A)
  bound_past_type : {E : Env} {k : ℕ} {A B : Ty} → Bound E k B → Bound (with_type E A) (suc k) (lift 0 B)
  bound_past_term : {E : Env} {k : ℕ} {A B : Ty} → Bound E k B → Bound (with_term E A) k B

-- A is the type of term variable k in E
pub data Typing : Env → ℕ → Ty → Type 0 where
  typing_here : {E : Env} {A : Ty} → Typing (with_term E A) 1 A
  typing_past_term : {E : Env} {k : ℕ} {A B : Ty} → Typing E k A → Typing (with_term E B) (suc k) A
  typing_past_type : {E : Env} {k : ℕ} {A B : Ty} → Typing E k A → Typing (with_type E B) k (lift 0 A)

-- how many type binders E has
abbrev pub depth : Env → ℕ
depth empty = zero
depth (with_term E A) = depth E
depth (with_type E A) = suc (depth E)

-- A's variables are among n binders
abbrev pub Scoped : ℕ → Ty → Type 0
Scoped n top = Unit {0}
Scoped n (var k) = (1 ≤ k) × (k ≤ n)
Scoped n (arrow A B) = Scoped n A × Scoped n B
Scoped n (all A B) = Scoped n A × Scoped (suc n) B
Scoped n (rec B) = Scoped (suc n) B

-- A's variables are bound in E
abbrev pub Within : Env → Ty → Type 0
Within E A = Scoped (depth E) A
