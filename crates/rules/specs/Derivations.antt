-- Derivations: finite trees of the rules, a constructor a rule, in the order of the codes. All by admitted codes only.
use Rattle.std.specs.Prelude.{◌≡◌, ℕ, T}
use Rattle.rules.specs.Syntax.{Ty, top, var, arrow, all, rec, Tm, top_term, var_term, fun, appl, fun2, appl2, fold_term, unfold_term, rec_term, Env, empty, with_term, with_type, put, Bound, Typing}
use Rattle.rules.specs.Quantifiers.{Rule, bounds, bodies_under, body_bound}
use Rattle.rules.specs.declared.all_code.AllCode.{AllCode}
use Rattle.rules.specs.declared.all_code.Bounds.TheVariants.{Same, RightBelowLeft}

pub data Judgment : Type 0 where
  -- E is an environment
  is_env : Env → Judgment
  -- A is a type in E
  is_type : Env → Ty → Judgment
  -- A <: B in E
  is_sub : Env → Ty → Ty → Judgment
  -- a : A in E
  has : Env → Tm → Ty → Judgment

pub data Derivable (R : Rule) : Judgment → Type 0 where
  env_empty : Derivable R (is_env empty)
  env_term : {E : Env} {A : Ty} → Derivable R (is_type E A) → Derivable R (is_env (with_term E A))
  env_type : {E : Env} {A : Ty} → Derivable R (is_type E A) → Derivable R (is_env (with_type E A))
  type_top : {E : Env} → Derivable R (is_env E) → Derivable R (is_type E top)
  type_var : {E : Env} {k : ℕ} {B : Ty} → Derivable R (is_env E) → Bound E k B → Derivable R (is_type E (var k))
  type_arrow : {E : Env} {A B : Ty} → Derivable R (is_type E A) → Derivable R (is_type E B) → Derivable R (is_type E (arrow A B))
  type_all : {E : Env} {A B : Ty} → Derivable R (is_type (with_type E A) B) → Derivable R (is_type E (all A B))
  type_rec : {E : Env} {B : Ty} → Derivable R (is_type (with_type E top) B) → Derivable R (is_type E (rec B))
  sub_refl : {E : Env} {A : Ty} → Derivable R (is_type E A) → Derivable R (is_sub E A A)
  sub_trans : {E : Env} {A B C : Ty} → Derivable R (is_sub E A B) → Derivable R (is_sub E B C) → Derivable R (is_sub E A C)
  sub_var : {E : Env} {k : ℕ} {B : Ty} → Derivable R (is_env E) → Bound E k B → Derivable R (is_sub E (var k) B)
  sub_top : {E : Env} {A : Ty} → Derivable R (is_type E A) → Derivable R (is_sub E A top)
  sub_arrow : {E : Env} {A B C D : Ty} → Derivable R (is_sub E C A) → Derivable R (is_sub E B D)
      → Derivable R (is_sub E (arrow A B) (arrow C D))
  sub_all_same : {E : Env} {A B D : Ty} (c : AllCode) → T (R.admits c) → bounds c ≡ Same
      → Derivable R (is_sub (with_type E (body_bound (bodies_under c) A A)) B D) → Derivable R (is_sub E (all A B) (all A D))
  sub_all_below : {E : Env} {A B C D : Ty} (c : AllCode) → T (R.admits c) → bounds c ≡ RightBelowLeft → Derivable R (is_sub E C A)
      → Derivable R (is_sub (with_type E (body_bound (bodies_under c) A C)) B D) → Derivable R (is_sub E (all A B) (all C D))
  has_subsumed : {E : Env} {a : Tm} {A B : Ty} → Derivable R (has E a A) → Derivable R (is_sub E A B) → Derivable R (has E a B)
  has_var : {E : Env} {k : ℕ} {A : Ty} → Derivable R (is_env E) → Typing E k A → Derivable R (has E (var_term k) A)
  has_top : {E : Env} → Derivable R (is_env E) → Derivable R (has E top_term top)
  has_fun : {E : Env} {A B : Ty} {b : Tm} → Derivable R (has (with_term E A) b B) → Derivable R (has E (fun A b) (arrow A B))
  has_appl : {E : Env} {A B : Ty} {a b : Tm} → Derivable R (has E b (arrow A B)) → Derivable R (has E a A) → Derivable R (has E (appl b a) B)
  has_fun2 : {E : Env} {A B : Ty} {b : Tm} → Derivable R (has (with_type E A) b B) → Derivable R (has E (fun2 A b) (all A B))
  has_appl2 : {E : Env} {A B C : Ty} {b : Tm} → Derivable R (has E b (all A B)) → Derivable R (is_sub E C A)
      → Derivable R (has E (appl2 b C) (put 1 C B))
  has_fold : {E : Env} {B : Ty} {a : Tm} → Derivable R (has E a (put 1 (rec B) B)) → Derivable R (has E (fold_term (rec B) a) (rec B))
  has_unfold : {E : Env} {B : Ty} {a : Tm} → Derivable R (has E a (rec B)) → Derivable R (has E (unfold_term a) (put 1 (rec B) B))
  has_rec : {E : Env} {A : Ty} {b : Tm} → Derivable R (has (with_term E A) b A) → Derivable R (has E (rec_term A b) A)
