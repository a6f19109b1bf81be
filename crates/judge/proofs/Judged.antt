-- What is sought on a sound listing: every plan is valid, so the listing stays sound and grows at its end, the line that is established says
-- what was sought, and what fails cannot be derived.
use Rattle.std.proofs.Common.{ℕ}
use Rattle.rules.specs.Derivations.{is_env, is_type, is_sub, has, Derivable}
use Rattle.rules.specs.Laws.{Chains, Instances, Bodies, Admitted}
use Rattle.rules.specs.Quantifiers.{Rule}
use Rattle.rules.specs.Syntax.{Ty, Tm, Env}
use Rattle.rules.proofs.Agree.{derivable_regular, tried}
use Rattle.rules.proofs.Least.{least_below}
use Rattle.judge.specs.Seeking.{Limits, seek}
use Rattle.judge.proofs.Sought.{an_env, a_type, below, typed, means_raising, means_putting, means_bound, means_typing, means_env, means_type, means_sub, means_var, means_term, means_subsumed, Holds}
use Rattle.judge.proofs.Standing.{Valid_plans, seek_sound}
use Rattle.judge.proofs.Subtypes.{sub_valid, var_valid}
use Rattle.judge.proofs.Terms.{term_valid, subsumed_valid}
use Rattle.judge.proofs.Types.{raising_valid, putting_valid, bound_valid, typing_valid, env_valid, type_valid}
use Rattle.judge.proofs.Valid.{Sound_seeking}

module _ {R : Rule} (chains : Chains R) (admitted : Admitted R) where
  pub plans_valid : Valid_plans R
  plans_valid g w L (means_raising {A = A} {j = j} a) = raising_valid L A j a
  plans_valid g w L (means_putting {B = B} {j = j} {A = A} l b a) = putting_valid L B j A l b a
  plans_valid g w L (means_bound {E = E} {k = k} e) = bound_valid L E k e
  plans_valid g w L (means_typing {E = E} {k = k} e) = typing_valid L E k e
  plans_valid g w L (means_env {E = E} e) = env_valid L E e
  plans_valid g w L (means_type {E = E} {A = A} e a) = type_valid L E A e a
  plans_valid g w L (means_sub {E = E} {A = A} {B = B} e a b) = sub_valid L E A B e a b
  plans_valid g w L (means_var {E = E} {A = A} e a) = var_valid L E A e a
  plans_valid g w L (means_term {E = E} e a) = term_valid chains admitted L E e a
  plans_valid g w L (means_subsumed {E = E} {a = a} {A = A} {B = B} {p = p} {q = q} e t b x y) = subsumed_valid L E a A B p q e t b x y

  -- with any limits and places
  pub seeks_soundly : (l : Limits) (places : ℕ) → Sound_seeking R (λ s g. seek R l places s g)
  seeks_soundly l places = seek_sound R l plans_valid places

-- what can be derived can be established

pub env_holds : {R : Rule} {Γ : Env} → Derivable R (is_env Γ) → Holds R (an_env Γ)
env_holds d = derivable_regular d

pub type_holds : {R : Rule} {Γ : Env} {X : Ty} → Derivable R (is_type Γ X) → Holds R (a_type Γ X)
type_holds d = derivable_regular d

pub sub_holds : {R : Rule} {Γ : Env} {X Y : Ty} → Chains R → Admitted R → Derivable R (is_sub Γ X Y) → Holds R (below Γ X Y)
sub_holds chains admitted d = ((derivable_regular d).0, tried chains admitted d)

pub term_holds : {R : Rule} {Γ : Env} {a : Tm} {X : Ty} → Chains R → Instances R → Bodies R → Admitted R → Derivable R (has Γ a X)
    → Holds R (typed Γ a)
term_holds chains instances bodies admitted d = let (A, l, t) = least_below chains instances bodies admitted d in (A, l)
