-- The work for a goal is the same where there are more lines: it looks only at lines that stand.
use Rattle.std.proofs.Common.{◌≡◌, ℕ, refl, ap, ap₂, sym, ◌∙◌}
use Rattle.rules.specs.Meaning.{EnvAt}
use Rattle.rules.specs.Quantifiers.{Rule}
use Rattle.rules.specs.Statements.{Get}
use Rattle.rules.specs.Syntax.{Tm, Env}
use Rattle.rules.proofs.Means.{type_on, term_on, env_on}
use Rattle.rules.proofs.Whole.{◌⊑◌, is_sub_on, has_on}
use Rattle.judge.specs.Goals.{Placed, Goal}
use Rattle.judge.specs.Plans.{as_type, as_env, raising_plan, putting_plan, bound_plan, typing_plan, env_plan, type_plan, sub_plan, var_plan, fold_plan, term_plan, plan}
use Rattle.judge.proofs.Sought.{PlacedAt, top_at, var_at, fun_at, appl_at, fun2_at, appl2_at, fold_at, unfold_at, rec_at, placed_on, Sought, Means, means_raising, means_putting, means_bound, means_typing, means_env, means_type, means_sub, means_var, means_term, means_subsumed}
use Rattle.judge.proofs.Terms.{type_stays}

env_stays : {G H : Get} {n : ℕ} {E : Env} → EnvAt G n E → G ⊑ H → H n ≡ G n
env_stays (EnvAt.env_at e x) o = o _ _ e ∙ sym e

term_stays : (G H : Get) (E : ℕ) {w : Placed} {a : Tm} → PlacedAt G w a → G ⊑ H → term_plan H E w ≡ term_plan G E w
term_stays G H E (top_at e) o = refl
term_stays G H E (var_at e) o = refl
term_stays G H E (fun_at e x y) o = refl
term_stays G H E (appl_at e x y) o = refl
term_stays G H E (fun2_at e x y) o = refl
term_stays G H E (appl2_at e x y) o = refl
term_stays G H E (fold_at {m = m} {n = n} {a = a} e x y) o = ap (λ u. fold_plan E m a n (as_type u)) (type_stays x o)
term_stays G H E (unfold_at e x) o = refl
term_stays G H E (rec_at e x y) o = refl

pub plan_stays : (R : Rule) (G H : Get) {g : Goal} {w : Sought} → Means G g w → G ⊑ H → plan R H g ≡ plan R G g
plan_stays R G H (means_raising {A = A} {j = j} a) o = ap (λ u. raising_plan A j (as_type u)) (type_stays a o)
plan_stays R G H (means_putting {B = B} {j = j} {A = A} l b a) o = ap (λ u. putting_plan B j A (as_type u)) (type_stays b o)
plan_stays R G H (means_bound {E = E} {k = k} e) o = ap (λ u. bound_plan E k (as_env u)) (env_stays e o)
plan_stays R G H (means_typing {E = E} {k = k} e) o = ap (λ u. typing_plan E k (as_env u)) (env_stays e o)
plan_stays R G H (means_env {E = E} e) o = ap (λ u. env_plan E (as_env u)) (env_stays e o)
plan_stays R G H (means_type {E = E} {A = A} e a) o = ap (λ u. type_plan E A (as_type u)) (type_stays a o)
plan_stays R G H (means_sub {E = E} {A = A} {B = B} e a b) o =
    ap₂ (λ u v. sub_plan R E A B (as_type u) (as_type v)) (type_stays a o) (type_stays b o)
plan_stays R G H (means_var {E = E} {A = A} e a) o = ap (λ u. var_plan E A (as_type u)) (type_stays a o)
plan_stays R G H (means_term {E = E} e p) o = term_stays G H E p o
plan_stays R G H (means_subsumed e t b x y) o = refl

pub means_on : {G H : Get} → G ⊑ H → {g : Goal} {w : Sought} → Means G g w → Means H g w
means_on o (means_raising a) = means_raising (type_on o a)
means_on o (means_putting l b a) = means_putting l (type_on o b) (type_on o a)
means_on o (means_bound e) = means_bound (env_on o e)
means_on o (means_typing e) = means_typing (env_on o e)
means_on o (means_env e) = means_env (env_on o e)
means_on o (means_type e a) = means_type (env_on o e) (type_on o a)
means_on o (means_sub e a b) = means_sub (env_on o e) (type_on o a) (type_on o b)
means_on o (means_var e a) = means_var (env_on o e) (type_on o a)
means_on o (means_term e p) = means_term (env_on o e) (placed_on o p)
means_on o (means_subsumed e t b x y) = means_subsumed (env_on o e) (term_on o t) (type_on o b) (has_on o x) (is_sub_on o y)
