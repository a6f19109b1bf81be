-- Derivations and the tries agree: what is derivable is well formed, and by the laws of chains and admitted codes derivable
-- subtyping is what the tries say.
use Rattle.std.proofs.Common.{◌↔◌, refl, subst}
use mathlib.Core.Path.{subst⁻¹}
use Rattle.rules.specs.Syntax.{Ty, top, var, arrow, all, rec, Env, empty, with_term, with_type, Within, depth}
use Rattle.rules.specs.Quantifiers.{Rule, bodies_under, body_bound}
use Rattle.rules.specs.Derivations.{Judgment, is_env, is_type, is_sub, has, Derivable, env_empty, env_term, env_type, type_top, type_var, type_arrow, type_all, type_rec, sub_refl, sub_trans, sub_var, sub_top, sub_arrow, sub_all_same, sub_all_below, has_subsumed, has_var, has_top, has_fun, has_appl, has_fun2, has_appl2, has_fold, has_unfold, has_rec}
use Rattle.rules.specs.Tries.{Tries, try_top, try_same, try_var, try_arrow, try_all_same, try_all_below}
use Rattle.rules.specs.Laws.{Chains, Admitted, BoundsHold}
use Rattle.rules.specs.declared.all_code.BodyBound.{BodyBound}
use Rattle.rules.specs.declared.all_code.BodyBound.TheVariants.{Left, Right}
use Rattle.rules.specs.Scopes.{scoped_put, unscoped_put}
use Rattle.rules.specs.Variables.{bound_within, bound_of, body_bound_same}
use Rattle.rules.proofs.Formed.{Formed, bound_formed, typing_formed}
use Rattle.rules.specs.Regular.{regular}
use Rattle.rules.specs.Transitive.{transitive}

-- what a judgment speaks of is formed
abbrev pub Regular : Judgment → Type 0
Regular (is_env E) = Formed E
Regular (is_type E A) = Formed E × Within E A
Regular (is_sub E A B) = Formed E × Within E A × Within E B
Regular (has E a A) = Formed E × Within E A

pub derivable_regular : {R : Rule} {J : Judgment} → Derivable R J → Regular J
derivable_regular env_empty = tt
derivable_regular (env_term d) = derivable_regular d
derivable_regular (env_type d) = derivable_regular d
derivable_regular (type_top d) = (derivable_regular d, tt)
derivable_regular (type_var d b) = (derivable_regular d, bound_within b)
derivable_regular (type_arrow d e) = ((derivable_regular d).0, ((derivable_regular d).1, (derivable_regular e).1))
derivable_regular (type_all d) = ((derivable_regular d).0.0, ((derivable_regular d).0.1, (derivable_regular d).1))
derivable_regular (type_rec d) = ((derivable_regular d).0.0, (derivable_regular d).1)
derivable_regular (sub_refl d) = ((derivable_regular d).0, (derivable_regular d).1, (derivable_regular d).1)
derivable_regular (sub_trans d e) = ((derivable_regular d).0, (derivable_regular d).1, (derivable_regular e).2)
derivable_regular (sub_var d b) = (derivable_regular d, bound_within b, bound_formed b (derivable_regular d))
derivable_regular (sub_top d) = ((derivable_regular d).0, (derivable_regular d).1, tt)
derivable_regular (sub_arrow d e) =
    let (f, c, a) = derivable_regular d in
    let (g, b, d') = derivable_regular e in
    (f, (a, b), (c, d'))
derivable_regular (sub_all_same {E = E} {A = A} c a e d) =
    let (f, b, d') = derivable_regular d in
    let w = subst (Within E) (body_bound_same (bodies_under c) A) f.1 in
    (f.0, (w, b), (w, d'))
derivable_regular (sub_all_below c a e d d') =
    let (f, v, w) = derivable_regular d in
    let (g, x, y) = derivable_regular d' in
    (f, (w, x), (v, y))
derivable_regular (has_subsumed d e) = ((derivable_regular d).0, (derivable_regular e).2)
derivable_regular (has_var d t) = (derivable_regular d, typing_formed t (derivable_regular d))
derivable_regular (has_top d) = (derivable_regular d, tt)
derivable_regular (has_fun d) = ((derivable_regular d).0.0, ((derivable_regular d).0.1, (derivable_regular d).1))
derivable_regular (has_appl d e) = ((derivable_regular d).0, (derivable_regular d).1.1)
derivable_regular (has_fun2 d) = ((derivable_regular d).0.0, ((derivable_regular d).0.1, (derivable_regular d).1))
derivable_regular (has_appl2 {E = E} {B = B} {C = C} d e) =
    ((derivable_regular d).0, scoped_put (depth E) C B (derivable_regular e).1 (derivable_regular d).1.1)
derivable_regular (has_fold {E = E} {B = B} d) = ((derivable_regular d).0, unscoped_put (depth E) (rec B) B (derivable_regular d).1)
derivable_regular (has_unfold {E = E} {B = B} d) =
    ((derivable_regular d).0, scoped_put (depth E) (rec B) B (derivable_regular d).1 (derivable_regular d).1)
derivable_regular (has_rec d) = (derivable_regular d).0

-- the other way, for environments and types

pub type_derivable : {R : Rule} {E : Env} (A : Ty) → Derivable R (is_env E) → Within E A → Derivable R (is_type E A)
type_derivable top d w = type_top d
type_derivable {E = E} (var k) d w = type_var d (bound_of E k w).1
type_derivable (arrow A B) d w = type_arrow (type_derivable A d w.0) (type_derivable B d w.1)
type_derivable (all A B) d w = type_all (type_derivable B (env_type (type_derivable A d w.0)) w.1)
type_derivable (rec B) d w = type_rec (type_derivable B (env_type (type_top d)) w)

pub env_derivable : {R : Rule} (E : Env) → Formed E → Derivable R (is_env E)
env_derivable empty f = env_empty
env_derivable (with_term E A) f = env_term (type_derivable A (env_derivable E f.0) f.1)
env_derivable (with_type E A) f = env_type (type_derivable A (env_derivable E f.0) f.1)

-- and for subtyping

pub body_bound_within : (b : BodyBound) (E : Env) (A C : Ty) → Within E A → Within E C → Within E (body_bound b A C)
body_bound_within Left E A C v w = v
body_bound_within Right E A C v w = w

pub sub_derivable : {R : Rule} {E : Env} {A B : Ty} → Derivable R (is_env E) → Tries R E A B → Derivable R (is_sub E A B)
sub_derivable d (try_top {A = A} w) = sub_top (type_derivable A d w)
sub_derivable d (try_same {A = A} w) = sub_refl (type_derivable A d w)
sub_derivable d (try_var b t) = sub_trans (sub_var d b) (sub_derivable d t)
sub_derivable d (try_arrow s t) = sub_arrow (sub_derivable d s) (sub_derivable d t)
sub_derivable {R} d (try_all_same {E = E} {A = A} e w t) =
    let b = bodies_under R.own in
    let f = env_type (type_derivable (body_bound b A A) d (body_bound_within b E A A w w)) in
    sub_all_same R.own R.own_admitted e (sub_derivable f t)
sub_derivable {R} d (try_all_below {E = E} {A = A} {C = C} e s t) =
    let b = bodies_under R.own in
    let w = regular s in
    let f = env_type (type_derivable (body_bound b A C) d (body_bound_within b E A C w.1 w.0)) in
    sub_all_below R.own R.own_admitted e (sub_derivable d s) (sub_derivable f t)

pub tried : {R : Rule} {E : Env} {A B : Ty} → Chains R → Admitted R → Derivable R (is_sub E A B) → Tries R E A B
tried c a (sub_refl d) = try_same (derivable_regular d).1
tried c a (sub_trans d e) = transitive c _ _ _ _ (tried c a d) (tried c a e)
tried c a (sub_var d b) = try_var b (try_same (bound_formed b (derivable_regular d)))
tried c a (sub_top d) = try_top (derivable_regular d).1
tried c a (sub_arrow d e) = try_arrow (tried c a d) (tried c a e)
tried {R} c a (sub_all_same {E = E} {A = A} code admits e d) =
    let w = (derivable_regular (sub_all_same code admits e d)).1.0 in
    a code admits _ _ _ _ _ (subst⁻¹ (λ b. BoundsHold R b E A A) e (w, refl)) (tried c a d)
tried {R} c a (sub_all_below {E = E} {A = A} {C = C} code admits e d d') =
    a code admits _ _ _ _ _ (subst⁻¹ (λ b. BoundsHold R b E A C) e (tried c a d)) (tried c a d')

pub env_agrees : (R : Rule) (E : Env) → Derivable R (is_env E) ↔ Formed E
env_agrees R E = (derivable_regular, env_derivable E)

pub type_agrees : (R : Rule) (E : Env) (A : Ty) → Derivable R (is_type E A) ↔ (Formed E × Within E A)
type_agrees R E A = (derivable_regular, λ w. type_derivable A (env_derivable E w.0) w.1)

pub sub_agrees : (R : Rule) → Chains R → Admitted R → (E : Env) (A B : Ty) → Derivable R (is_sub E A B) ↔ (Formed E × Tries R E A B)
sub_agrees R c a E A B = (λ d. ((derivable_regular d).0, tried c a d), λ t. sub_derivable (env_derivable E t.0) t.1)
