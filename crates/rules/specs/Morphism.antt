-- Narrowing and substitution as one: a morphism takes the type variables of one environment to types of another,
-- such that what is above a bound's image is above the variable's, now and under later bindings.
use Rattle.std.specs.Prelude.{◌≡◌, ℕ, zero, suc, ◌<◌}
use Rattle.std.proofs.Common.{◌∙◌, ap}
use Rattle.rules.specs.Syntax.{Ty, lift, Env, with_type, Bound, bound_here, bound_past_type, depth, Within}
use Rattle.rules.specs.Quantifiers.{Rule, bodies_under, body_bound}
use Rattle.rules.specs.Tries.{Tries, try_top, try_same, try_var, try_arrow, try_all_same, try_all_below}
use Rattle.rules.specs.Renaming.{ren, at, ups, sub, ren_id, ren-ren}
use Rattle.rules.specs.Bridge.{lift_ren, sub-lift}
use Rattle.rules.specs.Scopes.{ups_within, scoped_sub}
use Rattle.rules.specs.Variables.{bound_not_zero, body_bound_of}
use Rattle.rules.specs.Weaken.{Ren, Ren-type, Ren-id, Ren-then}

abbrev pub Mor : Rule → (ℕ → Ty) → Env → Env → Type 0
Mor R σ E F =
    ((i : ℕ) → i < depth E → Within F (σ i))
    × ((k : ℕ) (A : Ty) → Bound E k A → (G : Env) (ρ : ℕ → ℕ) → Ren ρ F G
    → (B : Ty) → Tries R G (ren ρ (sub σ A)) B → Tries R G (ren ρ (at σ k)) B)

pub Mor-up : (R : Rule) (σ : ℕ → Ty) (E F : Env) (A : Ty) → Mor R σ E F → Mor R (ups σ) (with_type E A) (with_type F (sub σ A))
Mor-up R σ E F A ok = (ups_within σ (depth E) (depth F) ok.0, goes)
  where
    past : (k : ℕ) (C : Ty) → Bound E k C → (G : Env) (ρ : ℕ → ℕ) → Ren ρ (with_type F (sub σ A)) G
        → (B : Ty) → Tries R G (ren ρ (sub (ups σ) (lift 0 C))) B → Tries R G (ren ρ (ups σ k)) B
    past zero C b G ρ r B t = absurd (bound_not_zero b)
    past (suc k) C b G ρ r B t =
        let e : ren ρ (sub (ups σ) (lift 0 C)) ≡ ren (λ n. ρ (suc n)) (sub σ C)
        = ap (ren ρ) (sub-lift σ C ∙ lift_ren 0 (sub σ C)) ∙ ren-ren ρ suc (sub σ C) in
        let s = Ren-then ρ suc F (with_type F (sub σ A)) G (Ren-type F (sub σ A)) r in
        rw (ren-ren ρ suc (σ k)) (ok.1 (suc k) C b G (λ n. ρ (suc n)) s B (rw e at t))

    goes : (k : ℕ) (C : Ty) → Bound (with_type E A) k C → (G : Env) (ρ : ℕ → ℕ) → Ren ρ (with_type F (sub σ A)) G
        → (B : Ty) → Tries R G (ren ρ (sub (ups σ) C)) B → Tries R G (ren ρ (at (ups σ) k)) B
    goes k C bound_here G ρ r B t = try_var (r.1 1 (lift 0 (sub σ A)) bound_here) (rw (sub-lift σ A) at t)
    goes k C (bound_past_type {k = j} {B = D} b) G ρ r B t = past j D b G ρ r B t

pub substitutes : {R : Rule} {E : Env} {A B : Ty} → Tries R E A B → (σ : ℕ → Ty) (F : Env) → Mor R σ E F → Tries R F (sub σ A) (sub σ B)
substitutes {A = A} (try_top {E = E} w) σ F ok = try_top (scoped_sub A σ (depth E) (depth F) ok.0 w)
substitutes (try_same {E = E} {A = A} w) σ F ok = try_same (scoped_sub A σ (depth E) (depth F) ok.0 w)
substitutes {R} {B = B} (try_var {k = k} {A = A} b t) σ F ok =
    let u = substitutes t σ F ok in
    rw (ren_id (at σ k)) at (ok.1 k A b F (λ n. n) (Ren-id F) (sub σ B) (rw (ren_id (sub σ A)) u))
substitutes (try_arrow s t) σ F ok = try_arrow (substitutes s σ F ok) (substitutes t σ F ok)
substitutes {R} (try_all_same {E = E} {A = A} e w t) σ F ok =
    let b = bodies_under R.own in
    let u = substitutes t (ups σ) (with_type F (sub σ (body_bound b A A))) (Mor-up R σ E F (body_bound b A A) ok) in
    try_all_same e (scoped_sub A σ (depth E) (depth F) ok.0 w) (rw (body_bound_of (sub σ) b A A) u)
substitutes {R} (try_all_below {E = E} {A = A} {C = C} e s t) σ F ok =
    let b = bodies_under R.own in
    let u = substitutes t (ups σ) (with_type F (sub σ (body_bound b A C))) (Mor-up R σ E F (body_bound b A C) ok) in
    try_all_below e (substitutes s σ F ok) (rw (body_bound_of (sub σ) b A C) u)
