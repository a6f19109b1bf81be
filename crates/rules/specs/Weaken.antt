-- Renamings between environments take the tries along; weakening by a binding is such a renaming.
use Rattle.std.proofs.Common.{subst₂, arith}
use Rattle.std.specs.Prelude.{ℕ, zero, suc, ◌<◌}
use Rattle.rules.specs.Syntax.{Ty, lift, Env, with_term, with_type, Bound, bound_here, bound_past_type, bound_past_term, depth}
use Rattle.rules.specs.Quantifiers.{Rule, bodies_under, body_bound}
use Rattle.rules.specs.Tries.{Tries, try_top, try_same, try_var, try_arrow, try_all_same, try_all_below}
use Rattle.rules.specs.Renaming.{up, ren, up_id, up_up, ren_id, ren-ren}
use Rattle.rules.specs.Bridge.{lift_ren, ren-lift}
use Rattle.rules.specs.Scopes.{up_within, scoped_ren}
use Rattle.rules.specs.Variables.{bound_not_zero, body_bound_of}

-- ρ takes the type variables of E to those of F, and bounds to bounds
abbrev pub Ren : (ℕ → ℕ) → Env → Env → Type 0
Ren ρ E F = ((i : ℕ) → i < depth E → ρ i < depth F) × ((k : ℕ) (A : Ty) → Bound E k A → Bound F (up ρ k) (ren ρ A))

pub Ren-up : (ρ : ℕ → ℕ) (E F : Env) (A : Ty) → Ren ρ E F → Ren (up ρ) (with_type E A) (with_type F (ren ρ A))
Ren-up ρ E F A ok = (up_within ρ (depth E) (depth F) ok.0, goes)
  where
    goes : (k : ℕ) (B : Ty) → Bound (with_type E A) k B → Bound (with_type F (ren ρ A)) (up (up ρ) k) (ren (up ρ) B)
    goes k B bound_here = rw (ren-lift ρ A) bound_here
    goes k B (bound_past_type {k = j} {B = C} b) = rw (ren-lift ρ C) (bound_past_type (ok.1 j C b))

pub Ren-type : (E : Env) (A : Ty) → Ren suc E (with_type E A)
Ren-type E A = (λ i lt. omega arith, goes)
  where
    goes : (k : ℕ) (B : Ty) → Bound E k B → Bound (with_type E A) (up suc k) (ren suc B)
    goes zero B b = absurd (bound_not_zero b)
    goes (suc k) B b = rw (← lift_ren 0 B) (bound_past_type b)

pub Ren-term : (E : Env) (A : Ty) → Ren (λ n. n) E (with_term E A)
Ren-term E A = (λ i lt. lt, λ k B b. rw (up_id k, ren_id B) (bound_past_term b))

pub Ren-id : (E : Env) → Ren (λ n. n) E E
Ren-id E = (λ i lt. lt, λ k B b. rw (up_id k, ren_id B) b)

pub Ren-off-term : (E : Env) (A : Ty) → Ren (λ n. n) (with_term E A) E
Ren-off-term E A = (λ i lt. lt, λ k B b. rw (up_id k, ren_id B) (off b))
  where
    off : {F : Env} {C : Ty} {k : ℕ} {B : Ty} → Bound (with_term F C) k B → Bound F k B
    off (bound_past_term b) = b

pub Ren-then : (τ ρ : ℕ → ℕ) (E F G : Env) → Ren ρ E F → Ren τ F G → Ren (λ n. τ (ρ n)) E G
Ren-then τ ρ E F G r t = (
  λ i lt. t.0 (ρ i) (r.0 i lt),
  λ k A b. subst₂ (Bound G) (up_up τ ρ k) (ren-ren τ ρ A) (t.1 (up ρ k) (ren ρ A) (r.1 k A b)),
)

pub renames : {R : Rule} {E : Env} {A B : Ty} → Tries R E A B → (ρ : ℕ → ℕ) (F : Env) → Ren ρ E F → Tries R F (ren ρ A) (ren ρ B)
renames {A = A} (try_top {E = E} w) ρ F ok = try_top (scoped_ren A ρ (depth E) (depth F) ok.0 w)
renames (try_same {E = E} {A = A} w) ρ F ok = try_same (scoped_ren A ρ (depth E) (depth F) ok.0 w)
renames (try_var {k = k} {A = A} b t) ρ F ok = try_var (ok.1 k A b) (renames t ρ F ok)
renames (try_arrow s t) ρ F ok = try_arrow (renames s ρ F ok) (renames t ρ F ok)
renames {R} (try_all_same {E = E} {A = A} e w t) ρ F ok =
    let b = bodies_under R.own in
    let u = renames t (up ρ) (with_type F (ren ρ (body_bound b A A))) (Ren-up ρ E F (body_bound b A A) ok) in
    try_all_same e (scoped_ren A ρ (depth E) (depth F) ok.0 w) (rw (body_bound_of (ren ρ) b A A) u)
renames {R} (try_all_below {E = E} {A = A} {C = C} e s t) ρ F ok =
    let b = bodies_under R.own in
    let u = renames t (up ρ) (with_type F (ren ρ (body_bound b A C))) (Ren-up ρ E F (body_bound b A C) ok) in
    try_all_below e (renames s ρ F ok) (rw (body_bound_of (ren ρ) b A C) u)

pub weaken_type : {R : Rule} {E : Env} {A B : Ty} (C : Ty) → Tries R E A B → Tries R (with_type E C) (lift 0 A) (lift 0 B)
weaken_type {R} {E} {A} {B} C t = rw (lift_ren 0 A, lift_ren 0 B) (renames t suc (with_type E C) (Ren-type E C))

pub weaken_term : {R : Rule} {E : Env} {A B : Ty} (C : Ty) → Tries R E A B → Tries R (with_term E C) A B
weaken_term {R} {E} {A} {B} C t = subst₂ (Tries R (with_term E C)) (ren_id A) (ren_id B) (renames t (λ n. n) (with_term E C) (Ren-term E C))

pub strengthen_term : {R : Rule} {E : Env} {A B C : Ty} → Tries R (with_term E C) A B → Tries R E A B
strengthen_term {R} {E} {A} {B} {C} t = subst₂ (Tries R E) (ren_id A) (ren_id B) (renames t (λ n. n) E (Ren-off-term E C))
