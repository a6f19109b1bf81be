-- The bound of a type variable and the type of a term variable: which variables have one, and only one;
-- the bound for the bodies of All.
use Rattle.std.specs.Prelude.{◌≡◌, ℕ, zero, suc, refl}
use Rattle.std.proofs.Common.{ap, arith}
use Rattle.rules.specs.Syntax.{Ty, var, lift, Env, empty, with_term, with_type, Bound, bound_here, bound_past_type, bound_past_term, Typing, typing_here, typing_past_term, typing_past_type, Within}
use Rattle.rules.specs.Quantifiers.{body_bound}
use Rattle.rules.specs.declared.all_code.BodyBound.{BodyBound}
use Rattle.rules.specs.declared.all_code.BodyBound.TheVariants.{Left, Right}

pub bound_not_zero : {E : Env} {A : Ty} → Bound E zero A → ⊥
bound_not_zero (bound_past_term b) = bound_not_zero b

pub bound_within : {E : Env} {k : ℕ} {A : Ty} → Bound E k A → Within E (var k)
bound_within bound_here = (omega arith, omega arith)
bound_within (bound_past_type b) = (omega arith, omega (arith, (bound_within b).1))
bound_within (bound_past_term b) = bound_within b

pub bound_of : (E : Env) (k : ℕ) → Within E (var k) → (A : Ty) × Bound E k A
bound_of empty k w = absurd (omega (arith, w.0, w.1))
bound_of (with_term E A) k w = let b = bound_of E k w in (b.0, bound_past_term b.1)
bound_of (with_type E A) zero w = absurd (omega (arith, w.0))
bound_of (with_type E A) (suc zero) w = (lift 0 A, bound_here)
bound_of (with_type E A) (suc (suc k)) w =
    let b = bound_of E (suc k) (omega arith, omega (arith, w.1)) in
    (lift 0 b.0, bound_past_type b.1)

pub bound_unique : {E : Env} {k : ℕ} {A B : Ty} → Bound E k A → Bound E k B → A ≡ B
bound_unique bound_here bound_here = refl
bound_unique bound_here (bound_past_type b) = absurd (bound_not_zero b)
bound_unique (bound_past_type a) bound_here = absurd (bound_not_zero a)
bound_unique (bound_past_type a) (bound_past_type b) = ap (lift 0) (bound_unique a b)
bound_unique (bound_past_term a) (bound_past_term b) = bound_unique a b

pub typing_not_zero : {E : Env} {A : Ty} → Typing E zero A → ⊥
typing_not_zero (typing_past_type t) = typing_not_zero t

pub typing_unique : {E : Env} {k : ℕ} {A B : Ty} → Typing E k A → Typing E k B → A ≡ B
typing_unique typing_here typing_here = refl
typing_unique typing_here (typing_past_term t) = absurd (typing_not_zero t)
typing_unique (typing_past_term s) typing_here = absurd (typing_not_zero s)
typing_unique (typing_past_term s) (typing_past_term t) = typing_unique s t
typing_unique (typing_past_type s) (typing_past_type t) = ap (lift 0) (typing_unique s t)

pub body_bound_of : (f : Ty → Ty) (b : BodyBound) (A C : Ty) → body_bound b (f A) (f C) ≡ f (body_bound b A C)
body_bound_of f Left A C = refl
body_bound_of f Right A C = refl

pub body_bound_same : (b : BodyBound) (A : Ty) → body_bound b A A ≡ A
body_bound_same Left A = refl
body_bound_same Right A = refl
