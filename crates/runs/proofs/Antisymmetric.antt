-- Types that are below one another are the same, so a term has one least type.
use Rattle.std.proofs.Common.{◌≡◌, ℕ, suc, ◌<◌, ◌≤◌, ◌⊎◌, refl, ap, ap₂, sym, ◌∙◌, subst, inl, inr, ⊎_elim, arith}
use Rattle.rules.specs.Laws.{Chains, Admitted}
use Rattle.rules.specs.Quantifiers.{Rule, bounds, bodies_under, body_bound}
use Rattle.rules.specs.Regular.{regular}
use Rattle.rules.specs.Syntax.{Ty, top, var, arrow, all, rec, Tm, lift, Env, with_type, Bound, bound_here, bound_past_type, bound_past_term, Within}
use Rattle.rules.specs.Tries.{Tries, try_top, try_same, try_var, try_arrow, try_all_same, try_all_below}
use Rattle.rules.specs.declared.all_code.Bounds.{Bounds}
use Rattle.rules.specs.declared.all_code.Bounds.TheVariants.{Same, RightBelowLeft}
use Rattle.rules.proofs.Agree.{derivable_regular, body_bound_within, tried}
use Rattle.rules.proofs.Formed.{Formed}
use Rattle.runs.specs.Judgments.{LeastType}
use Rattle.std.proofs.lemmas.Bool.{lt-ltb}

-- which form a type has

abbrev form : Ty → ℕ
form top = 0
form (var k) = 1
form (arrow A B) = 2
form (all A B) = 3
form (rec B) = 4

other_form : {X : Type 0} (A B : Ty) → A ≡ B → (form A ≡ form B → ⊥) → X
other_form A B e h = absurd (h (ap form e))

-- a bound that is a variable is further out

lifted : (A : Ty) (i : ℕ) → lift 0 A ≡ var i → (m : ℕ) × (A ≡ var m) × (1 ≤ m → i ≡ suc m)
lifted top i e = other_form top (var i) e (λ f. let z : ⊥ = omega (arith, f) in z)
lifted (var m) i e = (m, refl, λ h. let f : var (suc m) ≡ var i = rw (lt-ltb 0 m h) at e in cc)
lifted (arrow A B) i e = other_form (lift 0 (arrow A B)) (var i) e (λ f. let z : ⊥ = omega (arith, f) in z)
lifted (all A B) i e = other_form (lift 0 (all A B)) (var i) e (λ f. let z : ⊥ = omega (arith, f) in z)
lifted (rec B) i e = other_form (lift 0 (rec B)) (var i) e (λ f. let z : ⊥ = omega (arith, f) in z)

further_out : {E : Env} {k : ℕ} {A : Ty} → Bound E k A → Formed E → (i : ℕ) → A ≡ var i → k < i
further_out (bound_here {E = E} {A = A}) f i e =
    let (m, g, h) = lifted A i e in
    let w : Within E (var m) = subst (Within E) g f.1 in
    let j = w.0 in omega (arith, h j, j)
further_out (bound_past_type {B = B} b) f i e =
    let (m, g, h) = lifted B i e in
    let j = further_out b f.0 m g in omega (arith, h (omega (arith, j)), j)
further_out (bound_past_term b) f i e = further_out b f.0 i e

-- what is below a variable is one that is no further out
below_var : {R : Rule} {E : Env} {A : Ty} {k : ℕ} → Formed E → Tries R E A (var k) → (i : ℕ) × (A ≡ var i) × (i ≤ k)
below_var {k = k} f (try_same w) = (k, refl, omega arith)
below_var f (try_var {k = j} b t) =
    let (i, e, h) = below_var f t in
    let g = further_out b f i e in (j, refl, omega (arith, g, h))

above_top : {R : Rule} {E : Env} {A : Ty} → Tries R E top A → A ≡ top
above_top (try_top w) = refl
above_top (try_same w) = refl

-- the parts of arrows and of All below one another

arrow_parts : {A B C D : Ty} → arrow A B ≡ arrow C D → (A ≡ C) × (B ≡ D)
arrow_parts e = (cc, cc)

all_parts : {A B C D : Ty} → all A B ≡ all C D → (A ≡ C) × (B ≡ D)
all_parts e = (cc, cc)

arrows : {R : Rule} {E : Env} {P Q : Ty} (A B C D : Ty) → Tries R E P Q → P ≡ arrow A B → Q ≡ arrow C D
    → (P ≡ Q) ⊎ (Tries R E C A × Tries R E B D)
arrows A B C D (try_top w) p q = other_form top (arrow C D) q (λ f. let z : ⊥ = omega (arith, f) in z)
arrows A B C D (try_same w) p q = inl refl
arrows A B C D (try_var {k = k} b t) p q = other_form (var k) (arrow A B) p (λ f. let z : ⊥ = omega (arith, f) in z)
arrows {R} {E} A B C D (try_arrow {A = A'} {B = B'} {C = C'} {D = D'} s t) p q =
    let (e, f) = arrow_parts p in
    let (g, h) = arrow_parts q in
    inr (subst (λ X. Tries R E C X) e (subst (λ X. Tries R E X A') g s), subst (λ X. Tries R E B X) h (subst (λ X. Tries R E X D') f t))
arrows A B C D (try_all_same {A = A'} {B = B'} e w t) p q = other_form (all A' B') (arrow A B) p (λ f. let z : ⊥ = omega (arith, f) in z)
arrows A B C D (try_all_below {A = A'} {B = B'} e s t) p q = other_form (all A' B') (arrow A B) p (λ f. let z : ⊥ = omega (arith, f) in z)

-- of All by a code that wants the same bounds, and by one that wants the right below the left
pub data Alls (R : Rule) (E : Env) (A B C D : Ty) : Type 0 where
  same_alls : all A B ≡ all C D → Alls R E A B C D
  same_bounds : bounds R.own ≡ Same → A ≡ C → Tries R (with_type E (body_bound (bodies_under R.own) A A)) B D → Alls R E A B C D
  right_below : bounds R.own ≡ RightBelowLeft → Tries R E C A → Tries R (with_type E (body_bound (bodies_under R.own) A C)) B D → Alls R E A B C D

alls : {R : Rule} {E : Env} {P Q : Ty} (A B C D : Ty) → Tries R E P Q → P ≡ all A B → Q ≡ all C D → Alls R E A B C D
alls A B C D (try_top w) p q = other_form top (all C D) q (λ f. let z : ⊥ = omega (arith, f) in z)
alls A B C D (try_same w) p q = same_alls (sym p ∙ q)
alls A B C D (try_var {k = k} b t) p q = other_form (var k) (all A B) p (λ f. let z : ⊥ = omega (arith, f) in z)
alls A B C D (try_arrow {A = A'} {B = B'} s t) p q = other_form (arrow A' B') (all A B) p (λ f. let z : ⊥ = omega (arith, f) in z)
alls {R} {E} A B C D (try_all_same {A = A'} {B = B'} {D = D'} e w t) p q =
    let (f, g) = all_parts p in
    let (h, i) = all_parts q in
    let b = bodies_under R.own in
    let moved : Tries R (with_type E (body_bound b A A)) B' D' = subst (λ X. Tries R (with_type E (body_bound b X X)) B' D') f t in
    same_bounds e (sym f ∙ h) (subst (λ X. Tries R (with_type E (body_bound b A A)) B X) i (subst (λ X. Tries R (with_type E (body_bound b A A)) X D') g moved))
alls {R} {E} A B C D (try_all_below {A = A'} {B = B'} {C = C'} {D = D'} e s t) p q =
    let (f, g) = all_parts p in
    let (h, i) = all_parts q in
    let b = bodies_under R.own in
    let left : Tries R (with_type E (body_bound b A C')) B' D' = subst (λ X. Tries R (with_type E (body_bound b X C')) B' D') f t in
    let right : Tries R (with_type E (body_bound b A C)) B' D' = subst (λ X. Tries R (with_type E (body_bound b A X)) B' D') h left in
    right_below e (subst (λ X. Tries R E C X) f (subst (λ X. Tries R E X A') h s))
    (subst (λ X. Tries R (with_type E (body_bound b A C)) B X) i (subst (λ X. Tries R (with_type E (body_bound b A C)) X D') g right))

abbrev is_same : Bounds → ℕ
is_same Same = 0
is_same RightBelowLeft = 1

not_both : {b : Bounds} → b ≡ Same → b ≡ RightBelowLeft → ⊥
not_both e f = let g = ap is_same (sym e ∙ f) in let z : ⊥ = omega (arith, g) in z

pub antisymmetric : {R : Rule} {E : Env} {A B : Ty} → Formed E → Tries R E A B → Tries R E B A → A ≡ B
antisymmetric f (try_top w) u = above_top u
antisymmetric f (try_same w) u = refl
antisymmetric {R} {E} f (try_var {k = k} {A = C} b s) u =
    let (i, e, h) = below_var f u in
    let (j, g, l) = below_var f (subst (λ X. Tries R E C X) e s) in
    let m = further_out b f j g in absurd (let z : ⊥ = omega (arith, h, l, m) in z)
antisymmetric f (try_arrow {A = A} {B = B} {C = C} {D = D} s t) u =
    ⊎_elim (λ same. sym same) (λ (v, w). ap₂ arrow (sym (antisymmetric f s v)) (antisymmetric f t w)) (arrows C D A B u refl refl)
antisymmetric {R} {E} f (try_all_same {A = A} {B = B} {D = D} e w t) u =
    go (alls A D A B u refl refl) (λ v. antisymmetric (f, body_bound_within (bodies_under R.own) E A A w w) t v)
  where
    go : Alls R E A D A B → (Tries R (with_type E (body_bound (bodies_under R.own) A A)) D B → B ≡ D) → all A B ≡ all A D
    go (same_alls g) h = sym g
    go (same_bounds g i v) h = ap (all A) (h v)
    go (right_below g s v) h = absurd (not_both e g)
antisymmetric {R} {E} f (try_all_below {A = A} {B = B} {C = C} {D = D} e s t) u =
    go (alls C D A B u refl refl) (λ v. antisymmetric f s v)
    (λ v. antisymmetric (f, body_bound_within (bodies_under R.own) E A C (regular s).1 (regular s).0) t v)
  where
    go : Alls R E C D A B → (Tries R E A C → C ≡ A) → (Tries R (with_type E (body_bound (bodies_under R.own) A C)) D B → B ≡ D) → all A B ≡ all C D
    go (same_alls g) h k = sym g
    go (same_bounds g i v) h k = absurd (not_both g e)
    go (right_below g r v) h k =
        let same = h r in
        let turned = ap₂ (body_bound (bodies_under R.own)) same (sym same) in
        ap₂ all (sym same) (k (subst (λ X. Tries R (with_type E X) D B) turned v))

-- the least type of a term is one
pub least_once : {R : Rule} → Chains R → Admitted R → {Γ : Env} {a : Tm} {A B : Ty} → LeastType R Γ a A → LeastType R Γ a B → A ≡ B
least_once chains admitted {A = A} {B = B} x y =
    let d = x.1 B y.0 in
    let e = y.1 A x.0 in
    antisymmetric (derivable_regular d).0 (tried chains admitted d) (tried chains admitted e)
