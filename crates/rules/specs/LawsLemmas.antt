-- The laws of the two rules.
use Rattle.std.specs.Prelude.{◌≡◌, ℕ, refl}
use Rattle.std.proofs.Common.{sym, ◌∙◌, subst, arith}
use Rattle.rules.specs.Syntax.{Ty, all, Env, with_type, Within}
use Rattle.rules.specs.Quantifiers.{equal_bounds, least_bound}
use Rattle.rules.specs.Tries.{Tries, try_same, try_all_same, try_all_below}
use Rattle.rules.specs.Laws.{Chains, Instances, Bodies, Admitted}
use Rattle.rules.specs.declared.all_code.AllCode.TheVariants.{Equal, Least}
use Rattle.rules.specs.declared.all_code.Bounds.{Bounds}
use Rattle.rules.specs.declared.all_code.Bounds.TheVariants.{Same, RightBelowLeft}
use Rattle.rules.specs.Transitive.{TransitiveBelow, ChainsTo, Transitive, transitive_all, transitive}
use Rattle.rules.specs.Narrow.{narrow_below, instance}

abbrev IsSame : Bounds → Type 0
IsSame Same = Unit {0}
IsSame RightBelowLeft = ⊥

pub bodies_equal : Bodies equal_bounds
bodies_equal E A B D w t = try_all_same refl w t

from_equal : {E : Env} {A B C D : Ty} → Tries equal_bounds E (all A B) (all C D)
    → Within E A × (A ≡ C) × Tries equal_bounds (with_type E A) B D
from_equal (try_same w) = (w.0, refl, try_same w.1)
from_equal (try_all_same e w t) = (w, refl, t)
from_equal (try_all_below e s t) = absurd (subst IsSame e tt)

to_equal : {E : Env} {A B C D : Ty} → Within E A → A ≡ C → Tries equal_bounds (with_type E A) B D → Tries equal_bounds E (all A B) (all C D)
to_equal {E} {A} {B} {C} {D} w e t = subst (λ X. Tries equal_bounds E (all A B) (all X D)) e (try_all_same refl w t)

chains_to_equal : (n : ℕ) → TransitiveBelow equal_bounds n → ChainsTo equal_bounds n
chains_to_equal n transitive E A B C D F G le t u =
    let (v, e, h) = from_equal t in
    let (w, f, k) = from_equal u in
    to_equal v (e ∙ f) (transitive D (omega arith) _ _ _ h (subst (λ X. Tries equal_bounds (with_type E X) D G) (sym e) k))

transitive_equal : Transitive equal_bounds
transitive_equal = transitive_all chains_to_equal

pub chains_equal : Chains equal_bounds
chains_equal E A B C D F G = transitive_equal E (all A B) (all C D) (all F G)

pub instances_equal : Instances equal_bounds
instances_equal E A B C D t =
    let (w, e, h) = from_equal t in (
      subst (λ X. Tries equal_bounds E X A) e (try_same w),
      λ X s. instance transitive_equal s (subst (λ Y. Tries equal_bounds (with_type E Y) B D) e h),
    )

pub admitted_equal : Admitted equal_bounds
admitted_equal Equal a E A B C D b t = to_equal b.0 b.1 t
admitted_equal Least a E A B C D b t = absurd a

pub bodies_least : Bodies least_bound
bodies_least E A B D w t = try_all_below refl (try_same w) t

from_least : {E : Env} {A B C D : Ty} → Tries least_bound E (all A B) (all C D)
    → Tries least_bound E C A × Tries least_bound (with_type E C) B D
from_least (try_same w) = (try_same w.0, try_same w.1)
from_least (try_all_same e w t) = absurd (subst IsSame (sym e) tt)
from_least (try_all_below e s t) = (s, t)

chains_to_least : (n : ℕ) → TransitiveBelow least_bound n → ChainsTo least_bound n
chains_to_least n transitive E A B C D F G le t u =
    let (s, h) = from_least t in
    let (v, k) = from_least u in
    try_all_below refl (transitive C (omega arith) _ _ _ v s)
    (transitive D (omega arith) _ _ _ (narrow_below transitive (omega arith) v h) k)

transitive_least : Transitive least_bound
transitive_least = transitive_all chains_to_least

pub chains_least : Chains least_bound
chains_least E A B C D F G = transitive_least E (all A B) (all C D) (all F G)

pub instances_least : Instances least_bound
instances_least E A B C D t =
    let (s, h) = from_least t in
    (s, λ X v. instance transitive_least v h)

pub admitted_least : Admitted least_bound
admitted_least Equal a E A B C D b t = subst (λ X. Tries least_bound E (all A B) (all X D)) b.1 (try_all_below refl (try_same b.0) t)
admitted_least Least a E A B C D s t = try_all_below refl s t
