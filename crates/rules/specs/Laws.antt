-- The laws of a quantifier rule, over the judge's tries.
use Rattle.std.specs.Prelude.{◌≡◌, T}
use Rattle.rules.specs.Syntax.{Ty, all, Env, with_type, put, Within}
use Rattle.rules.specs.Quantifiers.{Rule, bounds, bodies_under, body_bound}
use Rattle.rules.specs.Tries.{Tries}
use Rattle.rules.specs.declared.all_code.AllCode.{AllCode}
use Rattle.rules.specs.declared.all_code.Bounds.{Bounds}
use Rattle.rules.specs.declared.all_code.Bounds.TheVariants.{Same, RightBelowLeft}

-- chains: an All below a second and that below a third is below the third
abbrev pub Chains : Rule → Type 0
Chains R = (E : Env) (A B C D F G : Ty) → Tries R E (all A B) (all C D) → Tries R E (all C D) (all F G) → Tries R E (all A B) (all F G)

-- instances: the right bound is below the left, and each instance of the body is below the other's
abbrev pub Instances : Rule → Type 0
Instances R = (E : Env) (A B C D : Ty) → Tries R E (all A B) (all C D)
    → Tries R E C A × ((X : Ty) → Tries R E X C → Tries R E (put 1 X B) (put 1 X D))

-- bodies: what holds of the bodies under a bound holds of the All types with that bound
abbrev pub Bodies : Rule → Type 0
Bodies R = (E : Env) (A B D : Ty) → Within E A → Tries R (with_type E A) B D → Tries R E (all A B) (all A D)

-- the condition on the bounds, by the tries
abbrev pub BoundsHold : Rule → Bounds → Env → Ty → Ty → Type 0
BoundsHold R Same E A C = Within E A × (A ≡ C)
BoundsHold R RightBelowLeft E A C = Tries R E C A

-- admitted: a line of an admitted code concludes nothing that the tries don't
abbrev pub Admitted : Rule → Type 0
Admitted R = (c : AllCode) → T (R.admits c) → (E : Env) (A B C D : Ty) → BoundsHold R (bounds c) E A C
    → Tries R (with_type E (body_bound (bodies_under c) A C)) B D → Tries R E (all A B) (all C D)
