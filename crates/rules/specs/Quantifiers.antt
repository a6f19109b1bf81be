-- The codes for All and what a line of each wants; a quantifier rule is its own code and the codes that it admits.
use Rattle.std.specs.Prelude.{ℕ, Bool, true, false, T}
use Rattle.rules.specs.Syntax.{Ty}
use Rattle.rules.specs.declared.all_code.AllCode.{AllCode}
use Rattle.rules.specs.declared.all_code.AllCode.TheVariants.{Equal, Least}
use Rattle.rules.specs.declared.all_code.Bounds.{Bounds}
use Rattle.rules.specs.declared.all_code.Bounds.TheVariants.{Same, RightBelowLeft}
use Rattle.rules.specs.declared.all_code.BodyBound.{BodyBound}
use Rattle.rules.specs.declared.all_code.BodyBound.TheVariants.{Left, Right}

abbrev pub all_number : AllCode → ℕ
all_number Equal = 65
all_number Least = 66

-- of All(X<:A)B <: All(X<:C)D: the condition on A and C, and the bound for B and D
abbrev pub bounds : AllCode → Bounds
bounds Equal = Same
bounds Least = RightBelowLeft

abbrev pub bodies_under : AllCode → BodyBound
bodies_under Equal = Left
bodies_under Least = Right

abbrev pub body_bound : BodyBound → Ty → Ty → Ty
body_bound Left A C = A
body_bound Right A C = C

pub record Rule : Type 0 where
  pub own : AllCode
  pub admits : AllCode → Bool
  pub own_admitted : T (admits own)

abbrev only_equal : AllCode → Bool
only_equal Equal = true
only_equal Least = false

abbrev either : AllCode → Bool
either Equal = true
either Least = true

abbrev pub equal_bounds : Rule
equal_bounds = record { own = Equal; admits = only_equal; own_admitted = tt }

abbrev pub least_bound : Rule
least_bound = record { own = Least; admits = either; own_admitted = tt }
