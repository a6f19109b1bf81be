-- What the tries put below one another are types of the environment.
use Rattle.rules.specs.Syntax.{Ty, Env, Within}
use Rattle.rules.specs.Quantifiers.{Rule}
use Rattle.rules.specs.Tries.{Tries, try_top, try_same, try_var, try_arrow, try_all_same, try_all_below}
use Rattle.rules.specs.Variables.{bound_within}

pub regular : {R : Rule} {E : Env} {A B : Ty} → Tries R E A B → Within E A × Within E B
regular (try_top w) = (w, tt)
regular (try_same w) = (w, w)
regular (try_var b t) = (bound_within b, (regular t).1)
regular (try_arrow s t) = (((regular s).1, (regular t).0), ((regular s).0, (regular t).1))
regular (try_all_same e w t) = ((w, (regular t).0), (w, (regular t).1))
regular (try_all_below e s t) = (((regular s).1, (regular t).0), ((regular s).0, (regular t).1))
