-- A plan that goes on has room for an answer.
use Rattle.actions.specs.Actions.{Spare}
use Rattle.actions.specs.declared.told.Told.{Told}
use Rattle.actions.specs.declared.action.Action.{Action}
use Rattle.actions.specs.declared.action.Action.TheVariants.{Ask, Lay, Pay}

abbrev pub GoesOn : Action → Told → Type 0
GoesOn (Ask g) told = Spare told
GoesOn (Lay s) told = Spare told
GoesOn Pay told = Spare told
GoesOn other told = Unit {0}
