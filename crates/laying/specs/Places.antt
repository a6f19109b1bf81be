-- What stands for the nodes of the places that are lent.
use Rattle.std.specs.Prelude.{List, [], ◌∷◌, ◌++◌}
use Rattle.judge.specs.Goals.{Placed}
use Rattle.actions.specs.Terms.{placed}
use Rattle.laying.specs.Nodes.{node_at}
use Rattle.laying.specs.declared.place.Place.{Place}

-- behind those for which ps stand
abbrev pub standing_on : List Placed → List Place → List Placed
standing_on ps [] = ps
standing_on ps (x ∷ xs) = standing_on (ps ++ placed (node_at ps) x.term ∷ []) xs

abbrev pub standing : List Place → List Placed
standing xs = standing_on [] xs
