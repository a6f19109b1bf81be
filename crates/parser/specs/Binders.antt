-- The names of binders, the innermost first.
use Rattle.std.specs.Prelude.{List, [], ◌∷◌}
use Rattle.lexer.specs.declared.name.Name.{Name}
use Rattle.parser.specs.declared.binders.Binders.{Binders}
use Rattle.parser.specs.declared.binders.Binders.TheOpen.{Binders-F}
use Rattle.parser.specs.declared.binders.Binders.TheFolds.{fold-Binders}

abbrev pub names_step : Binders-F (List Name) → List Name
names_step Binders-F.Outermost = []
names_step (Binders-F.Inside w around) = w ∷ around.now

abbrev pub names : Binders → List Name
names = fold-Binders (List Name) names_step
