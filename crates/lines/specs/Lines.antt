-- A line's columns as a list.
use Rattle.std.specs.Prelude.{ℕ, List, [], ◌∷◌}
use Rattle.lines.specs.declared.line.Line.{Line}

abbrev pub numbers : Line → List ℕ
numbers l = l.c1 ∷ l.c2 ∷ l.c3 ∷ l.c4 ∷ l.c5 ∷ l.c6 ∷ l.c7 ∷ []
