-- What the checker keeps of the lines before a line.
use Rattle.std.specs.Prelude.{List, ⊤, MatchOption}
use Rattle.checker.specs.Indexes.{IndexOf}
use Rattle.checker.specs.declared.seen.Seen.{Seen}
use Rattle.lines.specs.declared.line.Line.{Line}

-- an index of exactly these lines, or none where memory was refused
abbrev pub Holds : Seen → List Line → Type 0
Holds seen before = MatchOption seen.index ⊤ (IndexOf before)
