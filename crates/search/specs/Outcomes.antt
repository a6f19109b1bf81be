-- What the search answers is what the loop answers, in turns that suffice.
use Rattle.std.specs.Prelude.{◌≡◌, ℕ, ◌+◌, ◌*◌, List, Ok, Err, Result}
use Rattle.lines.specs.declared.line.Line.{Line}
use Rattle.judge.specs.Seeking.{Outcome, established}
use Rattle.search.specs.Searches.{state}
use Rattle.search.specs.Stops.{stopped}
use Rattle.search.specs.declared.stop.Stop.{Stop}
use Rattle.search.specs.declared.run.Established.{Established}

abbrev pub turns : (most places : ℕ) → ℕ
turns most places = 4 * (2 * most + places) + 4

-- o is answered, where these lines stand and so many steps are the most
abbrev pub Answers : List Line → (most : ℕ) → Result Established Stop → Outcome → Type 0
Answers lines most (Ok e) o = (o ≡ established e.found.line e.found.result (state lines e.steps.taken)) × (e.steps.most ≡ most)
Answers lines most (Err s) o = o ≡ stopped s
