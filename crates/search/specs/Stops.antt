-- How the search ends.
use Rattle.judge.specs.Seeking.{Outcome}
use Rattle.search.specs.Turns.{halted}
use Rattle.search.specs.declared.stop.Stop.{Stop}

abbrev pub stopped : Stop → Outcome
stopped s = halted s.halt s.byte s.steps
