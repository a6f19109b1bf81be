-- What the search answers on a sound listing is what seeking answers.
use Rattle.std.proofs.Common.{ℕ, List, Result, subst, arith}
use Rattle.lines.specs.declared.line.Line.{Line}
use Rattle.rules.specs.Faults.{Sound}
use Rattle.rules.specs.Laws.{Chains, Admitted}
use Rattle.rules.specs.Quantifiers.{Rule}
use Rattle.rules.specs.Statements.{said}
use Rattle.judge.specs.Goals.{Goal}
use Rattle.judge.specs.Loop.{search}
use Rattle.judge.specs.Seeking.{seek}
use Rattle.judge.proofs.Looping.{search_seeks}
use Rattle.judge.proofs.Sought.{Sought, Means}
use Rattle.search.specs.Outcomes.{Answers, turns}
use Rattle.search.specs.Searches.{limits, state}
use Rattle.search.specs.declared.run.Established.{Established}
use Rattle.search.specs.declared.stop.Stop.{Stop}

pub seeks : {R : Rule} → Chains R → Admitted R → (most taken room places : ℕ) (lines more : List Line) (g : Goal) (w : Sought) (r : Result Established Stop)
    → Sound R lines → Means (said lines) g w → Answers more most r (search R (limits most room) (turns most places) places (state lines taken) g)
    → Answers more most r (seek R (limits most room) places (state lines taken) g)
seeks chains admitted most taken room places lines more g w r sound means h =
    subst (Answers more most r)
    (search_seeks chains admitted (limits most room) (turns most places) places (state lines taken) sound g w means (omega arith)) h
