-- A phrase that is read after a sound listing is judged by the search as its definition says.
use Rattle.std.proofs.Common.{◌≡◌, ℕ, ◌+◌, ◌*◌, ◌<◌, List, Ok}
use Rattle.judge.specs.Loop.{search}
use Rattle.judge.specs.Phrases.{phrase_plan, judged}
use Rattle.judge.specs.Seeking.{Limits, run}
use Rattle.judge.proofs.Searched.{judged_by_search}
use Rattle.lexer.specs.Items.{items}
use Rattle.lines.specs.declared.line.Line.{Line}
use Rattle.reader.specs.Reads.{ReadAs}
use Rattle.rules.specs.Faults.{Sound}
use Rattle.rules.specs.Laws.{Chains, Instances, Bodies, Admitted}
use Rattle.rules.specs.Quantifiers.{Rule}
use Rattle.runs.specs.Trees.{phrase_judged}
use Rattle.runs.proofs.Read.{well_formed}
use Rattle.scope.specs.Definitions.{definitions}
use Rattle.scope.specs.Scoped.{ScopedPhrase}

-- with turns enough
pub searched : {R : Rule} → Chains R → Instances R → Bodies R → Admitted R → (found : List Line) → Sound R found → (source : List ℕ) (n : ℕ)
    (q : ScopedPhrase ℕ) → ReadAs n (items source) (definitions found) (Ok q) → (l : Limits) (turns places : ℕ) → 4 * (2 * l.steps + places) + 3 < turns
    → run l (λ s g. search R l turns places s g) (phrase_plan found (phrase_judged q)) (record { lines = found; steps = 0 })
    ≡ judged R l places found (phrase_judged q)
searched {R} chains instances bodies admitted found sound source n q r l turns places lt =
    let w = well_formed R found sound source n q r in
    judged_by_search chains instances bodies admitted (record { lines = found; sound = sound }) w.env w.is_session (phrase_judged q) w.judgment w.is_judgment
    w.named l turns places lt
