use Rattle.std.proofs.Common.{◌≡◌, suc, drop}
use Rattle.judge.specs.Seeking.{standing}
use Rattle.actions.specs.Actions.{Terms, sought}
use Rattle.search.proofs.standing.Standing.serving.Given as goal

abbrev pub invariant-loop-n : goal.invariant-loop-n
invariant-loop-n g l =
    let lines = g.S.LineStore.lines l.store in
    (t : Terms) → standing (sought t l.goal) 1 lines ≡ standing (sought t l.goal) (suc l.n) (drop l.n lines)
