use Rattle.std.proofs.Common.{◌-◌}
use Rattle.search.proofs.Runs.{Running}
use Rattle.tables.specs.Tables.{held, places}
use Rattle.search.proofs.run.run.Given as goal

abbrev pub invariant-loop-turn : goal.invariant-loop-turn
invariant-loop-turn g l =
    Running g.Q.Quantifier.rule (g.T.Tree.terms l.tree) (g.S.LineStore.most l.fn.store) (places l.fn.waits) (held l.fn.waits) l.fn.work (g.S.LineStore.lines l.fn.store) l.fn.steps
    (l.turns - l.turn) (g.S.LineStore.most l.store) (places l.waits) (held l.waits) l.work (g.S.LineStore.lines l.store) l.steps
    × (g.S.LineStore.keeps l.fn.store → g.S.LineStore.keeps l.store)
