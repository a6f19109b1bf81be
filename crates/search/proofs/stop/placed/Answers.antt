use Rattle.std.proofs.Common.{sym, ◌∙◌}
use Rattle.tables.specs.Tables.{held}
use Rattle.search.proofs.Placing.{first_byte, next_byte, last_byte}
use Rattle.search.proofs.stop.placed.Goals as goal

pub loop-wait-init : goal.loop-wait-init
loop-wait-init g c = first_byte (g.T.Tree.terms c.args.tree.now) c.args.halt c.args.steps c.args.work (held c.args.waits.now) c.byte-byte.result c.byte-byte.ensures

pub loop-wait-preserved : goal.loop-wait-preserved
loop-wait-preserved g c =
    c.loop-wait.invariant
    ∙ next_byte (g.T.Tree.terms c.args.tree.now) c.args.halt c.args.steps c.in-Some.wait (held c.loop-wait.waits) (held c.pop.new.self) c.loop-wait.byte
    c.byte.result c.or-byte.result c.in-Some.ensures.cases c.byte.ensures c.or-byte.ensures

pub returns : goal.returns
returns g c =
    sym (c.loop-wait.invariant
    ∙ last_byte (g.T.Tree.terms c.args.tree.now) c.args.halt c.args.steps (held c.loop-wait.waits) c.loop-wait.byte c.in_default.ensures.cases.0)
