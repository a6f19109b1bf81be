use Rattle.std.proofs.Common.{refl, ap, ◌∙◌, arith}
use Rattle.actions.specs.Actions.{stated}
use Rattle.judge.specs.Loop.{told}
use Rattle.tables.specs.Tables.{held, places}
use Rattle.search.specs.Frames.{wait}
use Rattle.search.proofs.Acts.{closed, one_more}
use Rattle.search.proofs.turn.close.Goals as goal

pub returns-in-Some-clause-cases : goal.returns-in-Some-clause-cases
returns-in-Some-clause-cases g c =
    let xs = held c.args.waits.now in let ys = held c.pop.new.self in let e = c.in-Some.ensures.cases in
    λ t. (
      closed t c.args.steps (g.S.LineStore.most c.args.store.now) (places c.args.waits.now) xs c.args.work (g.S.LineStore.lines c.args.store.now) (stated c.args.statement)
          c.in_ok-line.line (g.S.LineStore.lines c.lay.new.store) c.in-Some.wait ys c.and.result c.in_ok-line.ensures.cases c.requires.place e
          (c.and.ensures t ∙ ap (told (wait t c.in-Some.wait.work) c.in_ok-line.line) c.result.ensures),
      refl,
      omega (arith, c.requires.place, one_more ys xs c.in-Some.wait e),
    )
