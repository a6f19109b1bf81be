use Rattle.std.proofs.Common.{◌+◌, ◌-◌, ◌∷◌, None, Ok, sym, ap, ◌∙◌, subst, arith}
use Rattle.judge.specs.Loop.{placed_in, turn}
use Rattle.tables.specs.Tables.{held, places}
use Rattle.search.specs.Frames.{wait, stack, search_at}
use Rattle.search.specs.Turns.{halted}
use Rattle.search.specs.Outcomes.{turns}
use Rattle.search.specs.Goes.{Went}
use Rattle.search.specs.Searches.{limits}
use Rattle.search.proofs.Runs.{goes_on, ends, halts}
use Rattle.search.proofs.run.run.Goals as goal

pub loop-turn-preserved : goal.loop-turn-preserved
loop-turn-preserved g c =
    let R = g.Q.Quantifier.rule in let t = g.T.Tree.terms c.args.tree.now in let l = c.loop-turn in
    let lines = g.S.LineStore.lines l.store in let more = g.S.LineStore.lines c.advance.new.store in let room = g.S.LineStore.most l.store in
    let x = subst (λ r. Went t (places l.waits) (held l.waits) (held c.advance.new.waits) l.work more l.steps
    (turn R (limits l.steps.most room) (search_at t (places l.waits) (held l.waits) l.work lines l.steps.taken)) r)
    (c.in-Ok.is ∙ ap Ok c.in-On.is) c.advance.ensures.cases in (
      goes_on R t _ _ _ _ _ _ _ _ _ _ _ _ _ l.invariant.0 _ (omega arith) (held c.advance.new.waits) c.in-On.next more c.in-On.left _ _ x
          c.advance.ensures.room c.advance.ensures.places,
      λ k. c.advance.ensures.kept (l.invariant.1 k),
    )

pub returns-in-Over-clause-cases : goal.returns-in-Over-clause-cases
returns-in-Over-clause-cases g c =
    let R = g.Q.Quantifier.rule in let t = g.T.Tree.terms c.args.tree.now in let l = c.loop-turn in
    let lines = g.S.LineStore.lines l.store in let more = g.S.LineStore.lines c.advance.new.store in let room = g.S.LineStore.most l.store in
    let x = subst (λ r. Went t (places l.waits) (held l.waits) (held c.advance.new.waits) l.work more l.steps
    (turn R (limits l.steps.most room) (search_at t (places l.waits) (held l.waits) l.work lines l.steps.taken)) r)
    (c.in-Ok.is ∙ ap Ok c.in-Over.is) c.advance.ensures.cases in
    ends R t _ _ _ _ _ _ _ _ _ _ _ _ _ l.invariant.0 (turns c.args.steps.most (places c.args.waits.now) - (l.turn + 1)) (omega (arith, c.from.ensures, c.places.ensures)) (held c.advance.new.waits) more
    c.in-Over.found c.in-Over.steps x

pub returns-in-Err-clause-cases : goal.returns-in-Err-clause-cases
returns-in-Err-clause-cases g c =
    let R = g.Q.Quantifier.rule in let t = g.T.Tree.terms c.args.tree.now in let l = c.loop-turn in
    let more = g.S.LineStore.lines c.advance.new.store in
    halts R t _ _ _ _ _ _ _ _ _ _ _ _ _ l.invariant.0 (turns c.args.steps.most (places c.args.waits.now) - (l.turn + 1)) (omega (arith, c.from.ensures, c.places.ensures)) (held c.advance.new.waits) more
    c.in-Err.halt c.in-Err.ensures.cases
    ∙ ap (λ ys. placed_in (wait t l.work ∷ stack t ys) (halted c.in-Err.halt None l.steps.taken)) (sym c.in-Err.ensures.cases.1) ∙ sym c.placed.ensures
