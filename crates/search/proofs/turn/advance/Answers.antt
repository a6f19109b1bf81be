use Rattle.tables.specs.Tables.{held, places}
use Rattle.search.proofs.Advances.{turned}
use Rattle.search.proofs.turn.advance.Goals as goal

pub returns-in-Ask-clause-cases : goal.returns-in-Ask-clause-cases
returns-in-Ask-clause-cases g c =
    let x = c.args.waits.now in let t = g.T.Tree.terms c.args.tree.now in let lines = g.S.LineStore.lines c.args.store.now in
    let room = g.S.LineStore.most c.args.store.now in
    turned g.Q.Quantifier.rule t c.args.steps room (places x) (held x) (held c.ask.new.waits) c.args.work lines lines c.ask.result _ (c.in-Ask.ensures.action c.args.work.fits) (c.ask.ensures.cases t)

pub returns-in-Lay-clause-cases : goal.returns-in-Lay-clause-cases
returns-in-Lay-clause-cases g c =
    let x = c.args.waits.now in let t = g.T.Tree.terms c.args.tree.now in let lines = g.S.LineStore.lines c.args.store.now in
    let room = g.S.LineStore.most c.args.store.now in
    turned g.Q.Quantifier.rule t c.args.steps room (places x) (held x) (held x) c.args.work lines (g.S.LineStore.lines c.go_on.new.store) c.go_on.result _ (c.in-Lay.ensures.action c.args.work.fits) (c.go_on.ensures.cases t)

pub returns-in-Pay-clause-cases : goal.returns-in-Pay-clause-cases
returns-in-Pay-clause-cases g c =
    let x = c.args.waits.now in let t = g.T.Tree.terms c.args.tree.now in let lines = g.S.LineStore.lines c.args.store.now in
    let room = g.S.LineStore.most c.args.store.now in
    turned g.Q.Quantifier.rule t c.args.steps room (places x) (held x) (held x) c.args.work lines lines c.step.result _ (c.in-Pay.ensures.action c.args.work.fits) (c.step.ensures t room lines)

pub returns-in-Close-clause-cases : goal.returns-in-Close-clause-cases
returns-in-Close-clause-cases g c =
    let x = c.args.waits.now in let t = g.T.Tree.terms c.args.tree.now in let lines = g.S.LineStore.lines c.args.store.now in
    let room = g.S.LineStore.most c.args.store.now in
    turned g.Q.Quantifier.rule t c.args.steps room (places x) (held x) (held c.close.new.waits) c.args.work lines (g.S.LineStore.lines c.close.new.store) c.close.result _ (c.in-Close.ensures.action c.args.work.fits) (c.close.ensures.cases t)
