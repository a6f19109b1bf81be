use Rattle.rules.specs.Statements.{said}
use Rattle.actions.proofs.Forms.{by_form}
use Rattle.actions.proofs.next_term.next_term.Goals as goal

pub returns-in-Top : goal.returns-in-Top
returns-in-Top g c =
    let t = g.T.Tree.terms c.args.tree.now in let G = said (g.S.LineStore.lines c.args.store.now) in
    by_form t c.args.node c.term-byte.result _ c.term-byte.ensures c.in-Top.is c.term_top.result G c.args.env c.args.told (c.term_top.ensures G t)

pub returns-in-Var : goal.returns-in-Var
returns-in-Var g c =
    let t = g.T.Tree.terms c.args.tree.now in let G = said (g.S.LineStore.lines c.args.store.now) in
    by_form t c.args.node c.term-byte.result _ c.term-byte.ensures c.in-Var.is c.term_var.result G c.args.env c.args.told (c.term_var.ensures G t)

pub returns-in-Fun : goal.returns-in-Fun
returns-in-Fun g c =
    let t = g.T.Tree.terms c.args.tree.now in let G = said (g.S.LineStore.lines c.args.store.now) in
    by_form t c.args.node c.term-byte.result _ c.term-byte.ensures c.in-Fun.is c.term_fun.result G c.args.env c.args.told (c.term_fun.ensures G)

pub returns-in-Fun2 : goal.returns-in-Fun2
returns-in-Fun2 g c =
    let t = g.T.Tree.terms c.args.tree.now in let G = said (g.S.LineStore.lines c.args.store.now) in
    by_form t c.args.node c.term-byte.result _ c.term-byte.ensures c.in-Fun2.is c.term_fun2.result G c.args.env c.args.told (c.term_fun2.ensures G)

pub returns-in-Rec : goal.returns-in-Rec
returns-in-Rec g c =
    let t = g.T.Tree.terms c.args.tree.now in let G = said (g.S.LineStore.lines c.args.store.now) in
    by_form t c.args.node c.term-byte.result _ c.term-byte.ensures c.in-Rec.is c.term_rec.result G c.args.env c.args.told (c.term_rec.ensures G)
