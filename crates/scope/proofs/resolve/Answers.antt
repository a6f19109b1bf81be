use Rattle.std.proofs.Common.{◌<◌, ◌≤◌, length, take, Ok, sym, ap, ◌∙◌, subst, arith, length-take}
use Rattle.std.proofs.lemmas.List.{take_all}
use Rattle.scope.proofs.Turns.{turn-resolved, turn-rest, turn-past, turn-refused, passed-on, types-past, terms-past, types-in-listing, terms-in-listing, phrase-scoped}
use Rattle.scope.specs.Index.{Tells, node_shown}
use Rattle.scope.specs.Resolved.{resolved, past_all, in_listing}
use Rattle.scope.proofs.resolve.Goals as goal

pub loop-i-preserved : goal.loop-i-preserved
loop-i-preserved g c =
    let store = c.args.store.now in
    let lines = g.S.LineStore.lines store in
    let s = in_listing lines in
    let tree = c.loop-i.tree in
    let old = c.args.tree.now in
    let i = c.loop-i.i in
    let z = c.in_ok-tree.field-0 in
    let v = c.loop-i.invariant in
    let less : i < length tree = omega arith in
    let found = sym c.resolved.ensures ∙ ap node_shown c.in_ok-tree.was in
    let shown = length-take i tree in
    let few : length lines ≤ 65535 = omega (arith, g.met.S.LineStore.within store, g.met.S.LineStore.capped store) in
    record {
      resolved = turn-resolved s old tree i less c.loop-i.auto.tree v.rest v.resolved z found;
      rest = turn-rest s old tree i less c.loop-i.auto.tree v.rest v.resolved z;
      tells = subst (Tells c.pass.new.self) (sym (turn-past s old tree i less c.loop-i.auto.tree v.rest v.resolved z found)) (c.pass.ensures (past_all s (take i tree)) (omega (arith, types-past (take i tree) s, types-in-listing lines, shown)) (omega (arith, terms-past (take i tree) s, terms-in-listing lines, few, shown)) v.tells);
    }

pub returns-in_err-tree-clause-nodes : goal.returns-in_err-tree-clause-nodes
returns-in_err-tree-clause-nodes g c =
    let lines = g.S.LineStore.lines c.args.store.now in
    let s = in_listing lines in
    let tree = c.loop-i.tree in
    let old = c.args.tree.now in
    let i = c.loop-i.i in
    let v = c.loop-i.invariant in
    let fault = c.in_err-tree.field-0.0 in
    let less : i < length tree = omega arith in
    passed-on s old tree fault c.from_residual.result c.from_residual.ensures.0 c.from_residual.ensures.1
    (turn-refused s old tree i less c.loop-i.auto.tree v.rest v.resolved fault (sym c.resolved.ensures ∙ ap node_shown c.in_err-tree.was))

pub returns-in_err-tree-clause-phrase : goal.returns-in_err-tree-clause-phrase
returns-in_err-tree-clause-phrase g c =
    λ p e.
    let store = c.args.store.now in
    let lines = g.S.LineStore.lines store in
    phrase-scoped lines p c.args.tree.now c.loop-i.tree c.from_residual.result (omega (arith, g.met.S.LineStore.within store, g.met.S.LineStore.capped store)) (omega arith) (returns-in_err-tree-clause-nodes g c) e

pub returns-clause-nodes : goal.returns-clause-nodes
returns-clause-nodes g c =
    let s = in_listing (g.S.LineStore.lines c.args.store.now) in
    let i = c.loop-i.i in
    ap (resolved s) (sym (take_all i c.args.tree.now (omega arith))) ∙ c.loop-i.invariant.resolved ∙ ap Ok (take_all i c.loop-i.tree (omega arith))

pub returns-clause-phrase : goal.returns-clause-phrase
returns-clause-phrase g c =
    λ p e.
    let store = c.args.store.now in
    let lines = g.S.LineStore.lines store in
    phrase-scoped lines p c.args.tree.now c.loop-i.tree (Ok tt) (omega (arith, g.met.S.LineStore.within store, g.met.S.LineStore.capped store)) (omega arith) (returns-clause-nodes g c) e
