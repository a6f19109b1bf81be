use Rattle.rules.specs.Statements.{said}
use Rattle.actions.specs.Actions.{sought}
use Rattle.actions.proofs.Rests.{goes_on}
use Rattle.actions.proofs.next.next_action.Goals as goal

pub returns-clause-room : goal.returns-clause-room
returns-clause-room g c =
    let t = g.T.Tree.terms c.args.tree.now in
    goes_on g.Q.Quantifier.rule (said (g.S.LineStore.lines c.args.store.now)) (sought t c.args.goal) t c.planned.result c.args.told c.planned.ensures
