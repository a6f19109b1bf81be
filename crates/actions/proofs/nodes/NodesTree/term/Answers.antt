use Rattle.actions.proofs.Parts.{node_formed}
use Rattle.actions.proofs.nodes.NodesTree.term.Goals as goal

pub returns : goal.returns
returns c = node_formed c.args.self.now.terms.now c.args.n c.node-term.result c.parts.result c.node-term.ensures c.parts.ensures
