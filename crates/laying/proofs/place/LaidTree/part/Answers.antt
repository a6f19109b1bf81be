use Rattle.std.proofs.Common.{arith}
use Rattle.laying.proofs.Places.{earlier, later}
use Rattle.laying.proofs.place.LaidTree.part.Goals as goal

pub returns-then-part-node : goal.returns-then-part-node
returns-then-part-node c = earlier c.args.self.places.now c.args.node c.requires c.args.part (omega (arith, c.if-part-node.true))

pub returns-else-part-node : goal.returns-else-part-node
returns-else-part-node c = later c.args.self.places.now c.args.node c.requires c.args.part (omega (arith, c.if-part-node.false))
