use Rattle.reader_rows.proofs.Writing.{first_row, next_row, all_rows}
use Rattle.syntax.specs.declared.node.Node.TheVariants.{Top}
use Rattle.reader_rows.proofs.read.show.Goals as goal

pub loop-i-init : goal.loop-i-init
loop-i-init c = first_row c.args.phrase c.args.nodes.now c.args.rows.now c.of_phrase.result c.if-is_empty.ensures c.of_phrase.ensures

pub loop-i-preserved : goal.loop-i-preserved
loop-i-preserved c =
    next_row c.args.phrase c.args.nodes.now c.args.rows.now c.loop-i.rows c.of_phrase.result c.loop-i.i c.min-i-end.result Top c.loop-i.invariant
    c.loop-i-test.true c.min-i-end.ensures c.of_node.result c.of_node.ensures

pub returns : goal.returns
returns c =
    all_rows c.args.phrase c.args.nodes.now c.args.rows.now c.loop-i.rows c.of_phrase.result c.loop-i.i c.min-i-end.result c.loop-i.invariant
    c.loop-i-test.false c.loop-i.auto.i-end c.min-i-end.ensures c.if-is_empty.ensures
