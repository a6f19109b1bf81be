use Rattle.std.proofs.Common.{length}
use Rattle.lexer.specs.Coming.{to_come}
use Rattle.scope.specs.Definitions.{definitions}
use Rattle.reader.proofs.Looked.{read_ok}
use Rattle.reader.proofs.source.read.Goals as goal

pub returns-clause-answer : goal.returns-clause-answer
returns-clause-answer g c =
    let read = c.in_ok-phrase.ensures in
    read_ok (length c.args.places.now) (to_come c.args.tokens) (definitions (g.S.LineStore.lines c.args.store.now)) read.0 c.in_ok-phrase.phrase
    c.in_ok-phrase.nodes.now c.resolve.new.tree read.1 read.2 read.3 c.in_ok-resolve.ensures.phrase
