use Rattle.lexer.proofs.LexiconItems.{ordinary_next}
use Rattle.lexer.proofs.tokens.Tokens.look.Goals as goal

pub returns-clause-ordinary : goal.returns-clause-ordinary
returns-clause-ordinary c =
    let t = c.args.self.now in
    ordinary_next t.next t.length t.rest.now
