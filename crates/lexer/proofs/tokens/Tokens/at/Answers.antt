use Rattle.lexer.proofs.LexiconItems.{next_taken}
use Rattle.lexer.proofs.tokens.Tokens.at.Goals as goal

pub returns-in-Ok : goal.returns-in-Ok
returns-in-Ok c = next_taken c.args.length c.args.bytes.now c.in-Ok.token c.in-Ok.rest.now c.in-Ok.ensures.token
