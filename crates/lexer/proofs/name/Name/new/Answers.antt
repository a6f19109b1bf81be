use Rattle.lexer.proofs.Spellings.{kept-same}
use Rattle.lexer.proofs.name.Name.new.Goals as goal

pub returns-clause-distinct : goal.returns-clause-distinct
returns-clause-distinct c = λ p other q e. kept-same other c.args.spelling.now q p e
