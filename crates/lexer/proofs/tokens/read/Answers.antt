use Rattle.std.proofs.Common.{rules, Ok}
use Rattle.lexer.proofs.LexiconItems.{told}
use Rattle.lexer.proofs.tokens.read.Goals as goal

pub returns-in_err-lexeme-clause-lexicon : goal.returns-in_err-lexeme-clause-lexicon
returns-in_err-lexeme-clause-lexicon c = told c.args.length c.args.bytes.now c.from_residual.result (search rules)

pub returns-in_err-word-clause-lexicon : goal.returns-in_err-word-clause-lexicon
returns-in_err-word-clause-lexicon c = told c.args.length c.args.bytes.now c.from_residual-in_err-word.result (search rules)

pub returns-clause-lexicon : goal.returns-clause-lexicon
returns-clause-lexicon c = told c.args.length c.args.bytes.now (Ok (record { word = c.in_ok-word.word; byte = c.byte_of-byte.result }, c.in_ok-word.rest)) (search rules)
