use Rattle.std.proofs.Common.{rules}
use Rattle.std.proofs.lemmas.Iterator.{YieldsList-from_slice}
use Rattle.std.proofs.lemmas.Iterator.Search.{YieldsList-from_take_while}
use Rattle.std.proofs.lemmas.Iterator.Consumers.{count_from_yields_List}
use borrow.Author.Tests.{tests}
use Rattle.lexer.specs.Classes.{class_of, in_word}
use Rattle.lexer.proofs.lexeme.word_length.Goals as goal

pub returns : goal.returns
returns c =
    let bs = c.args.bytes.now in
    count_from_yields_List _ _ c.count.ensures.ran
    (YieldsList-from_take_while _ (λ b. in_word (class_of b)) (YieldsList-from_slice bs (cc)) c.take_while.ensures.closure c.take_while.ensures.done (λ x b q k. search (rules, tests)))
