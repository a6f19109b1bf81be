use Rattle.std.proofs.Common.{sym, ◌∙◌, rules}
use Rattle.grammar.proofs.Words.{same_word_is}
use Rattle.parser.specs.Parsing.{items}
use Rattle.parser.proofs.Looking.{takes_it, leaves_it}
use Rattle.parser.proofs.Equals.{equals_is}
use Rattle.parser.proofs.parser.Parser.take.Goals as goal

pub returns-then-stands-clause-used : goal.returns-then-stands-clause-used
returns-then-stands-clause-used c =
    let t = c.in_ok-look.field-0 in
    let e = same_word_is t.word c.args.word (sym (c.eq-stands.ensures ∙ equals_is t.word c.args.word) ∙ c.if-stands.true) in
    rw c.if-stands.true (takes_it c.args.word t (items c.args.self.now) _ c.requires c.in_ok-look.ensures c.advance.ensures e)

pub returns-else-stands-clause-used : goal.returns-else-stands-clause-used
returns-else-stands-clause-used c =
    let e = c.eq-stands.ensures in
    rw c.if-stands.false
    (leaves_it c.args.word c.in_ok-look.field-0 (items c.args.self.now) c.in_ok-look.ensures (search rules))
