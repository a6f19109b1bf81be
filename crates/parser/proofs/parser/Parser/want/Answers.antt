use Rattle.std.proofs.Common.{sym, ap, ◌∙◌, not, rules}
use Rattle.lexer.specs.Items.{ends}
use Rattle.grammar.specs.Notation.{the}
use Rattle.grammar.proofs.Words.{same_word_is, is_the}
use Rattle.parser.specs.Parsing.{items}
use Rattle.parser.proofs.Looking.{refuses_it, not_true}
use Rattle.parser.proofs.Taking.{uses_looked}
use Rattle.parser.proofs.Equals.{equals_is}
use Rattle.parser.proofs.parser.Parser.want.Goals as goal

pub returns-then-ne-clause-used : goal.returns-then-ne-clause-used
returns-then-ne-clause-used c =
    let e = c.ne.ensures in
    refuses_it c.args.word c.in_ok-token.token (items c.args.self.now) c.in_ok-token.ensures (search rules)

pub returns-clause-used : goal.returns-clause-used
returns-clause-used c =
    let t = c.in_ok-token.token in
    let e = same_word_is t.word c.args.word (not_true _ (sym (c.ne.ensures ∙ ap not (equals_is t.word c.args.word)) ∙ c.if-ne.false)) in
    uses_looked (the c.args.word) tt t (items c.args.self.now) _ c.in_ok-token.ensures c.advance.ensures (ap ends e ∙ c.requires) (is_the t e)
