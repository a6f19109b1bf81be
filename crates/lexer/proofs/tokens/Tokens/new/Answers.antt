use Rattle.std.proofs.Common.{rules, ◌∙◌, ap, sym, subst, ◌≡◌, length}
use Rattle.lexer.specs.Items.{items_from}
use Rattle.lexer.specs.Lexed.{Lexed}
use Rattle.lexer.proofs.Cases.{cases_hold}
use Rattle.lexer.proofs.LexiconItems.{lexed}
use Rattle.lexer.proofs.tokens.Tokens.new.Goals as goal

pub returns-clause-lexicon : goal.returns-clause-lexicon
returns-clause-lexicon c =
    let s = c.args.source.now in
    let n : c.in_ok-length.length ≡ length s = search rules in
    subst (Lexed s) (sym (c.at.ensures ∙ ap (λ n. items_from n s) n)) (lexed s)

pub returns-in_err-length-clause-cases : goal.returns-in_err-length-clause-cases
returns-in_err-length-clause-cases c = cases_hold

pub returns-clause-cases : goal.returns-clause-cases
returns-clause-cases c = cases_hold
