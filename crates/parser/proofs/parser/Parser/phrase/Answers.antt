use Rattle.std.proofs.Common.{sym, subst}
use Rattle.parser.specs.Parsing.{ParsedPhrase}
use Rattle.parser.proofs.Ending.{begun_refused, no_end, all_read}
use Rattle.parser.proofs.Told.{same_error}
use Rattle.parser.proofs.parser.Parser.phrase.Goals as goal

pub returns-in_err-phrase-clause-parsed : goal.returns-in_err-phrase-clause-parsed
returns-in_err-phrase-clause-parsed c =
    subst (ParsedPhrase c.args.self.now c.body.new.self) (sym (same_error _ c.in_err-phrase.field-0.0 c.from_residual.ensures.1)) c.in_err-phrase.ensures.parsed

pub returns-in_err-want-clause-parsed : goal.returns-in_err-want-clause-parsed
returns-in_err-want-clause-parsed c =
    subst (ParsedPhrase c.args.self.now c.want.new.self) (sym (same_error _ c.in_err-want.field-0.0 c.from_residual-in_err-want.ensures.1))
    (begun_refused c.body.new.self c.in_ok-phrase.ensures.parsed.2 c.in_err-want.ensures.used)

pub returns-in_err-end-clause-parsed : goal.returns-in_err-end-clause-parsed
returns-in_err-end-clause-parsed c =
    subst (ParsedPhrase c.args.self.now c.want.new.self) (sym (same_error _ c.in_err-end.field-0.0 c.from_residual-in_err-end.ensures.1))
    (no_end c.args.self.now c.body.new.self c.want.new.self c.in_ok-phrase.phrase c.in_ok-phrase.ensures.parsed c.in_ok-want.ensures.used c.in_ok-want.ensures.tree
    c.in_err-end.field-0.0 c.in_err-end.ensures)

pub returns-clause-parsed : goal.returns-clause-parsed
returns-clause-parsed c =
    all_read c.args.self.now c.body.new.self c.want.new.self c.in_ok-phrase.phrase c.in_ok-phrase.ensures.parsed c.in_ok-want.ensures.used c.in_ok-want.ensures.tree
    c.in_ok-end.ensures
