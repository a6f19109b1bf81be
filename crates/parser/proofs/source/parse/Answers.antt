use Rattle.std.proofs.Common.{length, ap, sym, subst, ◌∙◌}
use Rattle.lexer.specs.Coming.{to_come}
use Rattle.parser.specs.Source.{ReadAs}
use Rattle.parser.specs.declared.parser.Parser.{Parser}
use Rattle.parser.proofs.Answering.{phrase_answered, fault_answered}
use Rattle.parser.proofs.Told.{same_error}
use Rattle.parser.proofs.source.parse.Goals as goal

pub returns-in_err-phrase : goal.returns-in_err-phrase
returns-in_err-phrase c =
    let old : Parser = record { tokens = c.args.tokens; tree = c.new-tree.result } in
    let k = length c.args.places.now in
    subst (ReadAs (to_come c.args.tokens) k) (sym (same_error _ c.in_err-phrase.field-0.0 c.from_residual.ensures.1))
    (fault_answered old c.phrase.new.self k c.new-tree.ensures.empty (ap length c.new-tree.ensures.contents) c.in_err-phrase.field-0.0 c.in_err-phrase.ensures.parsed)

pub returns : goal.returns
returns c =
    let old : Parser = record { tokens = c.args.tokens; tree = c.new-tree.result } in
    let h = phrase_answered old c.phrase.new.self (length c.args.places.now) c.new-tree.ensures.empty (ap length c.new-tree.ensures.contents) c.in_ok-phrase.phrase c.in_ok-phrase.ensures.parsed in
    (h.0, h.1, h.2, c.into_records.ensures ∙ h.3)
