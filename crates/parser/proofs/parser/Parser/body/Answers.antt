use Rattle.std.proofs.Common.{Err, refl, ap, sym, subst, ◌∙◌}
use Rattle.lexer.specs.declared.token.Word.TheVariants.{LetType, LetTerm, Colon}
use Rattle.grammar.specs.Derives.{choose}
use Rattle.grammar.specs.Notation.{phrase}
use Rattle.grammar.proofs.Words.{chosen_other, not_the}
use Rattle.parser.specs.Parsing.{nodes, LaidPhrase}
use Rattle.parser.specs.Rows.{ParsedBody}
use Rattle.parser.specs.declared.parser.Parser.{Parser}
use Rattle.parser.proofs.Ending.{begun_first, begun_refused, body_let_type, body_let_term, body_judge, body_of_type, body_of_term, no_term}
use Rattle.parser.proofs.Taking.{looks_fails, stops_own}
use Rattle.parser.proofs.Told.{same_error}
use Rattle.parser.proofs.parser.Parser.body.Goals as goal

pub returns-in_err-look-clause-parsed : goal.returns-in_err-look-clause-parsed
returns-in_err-look-clause-parsed c =
    let p = c.args.self.now in
    subst (ParsedBody p p) (sym (same_error _ c.in_err-look.field-0.0 c.from_residual.ensures.1))
    (looks_fails phrase 0 0 p p (LaidPhrase (nodes p) (nodes p)) (Err c.in_err-look.field-0.0) refl c.in_err-look.ensures)

pub returns-in_err-name-in-LetType-clause-parsed : goal.returns-in_err-name-in-LetType-clause-parsed
returns-in_err-name-in-LetType-clause-parsed c =
    let p = c.args.self.now in let p1 : Parser = record { tokens = c.advance.new.self; tree = p.tree } in
    subst (ParsedBody p c.name.new.self) (sym (same_error _ c.in_err-name-in-LetType.field-0.0 c.from_residual-in_err-name-in-LetType.ensures.1))
    (begun_refused p1 (begun_first p c.in_ok-look.field-0 c.advance.new.self c.in_ok-look.ensures c.advance.ensures LetType c.in-LetType.is refl (λ b. refl))
    c.in_err-name-in-LetType.ensures.used)

pub returns-in_err-name-in-LetTerm-clause-parsed : goal.returns-in_err-name-in-LetTerm-clause-parsed
returns-in_err-name-in-LetTerm-clause-parsed c =
    let p = c.args.self.now in let p1 : Parser = record { tokens = c.advance-in-LetTerm.new.self; tree = p.tree } in
    subst (ParsedBody p c.name-in-LetTerm.new.self) (sym (same_error _ c.in_err-name-in-LetTerm.field-0.0 c.from_residual-in_err-name-in-LetTerm.ensures.1))
    (begun_refused p1 (begun_first p c.in_ok-look.field-0 c.advance-in-LetTerm.new.self c.in_ok-look.ensures c.advance-in-LetTerm.ensures LetTerm c.in-LetTerm.is refl (λ b. refl))
    c.in_err-name-in-LetTerm.ensures.used)

pub returns-in_err-node-in-Colon-clause-parsed : goal.returns-in_err-node-in-Colon-clause-parsed
returns-in_err-node-in-Colon-clause-parsed c =
    let p = c.args.self.now in
    subst (ParsedBody p c.closed_type.new.self) (sym (same_error _ c.in_err-node-in-Colon.field-0.0 c.from_residual-in_err-node-in-Colon.ensures.1))
    ((begun_first p c.in_ok-look.field-0 c.advance-in-Colon.new.self c.in_ok-look.ensures c.advance-in-Colon.ensures Colon c.in-Colon.is refl (λ b. refl)).stops
    (stops_own c.in_err-node-in-Colon.ensures.parsed))

pub returns-in_ok-name-in-LetType-clause-parsed : goal.returns-in_ok-name-in-LetType-clause-parsed
returns-in_ok-name-in-LetType-clause-parsed c =
    body_let_type c.args.self.now c.in_ok-look.field-0 c.advance.new.self c.in_ok-look.ensures c.advance.ensures c.let_type_rest.new.self c.name.new.self
    c.in_ok-name-in-LetType.name c.let_type_rest.result c.in-LetType.is c.in_ok-name-in-LetType.ensures.used c.in_ok-name-in-LetType.ensures.tree
    (c.let_type_rest.ensures.parsed 0) c.let_type_rest.ensures.limits

pub returns-in_ok-name-in-LetTerm-clause-parsed : goal.returns-in_ok-name-in-LetTerm-clause-parsed
returns-in_ok-name-in-LetTerm-clause-parsed c =
    body_let_term c.args.self.now c.in_ok-look.field-0 c.advance-in-LetTerm.new.self c.in_ok-look.ensures c.advance-in-LetTerm.ensures c.let_term_rest.new.self
    c.name-in-LetTerm.new.self c.in_ok-name-in-LetTerm.name c.let_term_rest.result c.in-LetTerm.is c.in_ok-name-in-LetTerm.ensures.used
    c.in_ok-name-in-LetTerm.ensures.tree (c.let_term_rest.ensures.parsed 0) c.let_term_rest.ensures.limits

pub returns-in_ok-node-in-Colon-clause-parsed : goal.returns-in_ok-node-in-Colon-clause-parsed
returns-in_ok-node-in-Colon-clause-parsed c =
    body_of_type c.args.self.now c.in_ok-look.field-0 c.advance-in-Colon.new.self c.in_ok-look.ensures c.advance-in-Colon.ensures c.closed_type.new.self
    c.in_ok-node-in-Colon.node c.in-Colon.is c.in_ok-node-in-Colon.ensures.parsed c.in_ok-node-in-Colon.ensures.limits

pub returns-in-Judge-clause-parsed : goal.returns-in-Judge-clause-parsed
returns-in-Judge-clause-parsed c =
    body_judge c.args.self.now c.in_ok-look.field-0 c.advance-in-Judge.new.self c.in_ok-look.ensures c.advance-in-Judge.ensures c.judged.new.self c.judged.result
    c.in-Judge.is (c.judged.ensures.parsed 0) c.judged.ensures.limits

pub returns-in_err-node-in_default : goal.returns-in_err-node-in_default
returns-in_err-node-in_default c =
    let p = c.args.self.now in let s = c.in_ok-look.field-0 in let h = c.in_ok-look.ensures in let o = c.in_default in
    let n = chosen_other s h.0 (not_the s o.not-LetType, (not_the s o.not-LetTerm, (not_the s o.not-Colon, (not_the s o.not-Judge, tt)))) in
    record {
      parsed = subst (ParsedBody p c.closed_term.new.self) (sym (same_error _ c.in_err-node-in_default.field-0.0 c.from_residual-in_err-node-in_default.ensures.1))
          (no_term p c.in_err-node-in_default.field-0.0 (ap (choose phrase) h.1 ∙ n) c.in_err-node-in_default.ensures.parsed);
      limits = c.in_err-node-in_default.ensures.limits;
    }

pub returns-in_ok-node-in_default : goal.returns-in_ok-node-in_default
returns-in_ok-node-in_default c =
    let p = c.args.self.now in let s = c.in_ok-look.field-0 in let h = c.in_ok-look.ensures in let o = c.in_default in
    let n = chosen_other s h.0 (not_the s o.not-LetType, (not_the s o.not-LetTerm, (not_the s o.not-Colon, (not_the s o.not-Judge, tt)))) in
    record {
      parsed = body_of_term p c.closed_term.new.self c.in_ok-node-in_default.node (ap (choose phrase) h.1 ∙ n) c.in_ok-node-in_default.ensures.parsed
          c.in_ok-node-in_default.ensures.limits;
      limits = c.in_ok-node-in_default.ensures.limits;
    }
