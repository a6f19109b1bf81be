use Rattle.std.proofs.Common.{[], Some, Ok, Err, refl, ap, sym, ◌∙◌}
use Rattle.lexer.specs.declared.token.Word.TheVariants.{Below, Colon, Turnstile}
use Rattle.grammar.specs.Notation.{judged, the}
use Rattle.grammar.specs.declared.fault.SyntaxFault.TheVariants.{Unexpected}
use Rattle.syntax.specs.Named.{judge_env, judge_type, judge_subtype, judge_term}
use Rattle.syntax.specs.declared.phrase.Phrase.TheVariants.{JudgeEnv, JudgeType, JudgeSubtype, JudgeTerm}
use Rattle.tables.specs.Tables.{held}
use Rattle.parser.specs.Parsing.{nodes, LaidPhrase}
use Rattle.parser.specs.declared.judgment.Judgment.TheVariants.{IsEnv, IsType, IsSubtype, HasType}
use Rattle.parser.specs.declared.parser.Parser.{Parser}
use Rattle.parser.proofs.Judging.{told_judged, judges_nothing, judges_no_name}
use Rattle.parser.proofs.Nodes.{laid_at}
use Rattle.parser.proofs.PhraseNodes.{term_laid_at, laid_judge_env, laid_judge_type, laid_judge_subtype, laid_judge_term}
use Rattle.parser.proofs.Taking.{looks_fails, told_own, told_own_stops}
use Rattle.parser.proofs.Told.{told_token, told_refused, told_done, no_row_told, same_error}
use Rattle.parser.proofs.parser.Parser.judged.Goals as goal

pub returns-in_err-token-clause-parsed : goal.returns-in_err-token-clause-parsed
returns-in_err-token-clause-parsed c =
    let p = c.args.self.now in
    λ q. looks_fails judged 0 q p p (LaidPhrase (nodes p) (nodes p)) _ (same_error _ c.in_err-token.field-0.0 c.from_residual.ensures.1) c.in_err-token.ensures

pub returns-in_default : goal.returns-in_default
returns-in_default c =
    let p = c.args.self.now in let s = c.in_ok-token.token in let h = c.in_ok-token.ensures in
    record {
      parsed = λ q. no_row_told judged 0 q p p (LaidPhrase (nodes p) (nodes p)) (Err (Unexpected s.byte)) (Ok s) h.0 refl h.1 (judges_no_name s h.0 c.in_default.not-Name) refl;
      limits = refl;
    }

pub returns-in-None-clause-parsed : goal.returns-in-None-clause-parsed
returns-in-None-clause-parsed c =
    let p = c.args.self.now in let s = c.in_ok-token.token in let h = c.in_ok-token.ensures in
    λ q. no_row_told judged 0 q p p (LaidPhrase (nodes p) (nodes p)) (Err (Unexpected s.byte)) (Ok s) h.0 refl h.1
    (judges_nothing c.in-Name.name s h.0 c.in-Name.is c.in-None.ensures) refl

pub returns-in_err-env-in-Some-IsEnv-clause-parsed : goal.returns-in_err-env-in-Some-IsEnv-clause-parsed
returns-in_err-env-in-Some-IsEnv-clause-parsed c =
    let p = c.args.self.now in let p1 : Parser = record { tokens = c.advance.new.self; tree = p.tree } in let p2 = c.env.new.self in
    λ q. told_judged c.in-Name.name q p p2 (LaidPhrase (nodes p) (nodes p2)) _ IsEnv c.in_ok-token.token c.advance.new.self c.in_ok-token.ensures c.in-Name.is
    (ap Some (sym c.in-Some-IsEnv.field-0-is) ∙ c.in-Some-IsEnv.ensures) refl c.advance.ensures (λ b. refl)
    (told_own_stops (same_error _ c.in_err-env-in-Some-IsEnv.field-0.0 c.from_residual-in_err-env-in-Some-IsEnv.ensures.1) c.in_err-env-in-Some-IsEnv.ensures.parsed)

pub returns-in_ok-env-in-Some-IsEnv-clause-parsed : goal.returns-in_ok-env-in-Some-IsEnv-clause-parsed
returns-in_ok-env-in-Some-IsEnv-clause-parsed c =
    let p = c.args.self.now in let p1 : Parser = record { tokens = c.advance.new.self; tree = p.tree } in let p2 = c.env.new.self in
    let E = c.in_ok-env-in-Some-IsEnv.ensures.parsed in
    λ q. told_judged c.in-Name.name q p p2 (LaidPhrase (nodes p) (nodes p2)) (Ok JudgeEnv) IsEnv c.in_ok-token.token c.advance.new.self c.in_ok-token.ensures c.in-Name.is
    (ap Some (sym c.in-Some-IsEnv.field-0-is) ∙ c.in-Some-IsEnv.ensures) refl c.advance.ensures (λ b. refl)
    (told_own p1 p2 c.in_ok-env-in-Some-IsEnv.ensures.parsed.1 c.in_ok-env-in-Some-IsEnv.ensures.limits
    (told_done (judge_env E.0) JudgeEnv (laid_judge_env (nodes p) (nodes p2) E.0 E.2)))

pub returns-in_err-env-in-Some-IsType-clause-parsed : goal.returns-in_err-env-in-Some-IsType-clause-parsed
returns-in_err-env-in-Some-IsType-clause-parsed c =
    let p = c.args.self.now in let p1 : Parser = record { tokens = c.advance-in-Some-IsType.new.self; tree = p.tree } in let p2 = c.env-in-Some-IsType.new.self in
    λ q. told_judged c.in-Name.name q p p2 (LaidPhrase (nodes p) (nodes p2)) _ IsType c.in_ok-token.token c.advance-in-Some-IsType.new.self c.in_ok-token.ensures c.in-Name.is
    (ap Some (sym c.in-Some-IsType.field-0-is) ∙ c.in-Some-IsType.ensures) refl c.advance-in-Some-IsType.ensures (λ b. refl)
    (told_own_stops (same_error _ c.in_err-env-in-Some-IsType.field-0.0 c.from_residual-in_err-env-in-Some-IsType.ensures.1) c.in_err-env-in-Some-IsType.ensures.parsed)

pub returns-in_err-want-in-Some-IsType-clause-parsed : goal.returns-in_err-want-in-Some-IsType-clause-parsed
returns-in_err-want-in-Some-IsType-clause-parsed c =
    let p = c.args.self.now in let p1 : Parser = record { tokens = c.advance-in-Some-IsType.new.self; tree = p.tree } in let p2 = c.env-in-Some-IsType.new.self in let p3 = c.want.new.self in
    λ q. told_judged c.in-Name.name q p p3 (LaidPhrase (nodes p) (nodes p3)) _ IsType c.in_ok-token.token c.advance-in-Some-IsType.new.self c.in_ok-token.ensures c.in-Name.is
    (ap Some (sym c.in-Some-IsType.field-0-is) ∙ c.in-Some-IsType.ensures) refl c.advance-in-Some-IsType.ensures (λ b. refl)
    (told_own p1 p2 c.in_ok-env-in-Some-IsType.ensures.parsed.1 c.in_ok-env-in-Some-IsType.ensures.limits
    (told_refused (same_error _ c.in_err-want-in-Some-IsType.field-0.0 c.from_residual-in_err-want-in-Some-IsType.ensures.1) c.in_err-want-in-Some-IsType.ensures.used))

pub returns-in_err-node-in-Some-IsType-clause-parsed : goal.returns-in_err-node-in-Some-IsType-clause-parsed
returns-in_err-node-in-Some-IsType-clause-parsed c =
    let p = c.args.self.now in let p1 : Parser = record { tokens = c.advance-in-Some-IsType.new.self; tree = p.tree } in let p2 = c.env-in-Some-IsType.new.self in let p3 = c.want.new.self in let p4 = c.closed_type.new.self in
    λ q. told_judged c.in-Name.name q p p4 (LaidPhrase (nodes p) (nodes p4)) _ IsType c.in_ok-token.token c.advance-in-Some-IsType.new.self c.in_ok-token.ensures c.in-Name.is
    (ap Some (sym c.in-Some-IsType.field-0-is) ∙ c.in-Some-IsType.ensures) refl c.advance-in-Some-IsType.ensures (λ b. refl)
    (told_own p1 p2 c.in_ok-env-in-Some-IsType.ensures.parsed.1 c.in_ok-env-in-Some-IsType.ensures.limits
    (told_token (the Turnstile) tt p2 p3 c.in_ok-want-in-Some-IsType.ensures.used c.in_ok-want-in-Some-IsType.ensures.tree
    (told_own_stops (same_error _ c.in_err-node-in-Some-IsType.field-0.0 c.from_residual-in_err-node-in-Some-IsType.ensures.1) c.in_err-node-in-Some-IsType.ensures.parsed)))

pub returns-in_ok-node-in-Some-IsType-clause-parsed : goal.returns-in_ok-node-in-Some-IsType-clause-parsed
returns-in_ok-node-in-Some-IsType-clause-parsed c =
    let p = c.args.self.now in let p1 : Parser = record { tokens = c.advance-in-Some-IsType.new.self; tree = p.tree } in let p2 = c.env-in-Some-IsType.new.self in let p3 = c.want.new.self in let p4 = c.closed_type.new.self in
    let E = c.in_ok-env-in-Some-IsType.ensures.parsed in
    let A = c.in_ok-node-in-Some-IsType.ensures.parsed in
    let a = laid_at [] [] (nodes p3) (nodes p2) (nodes p4) A.0 _ refl (ap held c.in_ok-want-in-Some-IsType.ensures.tree) A.2 in
    λ q. told_judged c.in-Name.name q p p4 (LaidPhrase (nodes p) (nodes p4)) (Ok (JudgeType c.in_ok-node-in-Some-IsType.node)) IsType c.in_ok-token.token c.advance-in-Some-IsType.new.self c.in_ok-token.ensures c.in-Name.is
    (ap Some (sym c.in-Some-IsType.field-0-is) ∙ c.in-Some-IsType.ensures) refl c.advance-in-Some-IsType.ensures (λ b. refl)
    (told_own p1 p2 c.in_ok-env-in-Some-IsType.ensures.parsed.1 c.in_ok-env-in-Some-IsType.ensures.limits
    (told_token (the Turnstile) tt p2 p3 c.in_ok-want-in-Some-IsType.ensures.used c.in_ok-want-in-Some-IsType.ensures.tree
    (told_own p3 p4 c.in_ok-node-in-Some-IsType.ensures.parsed.1 c.in_ok-node-in-Some-IsType.ensures.limits
    (told_done (judge_type E.0 A.0) _ (laid_judge_type (nodes p) (nodes p2) (nodes p4) E.0 A.0 _ E.2 a)))))

pub returns-in_err-env-in-Some-IsSubtype-clause-parsed : goal.returns-in_err-env-in-Some-IsSubtype-clause-parsed
returns-in_err-env-in-Some-IsSubtype-clause-parsed c =
    let p = c.args.self.now in let p1 : Parser = record { tokens = c.advance-in-Some-IsSubtype.new.self; tree = p.tree } in let p2 = c.env-in-Some-IsSubtype.new.self in
    λ q. told_judged c.in-Name.name q p p2 (LaidPhrase (nodes p) (nodes p2)) _ IsSubtype c.in_ok-token.token c.advance-in-Some-IsSubtype.new.self c.in_ok-token.ensures c.in-Name.is
    (ap Some (sym c.in-Some-IsSubtype.field-0-is) ∙ c.in-Some-IsSubtype.ensures) refl c.advance-in-Some-IsSubtype.ensures (λ b. refl)
    (told_own_stops (same_error _ c.in_err-env-in-Some-IsSubtype.field-0.0 c.from_residual-in_err-env-in-Some-IsSubtype.ensures.1) c.in_err-env-in-Some-IsSubtype.ensures.parsed)

pub returns-in_err-want-in-Some-IsSubtype-clause-parsed : goal.returns-in_err-want-in-Some-IsSubtype-clause-parsed
returns-in_err-want-in-Some-IsSubtype-clause-parsed c =
    let p = c.args.self.now in let p1 : Parser = record { tokens = c.advance-in-Some-IsSubtype.new.self; tree = p.tree } in let p2 = c.env-in-Some-IsSubtype.new.self in let p3 = c.want-in-Some-IsSubtype.new.self in
    λ q. told_judged c.in-Name.name q p p3 (LaidPhrase (nodes p) (nodes p3)) _ IsSubtype c.in_ok-token.token c.advance-in-Some-IsSubtype.new.self c.in_ok-token.ensures c.in-Name.is
    (ap Some (sym c.in-Some-IsSubtype.field-0-is) ∙ c.in-Some-IsSubtype.ensures) refl c.advance-in-Some-IsSubtype.ensures (λ b. refl)
    (told_own p1 p2 c.in_ok-env-in-Some-IsSubtype.ensures.parsed.1 c.in_ok-env-in-Some-IsSubtype.ensures.limits
    (told_refused (same_error _ c.in_err-want-in-Some-IsSubtype.field-0.0 c.from_residual-in_err-want-in-Some-IsSubtype.ensures.1) c.in_err-want-in-Some-IsSubtype.ensures.used))

pub returns-in_err-left-in-Some-IsSubtype-clause-parsed : goal.returns-in_err-left-in-Some-IsSubtype-clause-parsed
returns-in_err-left-in-Some-IsSubtype-clause-parsed c =
    let p = c.args.self.now in let p1 : Parser = record { tokens = c.advance-in-Some-IsSubtype.new.self; tree = p.tree } in let p2 = c.env-in-Some-IsSubtype.new.self in let p3 = c.want-in-Some-IsSubtype.new.self in let p4 = c.closed_type-in-Some-IsSubtype.new.self in
    λ q. told_judged c.in-Name.name q p p4 (LaidPhrase (nodes p) (nodes p4)) _ IsSubtype c.in_ok-token.token c.advance-in-Some-IsSubtype.new.self c.in_ok-token.ensures c.in-Name.is
    (ap Some (sym c.in-Some-IsSubtype.field-0-is) ∙ c.in-Some-IsSubtype.ensures) refl c.advance-in-Some-IsSubtype.ensures (λ b. refl)
    (told_own p1 p2 c.in_ok-env-in-Some-IsSubtype.ensures.parsed.1 c.in_ok-env-in-Some-IsSubtype.ensures.limits
    (told_token (the Turnstile) tt p2 p3 c.in_ok-want-in-Some-IsSubtype.ensures.used c.in_ok-want-in-Some-IsSubtype.ensures.tree
    (told_own_stops (same_error _ c.in_err-left-in-Some-IsSubtype.field-0.0 c.from_residual-in_err-left-in-Some-IsSubtype.ensures.1) c.in_err-left-in-Some-IsSubtype.ensures.parsed)))

pub returns-in_err-want-in-Some-IsSubtype-2-clause-parsed : goal.returns-in_err-want-in-Some-IsSubtype-2-clause-parsed
returns-in_err-want-in-Some-IsSubtype-2-clause-parsed c =
    let p = c.args.self.now in let p1 : Parser = record { tokens = c.advance-in-Some-IsSubtype.new.self; tree = p.tree } in let p2 = c.env-in-Some-IsSubtype.new.self in let p3 = c.want-in-Some-IsSubtype.new.self in let p4 = c.closed_type-in-Some-IsSubtype.new.self in let p5 = c.want-in-Some-IsSubtype-2.new.self in
    λ q. told_judged c.in-Name.name q p p5 (LaidPhrase (nodes p) (nodes p5)) _ IsSubtype c.in_ok-token.token c.advance-in-Some-IsSubtype.new.self c.in_ok-token.ensures c.in-Name.is
    (ap Some (sym c.in-Some-IsSubtype.field-0-is) ∙ c.in-Some-IsSubtype.ensures) refl c.advance-in-Some-IsSubtype.ensures (λ b. refl)
    (told_own p1 p2 c.in_ok-env-in-Some-IsSubtype.ensures.parsed.1 c.in_ok-env-in-Some-IsSubtype.ensures.limits
    (told_token (the Turnstile) tt p2 p3 c.in_ok-want-in-Some-IsSubtype.ensures.used c.in_ok-want-in-Some-IsSubtype.ensures.tree
    (told_own p3 p4 c.in_ok-left-in-Some-IsSubtype.ensures.parsed.1 c.in_ok-left-in-Some-IsSubtype.ensures.limits
    (told_refused (same_error _ c.in_err-want-in-Some-IsSubtype-2.field-0.0 c.from_residual-in_err-want-in-Some-IsSubtype-2.ensures.1) c.in_err-want-in-Some-IsSubtype-2.ensures.used))))

pub returns-in_err-right-in-Some-IsSubtype-clause-parsed : goal.returns-in_err-right-in-Some-IsSubtype-clause-parsed
returns-in_err-right-in-Some-IsSubtype-clause-parsed c =
    let p = c.args.self.now in let p1 : Parser = record { tokens = c.advance-in-Some-IsSubtype.new.self; tree = p.tree } in let p2 = c.env-in-Some-IsSubtype.new.self in let p3 = c.want-in-Some-IsSubtype.new.self in let p4 = c.closed_type-in-Some-IsSubtype.new.self in let p5 = c.want-in-Some-IsSubtype-2.new.self in let p6 = c.closed_type-in-Some-IsSubtype-2.new.self in
    λ q. told_judged c.in-Name.name q p p6 (LaidPhrase (nodes p) (nodes p6)) _ IsSubtype c.in_ok-token.token c.advance-in-Some-IsSubtype.new.self c.in_ok-token.ensures c.in-Name.is
    (ap Some (sym c.in-Some-IsSubtype.field-0-is) ∙ c.in-Some-IsSubtype.ensures) refl c.advance-in-Some-IsSubtype.ensures (λ b. refl)
    (told_own p1 p2 c.in_ok-env-in-Some-IsSubtype.ensures.parsed.1 c.in_ok-env-in-Some-IsSubtype.ensures.limits
    (told_token (the Turnstile) tt p2 p3 c.in_ok-want-in-Some-IsSubtype.ensures.used c.in_ok-want-in-Some-IsSubtype.ensures.tree
    (told_own p3 p4 c.in_ok-left-in-Some-IsSubtype.ensures.parsed.1 c.in_ok-left-in-Some-IsSubtype.ensures.limits
    (told_token (the Below) tt p4 p5 c.in_ok-want-in-Some-IsSubtype-2.ensures.used c.in_ok-want-in-Some-IsSubtype-2.ensures.tree
    (told_own_stops (same_error _ c.in_err-right-in-Some-IsSubtype.field-0.0 c.from_residual-in_err-right-in-Some-IsSubtype.ensures.1) c.in_err-right-in-Some-IsSubtype.ensures.parsed)))))

pub returns-in_ok-right-in-Some-IsSubtype-clause-parsed : goal.returns-in_ok-right-in-Some-IsSubtype-clause-parsed
returns-in_ok-right-in-Some-IsSubtype-clause-parsed c =
    let p = c.args.self.now in let p1 : Parser = record { tokens = c.advance-in-Some-IsSubtype.new.self; tree = p.tree } in let p2 = c.env-in-Some-IsSubtype.new.self in let p3 = c.want-in-Some-IsSubtype.new.self in let p4 = c.closed_type-in-Some-IsSubtype.new.self in let p5 = c.want-in-Some-IsSubtype-2.new.self in let p6 = c.closed_type-in-Some-IsSubtype-2.new.self in
    let E = c.in_ok-env-in-Some-IsSubtype.ensures.parsed in
    let A = c.in_ok-left-in-Some-IsSubtype.ensures.parsed in
    let B = c.in_ok-right-in-Some-IsSubtype.ensures.parsed in
    let a = laid_at [] [] (nodes p3) (nodes p2) (nodes p4) A.0 _ refl (ap held c.in_ok-want-in-Some-IsSubtype.ensures.tree) A.2 in
    let b = laid_at [] [] (nodes p5) (nodes p4) (nodes p6) B.0 _ refl (ap held c.in_ok-want-in-Some-IsSubtype-2.ensures.tree) B.2 in
    λ q. told_judged c.in-Name.name q p p6 (LaidPhrase (nodes p) (nodes p6)) (Ok (JudgeSubtype c.in_ok-left-in-Some-IsSubtype.left c.in_ok-right-in-Some-IsSubtype.right)) IsSubtype c.in_ok-token.token c.advance-in-Some-IsSubtype.new.self c.in_ok-token.ensures c.in-Name.is
    (ap Some (sym c.in-Some-IsSubtype.field-0-is) ∙ c.in-Some-IsSubtype.ensures) refl c.advance-in-Some-IsSubtype.ensures (λ b. refl)
    (told_own p1 p2 c.in_ok-env-in-Some-IsSubtype.ensures.parsed.1 c.in_ok-env-in-Some-IsSubtype.ensures.limits
    (told_token (the Turnstile) tt p2 p3 c.in_ok-want-in-Some-IsSubtype.ensures.used c.in_ok-want-in-Some-IsSubtype.ensures.tree
    (told_own p3 p4 c.in_ok-left-in-Some-IsSubtype.ensures.parsed.1 c.in_ok-left-in-Some-IsSubtype.ensures.limits
    (told_token (the Below) tt p4 p5 c.in_ok-want-in-Some-IsSubtype-2.ensures.used c.in_ok-want-in-Some-IsSubtype-2.ensures.tree
    (told_own p5 p6 c.in_ok-right-in-Some-IsSubtype.ensures.parsed.1 c.in_ok-right-in-Some-IsSubtype.ensures.limits
    (told_done (judge_subtype E.0 A.0 B.0) _ (laid_judge_subtype (nodes p) (nodes p2) (nodes p4) (nodes p6) E.0 A.0 B.0 _ _ E.2 a b)))))))

pub returns-in_err-env-in-Some-HasType-clause-parsed : goal.returns-in_err-env-in-Some-HasType-clause-parsed
returns-in_err-env-in-Some-HasType-clause-parsed c =
    let p = c.args.self.now in let p1 : Parser = record { tokens = c.advance-in-Some-HasType.new.self; tree = p.tree } in let p2 = c.env-in-Some-HasType.new.self in
    λ q. told_judged c.in-Name.name q p p2 (LaidPhrase (nodes p) (nodes p2)) _ HasType c.in_ok-token.token c.advance-in-Some-HasType.new.self c.in_ok-token.ensures c.in-Name.is
    (ap Some (sym c.in-Some-HasType.field-0-is) ∙ c.in-Some-HasType.ensures) refl c.advance-in-Some-HasType.ensures (λ b. refl)
    (told_own_stops (same_error _ c.in_err-env-in-Some-HasType.field-0.0 c.from_residual-in_err-env-in-Some-HasType.ensures.1) c.in_err-env-in-Some-HasType.ensures.parsed)

pub returns-in_err-want-in-Some-HasType-clause-parsed : goal.returns-in_err-want-in-Some-HasType-clause-parsed
returns-in_err-want-in-Some-HasType-clause-parsed c =
    let p = c.args.self.now in let p1 : Parser = record { tokens = c.advance-in-Some-HasType.new.self; tree = p.tree } in let p2 = c.env-in-Some-HasType.new.self in let p3 = c.want-in-Some-HasType.new.self in
    λ q. told_judged c.in-Name.name q p p3 (LaidPhrase (nodes p) (nodes p3)) _ HasType c.in_ok-token.token c.advance-in-Some-HasType.new.self c.in_ok-token.ensures c.in-Name.is
    (ap Some (sym c.in-Some-HasType.field-0-is) ∙ c.in-Some-HasType.ensures) refl c.advance-in-Some-HasType.ensures (λ b. refl)
    (told_own p1 p2 c.in_ok-env-in-Some-HasType.ensures.parsed.1 c.in_ok-env-in-Some-HasType.ensures.limits
    (told_refused (same_error _ c.in_err-want-in-Some-HasType.field-0.0 c.from_residual-in_err-want-in-Some-HasType.ensures.1) c.in_err-want-in-Some-HasType.ensures.used))

pub returns-in_err-term-in-Some-HasType-clause-parsed : goal.returns-in_err-term-in-Some-HasType-clause-parsed
returns-in_err-term-in-Some-HasType-clause-parsed c =
    let p = c.args.self.now in let p1 : Parser = record { tokens = c.advance-in-Some-HasType.new.self; tree = p.tree } in let p2 = c.env-in-Some-HasType.new.self in let p3 = c.want-in-Some-HasType.new.self in let p4 = c.closed_term.new.self in
    λ q. told_judged c.in-Name.name q p p4 (LaidPhrase (nodes p) (nodes p4)) _ HasType c.in_ok-token.token c.advance-in-Some-HasType.new.self c.in_ok-token.ensures c.in-Name.is
    (ap Some (sym c.in-Some-HasType.field-0-is) ∙ c.in-Some-HasType.ensures) refl c.advance-in-Some-HasType.ensures (λ b. refl)
    (told_own p1 p2 c.in_ok-env-in-Some-HasType.ensures.parsed.1 c.in_ok-env-in-Some-HasType.ensures.limits
    (told_token (the Turnstile) tt p2 p3 c.in_ok-want-in-Some-HasType.ensures.used c.in_ok-want-in-Some-HasType.ensures.tree
    (told_own_stops (same_error _ c.in_err-term-in-Some-HasType.field-0.0 c.from_residual-in_err-term-in-Some-HasType.ensures.1) c.in_err-term-in-Some-HasType.ensures.parsed)))

pub returns-in_err-want-in-Some-HasType-2-clause-parsed : goal.returns-in_err-want-in-Some-HasType-2-clause-parsed
returns-in_err-want-in-Some-HasType-2-clause-parsed c =
    let p = c.args.self.now in let p1 : Parser = record { tokens = c.advance-in-Some-HasType.new.self; tree = p.tree } in let p2 = c.env-in-Some-HasType.new.self in let p3 = c.want-in-Some-HasType.new.self in let p4 = c.closed_term.new.self in let p5 = c.want-in-Some-HasType-2.new.self in
    λ q. told_judged c.in-Name.name q p p5 (LaidPhrase (nodes p) (nodes p5)) _ HasType c.in_ok-token.token c.advance-in-Some-HasType.new.self c.in_ok-token.ensures c.in-Name.is
    (ap Some (sym c.in-Some-HasType.field-0-is) ∙ c.in-Some-HasType.ensures) refl c.advance-in-Some-HasType.ensures (λ b. refl)
    (told_own p1 p2 c.in_ok-env-in-Some-HasType.ensures.parsed.1 c.in_ok-env-in-Some-HasType.ensures.limits
    (told_token (the Turnstile) tt p2 p3 c.in_ok-want-in-Some-HasType.ensures.used c.in_ok-want-in-Some-HasType.ensures.tree
    (told_own p3 p4 c.in_ok-term-in-Some-HasType.ensures.parsed.1 c.in_ok-term-in-Some-HasType.ensures.limits
    (told_refused (same_error _ c.in_err-want-in-Some-HasType-2.field-0.0 c.from_residual-in_err-want-in-Some-HasType-2.ensures.1) c.in_err-want-in-Some-HasType-2.ensures.used))))

pub returns-in_err-stated-in-Some-HasType-clause-parsed : goal.returns-in_err-stated-in-Some-HasType-clause-parsed
returns-in_err-stated-in-Some-HasType-clause-parsed c =
    let p = c.args.self.now in let p1 : Parser = record { tokens = c.advance-in-Some-HasType.new.self; tree = p.tree } in let p2 = c.env-in-Some-HasType.new.self in let p3 = c.want-in-Some-HasType.new.self in let p4 = c.closed_term.new.self in let p5 = c.want-in-Some-HasType-2.new.self in let p6 = c.closed_type-in-Some-HasType.new.self in
    λ q. told_judged c.in-Name.name q p p6 (LaidPhrase (nodes p) (nodes p6)) _ HasType c.in_ok-token.token c.advance-in-Some-HasType.new.self c.in_ok-token.ensures c.in-Name.is
    (ap Some (sym c.in-Some-HasType.field-0-is) ∙ c.in-Some-HasType.ensures) refl c.advance-in-Some-HasType.ensures (λ b. refl)
    (told_own p1 p2 c.in_ok-env-in-Some-HasType.ensures.parsed.1 c.in_ok-env-in-Some-HasType.ensures.limits
    (told_token (the Turnstile) tt p2 p3 c.in_ok-want-in-Some-HasType.ensures.used c.in_ok-want-in-Some-HasType.ensures.tree
    (told_own p3 p4 c.in_ok-term-in-Some-HasType.ensures.parsed.1 c.in_ok-term-in-Some-HasType.ensures.limits
    (told_token (the Colon) tt p4 p5 c.in_ok-want-in-Some-HasType-2.ensures.used c.in_ok-want-in-Some-HasType-2.ensures.tree
    (told_own_stops (same_error _ c.in_err-stated-in-Some-HasType.field-0.0 c.from_residual-in_err-stated-in-Some-HasType.ensures.1) c.in_err-stated-in-Some-HasType.ensures.parsed)))))

pub returns-in_ok-stated-in-Some-HasType-clause-parsed : goal.returns-in_ok-stated-in-Some-HasType-clause-parsed
returns-in_ok-stated-in-Some-HasType-clause-parsed c =
    let p = c.args.self.now in let p1 : Parser = record { tokens = c.advance-in-Some-HasType.new.self; tree = p.tree } in let p2 = c.env-in-Some-HasType.new.self in let p3 = c.want-in-Some-HasType.new.self in let p4 = c.closed_term.new.self in let p5 = c.want-in-Some-HasType-2.new.self in let p6 = c.closed_type-in-Some-HasType.new.self in
    let E = c.in_ok-env-in-Some-HasType.ensures.parsed in
    let B = c.in_ok-term-in-Some-HasType.ensures.parsed in
    let A = c.in_ok-stated-in-Some-HasType.ensures.parsed in
    let b = term_laid_at (nodes p3) (nodes p2) (nodes p4) B.0 _ (ap held c.in_ok-want-in-Some-HasType.ensures.tree) B.2 in
    let a = laid_at [] [] (nodes p5) (nodes p4) (nodes p6) A.0 _ refl (ap held c.in_ok-want-in-Some-HasType-2.ensures.tree) A.2 in
    λ q. told_judged c.in-Name.name q p p6 (LaidPhrase (nodes p) (nodes p6)) (Ok (JudgeTerm c.in_ok-term-in-Some-HasType.term c.in_ok-stated-in-Some-HasType.stated)) HasType c.in_ok-token.token c.advance-in-Some-HasType.new.self c.in_ok-token.ensures c.in-Name.is
    (ap Some (sym c.in-Some-HasType.field-0-is) ∙ c.in-Some-HasType.ensures) refl c.advance-in-Some-HasType.ensures (λ b. refl)
    (told_own p1 p2 c.in_ok-env-in-Some-HasType.ensures.parsed.1 c.in_ok-env-in-Some-HasType.ensures.limits
    (told_token (the Turnstile) tt p2 p3 c.in_ok-want-in-Some-HasType.ensures.used c.in_ok-want-in-Some-HasType.ensures.tree
    (told_own p3 p4 c.in_ok-term-in-Some-HasType.ensures.parsed.1 c.in_ok-term-in-Some-HasType.ensures.limits
    (told_token (the Colon) tt p4 p5 c.in_ok-want-in-Some-HasType-2.ensures.used c.in_ok-want-in-Some-HasType-2.ensures.tree
    (told_own p5 p6 c.in_ok-stated-in-Some-HasType.ensures.parsed.1 c.in_ok-stated-in-Some-HasType.ensures.limits
    (told_done (judge_term E.0 B.0 A.0) _ (laid_judge_term (nodes p) (nodes p2) (nodes p4) (nodes p6) E.0 B.0 A.0 _ _ E.2 b a)))))))
