use Rattle.std.proofs.Common.{[], Ok, refl, ap, sym, ◌∙◌}
use Rattle.lexer.specs.declared.token.Word.TheVariants.{Below, Colon}
use Rattle.grammar.specs.Notation.{binding_rest, the}
use Rattle.grammar.proofs.Words.{chosen_other}
use Rattle.syntax.specs.Named.{type_binding, term_binding}
use Rattle.syntax.specs.declared.node.Node.TheVariants.{TypeBinding, TermBinding}
use Rattle.tables.specs.Tables.{held}
use Rattle.parser.specs.Parsing.{items, nodes, GivenBinding}
use Rattle.parser.proofs.Nodes.{laid_at}
use Rattle.parser.proofs.PhraseNodes.{given_type_binding, given_term_binding}
use Rattle.parser.proofs.Taking.{looks_fails, take_uses, take_leaves, refuses_first, none_taken, told_taken, told_own, told_own_stops}
use Rattle.parser.proofs.Told.{told_done, no_row_told, same_error}
use Rattle.parser.proofs.parser.Parser.binding_rest.Goals as goal

pub returns-in_err-take-clause-parsed : goal.returns-in_err-take-clause-parsed
returns-in_err-take-clause-parsed c =
    let p = c.args.self.now in
    λ q. looks_fails binding_rest 0 q p c.take.new.self (λ v. GivenBinding (nodes p) (nodes c.take.new.self) (v c.args.name)) _
    (same_error _ c.in_err-take.field-0.0 c.from_residual.ensures.1) c.in_err-take.ensures.used

pub returns-in_err-bound-clause-parsed : goal.returns-in_err-bound-clause-parsed
returns-in_err-bound-clause-parsed c =
    let p = c.args.self.now in let p1 = c.take.new.self in let p2 = c.closed_type.new.self in
    let u = take_uses Below (items p) (items p1) _ c.if-branch.true c.in_ok-take.ensures.used in
    λ q. told_taken binding_rest 0 q p p1 p2 (λ v. GivenBinding (nodes p) (nodes p2) (v c.args.name)) _ Below u c.in_ok-take.ensures.tree (λ b. refl)
    (told_own_stops (same_error _ c.in_err-bound.field-0.0 c.from_residual-in_err-bound.ensures.1) c.in_err-bound.ensures.parsed)

pub returns-in_err-want-clause-parsed : goal.returns-in_err-want-clause-parsed
returns-in_err-want-clause-parsed c =
    let p = c.args.self.now in let p1 = c.take.new.self in let p2 = c.want.new.self in
    let o = take_leaves Below (items p) (items p1) _ c.if-branch.false c.in_ok-take.ensures.used in
    let n = refuses_first (the Colon) (items p1) (Ok o.0) o.1 _ (o.4 ∙ o.2) c.in_err-want.ensures.used in
    λ q. no_row_told binding_rest 0 q p p2 (λ v. GivenBinding (nodes p) (nodes p2) (v c.args.name)) _ (Ok o.0) o.1
    (same_error _ c.in_err-want.field-0.0 c.from_residual-in_err-want.ensures.1) o.2
    (chosen_other o.0 o.1 (o.3, (none_taken (the Colon) o.0 n.0, tt))) n.1

pub returns-in_err-domain-clause-parsed : goal.returns-in_err-domain-clause-parsed
returns-in_err-domain-clause-parsed c =
    let p = c.args.self.now in let p1 = c.take.new.self in let p2 = c.want.new.self in let p3 = c.closed_type-else-branch.new.self in
    let o = take_leaves Below (items p) (items p1) _ c.if-branch.false c.in_ok-take.ensures.used in
    let w = c.in_ok-want.ensures.used in
    λ q. told_taken binding_rest 0 q p p2 p3 (λ v. GivenBinding (nodes p) (nodes p3) (v c.args.name)) _ Colon (w.0, sym o.4 ∙ w.1, w.2)
    (c.in_ok-want.ensures.tree ∙ c.in_ok-take.ensures.tree) (λ b. refl)
    (told_own_stops (same_error _ c.in_err-domain.field-0.0 c.from_residual-in_err-domain.ensures.1) c.in_err-domain.ensures.parsed)

pub returns-in_ok-bound-clause-parsed : goal.returns-in_ok-bound-clause-parsed
returns-in_ok-bound-clause-parsed c =
    let p = c.args.self.now in let p1 = c.take.new.self in let p2 = c.closed_type.new.self in
    let u = take_uses Below (items p) (items p1) _ c.if-branch.true c.in_ok-take.ensures.used in
    let A = c.in_ok-bound.ensures.parsed in
    let a = laid_at [] [] (nodes p1) (nodes p) (nodes p2) A.0 _ refl (ap held c.in_ok-take.ensures.tree) A.2 in
    λ q. told_taken binding_rest 0 q p p1 p2 (λ v. GivenBinding (nodes p) (nodes p2) (v c.args.name)) (Ok (TypeBinding c.args.name c.in_ok-bound.bound)) Below u
    c.in_ok-take.ensures.tree (λ b. refl)
    (told_own p1 p2 A.1 c.in_ok-bound.ensures.limits (told_done (λ x. type_binding x A.0) _ (given_type_binding c.args.name (nodes p) (nodes p2) A.0 _ a)))

pub returns-in_ok-domain-clause-parsed : goal.returns-in_ok-domain-clause-parsed
returns-in_ok-domain-clause-parsed c =
    let p = c.args.self.now in let p1 = c.take.new.self in let p2 = c.want.new.self in let p3 = c.closed_type-else-branch.new.self in
    let o = take_leaves Below (items p) (items p1) _ c.if-branch.false c.in_ok-take.ensures.used in
    let w = c.in_ok-want.ensures.used in
    let tree = c.in_ok-want.ensures.tree ∙ c.in_ok-take.ensures.tree in
    let A = c.in_ok-domain.ensures.parsed in
    let a = laid_at [] [] (nodes p2) (nodes p) (nodes p3) A.0 _ refl (ap held tree) A.2 in
    λ q. told_taken binding_rest 0 q p p2 p3 (λ v. GivenBinding (nodes p) (nodes p3) (v c.args.name)) (Ok (TermBinding c.args.name c.in_ok-domain.domain)) Colon
    (w.0, sym o.4 ∙ w.1, w.2) tree (λ b. refl)
    (told_own p2 p3 A.1 c.in_ok-domain.ensures.limits (told_done (λ x. term_binding x A.0) _ (given_term_binding c.args.name (nodes p) (nodes p3) A.0 _ a)))
