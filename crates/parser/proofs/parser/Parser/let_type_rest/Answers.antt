use Rattle.std.proofs.Common.{[], Ok, refl, ap, sym, ◌∙◌}
use Rattle.lexer.specs.declared.token.Word.TheVariants.{Below, Equal}
use Rattle.grammar.specs.Notation.{let_type_rest, the}
use Rattle.grammar.proofs.Words.{chosen_other}
use Rattle.syntax.specs.Named.{let_type, let_type_unbounded}
use Rattle.syntax.specs.declared.phrase.Phrase.TheVariants.{LetType, LetTypeUnbounded}
use Rattle.tables.specs.Tables.{held}
use Rattle.parser.specs.Parsing.{items, nodes, LaidPhrase}
use Rattle.parser.proofs.Nodes.{laid_at}
use Rattle.parser.proofs.PhraseNodes.{laid_let_type, laid_let_type_unbounded}
use Rattle.parser.proofs.Taking.{looks_fails, take_uses, take_leaves, refuses_first, none_taken, told_taken, told_own, told_own_stops}
use Rattle.parser.proofs.Told.{told_token, told_refused, told_done, no_row_told, same_error}
use Rattle.parser.proofs.parser.Parser.let_type_rest.Goals as goal

pub returns-in_err-take-clause-parsed : goal.returns-in_err-take-clause-parsed
returns-in_err-take-clause-parsed c =
    let p = c.args.self.now in
    λ q. looks_fails let_type_rest 0 q p c.take.new.self (λ v. LaidPhrase (nodes p) (nodes c.take.new.self) (v c.args.name)) _
    (same_error _ c.in_err-take.field-0.0 c.from_residual.ensures.1) c.in_err-take.ensures.used

pub returns-in_err-bound-clause-parsed : goal.returns-in_err-bound-clause-parsed
returns-in_err-bound-clause-parsed c =
    let p = c.args.self.now in let p1 = c.take.new.self in let p2 = c.closed_type.new.self in
    let u = take_uses Below (items p) (items p1) _ c.if-branch.true c.in_ok-take.ensures.used in
    λ q. told_taken let_type_rest 0 q p p1 p2 (λ v. LaidPhrase (nodes p) (nodes p2) (v c.args.name)) _ Below u c.in_ok-take.ensures.tree (λ b. refl)
    (told_own_stops (same_error _ c.in_err-bound.field-0.0 c.from_residual-in_err-bound.ensures.1) c.in_err-bound.ensures.parsed)

pub returns-in_err-want-clause-parsed : goal.returns-in_err-want-clause-parsed
returns-in_err-want-clause-parsed c =
    let p = c.args.self.now in let p1 = c.take.new.self in let p2 = c.closed_type.new.self in let p3 = c.want.new.self in
    let u = take_uses Below (items p) (items p1) _ c.if-branch.true c.in_ok-take.ensures.used in
    λ q. told_taken let_type_rest 0 q p p1 p3 (λ v. LaidPhrase (nodes p) (nodes p3) (v c.args.name)) _ Below u c.in_ok-take.ensures.tree (λ b. refl)
    (told_own p1 p2 c.in_ok-bound.ensures.parsed.1 c.in_ok-bound.ensures.limits
    (told_refused (same_error _ c.in_err-want.field-0.0 c.from_residual-in_err-want.ensures.1) c.in_err-want.ensures.used))

pub returns-in_err-to-clause-parsed : goal.returns-in_err-to-clause-parsed
returns-in_err-to-clause-parsed c =
    let p = c.args.self.now in let p1 = c.take.new.self in let p2 = c.closed_type.new.self in let p3 = c.want.new.self in let p4 = c.closed_type-then-branch.new.self in
    let u = take_uses Below (items p) (items p1) _ c.if-branch.true c.in_ok-take.ensures.used in
    λ q. told_taken let_type_rest 0 q p p1 p4 (λ v. LaidPhrase (nodes p) (nodes p4) (v c.args.name)) _ Below u c.in_ok-take.ensures.tree (λ b. refl)
    (told_own p1 p2 c.in_ok-bound.ensures.parsed.1 c.in_ok-bound.ensures.limits
    (told_token (the Equal) tt p2 p3 c.in_ok-want.ensures.used c.in_ok-want.ensures.tree
    (told_own_stops (same_error _ c.in_err-to.field-0.0 c.from_residual-in_err-to.ensures.1) c.in_err-to.ensures.parsed)))

pub returns-in_ok-to-clause-parsed : goal.returns-in_ok-to-clause-parsed
returns-in_ok-to-clause-parsed c =
    let p = c.args.self.now in let p1 = c.take.new.self in let p2 = c.closed_type.new.self in let p3 = c.want.new.self in let p4 = c.closed_type-then-branch.new.self in
    let u = take_uses Below (items p) (items p1) _ c.if-branch.true c.in_ok-take.ensures.used in
    let B = c.in_ok-bound.ensures.parsed in
    let A = c.in_ok-to.ensures.parsed in
    let b = laid_at [] [] (nodes p1) (nodes p) (nodes p2) B.0 _ refl (ap held c.in_ok-take.ensures.tree) B.2 in
    let a = laid_at [] [] (nodes p3) (nodes p2) (nodes p4) A.0 _ refl (ap held c.in_ok-want.ensures.tree) A.2 in
    λ q. told_taken let_type_rest 0 q p p1 p4 (λ v. LaidPhrase (nodes p) (nodes p4) (v c.args.name)) (Ok (LetType c.args.name c.in_ok-bound.bound c.in_ok-to.to))
    Below u c.in_ok-take.ensures.tree (λ b. refl)
    (told_own p1 p2 B.1 c.in_ok-bound.ensures.limits
    (told_token (the Equal) tt p2 p3 c.in_ok-want.ensures.used c.in_ok-want.ensures.tree
    (told_own p3 p4 A.1 c.in_ok-to.ensures.limits
    (told_done (λ x. let_type x B.0 A.0) _ (laid_let_type c.args.name (nodes p) (nodes p2) (nodes p4) B.0 A.0 _ _ b a)))))

pub returns-in_err-want-2-clause-parsed : goal.returns-in_err-want-2-clause-parsed
returns-in_err-want-2-clause-parsed c =
    let p = c.args.self.now in let p1 = c.take.new.self in let p2 = c.want-else-branch.new.self in
    let o = take_leaves Below (items p) (items p1) _ c.if-branch.false c.in_ok-take.ensures.used in
    let n = refuses_first (the Equal) (items p1) (Ok o.0) o.1 _ (o.4 ∙ o.2) c.in_err-want-2.ensures.used in
    λ q. no_row_told let_type_rest 0 q p p2 (λ v. LaidPhrase (nodes p) (nodes p2) (v c.args.name)) _ (Ok o.0) o.1
    (same_error _ c.in_err-want-2.field-0.0 c.from_residual-in_err-want-2.ensures.1) o.2
    (chosen_other o.0 o.1 (o.3, (none_taken (the Equal) o.0 n.0, tt))) n.1

pub returns-in_err-to-2-clause-parsed : goal.returns-in_err-to-2-clause-parsed
returns-in_err-to-2-clause-parsed c =
    let p = c.args.self.now in let p1 = c.take.new.self in let p2 = c.want-else-branch.new.self in let p3 = c.closed_type-else-branch.new.self in
    let o = take_leaves Below (items p) (items p1) _ c.if-branch.false c.in_ok-take.ensures.used in
    let w = c.in_ok-want-2.ensures.used in
    λ q. told_taken let_type_rest 0 q p p2 p3 (λ v. LaidPhrase (nodes p) (nodes p3) (v c.args.name)) _ Equal (w.0, sym o.4 ∙ w.1, w.2)
    (c.in_ok-want-2.ensures.tree ∙ c.in_ok-take.ensures.tree) (λ b. refl)
    (told_own_stops (same_error _ c.in_err-to-2.field-0.0 c.from_residual-in_err-to-2.ensures.1) c.in_err-to-2.ensures.parsed)

pub returns-in_ok-to-2-clause-parsed : goal.returns-in_ok-to-2-clause-parsed
returns-in_ok-to-2-clause-parsed c =
    let p = c.args.self.now in let p1 = c.take.new.self in let p2 = c.want-else-branch.new.self in let p3 = c.closed_type-else-branch.new.self in
    let o = take_leaves Below (items p) (items p1) _ c.if-branch.false c.in_ok-take.ensures.used in
    let w = c.in_ok-want-2.ensures.used in
    let tree = c.in_ok-want-2.ensures.tree ∙ c.in_ok-take.ensures.tree in
    let A = c.in_ok-to-2.ensures.parsed in
    let a = laid_at [] [] (nodes p2) (nodes p) (nodes p3) A.0 _ refl (ap held tree) A.2 in
    λ q. told_taken let_type_rest 0 q p p2 p3 (λ v. LaidPhrase (nodes p) (nodes p3) (v c.args.name)) (Ok (LetTypeUnbounded c.args.name c.in_ok-to-2.to)) Equal
    (w.0, sym o.4 ∙ w.1, w.2) tree (λ b. refl)
    (told_own p2 p3 A.1 c.in_ok-to-2.ensures.limits
    (told_done (λ x. let_type_unbounded x A.0) _ (laid_let_type_unbounded c.args.name (nodes p) (nodes p3) A.0 _ a)))
