-- Types are read by the rows of the grammar: an answer follows the row, symbol by symbol, as far as the code went.
use Rattle.std.proofs.Common.{◌≡◌, suc, length, [], ◌∷◌, ◌++◌, Ok, Err, refl, ap, sym, ◌∙◌, subst, arith}
use Rattle.lexer.specs.Coming.{to_come}
use Rattle.lexer.specs.Items.{ends}
use Rattle.lexer.specs.declared.token.Word.TheVariants.{All, Rec, Top, Below, Arrow, Open, Close, OpenBrace, CloseBrace, Name as Named}
use Rattle.grammar.specs.Derives.{next_byte, choose}
use Rattle.grammar.specs.Notation.{type, type_base, all_rest, arrow_rest, the, a_name}
use Rattle.grammar.proofs.Words.{is_the, is_name_at, chosen_other, not_the, not_name_at}
use Rattle.grammar.specs.declared.fault.SyntaxFault.TheVariants.{Unexpected}
use Rattle.syntax.specs.Named.{top, name as named, arrow, all, all_unbounded, rec}
use Rattle.syntax.specs.declared.node.Node.TheVariants.{Top as TopNode, All as AllNode, AllUnbounded as AllUnboundedNode}
use Rattle.tables.specs.Tables.{held}
use Rattle.parser.specs.Binders.{names}
use Rattle.parser.specs.Parsing.{items, nodes, LaidType, LaidArrow, GivenType}
use Rattle.parser.specs.declared.parser.Parser.{Parser}
use Rattle.parser.proofs.Nodes.{laid_at, given_laid, given_arrow, given_all, given_all_unbounded, given_rec}
use Rattle.parser.proofs.Numbers.{names_inside}
use Rattle.parser.proofs.Told.{told_row, told_same, told_token, told_refused, told_begin, told_too_deep, told_last, told_part_stops, told_part, told_rest, told_done, no_row_told, same_error}
use Rattle.parser.proofs.Taking.{looks_fails, take_uses, take_leaves, refuses_first, none_taken, told_first, told_taken, told_inner, told_inner_stops, first_byte, uses_looked, uses_shorter}
use Rattle.parser.proofs.parser.Parser.+types.Goals as goal

pub all_rest-returns-in_err-take-clause-parsed : goal.all_rest-returns-in_err-take-clause-parsed
all_rest-returns-in_err-take-clause-parsed t c =
    let p = c.args.self.now in let ts = names c.args.types.now in
    λ q. looks_fails all_rest c.args.depth q p c.take.new.self (λ v. GivenType ts (nodes p) (nodes c.take.new.self) (v c.args.name)) c.from_residual.result (same_error _ c.in_err-take.field-0.0 c.from_residual.ensures.1) c.in_err-take.ensures.used

pub all_rest-returns-in_err-bound-clause-parsed : goal.all_rest-returns-in_err-bound-clause-parsed
all_rest-returns-in_err-bound-clause-parsed t c =
    let p = c.args.self.now in let ts = names c.args.types.now in let p1 = c.take.new.self in let p2 = c.read_type.new.self in
    let u = take_uses Below (items p) (items c.take.new.self) _ c.if-branch.true c.in_ok-take.ensures.used in
    λ q. told_taken all_rest c.args.depth q p p1 p2 (λ v. GivenType ts (nodes p) (nodes p2) (v c.args.name)) _ Below u c.in_ok-take.ensures.tree (λ b. refl)
    (told_inner_stops (same_error _ c.in_err-bound.field-0.0 c.from_residual-in_err-bound.ensures.1) c.in_err-bound.ensures.parsed)

pub all_rest-returns-in_err-want-clause-parsed : goal.all_rest-returns-in_err-want-clause-parsed
all_rest-returns-in_err-want-clause-parsed t c =
    let p = c.args.self.now in let ts = names c.args.types.now in let p1 = c.take.new.self in let p2 = c.read_type.new.self in
    let u = take_uses Below (items p) (items c.take.new.self) _ c.if-branch.true c.in_ok-take.ensures.used in
    λ q. told_taken all_rest c.args.depth q p p1 c.want.new.self (λ v. GivenType ts (nodes p) (nodes c.want.new.self) (v c.args.name)) _ Below u c.in_ok-take.ensures.tree (λ b. refl)
    (told_inner p1 p2 c.in_ok-bound.ensures.parsed.1 c.in_ok-bound.ensures.limits
    (told_refused (same_error _ c.in_err-want.field-0.0 c.from_residual-in_err-want.ensures.1) c.in_err-want.ensures.used))

pub all_rest-returns-in_err-body-clause-parsed : goal.all_rest-returns-in_err-body-clause-parsed
all_rest-returns-in_err-body-clause-parsed t c =
    let p = c.args.self.now in let ts = names c.args.types.now in let p1 = c.take.new.self in let p2 = c.read_type.new.self in
    let u = take_uses Below (items p) (items c.take.new.self) _ c.if-branch.true c.in_ok-take.ensures.used in
    λ q. told_taken all_rest c.args.depth q p p1 c.read_type-then-branch.new.self (λ v. GivenType ts (nodes p) (nodes c.read_type-then-branch.new.self) (v c.args.name)) _ Below u c.in_ok-take.ensures.tree (λ b. refl)
    (told_inner p1 p2 c.in_ok-bound.ensures.parsed.1 c.in_ok-bound.ensures.limits
    (told_token (the Close) tt p2 c.want.new.self c.in_ok-want.ensures.used c.in_ok-want.ensures.tree
    (told_inner_stops (same_error _ c.in_err-body.field-0.0 c.from_residual-in_err-body.ensures.1) c.in_err-body.ensures.parsed)))

pub all_rest-returns-in_ok-body-clause-parsed : goal.all_rest-returns-in_ok-body-clause-parsed
all_rest-returns-in_ok-body-clause-parsed t c =
    let p = c.args.self.now in let ts = names c.args.types.now in let p1 = c.take.new.self in let p2 = c.read_type.new.self in
    let u = take_uses Below (items p) (items c.take.new.self) _ c.if-branch.true c.in_ok-take.ensures.used in
    let p3 = c.want.new.self in let p4 = c.read_type-then-branch.new.self in
    let A = c.in_ok-bound.ensures.parsed in let B = c.in_ok-body.ensures.parsed in
    let a = laid_at ts ts (nodes p1) (nodes p) (nodes p2) A.0 _ refl (ap held c.in_ok-take.ensures.tree) A.2 in
    let b = laid_at _ (c.args.name ∷ ts) (nodes p3) (nodes p2) (nodes p4) B.0 _ (names_inside c.args.name _) (ap held c.in_ok-want.ensures.tree) B.2 in
    λ q. told_taken all_rest c.args.depth q p p1 p4 (λ v. GivenType ts (nodes p) (nodes p4) (v c.args.name)) (Ok (AllNode c.in_ok-bound.bound c.in_ok-body.body)) Below u c.in_ok-take.ensures.tree (λ b. refl)
    (told_inner p1 p2 c.in_ok-bound.ensures.parsed.1 c.in_ok-bound.ensures.limits
    (told_token (the Close) tt p2 c.want.new.self c.in_ok-want.ensures.used c.in_ok-want.ensures.tree
    (told_inner p3 p4 B.1 c.in_ok-body.ensures.limits
    (told_done (λ x. all x A.0 B.0) _ (given_all ts c.args.name (nodes p) (nodes p2) (nodes p4) A.0 B.0 _ _ a b)))))

pub all_rest-returns-in_err-want-2-clause-parsed : goal.all_rest-returns-in_err-want-2-clause-parsed
all_rest-returns-in_err-want-2-clause-parsed t c =
    let p = c.args.self.now in let ts = names c.args.types.now in let p1 = c.take.new.self in let p2 = c.want-else-branch.new.self in
    let o = take_leaves Below (items p) (items p1) _ c.if-branch.false c.in_ok-take.ensures.used in
    let n = refuses_first (the Close) (items p1) (Ok o.0) o.1 _ (o.4 ∙ o.2) c.in_err-want-2.ensures.used in
    λ q. no_row_told all_rest c.args.depth q p p2 (λ v. GivenType ts (nodes p) (nodes p2) (v c.args.name)) c.from_residual-in_err-want-2.result (Ok o.0) o.1 (same_error _ c.in_err-want-2.field-0.0 c.from_residual-in_err-want-2.ensures.1) o.2
    (chosen_other o.0 o.1 (o.3, (none_taken (the Close) o.0 n.0, tt))) n.1

pub all_rest-returns-in_err-body-2-clause-parsed : goal.all_rest-returns-in_err-body-2-clause-parsed
all_rest-returns-in_err-body-2-clause-parsed t c =
    let p = c.args.self.now in let ts = names c.args.types.now in let p1 = c.take.new.self in let p2 = c.want-else-branch.new.self in
    let o = take_leaves Below (items p) (items p1) _ c.if-branch.false c.in_ok-take.ensures.used in
    let w = c.in_ok-want-2.ensures.used in let tree = c.in_ok-want-2.ensures.tree ∙ c.in_ok-take.ensures.tree in
    λ q. told_taken all_rest c.args.depth q p p2 c.read_type-else-branch.new.self (λ v. GivenType ts (nodes p) (nodes c.read_type-else-branch.new.self) (v c.args.name)) _ Close (w.0, sym o.4 ∙ w.1, w.2) tree (λ b. refl)
    (told_inner_stops (same_error _ c.in_err-body-2.field-0.0 c.from_residual-in_err-body-2.ensures.1) c.in_err-body-2.ensures.parsed)

pub all_rest-returns-in_ok-body-2-clause-parsed : goal.all_rest-returns-in_ok-body-2-clause-parsed
all_rest-returns-in_ok-body-2-clause-parsed t c =
    let p = c.args.self.now in let ts = names c.args.types.now in let p1 = c.take.new.self in let p2 = c.want-else-branch.new.self in
    let o = take_leaves Below (items p) (items p1) _ c.if-branch.false c.in_ok-take.ensures.used in
    let w = c.in_ok-want-2.ensures.used in let tree = c.in_ok-want-2.ensures.tree ∙ c.in_ok-take.ensures.tree in
    let p3 = c.read_type-else-branch.new.self in let B = c.in_ok-body-2.ensures.parsed in
    let b = laid_at _ (c.args.name ∷ ts) (nodes p2) (nodes p) (nodes p3) B.0 _ (names_inside c.args.name _) (ap held tree) B.2 in
    λ q. told_taken all_rest c.args.depth q p p2 p3 (λ v. GivenType ts (nodes p) (nodes p3) (v c.args.name)) (Ok (AllUnboundedNode c.count-first.result c.in_ok-body-2.body)) Close (w.0, sym o.4 ∙ w.1, w.2) tree (λ b. refl)
    (told_inner p2 p3 B.1 c.in_ok-body-2.ensures.limits
    (told_done (λ x. all_unbounded x B.0) _ (given_all_unbounded ts c.args.name (nodes p) (nodes p3) B.0 _ _ (c.count-first.ensures.held ∙ ap (λ x. length (held x)) tree) b)))

pub arrow_rest-returns-in_err-take-clause-parsed : goal.arrow_rest-returns-in_err-take-clause-parsed
arrow_rest-returns-in_err-take-clause-parsed t c =
    let p = c.args.self.now in let ts = names c.args.types.now in
    looks_fails arrow_rest c.args.depth c.args.first p c.take.new.self (LaidArrow ts c.args.left (nodes p) (nodes c.take.new.self)) c.from_residual.result (same_error _ c.in_err-take.field-0.0 c.from_residual.ensures.1) c.in_err-take.ensures.used

pub arrow_rest-returns-then-not-branch-clause-parsed : goal.arrow_rest-returns-then-not-branch-clause-parsed
arrow_rest-returns-then-not-branch-clause-parsed t c =
    let p = c.args.self.now in let ts = names c.args.types.now in let p1 = c.take.new.self in
    let o = take_leaves Arrow (items p) (items p1) _ c.if-not-branch.true c.in_ok-take.ensures.used in
    told_row arrow_rest c.args.depth c.args.first p p1 (LaidArrow ts c.args.left (nodes p) (nodes p1)) (Ok c.args.left) (ap (choose arrow_rest) o.2 ∙ chosen_other o.0 o.1 (o.3, tt))
    (told_same p p1 o.4 c.in_ok-take.ensures.tree
    (told_done (λ A. A) c.args.left (λ front A a. subst (λ y. LaidType ts front y A c.args.left) (ap held (sym c.in_ok-take.ensures.tree)) a)))

pub arrow_rest-returns-in_err-right-clause-parsed : goal.arrow_rest-returns-in_err-right-clause-parsed
arrow_rest-returns-in_err-right-clause-parsed t c =
    let p = c.args.self.now in let ts = names c.args.types.now in let p1 = c.take.new.self in let p2 = c.read_type.new.self in
    let u = take_uses Arrow (items p) (items p1) _ c.if-not-branch.false c.in_ok-take.ensures.used in
    told_taken arrow_rest c.args.depth c.args.first p p1 p2 (LaidArrow ts c.args.left (nodes p) (nodes p2)) _ Arrow u c.in_ok-take.ensures.tree (λ b. refl)
    (told_inner_stops (same_error _ c.in_err-right.field-0.0 c.from_residual-in_err-right.ensures.1) c.in_err-right.ensures.parsed)

pub arrow_rest-returns-clause-parsed : goal.arrow_rest-returns-clause-parsed
arrow_rest-returns-clause-parsed t c =
    let p = c.args.self.now in let ts = names c.args.types.now in let p1 = c.take.new.self in let p2 = c.read_type.new.self in
    let u = take_uses Arrow (items p) (items p1) _ c.if-not-branch.false c.in_ok-take.ensures.used in
    let p3 = c.whole.new.self in let B = c.in_ok-right.ensures.parsed in
    let b = laid_at ts ts (nodes p1) (nodes p) (nodes p2) B.0 _ refl (ap held c.in_ok-take.ensures.tree) B.2 in
    told_taken arrow_rest c.args.depth c.args.first p p1 p3 (LaidArrow ts c.args.left (nodes p) (nodes p3)) _ Arrow u c.in_ok-take.ensures.tree (λ b. refl)
    (told_inner p1 p2 B.1 c.in_ok-right.ensures.limits
    (told_last p2 p3 c.whole.result c.args.first _ refl c.whole.ensures.laid c.whole.ensures.tokens c.whole.ensures.limits
    (λ n e h front A a. given_laid ts front (nodes p2) (nodes p3) (arrow A B.0) _ n (given_arrow ts front (nodes p) (nodes p2) A B.0 _ _ a b) h e)))

pub read_type-returns-in_err-first-clause-parsed : goal.read_type-returns-in_err-first-clause-parsed
read_type-returns-in_err-first-clause-parsed t c =
    let p = c.args.self.now in let ts = names c.args.types.now in
    looks_fails type c.args.depth _ p p (LaidType ts (nodes p) (nodes p)) c.from_residual.result (same_error _ c.in_err-first.field-0.0 c.from_residual.ensures.1) c.in_err-first.ensures

pub read_type-returns-in_err-left-clause-parsed : goal.read_type-returns-in_err-left-clause-parsed
read_type-returns-in_err-left-clause-parsed t c =
    let p = c.args.self.now in let ts = names c.args.types.now in
    told_row type c.args.depth (next_byte 0 (items p)) p c.type_base.new.self (LaidType ts (nodes p) (nodes c.type_base.new.self)) _ (ap (choose type) c.in_ok-first.ensures.1)
    (told_part_stops (same_error _ c.in_err-left.field-0.0 c.from_residual-in_err-left.ensures.1) c.in_err-left.ensures.parsed)

pub read_type-returns-clause-parsed : goal.read_type-returns-clause-parsed
read_type-returns-clause-parsed t c =
    let p = c.args.self.now in let ts = names c.args.types.now in let p1 = c.type_base.new.self in let p2 = c.arrow_rest.new.self in
    let A = c.in_ok-left.ensures.parsed in
    told_row type c.args.depth (next_byte 0 (items p)) p p2 (LaidType ts (nodes p) (nodes p2)) c.arrow_rest.result (ap (choose type) c.in_ok-first.ensures.1)
    (told_part p p1 A.1 c.in_ok-left.ensures.limits
    (told_rest p1 p2 (LaidArrow ts c.in_ok-left.left (nodes p1) (nodes p2)) c.arrow_rest.result c.in_ok-first.field-0.byte (sym (first_byte (items p) c.in_ok-first.field-0 c.in_ok-first.ensures))
    c.arrow_rest.ensures.parsed (λ v n h. h (nodes p) A.0 A.2)))

pub type_base-returns-in_err-token-clause-parsed : goal.type_base-returns-in_err-token-clause-parsed
type_base-returns-in_err-token-clause-parsed t c =
    let p = c.args.self.now in let ts = names c.args.types.now in
    looks_fails type_base c.args.depth _ p p (LaidType ts (nodes p) (nodes p)) c.from_residual.result (same_error _ c.in_err-token.field-0.0 c.from_residual.ensures.1) c.in_err-token.ensures

pub type_base-returns-in_err-begin-in-Top-clause-parsed : goal.type_base-returns-in_err-begin-in-Top-clause-parsed
type_base-returns-in_err-begin-in-Top-clause-parsed t c =
    let p = c.args.self.now in let ts = names c.args.types.now in let s = c.in_ok-token.token in let h = c.in_ok-token.ensures in
    let p1 : Parser = record { tokens = c.advance.new.self; tree = p.tree } in let i = sym (first_byte (items p) s h) in
    told_first type_base tt c.args.depth (next_byte 0 (items p)) p p1 (LaidType ts (nodes p) (nodes p1)) _ Top s c.advance.new.self h c.in-Top.is refl c.advance.ensures (λ b. refl) (is_the s c.in-Top.is)
    (told_too_deep s.byte i (same_error _ c.in_err-begin-in-Top.field-0.0 c.from_residual-in_err-begin-in-Top.ensures.1) c.in_err-begin-in-Top.ensures)

pub type_base-returns-in_err-begin-in-Name-clause-parsed : goal.type_base-returns-in_err-begin-in-Name-clause-parsed
type_base-returns-in_err-begin-in-Name-clause-parsed t c =
    let p = c.args.self.now in let ts = names c.args.types.now in let s = c.in_ok-token.token in let h = c.in_ok-token.ensures in
    let p1 : Parser = record { tokens = c.advance-in-Name.new.self; tree = p.tree } in let i = sym (first_byte (items p) s h) in
    told_first type_base (c.in_ok-token.token.byte, c.in-Name.name) c.args.depth (next_byte 0 (items p)) p p1 (LaidType ts (nodes p) (nodes p1)) _ (Named c.in-Name.name) s c.advance-in-Name.new.self h c.in-Name.is refl c.advance-in-Name.ensures (λ b. refl) (is_name_at s c.in-Name.is)
    (told_too_deep s.byte i (same_error _ c.in_err-begin-in-Name.field-0.0 c.from_residual-in_err-begin-in-Name.ensures.1) c.in_err-begin-in-Name.ensures)

pub type_base-returns-in_err-begin-in-All-clause-parsed : goal.type_base-returns-in_err-begin-in-All-clause-parsed
type_base-returns-in_err-begin-in-All-clause-parsed t c =
    let p = c.args.self.now in let ts = names c.args.types.now in let s = c.in_ok-token.token in let h = c.in_ok-token.ensures in
    let p1 : Parser = record { tokens = c.advance-in-All.new.self; tree = p.tree } in let i = sym (first_byte (items p) s h) in
    told_first type_base tt c.args.depth (next_byte 0 (items p)) p p1 (LaidType ts (nodes p) (nodes p1)) _ All s c.advance-in-All.new.self h c.in-All.is refl c.advance-in-All.ensures (λ b. refl) (is_the s c.in-All.is)
    (told_too_deep s.byte i (same_error _ c.in_err-begin-in-All.field-0.0 c.from_residual-in_err-begin-in-All.ensures.1) c.in_err-begin-in-All.ensures)

pub type_base-returns-in_err-begin-in-Rec-clause-parsed : goal.type_base-returns-in_err-begin-in-Rec-clause-parsed
type_base-returns-in_err-begin-in-Rec-clause-parsed t c =
    let p = c.args.self.now in let ts = names c.args.types.now in let s = c.in_ok-token.token in let h = c.in_ok-token.ensures in
    let p1 : Parser = record { tokens = c.advance-in-Rec.new.self; tree = p.tree } in let i = sym (first_byte (items p) s h) in
    told_first type_base tt c.args.depth (next_byte 0 (items p)) p p1 (LaidType ts (nodes p) (nodes p1)) _ Rec s c.advance-in-Rec.new.self h c.in-Rec.is refl c.advance-in-Rec.ensures (λ b. refl) (is_the s c.in-Rec.is)
    (told_too_deep s.byte i (same_error _ c.in_err-begin-in-Rec.field-0.0 c.from_residual-in_err-begin-in-Rec.ensures.1) c.in_err-begin-in-Rec.ensures)

pub type_base-returns-in_err-begin-in-OpenBrace-clause-parsed : goal.type_base-returns-in_err-begin-in-OpenBrace-clause-parsed
type_base-returns-in_err-begin-in-OpenBrace-clause-parsed t c =
    let p = c.args.self.now in let ts = names c.args.types.now in let s = c.in_ok-token.token in let h = c.in_ok-token.ensures in
    let p1 : Parser = record { tokens = c.advance-in-OpenBrace.new.self; tree = p.tree } in let i = sym (first_byte (items p) s h) in
    told_first type_base tt c.args.depth (next_byte 0 (items p)) p p1 (LaidType ts (nodes p) (nodes p1)) _ OpenBrace s c.advance-in-OpenBrace.new.self h c.in-OpenBrace.is refl c.advance-in-OpenBrace.ensures (λ b. refl) (is_the s c.in-OpenBrace.is)
    (told_too_deep s.byte i (same_error _ c.in_err-begin-in-OpenBrace.field-0.0 c.from_residual-in_err-begin-in-OpenBrace.ensures.1) c.in_err-begin-in-OpenBrace.ensures)

pub type_base-returns-in_ok-begin-in-Top-clause-parsed : goal.type_base-returns-in_ok-begin-in-Top-clause-parsed
type_base-returns-in_ok-begin-in-Top-clause-parsed t c =
    let p = c.args.self.now in let ts = names c.args.types.now in let s = c.in_ok-token.token in let h = c.in_ok-token.ensures in
    let p1 : Parser = record { tokens = c.advance.new.self; tree = p.tree } in let i = sym (first_byte (items p) s h) in
    let p2 = c.whole.new.self in
    told_first type_base tt c.args.depth (next_byte 0 (items p)) p p2 (LaidType ts (nodes p) (nodes p2)) _ Top s c.advance.new.self h c.in-Top.is refl c.advance.ensures (λ b. refl) (is_the s c.in-Top.is)
    (told_begin c.in_ok-begin-in-Top.ensures
    (told_last p1 p2 c.whole.result s.byte TopNode i c.whole.ensures.laid c.whole.ensures.tokens c.whole.ensures.limits
    (λ n e l. given_laid ts (nodes p) (nodes p) (nodes p2) top TopNode n refl l e)))

pub type_base-returns-in_ok-begin-in-Name-clause-parsed : goal.type_base-returns-in_ok-begin-in-Name-clause-parsed
type_base-returns-in_ok-begin-in-Name-clause-parsed t c =
    let p = c.args.self.now in let ts = names c.args.types.now in let s = c.in_ok-token.token in let h = c.in_ok-token.ensures in
    let p1 : Parser = record { tokens = c.advance-in-Name.new.self; tree = p.tree } in let i = sym (first_byte (items p) s h) in
    let p2 = c.whole-in-Name.new.self in
    told_first type_base (c.in_ok-token.token.byte, c.in-Name.name) c.args.depth (next_byte 0 (items p)) p p2 (LaidType ts (nodes p) (nodes p2)) _ (Named c.in-Name.name) s c.advance-in-Name.new.self h c.in-Name.is refl c.advance-in-Name.ensures (λ b. refl) (is_name_at s c.in-Name.is)
    (told_begin c.in_ok-begin-in-Name.ensures
    (told_last p1 p2 c.whole-in-Name.result s.byte c.type_name.result i c.whole-in-Name.ensures.laid c.whole-in-Name.ensures.tokens c.whole-in-Name.ensures.limits
    (λ n e l. given_laid ts (nodes p) (nodes p) (nodes p2) (named s.byte c.in-Name.name) c.type_name.result n (ap (λ y. nodes p ++ y ∷ []) c.type_name.ensures) l e)))

pub type_base-returns-in_err-want-in-All-clause-parsed : goal.type_base-returns-in_err-want-in-All-clause-parsed
type_base-returns-in_err-want-in-All-clause-parsed t c =
    let p = c.args.self.now in let ts = names c.args.types.now in let s = c.in_ok-token.token in let h = c.in_ok-token.ensures in
    let p1 : Parser = record { tokens = c.advance-in-All.new.self; tree = p.tree } in let i = sym (first_byte (items p) s h) in
    told_first type_base tt c.args.depth (next_byte 0 (items p)) p c.want.new.self (LaidType ts (nodes p) (nodes c.want.new.self)) _ All s c.advance-in-All.new.self h c.in-All.is refl c.advance-in-All.ensures (λ b. refl) (is_the s c.in-All.is)
    (told_begin c.in_ok-begin-in-All.ensures
    (told_refused (same_error _ c.in_err-want-in-All.field-0.0 c.from_residual-in_err-want-in-All.ensures.1) c.in_err-want-in-All.ensures.used))

pub type_base-returns-in_err-name-in-All-clause-parsed : goal.type_base-returns-in_err-name-in-All-clause-parsed
type_base-returns-in_err-name-in-All-clause-parsed t c =
    let p = c.args.self.now in let ts = names c.args.types.now in let s = c.in_ok-token.token in let h = c.in_ok-token.ensures in
    let p1 : Parser = record { tokens = c.advance-in-All.new.self; tree = p.tree } in let i = sym (first_byte (items p) s h) in
    told_first type_base tt c.args.depth (next_byte 0 (items p)) p c.name.new.self (LaidType ts (nodes p) (nodes c.name.new.self)) _ All s c.advance-in-All.new.self h c.in-All.is refl c.advance-in-All.ensures (λ b. refl) (is_the s c.in-All.is)
    (told_begin c.in_ok-begin-in-All.ensures
    (told_token (the Open) tt p1 c.want.new.self c.in_ok-want-in-All.ensures.used c.in_ok-want-in-All.ensures.tree
    (told_refused (same_error _ c.in_err-name-in-All.field-0.0 c.from_residual-in_err-name-in-All.ensures.1) c.in_err-name-in-All.ensures.used)))

pub type_base-returns-in_err-node-in-All-clause-parsed : goal.type_base-returns-in_err-node-in-All-clause-parsed
type_base-returns-in_err-node-in-All-clause-parsed t c =
    let p = c.args.self.now in let ts = names c.args.types.now in let s = c.in_ok-token.token in let h = c.in_ok-token.ensures in
    let p1 : Parser = record { tokens = c.advance-in-All.new.self; tree = p.tree } in let i = sym (first_byte (items p) s h) in
    told_first type_base tt c.args.depth (next_byte 0 (items p)) p c.all_rest.new.self (LaidType ts (nodes p) (nodes c.all_rest.new.self)) _ All s c.advance-in-All.new.self h c.in-All.is refl c.advance-in-All.ensures (λ b. refl) (is_the s c.in-All.is)
    (told_begin c.in_ok-begin-in-All.ensures
    (told_token (the Open) tt p1 c.want.new.self c.in_ok-want-in-All.ensures.used c.in_ok-want-in-All.ensures.tree
    (told_token a_name c.in_ok-name-in-All.name c.want.new.self c.name.new.self c.in_ok-name-in-All.ensures.used c.in_ok-name-in-All.ensures.tree
    (told_part_stops (same_error _ c.in_err-node-in-All.field-0.0 c.from_residual-in_err-node-in-All.ensures.1) (c.in_err-node-in-All.ensures.parsed _)))))

pub type_base-returns-in_ok-node-in-All-clause-parsed : goal.type_base-returns-in_ok-node-in-All-clause-parsed
type_base-returns-in_ok-node-in-All-clause-parsed t c =
    let p = c.args.self.now in let ts = names c.args.types.now in let s = c.in_ok-token.token in let h = c.in_ok-token.ensures in
    let p1 : Parser = record { tokens = c.advance-in-All.new.self; tree = p.tree } in let i = sym (first_byte (items p) s h) in
    let p4 = c.all_rest.new.self in let p5 = c.whole-in-All.new.self in let x = c.in_ok-name-in-All.name in
    let B = c.in_ok-node-in-All.ensures.parsed (next_byte 0 (items p)) in
    let same : nodes c.name.new.self ≡ nodes p = ap held (c.in_ok-name-in-All.ensures.tree ∙ c.in_ok-want-in-All.ensures.tree) in
    let g = subst (λ y. GivenType ts y (nodes p4) (B.0 x) c.in_ok-node-in-All.node) same B.2 in
    told_first type_base tt c.args.depth (next_byte 0 (items p)) p p5 (LaidType ts (nodes p) (nodes p5)) _ All s c.advance-in-All.new.self h c.in-All.is refl c.advance-in-All.ensures (λ b. refl) (is_the s c.in-All.is)
    (told_begin c.in_ok-begin-in-All.ensures
    (told_token (the Open) tt p1 c.want.new.self c.in_ok-want-in-All.ensures.used c.in_ok-want-in-All.ensures.tree
    (told_token a_name c.in_ok-name-in-All.name c.want.new.self c.name.new.self c.in_ok-name-in-All.ensures.used c.in_ok-name-in-All.ensures.tree
    (told_part c.name.new.self p4 B.1 c.in_ok-node-in-All.ensures.limits
    (told_last p4 p5 c.whole-in-All.result s.byte _ i c.whole-in-All.ensures.laid c.whole-in-All.ensures.tokens c.whole-in-All.ensures.limits
    (λ n e l. given_laid ts (nodes p) (nodes p4) (nodes p5) (B.0 x) _ n g l e))))))

pub type_base-returns-in_err-want-in-Rec-clause-parsed : goal.type_base-returns-in_err-want-in-Rec-clause-parsed
type_base-returns-in_err-want-in-Rec-clause-parsed t c =
    let p = c.args.self.now in let ts = names c.args.types.now in let s = c.in_ok-token.token in let h = c.in_ok-token.ensures in
    let p1 : Parser = record { tokens = c.advance-in-Rec.new.self; tree = p.tree } in let i = sym (first_byte (items p) s h) in
    told_first type_base tt c.args.depth (next_byte 0 (items p)) p c.want-in-Rec.new.self (LaidType ts (nodes p) (nodes c.want-in-Rec.new.self)) _ Rec s c.advance-in-Rec.new.self h c.in-Rec.is refl c.advance-in-Rec.ensures (λ b. refl) (is_the s c.in-Rec.is)
    (told_begin c.in_ok-begin-in-Rec.ensures
    (told_refused (same_error _ c.in_err-want-in-Rec.field-0.0 c.from_residual-in_err-want-in-Rec.ensures.1) c.in_err-want-in-Rec.ensures.used))

pub type_base-returns-in_err-name-in-Rec-clause-parsed : goal.type_base-returns-in_err-name-in-Rec-clause-parsed
type_base-returns-in_err-name-in-Rec-clause-parsed t c =
    let p = c.args.self.now in let ts = names c.args.types.now in let s = c.in_ok-token.token in let h = c.in_ok-token.ensures in
    let p1 : Parser = record { tokens = c.advance-in-Rec.new.self; tree = p.tree } in let i = sym (first_byte (items p) s h) in
    told_first type_base tt c.args.depth (next_byte 0 (items p)) p c.name-in-Rec.new.self (LaidType ts (nodes p) (nodes c.name-in-Rec.new.self)) _ Rec s c.advance-in-Rec.new.self h c.in-Rec.is refl c.advance-in-Rec.ensures (λ b. refl) (is_the s c.in-Rec.is)
    (told_begin c.in_ok-begin-in-Rec.ensures
    (told_token (the Open) tt p1 c.want-in-Rec.new.self c.in_ok-want-in-Rec.ensures.used c.in_ok-want-in-Rec.ensures.tree
    (told_refused (same_error _ c.in_err-name-in-Rec.field-0.0 c.from_residual-in_err-name-in-Rec.ensures.1) c.in_err-name-in-Rec.ensures.used)))

pub type_base-returns-in_err-want-in-Rec-2-clause-parsed : goal.type_base-returns-in_err-want-in-Rec-2-clause-parsed
type_base-returns-in_err-want-in-Rec-2-clause-parsed t c =
    let p = c.args.self.now in let ts = names c.args.types.now in let s = c.in_ok-token.token in let h = c.in_ok-token.ensures in
    let p1 : Parser = record { tokens = c.advance-in-Rec.new.self; tree = p.tree } in let i = sym (first_byte (items p) s h) in
    told_first type_base tt c.args.depth (next_byte 0 (items p)) p c.want-in-Rec-2.new.self (LaidType ts (nodes p) (nodes c.want-in-Rec-2.new.self)) _ Rec s c.advance-in-Rec.new.self h c.in-Rec.is refl c.advance-in-Rec.ensures (λ b. refl) (is_the s c.in-Rec.is)
    (told_begin c.in_ok-begin-in-Rec.ensures
    (told_token (the Open) tt p1 c.want-in-Rec.new.self c.in_ok-want-in-Rec.ensures.used c.in_ok-want-in-Rec.ensures.tree
    (told_token a_name c.in_ok-name-in-Rec.name c.want-in-Rec.new.self c.name-in-Rec.new.self c.in_ok-name-in-Rec.ensures.used c.in_ok-name-in-Rec.ensures.tree
    (told_refused (same_error _ c.in_err-want-in-Rec-2.field-0.0 c.from_residual-in_err-want-in-Rec-2.ensures.1) c.in_err-want-in-Rec-2.ensures.used))))

pub type_base-returns-in_err-body-in-Rec-clause-parsed : goal.type_base-returns-in_err-body-in-Rec-clause-parsed
type_base-returns-in_err-body-in-Rec-clause-parsed t c =
    let p = c.args.self.now in let ts = names c.args.types.now in let s = c.in_ok-token.token in let h = c.in_ok-token.ensures in
    let p1 : Parser = record { tokens = c.advance-in-Rec.new.self; tree = p.tree } in let i = sym (first_byte (items p) s h) in
    told_first type_base tt c.args.depth (next_byte 0 (items p)) p c.read_type.new.self (LaidType ts (nodes p) (nodes c.read_type.new.self)) _ Rec s c.advance-in-Rec.new.self h c.in-Rec.is refl c.advance-in-Rec.ensures (λ b. refl) (is_the s c.in-Rec.is)
    (told_begin c.in_ok-begin-in-Rec.ensures
    (told_token (the Open) tt p1 c.want-in-Rec.new.self c.in_ok-want-in-Rec.ensures.used c.in_ok-want-in-Rec.ensures.tree
    (told_token a_name c.in_ok-name-in-Rec.name c.want-in-Rec.new.self c.name-in-Rec.new.self c.in_ok-name-in-Rec.ensures.used c.in_ok-name-in-Rec.ensures.tree
    (told_token (the Close) tt c.name-in-Rec.new.self c.want-in-Rec-2.new.self c.in_ok-want-in-Rec-2.ensures.used c.in_ok-want-in-Rec-2.ensures.tree
    (told_inner_stops (same_error _ c.in_err-body-in-Rec.field-0.0 c.from_residual-in_err-body-in-Rec.ensures.1) c.in_err-body-in-Rec.ensures.parsed)))))

pub type_base-returns-in_ok-body-in-Rec-clause-parsed : goal.type_base-returns-in_ok-body-in-Rec-clause-parsed
type_base-returns-in_ok-body-in-Rec-clause-parsed t c =
    let p = c.args.self.now in let ts = names c.args.types.now in let s = c.in_ok-token.token in let h = c.in_ok-token.ensures in
    let p1 : Parser = record { tokens = c.advance-in-Rec.new.self; tree = p.tree } in let i = sym (first_byte (items p) s h) in
    let p5 = c.read_type.new.self in let p6 = c.whole-in-Rec.new.self in let x = c.in_ok-name-in-Rec.name in
    let B = c.in_ok-body-in-Rec.ensures.parsed in
    let same : nodes c.want-in-Rec-2.new.self ≡ nodes p = ap held (c.in_ok-want-in-Rec-2.ensures.tree ∙ c.in_ok-name-in-Rec.ensures.tree ∙ c.in_ok-want-in-Rec.ensures.tree) in
    let b = laid_at _ (x ∷ ts) (nodes c.want-in-Rec-2.new.self) (nodes p) (nodes p5) B.0 _ (names_inside x _) same B.2 in
    told_first type_base tt c.args.depth (next_byte 0 (items p)) p p6 (LaidType ts (nodes p) (nodes p6)) _ Rec s c.advance-in-Rec.new.self h c.in-Rec.is refl c.advance-in-Rec.ensures (λ b. refl) (is_the s c.in-Rec.is)
    (told_begin c.in_ok-begin-in-Rec.ensures
    (told_token (the Open) tt p1 c.want-in-Rec.new.self c.in_ok-want-in-Rec.ensures.used c.in_ok-want-in-Rec.ensures.tree
    (told_token a_name c.in_ok-name-in-Rec.name c.want-in-Rec.new.self c.name-in-Rec.new.self c.in_ok-name-in-Rec.ensures.used c.in_ok-name-in-Rec.ensures.tree
    (told_token (the Close) tt c.name-in-Rec.new.self c.want-in-Rec-2.new.self c.in_ok-want-in-Rec-2.ensures.used c.in_ok-want-in-Rec-2.ensures.tree
    (told_inner c.want-in-Rec-2.new.self p5 B.1 c.in_ok-body-in-Rec.ensures.limits
    (told_last p5 p6 c.whole-in-Rec.result s.byte _ i c.whole-in-Rec.ensures.laid c.whole-in-Rec.ensures.tokens c.whole-in-Rec.ensures.limits
    (λ n e l. given_laid ts (nodes p) (nodes p5) (nodes p6) (rec x B.0) _ n (given_rec ts x (nodes p) (nodes p5) B.0 _ b) l e)))))))

pub type_base-returns-in_err-inner-in-OpenBrace-clause-parsed : goal.type_base-returns-in_err-inner-in-OpenBrace-clause-parsed
type_base-returns-in_err-inner-in-OpenBrace-clause-parsed t c =
    let p = c.args.self.now in let ts = names c.args.types.now in let s = c.in_ok-token.token in let h = c.in_ok-token.ensures in
    let p1 : Parser = record { tokens = c.advance-in-OpenBrace.new.self; tree = p.tree } in let i = sym (first_byte (items p) s h) in
    told_first type_base tt c.args.depth (next_byte 0 (items p)) p c.read_type-in-OpenBrace.new.self (LaidType ts (nodes p) (nodes c.read_type-in-OpenBrace.new.self)) _ OpenBrace s c.advance-in-OpenBrace.new.self h c.in-OpenBrace.is refl c.advance-in-OpenBrace.ensures (λ b. refl) (is_the s c.in-OpenBrace.is)
    (told_begin c.in_ok-begin-in-OpenBrace.ensures
    (told_inner_stops (same_error _ c.in_err-inner-in-OpenBrace.field-0.0 c.from_residual-in_err-inner-in-OpenBrace.ensures.1) c.in_err-inner-in-OpenBrace.ensures.parsed))

pub type_base-returns-in_err-want-in-OpenBrace-clause-parsed : goal.type_base-returns-in_err-want-in-OpenBrace-clause-parsed
type_base-returns-in_err-want-in-OpenBrace-clause-parsed t c =
    let p = c.args.self.now in let ts = names c.args.types.now in let s = c.in_ok-token.token in let h = c.in_ok-token.ensures in
    let p1 : Parser = record { tokens = c.advance-in-OpenBrace.new.self; tree = p.tree } in let i = sym (first_byte (items p) s h) in
    told_first type_base tt c.args.depth (next_byte 0 (items p)) p c.want-in-OpenBrace.new.self (LaidType ts (nodes p) (nodes c.want-in-OpenBrace.new.self)) _ OpenBrace s c.advance-in-OpenBrace.new.self h c.in-OpenBrace.is refl c.advance-in-OpenBrace.ensures (λ b. refl) (is_the s c.in-OpenBrace.is)
    (told_begin c.in_ok-begin-in-OpenBrace.ensures
    (told_inner p1 c.read_type-in-OpenBrace.new.self c.in_ok-inner-in-OpenBrace.ensures.parsed.1 c.in_ok-inner-in-OpenBrace.ensures.limits
    (told_refused (same_error _ c.in_err-want-in-OpenBrace.field-0.0 c.from_residual-in_err-want-in-OpenBrace.ensures.1) c.in_err-want-in-OpenBrace.ensures.used)))

pub type_base-returns-in_ok-want-in-OpenBrace-clause-parsed : goal.type_base-returns-in_ok-want-in-OpenBrace-clause-parsed
type_base-returns-in_ok-want-in-OpenBrace-clause-parsed t c =
    let p = c.args.self.now in let ts = names c.args.types.now in let s = c.in_ok-token.token in let h = c.in_ok-token.ensures in
    let p1 : Parser = record { tokens = c.advance-in-OpenBrace.new.self; tree = p.tree } in let i = sym (first_byte (items p) s h) in
    let A = c.in_ok-inner-in-OpenBrace.ensures.parsed in
    told_first type_base tt c.args.depth (next_byte 0 (items p)) p c.want-in-OpenBrace.new.self (LaidType ts (nodes p) (nodes c.want-in-OpenBrace.new.self)) (Ok c.in_ok-inner-in-OpenBrace.inner) OpenBrace s c.advance-in-OpenBrace.new.self h c.in-OpenBrace.is refl c.advance-in-OpenBrace.ensures (λ b. refl) (is_the s c.in-OpenBrace.is)
    (told_begin c.in_ok-begin-in-OpenBrace.ensures
    (told_inner p1 c.read_type-in-OpenBrace.new.self c.in_ok-inner-in-OpenBrace.ensures.parsed.1 c.in_ok-inner-in-OpenBrace.ensures.limits
    (told_token (the CloseBrace) tt c.read_type-in-OpenBrace.new.self c.want-in-OpenBrace.new.self c.in_ok-want-in-OpenBrace.ensures.used c.in_ok-want-in-OpenBrace.ensures.tree
    (told_done A.0 c.in_ok-inner-in-OpenBrace.inner (ap held c.in_ok-want-in-OpenBrace.ensures.tree ∙ A.2.0, A.2.1)))))

pub type_base-returns-in_default : goal.type_base-returns-in_default
type_base-returns-in_default t c =
    let p = c.args.self.now in let ts = names c.args.types.now in let s = c.in_ok-token.token in let h = c.in_ok-token.ensures in let o = c.in_default in
    let n = chosen_other s h.0 (not_the s o.not-Top, (not_name_at s o.not-Name, (not_the s o.not-All, (not_the s o.not-Rec, (not_the s o.not-OpenBrace, tt))))) in
    record {
      parsed = no_row_told type_base c.args.depth _ p p (LaidType ts (nodes p) (nodes p)) (Err (Unexpected s.byte)) (Ok s) h.0 refl h.1 n refl;
      depth = tt;
      limits = refl;
      shorter = tt;
    }

pub all_rest-read_type-requires : goal.all_rest-read_type-requires
all_rest-read_type-requires t c =
    let p = c.args.self.now in let p1 = c.take.new.self in
    let a : length (items p) ≡ suc (length (items p1)) = uses_shorter (the Below) tt (items p) (items p1) (take_uses Below (items p) (items p1) _ c.if-branch.true c.in_ok-take.ensures.used) in
    (omega (arith, a), (omega (arith, c.requires.binders), omega (arith, c.requires.depth)))

pub all_rest-read_type-requires-then-branch : goal.all_rest-read_type-requires-then-branch
all_rest-read_type-requires-then-branch t c =
    let p = c.args.self.now in let p1 = c.take.new.self in
    let a : length (items p) ≡ suc (length (items p1)) = uses_shorter (the Below) tt (items p) (items p1) (take_uses Below (items p) (items p1) _ c.if-branch.true c.in_ok-take.ensures.used) in
    let b : length (items c.read_type.new.self) ≡ suc (length (items c.want.new.self)) = uses_shorter (the Close) tt (items c.read_type.new.self) (items c.want.new.self) c.in_ok-want.ensures.used in
    let n = ap length (names_inside c.args.name record { ref_ptr = c.args.types.ref_ptr; now = c.args.types.now }) in
    (omega (arith, a, b, c.in_ok-bound.ensures.shorter), (omega (arith, c.requires.binders, n), omega (arith, c.requires.depth)))

pub all_rest-read_type-requires-else-branch : goal.all_rest-read_type-requires-else-branch
all_rest-read_type-requires-else-branch t c =
    let p = c.args.self.now in let p1 = c.take.new.self in
    let a = ap length (take_leaves Below (items p) (items p1) _ c.if-branch.false c.in_ok-take.ensures.used).4 in
    let b : length (items c.take.new.self) ≡ suc (length (items c.want-else-branch.new.self)) = uses_shorter (the Close) tt (items c.take.new.self) (items c.want-else-branch.new.self) c.in_ok-want-2.ensures.used in
    let n = ap length (names_inside c.args.name record { ref_ptr = c.args.types.ref_ptr; now = c.args.types.now }) in
    (omega (arith, a, b), (omega (arith, c.requires.binders, n), omega (arith, c.requires.depth)))

pub arrow_rest-read_type-requires : goal.arrow_rest-read_type-requires
arrow_rest-read_type-requires t c =
    let p = c.args.self.now in let p1 = c.take.new.self in
    let a : length (items p) ≡ suc (length (items p1)) = uses_shorter (the Arrow) tt (items p) (items p1) (take_uses Arrow (items p) (items p1) _ c.if-not-branch.false c.in_ok-take.ensures.used) in
    (omega (arith, a), (omega (arith, c.requires.binders), omega (arith, c.requires.depth)))

pub read_type-type_base-requires : goal.read_type-type_base-requires
read_type-type_base-requires t c =
    (omega arith, (omega (arith, c.requires.binders), c.requires.depth))

pub read_type-arrow_rest-requires : goal.read_type-arrow_rest-requires
read_type-arrow_rest-requires t c =
    (omega (arith, c.in_ok-left.ensures.shorter), (omega (arith, c.requires.binders), c.in_ok-left.ensures.depth))

pub type_base-all_rest-requires : goal.type_base-all_rest-requires
type_base-all_rest-requires t c =
    let p = c.args.self.now in let s = c.in_ok-token.token in let n1 = c.advance-in-All.new.self in
    let a : length (items p) ≡ suc (length (to_come n1)) = uses_shorter (the All) tt (items p) (to_come n1)
    (uses_looked (the All) tt s (items p) (to_come n1) c.in_ok-token.ensures c.advance-in-All.ensures (ap ends c.in-All.is) (is_the s c.in-All.is)) in
    let p1 : Parser = record { tokens = n1; tree = p.tree } in
    let b : length (items p1) ≡ suc (length (items c.want.new.self)) = uses_shorter (the Open) tt (items p1) (items c.want.new.self) c.in_ok-want-in-All.ensures.used in
    let d : length (items c.want.new.self) ≡ suc (length (items c.name.new.self)) = uses_shorter a_name c.in_ok-name-in-All.name (items c.want.new.self) (items c.name.new.self) c.in_ok-name-in-All.ensures.used in
    (omega (arith, a, b, d), (omega (arith, c.requires.binders), c.in_ok-begin-in-All.ensures))

pub type_base-read_type-requires : goal.type_base-read_type-requires
type_base-read_type-requires t c =
    let p = c.args.self.now in let s = c.in_ok-token.token in let n1 = c.advance-in-Rec.new.self in
    let a : length (items p) ≡ suc (length (to_come n1)) = uses_shorter (the Rec) tt (items p) (to_come n1)
    (uses_looked (the Rec) tt s (items p) (to_come n1) c.in_ok-token.ensures c.advance-in-Rec.ensures (ap ends c.in-Rec.is) (is_the s c.in-Rec.is)) in
    let p1 : Parser = record { tokens = n1; tree = p.tree } in
    let b : length (items p1) ≡ suc (length (items c.want-in-Rec.new.self)) = uses_shorter (the Open) tt (items p1) (items c.want-in-Rec.new.self) c.in_ok-want-in-Rec.ensures.used in
    let d : length (items c.want-in-Rec.new.self) ≡ suc (length (items c.name-in-Rec.new.self)) = uses_shorter a_name c.in_ok-name-in-Rec.name (items c.want-in-Rec.new.self) (items c.name-in-Rec.new.self) c.in_ok-name-in-Rec.ensures.used in
    let e : length (items c.name-in-Rec.new.self) ≡ suc (length (items c.want-in-Rec-2.new.self)) = uses_shorter (the Close) tt (items c.name-in-Rec.new.self) (items c.want-in-Rec-2.new.self) c.in_ok-want-in-Rec-2.ensures.used in
    let n = ap length (names_inside c.in_ok-name-in-Rec.name record { ref_ptr = c.args.types.ref_ptr; now = c.args.types.now }) in
    (omega (arith, a, b, d, e), (omega (arith, c.requires.binders, n), omega (arith, c.in_ok-begin-in-Rec.ensures)))

pub type_base-read_type-requires-in-OpenBrace : goal.type_base-read_type-requires-in-OpenBrace
type_base-read_type-requires-in-OpenBrace t c =
    let p = c.args.self.now in let s = c.in_ok-token.token in let n1 = c.advance-in-OpenBrace.new.self in
    let a : length (items p) ≡ suc (length (to_come n1)) = uses_shorter (the OpenBrace) tt (items p) (to_come n1)
    (uses_looked (the OpenBrace) tt s (items p) (to_come n1) c.in_ok-token.ensures c.advance-in-OpenBrace.ensures (ap ends c.in-OpenBrace.is) (is_the s c.in-OpenBrace.is)) in
    (omega (arith, a), (omega (arith, c.requires.binders), omega (arith, c.in_ok-begin-in-OpenBrace.ensures)))
