-- Terms are read by the rows of the grammar: an answer follows the row, symbol by symbol, as far as the code went.
use Rattle.std.proofs.Common.{length, [], ◌∷◌, ◌++◌, Ok, Err, refl, ap, sym, ◌∙◌, subst, arith}
use Rattle.lexer.specs.Coming.{to_come}
use Rattle.lexer.specs.Items.{ends}
use Rattle.lexer.specs.declared.token.Word.TheVariants.{Fold, Fun, RecTerm, TopTerm, Unfold, Colon, Below, Open, Close, OpenBrace, CloseBrace, Name as Named}
use Rattle.grammar.specs.Derives.{next_byte, choose}
use Rattle.grammar.specs.Notation.{term, term_base, fun_rest, args, argument, the, at, a_name}
use Rattle.grammar.specs.declared.fault.SyntaxFault.TheVariants.{Unexpected}
use Rattle.grammar.proofs.Words.{is_the, is_at, is_name_at, not_the, not_at, not_name_at, chosen_other}
use Rattle.syntax.specs.Named.{fun, appl, fun2, fun2_unbounded, appl2, fold_term, rec_term}
use Rattle.syntax.specs.declared.node.Node.TheVariants.{TopTerm as TopTermNode, Fun as FunNode, Appl as ApplNode, Fun2 as Fun2Node, Fun2Unbounded as Fun2UnboundedNode, Appl2 as Appl2Node}
use Rattle.tables.specs.Tables.{held}
use Rattle.parser.specs.Binders.{names}
use Rattle.parser.specs.Parsing.{items, nodes, limits, LaidTerm, LaidArgs, GivenArgument, GivenTerm}
use Rattle.parser.specs.Rows.{behind_fold, behind_rec}
use Rattle.parser.specs.declared.parser.Parser.{Parser}
use Rattle.parser.proofs.Args.{is_open, is_not_open, at_first, argument_laid}
use Rattle.parser.proofs.Nodes.{laid_at}
use Rattle.parser.proofs.Numbers.{names_inside}
use Rattle.parser.proofs.TermNodes.{laid_term_at, given_fun, given_appl, given_fun2, given_fun2_unbounded, given_appl2, given_fold, given_unfold, given_rec}
use Rattle.parser.proofs.TermTold.{told_symbols, symbols_told, told_term, none_there}
use Rattle.parser.proofs.Told.{told_row, told_same, told_token, told_refused, told_begin, told_too_deep, told_whole, told_full, told_part_stops, told_part, told_rest, told_done, no_row_told, same_error}
use Rattle.parser.proofs.Taking.{looks_fails, take_uses, take_leaves, refuses_first, none_taken, told_first, told_taken, told_inner, told_inner_stops, first_byte, uses_looked, uses_shorter}
use Rattle.parser.proofs.parser.Parser.+terms.Goals as goal

pub args-loop-token-init : goal.args-loop-token-init
args-loop-token-init t c = at_first _ _ _ _ _ _

pub args-returns-in_err-token-clause-parsed : goal.args-returns-in_err-token-clause-parsed
args-returns-in_err-token-clause-parsed t c =
    let p = c.args.self.now in let ts = names c.args.types.now in let es = names c.args.terms.now in let k = c.loop-token.self in
    c.loop-token.invariant.goes_on k _ (looks_fails args c.args.depth c.args.first k k (LaidArgs ts es c.loop-token.function (nodes k) (nodes k)) _ (same_error _ c.in_err-token.field-0.0 c.from_residual.ensures.1) c.in_err-token.ensures)

pub args-returns-in_err-token-clause-limits : goal.args-returns-in_err-token-clause-limits
args-returns-in_err-token-clause-limits t c = c.loop-token.invariant.same

pub args-argument-requires : goal.args-argument-requires
args-argument-requires t c =
    let k = c.loop-token.self in let s = c.in_ok-token.token in let w = is_open s.word _ c.ne.ensures c.if-ne.false in
    let u = uses_looked (at Open) s.byte s (items k) (to_come c.advance.new.self) c.in_ok-token.ensures c.advance.ensures (ap ends w) (is_at s w) in
    let a = uses_shorter (at Open) s.byte (items k) (to_come c.advance.new.self) u in let b = c.loop-token.invariant.shorter in
    (omega (arith, c.decreases, a, b), (c.requires.binders, c.requires.depth))

pub args-returns-in_err-application-clause-parsed : goal.args-returns-in_err-application-clause-parsed
args-returns-in_err-application-clause-parsed t c =
    let p = c.args.self.now in let ts = names c.args.types.now in let es = names c.args.terms.now in
    let k = c.loop-token.self in let s = c.in_ok-token.token in let k1 : Parser = record { tokens = c.advance.new.self; tree = k.tree } in
    let w = is_open s.word _ c.ne.ensures c.if-ne.false in
    c.loop-token.invariant.goes_on c.argument.new.self _
    (told_first args s.byte c.args.depth c.args.first k c.argument.new.self (LaidArgs ts es c.loop-token.function (nodes k) (nodes c.argument.new.self)) _ Open s c.advance.new.self c.in_ok-token.ensures w refl c.advance.ensures (λ b. refl) (is_at s w)
    (told_part_stops (same_error _ c.in_err-application.field-0.0 c.from_residual-in_err-application.ensures.1) (c.in_err-application.ensures.parsed c.args.first)))

pub args-returns-in_err-application-clause-limits : goal.args-returns-in_err-application-clause-limits
args-returns-in_err-application-clause-limits t c = c.in_err-application.ensures.limits ∙ c.loop-token.invariant.same

pub args-returns-in_err-want-clause-parsed : goal.args-returns-in_err-want-clause-parsed
args-returns-in_err-want-clause-parsed t c =
    let p = c.args.self.now in let ts = names c.args.types.now in let es = names c.args.terms.now in
    let k = c.loop-token.self in let s = c.in_ok-token.token in let k1 : Parser = record { tokens = c.advance.new.self; tree = k.tree } in
    let w = is_open s.word _ c.ne.ensures c.if-ne.false in
    c.loop-token.invariant.goes_on c.want.new.self _
    (told_first args s.byte c.args.depth c.args.first k c.want.new.self (LaidArgs ts es c.loop-token.function (nodes k) (nodes c.want.new.self)) _ Open s c.advance.new.self c.in_ok-token.ensures w refl c.advance.ensures (λ b. refl) (is_at s w)
    (told_part k1 c.argument.new.self (c.in_ok-application.ensures.parsed c.args.first).1 c.in_ok-application.ensures.limits
    (told_refused (same_error _ c.in_err-want.field-0.0 c.from_residual-in_err-want.ensures.1) c.in_err-want.ensures.used)))

pub args-returns-in_err-want-clause-limits : goal.args-returns-in_err-want-clause-limits
args-returns-in_err-want-clause-limits t c =
    let k = c.loop-token.self in
    ap (λ x. limits (record k { tree = x })) c.in_err-want.ensures.tree ∙ c.in_ok-application.ensures.limits ∙ c.loop-token.invariant.same

pub args-returns-in_err-function-clause-parsed : goal.args-returns-in_err-function-clause-parsed
args-returns-in_err-function-clause-parsed t c =
    let p = c.args.self.now in let ts = names c.args.types.now in let es = names c.args.terms.now in
    let k = c.loop-token.self in let s = c.in_ok-token.token in let k1 : Parser = record { tokens = c.advance.new.self; tree = k.tree } in
    let w = is_open s.word _ c.ne.ensures c.if-ne.false in
    c.loop-token.invariant.goes_on c.whole.new.self _
    (told_first args s.byte c.args.depth c.args.first k c.whole.new.self (LaidArgs ts es c.loop-token.function (nodes k) (nodes c.whole.new.self)) _ Open s c.advance.new.self c.in_ok-token.ensures w refl c.advance.ensures (λ b. refl) (is_at s w)
    (told_part k1 c.argument.new.self (c.in_ok-application.ensures.parsed c.args.first).1 c.in_ok-application.ensures.limits
    (told_token (the Close) tt c.argument.new.self c.want.new.self c.in_ok-want.ensures.used c.in_ok-want.ensures.tree
    (told_full c.args.first refl (same_error _ c.in_err-function.field-0.0 c.from_residual-in_err-function.ensures.1) c.in_err-function.ensures.laid))))

pub args-returns-in_err-function-clause-limits : goal.args-returns-in_err-function-clause-limits
args-returns-in_err-function-clause-limits t c =
    let k = c.loop-token.self in
    c.in_err-function.ensures.limits ∙ ap (λ x. limits (record k { tree = x })) c.in_ok-want.ensures.tree ∙ c.in_ok-application.ensures.limits ∙ c.loop-token.invariant.same

pub args-loop-token-smaller : goal.args-loop-token-smaller
args-loop-token-smaller t c =
    let k = c.loop-token.self in let s = c.in_ok-token.token in let w = is_open s.word _ c.ne.ensures c.if-ne.false in
    let u = uses_looked (at Open) s.byte s (items k) (to_come c.advance.new.self) c.in_ok-token.ensures c.advance.ensures (ap ends w) (is_at s w) in
    let a = uses_shorter (at Open) s.byte (items k) (to_come c.advance.new.self) u in let b = c.in_ok-application.ensures.shorter in
    let d = uses_shorter (the Close) tt (items c.argument.new.self) (items c.want.new.self) c.in_ok-want.ensures.used in
    let e = ap (λ y. length (to_come y)) c.in_ok-function.ensures.tokens in
    omega (arith, a, b, d, e)

pub args-loop-token-preserved : goal.args-loop-token-preserved
args-loop-token-preserved t c =
    let p = c.args.self.now in let ts = names c.args.types.now in let es = names c.args.terms.now in
    let k = c.loop-token.self in let s = c.in_ok-token.token in let w = is_open s.word _ c.ne.ensures c.if-ne.false in
    let u = uses_looked (at Open) s.byte s (items k) (to_come c.advance.new.self) c.in_ok-token.ensures c.advance.ensures (ap ends w) (is_at s w) in
    let a = uses_shorter (at Open) s.byte (items k) (to_come c.advance.new.self) u in let b = c.in_ok-application.ensures.shorter in
    let d = uses_shorter (the Close) tt (items c.argument.new.self) (items c.want.new.self) c.in_ok-want.ensures.used in
    let e = ap (λ y. length (to_come y)) c.in_ok-function.ensures.tokens in let g = c.loop-token.invariant.shorter in
    let k1 : Parser = record { tokens = c.advance.new.self; tree = k.tree } in let n = c.in_ok-function.function in let v = c.in_ok-application.ensures.parsed c.args.first in let l = c.in_ok-function.ensures.laid in
    record {
      same = c.in_ok-function.ensures.limits ∙ ap (λ x. limits (record k { tree = x })) c.in_ok-want.ensures.tree ∙ c.in_ok-application.ensures.limits ∙ c.loop-token.invariant.same;
      shorter = omega (arith, a, b, d, e, g);
      goes_on = λ new r h.
          c.loop-token.invariant.goes_on new r
          (told_first args s.byte c.args.depth c.args.first k new (LaidArgs ts es c.loop-token.function (nodes k) (nodes new)) r Open s c.advance.new.self c.in_ok-token.ensures w refl c.advance.ensures (λ b. refl) (is_at s w)
          (told_part k1 c.argument.new.self (c.in_ok-application.ensures.parsed c.args.first).1 c.in_ok-application.ensures.limits
          (told_token (the Close) tt c.argument.new.self c.want.new.self c.in_ok-want.ensures.used c.in_ok-want.ensures.tree
          (told_whole c.want.new.self c.whole.new.self n _ l c.in_ok-function.ensures.tokens c.in_ok-function.ensures.limits
          (told_rest c.whole.new.self new (LaidArgs ts es n (nodes c.whole.new.self) (nodes new)) r c.args.first refl h
          (argument_laid ts es s.byte c.loop-token.function k1 c.argument.new.self c.want.new.self c.whole.new.self new v.0 c.in_ok-application.application n v.2 c.in_ok-want.ensures.tree l.0 l.2))))));
    }

pub args-returns-then-ne : goal.args-returns-then-ne
args-returns-then-ne t c =
    let p = c.args.self.now in let ts = names c.args.types.now in let es = names c.args.terms.now in
    let k = c.loop-token.self in let s = c.in_ok-token.token in
    let h = c.in_ok-token.ensures in
    record {
      parsed =
          c.loop-token.invariant.goes_on k (Ok c.loop-token.function)
          (told_row args c.args.depth c.args.first k k (LaidArgs ts es c.loop-token.function (nodes k) (nodes k)) (Ok c.loop-token.function) (ap (choose args) h.1 ∙ chosen_other s h.0 (not_at s (is_not_open s.word _ c.ne.ensures c.if-ne.true), tt))
          (told_done (λ b. b) c.loop-token.function (λ front b l. l)));
      limits = c.loop-token.invariant.same;
      shorter = c.loop-token.invariant.shorter;
    }

pub argument-returns-in_err-take-clause-parsed : goal.argument-returns-in_err-take-clause-parsed
argument-returns-in_err-take-clause-parsed t c =
    let p = c.args.self.now in let ts = names c.args.types.now in let es = names c.args.terms.now in
    λ q. looks_fails argument c.args.depth q p c.take.new.self (GivenArgument ts es c.args.byte c.args.function (nodes p) (nodes c.take.new.self)) _ (same_error _ c.in_err-take.field-0.0 c.from_residual.ensures.1) c.in_err-take.ensures.used

pub argument-returns-in_err-argument-clause-parsed : goal.argument-returns-in_err-argument-clause-parsed
argument-returns-in_err-argument-clause-parsed t c =
    let p = c.args.self.now in let ts = names c.args.types.now in let es = names c.args.terms.now in
    let u = take_uses Colon (items c.args.self.now) (items c.take.new.self) _ c.if-branch.true c.in_ok-take.ensures.used in
    λ q. told_taken argument c.args.depth q p c.take.new.self c.read_type.new.self (GivenArgument ts es c.args.byte c.args.function (nodes p) (nodes c.read_type.new.self)) _ Colon u c.in_ok-take.ensures.tree (λ b. refl)
    (told_inner_stops (same_error _ c.in_err-argument.field-0.0 c.from_residual-in_err-argument.ensures.1) c.in_err-argument.ensures.parsed)

pub argument-read_term-requires : goal.argument-read_term-requires
argument-read_term-requires t c =
    let o = take_leaves Colon (items c.args.self.now) (items c.take.new.self) _ c.if-branch.false c.in_ok-take.ensures.used in
    let a = ap length o.4 in
    (omega (arith, c.decreases, a), (omega (arith, c.requires.binders), omega (arith, c.requires.depth)))

pub argument-returns-in_err-argument-2-clause-parsed : goal.argument-returns-in_err-argument-2-clause-parsed
argument-returns-in_err-argument-2-clause-parsed t c =
    let p = c.args.self.now in let ts = names c.args.types.now in let es = names c.args.terms.now in
    let o = take_leaves Colon (items c.args.self.now) (items c.take.new.self) _ c.if-branch.false c.in_ok-take.ensures.used in
    λ q. told_row argument c.args.depth q p c.read_term.new.self (GivenArgument ts es c.args.byte c.args.function (nodes p) (nodes c.read_term.new.self)) _ (ap (choose argument) o.2 ∙ chosen_other o.0 o.1 (o.3, tt))
    (told_same p c.take.new.self o.4 c.in_ok-take.ensures.tree
    (told_inner_stops (same_error _ c.in_err-argument-2.field-0.0 c.from_residual-in_err-argument-2.ensures.1) c.in_err-argument-2.ensures.parsed))

pub argument-returns-in_ok-argument-clause-parsed : goal.argument-returns-in_ok-argument-clause-parsed
argument-returns-in_ok-argument-clause-parsed t c =
    let p = c.args.self.now in let ts = names c.args.types.now in let es = names c.args.terms.now in
    let u = take_uses Colon (items c.args.self.now) (items c.take.new.self) _ c.if-branch.true c.in_ok-take.ensures.used in
    let A = c.in_ok-argument.ensures.parsed in
    let l = laid_at ts ts (nodes c.take.new.self) (nodes p) (nodes c.read_type.new.self) A.0 _ refl (ap held c.in_ok-take.ensures.tree) A.2 in
    λ q. told_taken argument c.args.depth q p c.take.new.self c.read_type.new.self (GivenArgument ts es c.args.byte c.args.function (nodes p) (nodes c.read_type.new.self)) (Ok (Appl2Node c.args.byte c.args.function c.in_ok-argument.argument)) Colon u c.in_ok-take.ensures.tree (λ b. refl)
    (told_inner c.take.new.self c.read_type.new.self A.1 c.in_ok-argument.ensures.limits
    (told_done (λ byte b. appl2 byte b A.0) _ (λ front b h. given_appl2 ts es c.args.byte front (nodes p) (nodes c.read_type.new.self) b A.0 _ _ h l)))

pub argument-returns-in_ok-argument-2-clause-parsed : goal.argument-returns-in_ok-argument-2-clause-parsed
argument-returns-in_ok-argument-2-clause-parsed t c =
    let p = c.args.self.now in let ts = names c.args.types.now in let es = names c.args.terms.now in
    let o = take_leaves Colon (items c.args.self.now) (items c.take.new.self) _ c.if-branch.false c.in_ok-take.ensures.used in
    let a = c.in_ok-argument-2.ensures.parsed in
    let l = laid_term_at ts ts es es (nodes c.take.new.self) (nodes p) (nodes c.read_term.new.self) a.0 _ refl refl (ap held c.in_ok-take.ensures.tree) a.2 in
    λ q. told_row argument c.args.depth q p c.read_term.new.self (GivenArgument ts es c.args.byte c.args.function (nodes p) (nodes c.read_term.new.self)) (Ok (ApplNode c.args.byte c.args.function c.in_ok-argument-2.argument)) (ap (choose argument) o.2 ∙ chosen_other o.0 o.1 (o.3, tt))
    (told_same p c.take.new.self o.4 c.in_ok-take.ensures.tree
    (told_inner c.take.new.self c.read_term.new.self a.1 c.in_ok-argument-2.ensures.limits
    (told_done (λ byte b. appl byte b a.0) _ (λ front b h. given_appl ts es c.args.byte front (nodes p) (nodes c.read_term.new.self) b a.0 _ _ h l))))

pub fold-returns-in_err-want-clause-parsed : goal.fold-returns-in_err-want-clause-parsed
fold-returns-in_err-want-clause-parsed t c =
    let p = c.args.self.now in let ts = names c.args.types.now in let es = names c.args.terms.now in
    told_symbols term_base c.args.depth c.args.byte behind_fold (fold_term c.args.byte) p c.want.new.self (LaidTerm ts es (nodes p) (nodes c.want.new.self)) _
    (told_refused (same_error _ c.in_err-want.field-0.0 c.from_residual.ensures.1) c.in_err-want.ensures.used)

pub fold-returns-in_err-want-2-clause-parsed : goal.fold-returns-in_err-want-2-clause-parsed
fold-returns-in_err-want-2-clause-parsed t c =
    let p = c.args.self.now in let ts = names c.args.types.now in let es = names c.args.terms.now in
    told_symbols term_base c.args.depth c.args.byte behind_fold (fold_term c.args.byte) p c.want-2.new.self (LaidTerm ts es (nodes p) (nodes c.want-2.new.self)) _
    (told_token (the Open) tt p c.want.new.self c.in_ok-want.ensures.used c.in_ok-want.ensures.tree
    (told_refused (same_error _ c.in_err-want-2.field-0.0 c.from_residual-in_err-want-2.ensures.1) c.in_err-want-2.ensures.used))

pub fold-returns-in_err-to-clause-parsed : goal.fold-returns-in_err-to-clause-parsed
fold-returns-in_err-to-clause-parsed t c =
    let p = c.args.self.now in let ts = names c.args.types.now in let es = names c.args.terms.now in
    told_symbols term_base c.args.depth c.args.byte behind_fold (fold_term c.args.byte) p c.read_type.new.self (LaidTerm ts es (nodes p) (nodes c.read_type.new.self)) _
    (told_token (the Open) tt p c.want.new.self c.in_ok-want.ensures.used c.in_ok-want.ensures.tree
    (told_token (the Colon) tt c.want.new.self c.want-2.new.self c.in_ok-want-2.ensures.used c.in_ok-want-2.ensures.tree
    (told_inner_stops (same_error _ c.in_err-to.field-0.0 c.from_residual-in_err-to.ensures.1) c.in_err-to.ensures.parsed)))

pub fold-returns-in_err-want-3-clause-parsed : goal.fold-returns-in_err-want-3-clause-parsed
fold-returns-in_err-want-3-clause-parsed t c =
    let p = c.args.self.now in let ts = names c.args.types.now in let es = names c.args.terms.now in
    told_symbols term_base c.args.depth c.args.byte behind_fold (fold_term c.args.byte) p c.want-3.new.self (LaidTerm ts es (nodes p) (nodes c.want-3.new.self)) _
    (told_token (the Open) tt p c.want.new.self c.in_ok-want.ensures.used c.in_ok-want.ensures.tree
    (told_token (the Colon) tt c.want.new.self c.want-2.new.self c.in_ok-want-2.ensures.used c.in_ok-want-2.ensures.tree
    (told_inner c.want-2.new.self c.read_type.new.self c.in_ok-to.ensures.parsed.1 c.in_ok-to.ensures.limits
    (told_refused (same_error _ c.in_err-want-3.field-0.0 c.from_residual-in_err-want-3.ensures.1) c.in_err-want-3.ensures.used))))

pub fold-returns-in_err-want-4-clause-parsed : goal.fold-returns-in_err-want-4-clause-parsed
fold-returns-in_err-want-4-clause-parsed t c =
    let p = c.args.self.now in let ts = names c.args.types.now in let es = names c.args.terms.now in
    told_symbols term_base c.args.depth c.args.byte behind_fold (fold_term c.args.byte) p c.want-4.new.self (LaidTerm ts es (nodes p) (nodes c.want-4.new.self)) _
    (told_token (the Open) tt p c.want.new.self c.in_ok-want.ensures.used c.in_ok-want.ensures.tree
    (told_token (the Colon) tt c.want.new.self c.want-2.new.self c.in_ok-want-2.ensures.used c.in_ok-want-2.ensures.tree
    (told_inner c.want-2.new.self c.read_type.new.self c.in_ok-to.ensures.parsed.1 c.in_ok-to.ensures.limits
    (told_token (the Close) tt c.read_type.new.self c.want-3.new.self c.in_ok-want-3.ensures.used c.in_ok-want-3.ensures.tree
    (told_refused (same_error _ c.in_err-want-4.field-0.0 c.from_residual-in_err-want-4.ensures.1) c.in_err-want-4.ensures.used)))))

pub fold-read_term-requires : goal.fold-read_term-requires
fold-read_term-requires t c =
    let a = uses_shorter (the Open) tt (items c.args.self.now) (items c.want.new.self) c.in_ok-want.ensures.used in
    let b = uses_shorter (the Colon) tt (items c.want.new.self) (items c.want-2.new.self) c.in_ok-want-2.ensures.used in
    let d = c.in_ok-to.ensures.shorter in
    let e = uses_shorter (the Close) tt (items c.read_type.new.self) (items c.want-3.new.self) c.in_ok-want-3.ensures.used in
    let f = uses_shorter (the Open) tt (items c.want-3.new.self) (items c.want-4.new.self) c.in_ok-want-4.ensures.used in
    (omega (arith, c.decreases, a, b, d, e, f), (omega (arith, c.requires.binders), omega (arith, c.requires.depth)))

pub fold-returns-in_err-argument-clause-parsed : goal.fold-returns-in_err-argument-clause-parsed
fold-returns-in_err-argument-clause-parsed t c =
    let p = c.args.self.now in let ts = names c.args.types.now in let es = names c.args.terms.now in
    told_symbols term_base c.args.depth c.args.byte behind_fold (fold_term c.args.byte) p c.read_term.new.self (LaidTerm ts es (nodes p) (nodes c.read_term.new.self)) _
    (told_token (the Open) tt p c.want.new.self c.in_ok-want.ensures.used c.in_ok-want.ensures.tree
    (told_token (the Colon) tt c.want.new.self c.want-2.new.self c.in_ok-want-2.ensures.used c.in_ok-want-2.ensures.tree
    (told_inner c.want-2.new.self c.read_type.new.self c.in_ok-to.ensures.parsed.1 c.in_ok-to.ensures.limits
    (told_token (the Close) tt c.read_type.new.self c.want-3.new.self c.in_ok-want-3.ensures.used c.in_ok-want-3.ensures.tree
    (told_token (the Open) tt c.want-3.new.self c.want-4.new.self c.in_ok-want-4.ensures.used c.in_ok-want-4.ensures.tree
    (told_inner_stops (same_error _ c.in_err-argument.field-0.0 c.from_residual-in_err-argument.ensures.1) c.in_err-argument.ensures.parsed))))))

pub fold-returns-in_err-want-5-clause-parsed : goal.fold-returns-in_err-want-5-clause-parsed
fold-returns-in_err-want-5-clause-parsed t c =
    let p = c.args.self.now in let ts = names c.args.types.now in let es = names c.args.terms.now in
    told_symbols term_base c.args.depth c.args.byte behind_fold (fold_term c.args.byte) p c.want-5.new.self (LaidTerm ts es (nodes p) (nodes c.want-5.new.self)) _
    (told_token (the Open) tt p c.want.new.self c.in_ok-want.ensures.used c.in_ok-want.ensures.tree
    (told_token (the Colon) tt c.want.new.self c.want-2.new.self c.in_ok-want-2.ensures.used c.in_ok-want-2.ensures.tree
    (told_inner c.want-2.new.self c.read_type.new.self c.in_ok-to.ensures.parsed.1 c.in_ok-to.ensures.limits
    (told_token (the Close) tt c.read_type.new.self c.want-3.new.self c.in_ok-want-3.ensures.used c.in_ok-want-3.ensures.tree
    (told_token (the Open) tt c.want-3.new.self c.want-4.new.self c.in_ok-want-4.ensures.used c.in_ok-want-4.ensures.tree
    (told_inner c.want-4.new.self c.read_term.new.self c.in_ok-argument.ensures.parsed.1 c.in_ok-argument.ensures.limits
    (told_refused (same_error _ c.in_err-want-5.field-0.0 c.from_residual-in_err-want-5.ensures.1) c.in_err-want-5.ensures.used)))))))

pub fold-returns-clause-parsed : goal.fold-returns-clause-parsed
fold-returns-clause-parsed t c =
    let p = c.args.self.now in let ts = names c.args.types.now in let es = names c.args.terms.now in
    let A = c.in_ok-to.ensures.parsed in let b = c.in_ok-argument.ensures.parsed in
    let l = laid_at ts ts (nodes c.want-2.new.self) (nodes p) (nodes c.read_type.new.self) A.0 _ refl (ap held (c.in_ok-want-2.ensures.tree ∙ c.in_ok-want.ensures.tree)) A.2 in
    let m = laid_term_at ts ts es es (nodes c.want-4.new.self) (nodes c.read_type.new.self) (nodes c.read_term.new.self) b.0 _ refl refl (ap held (c.in_ok-want-4.ensures.tree ∙ c.in_ok-want-3.ensures.tree)) b.2 in
    let node = given_fold ts es c.args.byte (nodes p) (nodes c.read_type.new.self) (nodes c.read_term.new.self) A.0 b.0 _ _ l m in
    told_symbols term_base c.args.depth c.args.byte behind_fold (fold_term c.args.byte) p c.whole.new.self (LaidTerm ts es (nodes p) (nodes c.whole.new.self)) _
    (told_token (the Open) tt p c.want.new.self c.in_ok-want.ensures.used c.in_ok-want.ensures.tree
    (told_token (the Colon) tt c.want.new.self c.want-2.new.self c.in_ok-want-2.ensures.used c.in_ok-want-2.ensures.tree
    (told_inner c.want-2.new.self c.read_type.new.self c.in_ok-to.ensures.parsed.1 c.in_ok-to.ensures.limits
    (told_token (the Close) tt c.read_type.new.self c.want-3.new.self c.in_ok-want-3.ensures.used c.in_ok-want-3.ensures.tree
    (told_token (the Open) tt c.want-3.new.self c.want-4.new.self c.in_ok-want-4.ensures.used c.in_ok-want-4.ensures.tree
    (told_inner c.want-4.new.self c.read_term.new.self c.in_ok-argument.ensures.parsed.1 c.in_ok-argument.ensures.limits
    (told_token (the Close) tt c.read_term.new.self c.want-5.new.self c.in_ok-want-5.ensures.used c.in_ok-want-5.ensures.tree
    (told_term ts es (nodes p) c.read_term.new.self c.want-5.new.self c.whole.new.self _ _ c.args.byte refl c.in_ok-want-5.ensures.tree node c.whole.ensures.laid c.whole.ensures.tokens c.whole.ensures.limits))))))))

pub fun_rest-returns-in_err-take-clause-parsed : goal.fun_rest-returns-in_err-take-clause-parsed
fun_rest-returns-in_err-take-clause-parsed t c =
    let p = c.args.self.now in let ts = names c.args.types.now in let es = names c.args.terms.now in
    λ q. looks_fails fun_rest c.args.depth q p c.take.new.self (λ v. GivenTerm ts es (nodes p) (nodes c.take.new.self) (v c.args.byte c.args.name)) _ (same_error _ c.in_err-take.field-0.0 c.from_residual.ensures.1) c.in_err-take.ensures.used

pub fun_rest-returns-in_err-domain-clause-parsed : goal.fun_rest-returns-in_err-domain-clause-parsed
fun_rest-returns-in_err-domain-clause-parsed t c =
    let p = c.args.self.now in let ts = names c.args.types.now in let es = names c.args.terms.now in
    let u = take_uses Colon (items c.args.self.now) (items c.take.new.self) _ c.if-branch.true c.in_ok-take.ensures.used in
    λ q. told_taken fun_rest c.args.depth q p c.take.new.self c.read_type.new.self (λ v. GivenTerm ts es (nodes p) (nodes c.read_type.new.self) (v c.args.byte c.args.name)) _ Colon u c.in_ok-take.ensures.tree (λ b. refl)
    (told_inner_stops (same_error _ c.in_err-domain.field-0.0 c.from_residual-in_err-domain.ensures.1) c.in_err-domain.ensures.parsed)

pub fun_rest-returns-in_err-want-clause-parsed : goal.fun_rest-returns-in_err-want-clause-parsed
fun_rest-returns-in_err-want-clause-parsed t c =
    let p = c.args.self.now in let ts = names c.args.types.now in let es = names c.args.terms.now in
    let u = take_uses Colon (items c.args.self.now) (items c.take.new.self) _ c.if-branch.true c.in_ok-take.ensures.used in
    λ q. told_taken fun_rest c.args.depth q p c.take.new.self c.want.new.self (λ v. GivenTerm ts es (nodes p) (nodes c.want.new.self) (v c.args.byte c.args.name)) _ Colon u c.in_ok-take.ensures.tree (λ b. refl)
    (told_inner c.take.new.self c.read_type.new.self c.in_ok-domain.ensures.parsed.1 c.in_ok-domain.ensures.limits
    (told_refused (same_error _ c.in_err-want.field-0.0 c.from_residual-in_err-want.ensures.1) c.in_err-want.ensures.used))

pub fun_rest-read_term-requires : goal.fun_rest-read_term-requires
fun_rest-read_term-requires t c =
    let u = take_uses Colon (items c.args.self.now) (items c.take.new.self) _ c.if-branch.true c.in_ok-take.ensures.used in
    let a = uses_shorter (the Colon) tt (items c.args.self.now) (items c.take.new.self) u in
    let b = c.in_ok-domain.ensures.shorter in
    let d = uses_shorter (the Close) tt (items c.read_type.new.self) (items c.want.new.self) c.in_ok-want.ensures.used in
    let n = ap length (names_inside c.args.name c.args.terms) in
    (omega (arith, c.decreases, a, b, d), (omega (arith, n, c.requires.binders), omega (arith, c.requires.depth)))

pub fun_rest-returns-in_err-body-clause-parsed : goal.fun_rest-returns-in_err-body-clause-parsed
fun_rest-returns-in_err-body-clause-parsed t c =
    let p = c.args.self.now in let ts = names c.args.types.now in let es = names c.args.terms.now in
    let u = take_uses Colon (items c.args.self.now) (items c.take.new.self) _ c.if-branch.true c.in_ok-take.ensures.used in
    λ q. told_taken fun_rest c.args.depth q p c.take.new.self c.read_term.new.self (λ v. GivenTerm ts es (nodes p) (nodes c.read_term.new.self) (v c.args.byte c.args.name)) _ Colon u c.in_ok-take.ensures.tree (λ b. refl)
    (told_inner c.take.new.self c.read_type.new.self c.in_ok-domain.ensures.parsed.1 c.in_ok-domain.ensures.limits
    (told_token (the Close) tt c.read_type.new.self c.want.new.self c.in_ok-want.ensures.used c.in_ok-want.ensures.tree
    (told_inner_stops (same_error _ c.in_err-body.field-0.0 c.from_residual-in_err-body.ensures.1) c.in_err-body.ensures.parsed)))

pub fun_rest-returns-in_err-bound-clause-parsed : goal.fun_rest-returns-in_err-bound-clause-parsed
fun_rest-returns-in_err-bound-clause-parsed t c =
    let p = c.args.self.now in let ts = names c.args.types.now in let es = names c.args.terms.now in
    let o = take_leaves Colon (items c.args.self.now) (items c.take.new.self) _ c.if-branch.false c.in_ok-take.ensures.used in
    let w = take_uses Below (items c.take.new.self) (items c.take-else-branch.new.self) _ c.if-branch-2.true c.in_ok-take-2.ensures.used in let tree = c.in_ok-take-2.ensures.tree ∙ c.in_ok-take.ensures.tree in
    λ q. told_taken fun_rest c.args.depth q p c.take-else-branch.new.self c.read_type-then-branch-2.new.self (λ v. GivenTerm ts es (nodes p) (nodes c.read_type-then-branch-2.new.self) (v c.args.byte c.args.name)) _ Below (w.0, sym o.4 ∙ w.1, w.2) tree (λ b. refl)
    (told_inner_stops (same_error _ c.in_err-bound.field-0.0 c.from_residual-in_err-bound.ensures.1) c.in_err-bound.ensures.parsed)

pub fun_rest-returns-in_err-want-2-clause-parsed : goal.fun_rest-returns-in_err-want-2-clause-parsed
fun_rest-returns-in_err-want-2-clause-parsed t c =
    let p = c.args.self.now in let ts = names c.args.types.now in let es = names c.args.terms.now in
    let o = take_leaves Colon (items c.args.self.now) (items c.take.new.self) _ c.if-branch.false c.in_ok-take.ensures.used in
    let w = take_uses Below (items c.take.new.self) (items c.take-else-branch.new.self) _ c.if-branch-2.true c.in_ok-take-2.ensures.used in let tree = c.in_ok-take-2.ensures.tree ∙ c.in_ok-take.ensures.tree in
    λ q. told_taken fun_rest c.args.depth q p c.take-else-branch.new.self c.want-then-branch-2.new.self (λ v. GivenTerm ts es (nodes p) (nodes c.want-then-branch-2.new.self) (v c.args.byte c.args.name)) _ Below (w.0, sym o.4 ∙ w.1, w.2) tree (λ b. refl)
    (told_inner c.take-else-branch.new.self c.read_type-then-branch-2.new.self c.in_ok-bound.ensures.parsed.1 c.in_ok-bound.ensures.limits
    (told_refused (same_error _ c.in_err-want-2.field-0.0 c.from_residual-in_err-want-2.ensures.1) c.in_err-want-2.ensures.used))

pub fun_rest-read_term-requires-then-branch-2 : goal.fun_rest-read_term-requires-then-branch-2
fun_rest-read_term-requires-then-branch-2 t c =
    let o = take_leaves Colon (items c.args.self.now) (items c.take.new.self) _ c.if-branch.false c.in_ok-take.ensures.used in
    let w = take_uses Below (items c.take.new.self) (items c.take-else-branch.new.self) _ c.if-branch-2.true c.in_ok-take-2.ensures.used in
    let a = ap length o.4 in
    let b = uses_shorter (the Below) tt (items c.take.new.self) (items c.take-else-branch.new.self) w in
    let d = c.in_ok-bound.ensures.shorter in
    let e = uses_shorter (the Close) tt (items c.read_type-then-branch-2.new.self) (items c.want-then-branch-2.new.self) c.in_ok-want-2.ensures.used in
    let n = ap length (names_inside c.args.name c.args.types) in
    (omega (arith, c.decreases, a, b, d, e), (omega (arith, n, c.requires.binders), omega (arith, c.requires.depth)))

pub fun_rest-returns-in_err-body-2-clause-parsed : goal.fun_rest-returns-in_err-body-2-clause-parsed
fun_rest-returns-in_err-body-2-clause-parsed t c =
    let p = c.args.self.now in let ts = names c.args.types.now in let es = names c.args.terms.now in
    let o = take_leaves Colon (items c.args.self.now) (items c.take.new.self) _ c.if-branch.false c.in_ok-take.ensures.used in
    let w = take_uses Below (items c.take.new.self) (items c.take-else-branch.new.self) _ c.if-branch-2.true c.in_ok-take-2.ensures.used in let tree = c.in_ok-take-2.ensures.tree ∙ c.in_ok-take.ensures.tree in
    λ q. told_taken fun_rest c.args.depth q p c.take-else-branch.new.self c.read_term-then-branch-2.new.self (λ v. GivenTerm ts es (nodes p) (nodes c.read_term-then-branch-2.new.self) (v c.args.byte c.args.name)) _ Below (w.0, sym o.4 ∙ w.1, w.2) tree (λ b. refl)
    (told_inner c.take-else-branch.new.self c.read_type-then-branch-2.new.self c.in_ok-bound.ensures.parsed.1 c.in_ok-bound.ensures.limits
    (told_token (the Close) tt c.read_type-then-branch-2.new.self c.want-then-branch-2.new.self c.in_ok-want-2.ensures.used c.in_ok-want-2.ensures.tree
    (told_inner_stops (same_error _ c.in_err-body-2.field-0.0 c.from_residual-in_err-body-2.ensures.1) c.in_err-body-2.ensures.parsed)))

pub fun_rest-returns-in_err-want-3-clause-parsed : goal.fun_rest-returns-in_err-want-3-clause-parsed
fun_rest-returns-in_err-want-3-clause-parsed t c =
    let p = c.args.self.now in let ts = names c.args.types.now in let es = names c.args.terms.now in
    let o = take_leaves Colon (items c.args.self.now) (items c.take.new.self) _ c.if-branch.false c.in_ok-take.ensures.used in
    let k = take_leaves Below (items c.take.new.self) (items c.take-else-branch.new.self) _ c.if-branch-2.false c.in_ok-take-2.ensures.used in
    let n = refuses_first (the Close) (items c.take-else-branch.new.self) (Ok o.0) o.1 _ (k.4 ∙ o.4 ∙ o.2) c.in_err-want-3.ensures.used in
    λ q. no_row_told fun_rest c.args.depth q p c.want-else-branch-2.new.self (λ v. GivenTerm ts es (nodes p) (nodes c.want-else-branch-2.new.self) (v c.args.byte c.args.name)) _ (Ok o.0) o.1 (same_error _ c.in_err-want-3.field-0.0 c.from_residual-in_err-want-3.ensures.1) o.2
    (chosen_other o.0 o.1 (o.3, (none_there Below o.0 k.0 (items c.take.new.self) o.1 k.1 (o.4 ∙ o.2) k.2 k.3, (none_taken (the Close) o.0 n.0, tt)))) n.1

pub fun_rest-read_term-requires-else-branch-2 : goal.fun_rest-read_term-requires-else-branch-2
fun_rest-read_term-requires-else-branch-2 t c =
    let o = take_leaves Colon (items c.args.self.now) (items c.take.new.self) _ c.if-branch.false c.in_ok-take.ensures.used in
    let k = take_leaves Below (items c.take.new.self) (items c.take-else-branch.new.self) _ c.if-branch-2.false c.in_ok-take-2.ensures.used in
    let a = ap length o.4 in
    let b = ap length k.4 in
    let d = uses_shorter (the Close) tt (items c.take-else-branch.new.self) (items c.want-else-branch-2.new.self) c.in_ok-want-3.ensures.used in
    let n = ap length (names_inside c.args.name c.args.types) in
    (omega (arith, c.decreases, a, b, d), (omega (arith, n, c.requires.binders), omega (arith, c.requires.depth)))

pub fun_rest-returns-in_err-body-3-clause-parsed : goal.fun_rest-returns-in_err-body-3-clause-parsed
fun_rest-returns-in_err-body-3-clause-parsed t c =
    let p = c.args.self.now in let ts = names c.args.types.now in let es = names c.args.terms.now in
    let o = take_leaves Colon (items c.args.self.now) (items c.take.new.self) _ c.if-branch.false c.in_ok-take.ensures.used in
    let k = take_leaves Below (items c.take.new.self) (items c.take-else-branch.new.self) _ c.if-branch-2.false c.in_ok-take-2.ensures.used in
    let w = c.in_ok-want-3.ensures.used in let tree = c.in_ok-want-3.ensures.tree ∙ c.in_ok-take-2.ensures.tree ∙ c.in_ok-take.ensures.tree in
    λ q. told_taken fun_rest c.args.depth q p c.want-else-branch-2.new.self c.read_term-else-branch-2.new.self (λ v. GivenTerm ts es (nodes p) (nodes c.read_term-else-branch-2.new.self) (v c.args.byte c.args.name)) _ Close (w.0, sym (k.4 ∙ o.4) ∙ w.1, w.2) tree (λ b. refl)
    (told_inner_stops (same_error _ c.in_err-body-3.field-0.0 c.from_residual-in_err-body-3.ensures.1) c.in_err-body-3.ensures.parsed)

pub fun_rest-returns-in_ok-body-clause-parsed : goal.fun_rest-returns-in_ok-body-clause-parsed
fun_rest-returns-in_ok-body-clause-parsed t c =
    let p = c.args.self.now in let ts = names c.args.types.now in let es = names c.args.terms.now in
    let u = take_uses Colon (items c.args.self.now) (items c.take.new.self) _ c.if-branch.true c.in_ok-take.ensures.used in
    let A = c.in_ok-domain.ensures.parsed in let b = c.in_ok-body.ensures.parsed in
    let l = laid_at ts ts (nodes c.take.new.self) (nodes p) (nodes c.read_type.new.self) A.0 _ refl (ap held c.in_ok-take.ensures.tree) A.2 in
    let m = laid_term_at ts ts _ (c.args.name ∷ es) (nodes c.want.new.self) (nodes c.read_type.new.self) (nodes c.read_term.new.self) b.0 _ refl (names_inside c.args.name c.args.terms) (ap held c.in_ok-want.ensures.tree) b.2 in
    λ q. told_taken fun_rest c.args.depth q p c.take.new.self c.read_term.new.self (λ v. GivenTerm ts es (nodes p) (nodes c.read_term.new.self) (v c.args.byte c.args.name)) (Ok (FunNode c.args.byte c.in_ok-domain.domain c.in_ok-body.body)) Colon u c.in_ok-take.ensures.tree (λ b. refl)
    (told_inner c.take.new.self c.read_type.new.self c.in_ok-domain.ensures.parsed.1 c.in_ok-domain.ensures.limits
    (told_token (the Close) tt c.read_type.new.self c.want.new.self c.in_ok-want.ensures.used c.in_ok-want.ensures.tree
    (told_inner c.want.new.self c.read_term.new.self c.in_ok-body.ensures.parsed.1 c.in_ok-body.ensures.limits
    (told_done (λ byte x. fun byte x A.0 b.0) _ (given_fun ts es c.args.byte c.args.name (nodes p) (nodes c.read_type.new.self) (nodes c.read_term.new.self) A.0 b.0 _ _ l m)))))

pub fun_rest-returns-in_ok-body-2-clause-parsed : goal.fun_rest-returns-in_ok-body-2-clause-parsed
fun_rest-returns-in_ok-body-2-clause-parsed t c =
    let p = c.args.self.now in let ts = names c.args.types.now in let es = names c.args.terms.now in
    let o = take_leaves Colon (items c.args.self.now) (items c.take.new.self) _ c.if-branch.false c.in_ok-take.ensures.used in
    let w = take_uses Below (items c.take.new.self) (items c.take-else-branch.new.self) _ c.if-branch-2.true c.in_ok-take-2.ensures.used in let tree = c.in_ok-take-2.ensures.tree ∙ c.in_ok-take.ensures.tree in
    let A = c.in_ok-bound.ensures.parsed in let b = c.in_ok-body-2.ensures.parsed in
    let l = laid_at ts ts (nodes c.take-else-branch.new.self) (nodes p) (nodes c.read_type-then-branch-2.new.self) A.0 _ refl (ap held tree) A.2 in
    let m = laid_term_at _ (c.args.name ∷ ts) es es (nodes c.want-then-branch-2.new.self) (nodes c.read_type-then-branch-2.new.self) (nodes c.read_term-then-branch-2.new.self) b.0 _ (names_inside c.args.name c.args.types) refl (ap held c.in_ok-want-2.ensures.tree) b.2 in
    λ q. told_taken fun_rest c.args.depth q p c.take-else-branch.new.self c.read_term-then-branch-2.new.self (λ v. GivenTerm ts es (nodes p) (nodes c.read_term-then-branch-2.new.self) (v c.args.byte c.args.name)) (Ok (Fun2Node c.args.byte c.in_ok-bound.bound c.in_ok-body-2.body)) Below (w.0, sym o.4 ∙ w.1, w.2) tree (λ b. refl)
    (told_inner c.take-else-branch.new.self c.read_type-then-branch-2.new.self c.in_ok-bound.ensures.parsed.1 c.in_ok-bound.ensures.limits
    (told_token (the Close) tt c.read_type-then-branch-2.new.self c.want-then-branch-2.new.self c.in_ok-want-2.ensures.used c.in_ok-want-2.ensures.tree
    (told_inner c.want-then-branch-2.new.self c.read_term-then-branch-2.new.self c.in_ok-body-2.ensures.parsed.1 c.in_ok-body-2.ensures.limits
    (told_done (λ byte x. fun2 byte x A.0 b.0) _ (given_fun2 ts es c.args.byte c.args.name (nodes p) (nodes c.read_type-then-branch-2.new.self) (nodes c.read_term-then-branch-2.new.self) A.0 b.0 _ _ l m)))))

pub fun_rest-returns-in_ok-body-3-clause-parsed : goal.fun_rest-returns-in_ok-body-3-clause-parsed
fun_rest-returns-in_ok-body-3-clause-parsed t c =
    let p = c.args.self.now in let ts = names c.args.types.now in let es = names c.args.terms.now in
    let o = take_leaves Colon (items c.args.self.now) (items c.take.new.self) _ c.if-branch.false c.in_ok-take.ensures.used in
    let k = take_leaves Below (items c.take.new.self) (items c.take-else-branch.new.self) _ c.if-branch-2.false c.in_ok-take-2.ensures.used in
    let w = c.in_ok-want-3.ensures.used in let tree = c.in_ok-want-3.ensures.tree ∙ c.in_ok-take-2.ensures.tree ∙ c.in_ok-take.ensures.tree in
    let b = c.in_ok-body-3.ensures.parsed in
    let m = laid_term_at _ (c.args.name ∷ ts) es es (nodes c.want-else-branch-2.new.self) (nodes p) (nodes c.read_term-else-branch-2.new.self) b.0 _ (names_inside c.args.name c.args.types) refl (ap held tree) b.2 in
    λ q. told_taken fun_rest c.args.depth q p c.want-else-branch-2.new.self c.read_term-else-branch-2.new.self (λ v. GivenTerm ts es (nodes p) (nodes c.read_term-else-branch-2.new.self) (v c.args.byte c.args.name)) (Ok (Fun2UnboundedNode c.args.byte c.count-first.result c.in_ok-body-3.body)) Close (w.0, sym (k.4 ∙ o.4) ∙ w.1, w.2) tree (λ b. refl)
    (told_inner c.want-else-branch-2.new.self c.read_term-else-branch-2.new.self c.in_ok-body-3.ensures.parsed.1 c.in_ok-body-3.ensures.limits
    (told_done (λ byte x. fun2_unbounded byte x b.0) _ (given_fun2_unbounded ts es c.args.byte c.args.name (nodes p) (nodes c.read_term-else-branch-2.new.self) b.0 _ _ (c.count-first.ensures.held ∙ ap (λ x. length (held x)) tree) m)))

pub read_term-returns-in_err-first-clause-parsed : goal.read_term-returns-in_err-first-clause-parsed
read_term-returns-in_err-first-clause-parsed t c =
    let p = c.args.self.now in let ts = names c.args.types.now in let es = names c.args.terms.now in
    looks_fails term c.args.depth _ p p (LaidTerm ts es (nodes p) (nodes p)) _ (same_error _ c.in_err-first.field-0.0 c.from_residual.ensures.1) c.in_err-first.ensures

pub read_term-term_base-requires : goal.read_term-term_base-requires
read_term-term_base-requires t c = (omega (arith, c.decreases), (c.requires.binders, c.requires.depth))

pub read_term-returns-in_err-function-clause-parsed : goal.read_term-returns-in_err-function-clause-parsed
read_term-returns-in_err-function-clause-parsed t c =
    let p = c.args.self.now in let ts = names c.args.types.now in let es = names c.args.terms.now in
    told_row term c.args.depth (next_byte 0 (items p)) p c.term_base.new.self (LaidTerm ts es (nodes p) (nodes c.term_base.new.self)) _ (ap (choose term) c.in_ok-first.ensures.1)
    (told_part_stops (same_error _ c.in_err-function.field-0.0 c.from_residual-in_err-function.ensures.1) c.in_err-function.ensures.parsed)

pub read_term-args-requires : goal.read_term-args-requires
read_term-args-requires t c =
    let a = c.in_ok-function.ensures.shorter in
    (omega (arith, c.decreases, a), (c.requires.binders, c.in_ok-function.ensures.depth))

pub read_term-returns-clause-parsed : goal.read_term-returns-clause-parsed
read_term-returns-clause-parsed t c =
    let p = c.args.self.now in let ts = names c.args.types.now in let es = names c.args.terms.now in let p1 = c.term_base.new.self in let p2 = c.args-2.new.self in
    let b = c.in_ok-function.ensures.parsed in
    told_row term c.args.depth (next_byte 0 (items p)) p p2 (LaidTerm ts es (nodes p) (nodes p2)) c.args-2.result (ap (choose term) c.in_ok-first.ensures.1)
    (told_part p p1 b.1 c.in_ok-function.ensures.limits
    (told_rest p1 p2 (LaidArgs ts es c.in_ok-function.function (nodes p1) (nodes p2)) c.args-2.result c.in_ok-first.field-0.byte (sym (first_byte (items p) c.in_ok-first.field-0 c.in_ok-first.ensures))
    c.args-2.ensures.parsed (λ v n h. h (nodes p) b.0 b.2)))

pub rec_term-returns-in_err-want-clause-parsed : goal.rec_term-returns-in_err-want-clause-parsed
rec_term-returns-in_err-want-clause-parsed t c =
    let p = c.args.self.now in let ts = names c.args.types.now in let es = names c.args.terms.now in
    told_symbols term_base c.args.depth c.args.byte behind_rec (rec_term c.args.byte) p c.want.new.self (LaidTerm ts es (nodes p) (nodes c.want.new.self)) _
    (told_refused (same_error _ c.in_err-want.field-0.0 c.from_residual.ensures.1) c.in_err-want.ensures.used)

pub rec_term-returns-in_err-name-clause-parsed : goal.rec_term-returns-in_err-name-clause-parsed
rec_term-returns-in_err-name-clause-parsed t c =
    let p = c.args.self.now in let ts = names c.args.types.now in let es = names c.args.terms.now in
    told_symbols term_base c.args.depth c.args.byte behind_rec (rec_term c.args.byte) p c.name.new.self (LaidTerm ts es (nodes p) (nodes c.name.new.self)) _
    (told_token (the Open) tt p c.want.new.self c.in_ok-want.ensures.used c.in_ok-want.ensures.tree
    (told_refused (same_error _ c.in_err-name.field-0.0 c.from_residual-in_err-name.ensures.1) c.in_err-name.ensures.used))

pub rec_term-returns-in_err-want-2-clause-parsed : goal.rec_term-returns-in_err-want-2-clause-parsed
rec_term-returns-in_err-want-2-clause-parsed t c =
    let p = c.args.self.now in let ts = names c.args.types.now in let es = names c.args.terms.now in
    told_symbols term_base c.args.depth c.args.byte behind_rec (rec_term c.args.byte) p c.want-2.new.self (LaidTerm ts es (nodes p) (nodes c.want-2.new.self)) _
    (told_token (the Open) tt p c.want.new.self c.in_ok-want.ensures.used c.in_ok-want.ensures.tree
    (told_token a_name c.in_ok-name.name c.want.new.self c.name.new.self c.in_ok-name.ensures.used c.in_ok-name.ensures.tree
    (told_refused (same_error _ c.in_err-want-2.field-0.0 c.from_residual-in_err-want-2.ensures.1) c.in_err-want-2.ensures.used)))

pub rec_term-returns-in_err-domain-clause-parsed : goal.rec_term-returns-in_err-domain-clause-parsed
rec_term-returns-in_err-domain-clause-parsed t c =
    let p = c.args.self.now in let ts = names c.args.types.now in let es = names c.args.terms.now in
    told_symbols term_base c.args.depth c.args.byte behind_rec (rec_term c.args.byte) p c.read_type.new.self (LaidTerm ts es (nodes p) (nodes c.read_type.new.self)) _
    (told_token (the Open) tt p c.want.new.self c.in_ok-want.ensures.used c.in_ok-want.ensures.tree
    (told_token a_name c.in_ok-name.name c.want.new.self c.name.new.self c.in_ok-name.ensures.used c.in_ok-name.ensures.tree
    (told_token (the Colon) tt c.name.new.self c.want-2.new.self c.in_ok-want-2.ensures.used c.in_ok-want-2.ensures.tree
    (told_inner_stops (same_error _ c.in_err-domain.field-0.0 c.from_residual-in_err-domain.ensures.1) c.in_err-domain.ensures.parsed))))

pub rec_term-returns-in_err-want-3-clause-parsed : goal.rec_term-returns-in_err-want-3-clause-parsed
rec_term-returns-in_err-want-3-clause-parsed t c =
    let p = c.args.self.now in let ts = names c.args.types.now in let es = names c.args.terms.now in
    told_symbols term_base c.args.depth c.args.byte behind_rec (rec_term c.args.byte) p c.want-3.new.self (LaidTerm ts es (nodes p) (nodes c.want-3.new.self)) _
    (told_token (the Open) tt p c.want.new.self c.in_ok-want.ensures.used c.in_ok-want.ensures.tree
    (told_token a_name c.in_ok-name.name c.want.new.self c.name.new.self c.in_ok-name.ensures.used c.in_ok-name.ensures.tree
    (told_token (the Colon) tt c.name.new.self c.want-2.new.self c.in_ok-want-2.ensures.used c.in_ok-want-2.ensures.tree
    (told_inner c.want-2.new.self c.read_type.new.self c.in_ok-domain.ensures.parsed.1 c.in_ok-domain.ensures.limits
    (told_refused (same_error _ c.in_err-want-3.field-0.0 c.from_residual-in_err-want-3.ensures.1) c.in_err-want-3.ensures.used)))))

pub rec_term-read_term-requires : goal.rec_term-read_term-requires
rec_term-read_term-requires t c =
    let a = uses_shorter (the Open) tt (items c.args.self.now) (items c.want.new.self) c.in_ok-want.ensures.used in
    let b = uses_shorter a_name c.in_ok-name.name (items c.want.new.self) (items c.name.new.self) c.in_ok-name.ensures.used in
    let d = uses_shorter (the Colon) tt (items c.name.new.self) (items c.want-2.new.self) c.in_ok-want-2.ensures.used in
    let e = c.in_ok-domain.ensures.shorter in
    let f = uses_shorter (the Close) tt (items c.read_type.new.self) (items c.want-3.new.self) c.in_ok-want-3.ensures.used in
    let n = ap length (names_inside c.in_ok-name.name c.args.terms) in
    (omega (arith, c.decreases, a, b, d, e, f), (omega (arith, n, c.requires.binders), omega (arith, c.requires.depth)))

pub rec_term-returns-in_err-body-clause-parsed : goal.rec_term-returns-in_err-body-clause-parsed
rec_term-returns-in_err-body-clause-parsed t c =
    let p = c.args.self.now in let ts = names c.args.types.now in let es = names c.args.terms.now in
    told_symbols term_base c.args.depth c.args.byte behind_rec (rec_term c.args.byte) p c.read_term.new.self (LaidTerm ts es (nodes p) (nodes c.read_term.new.self)) _
    (told_token (the Open) tt p c.want.new.self c.in_ok-want.ensures.used c.in_ok-want.ensures.tree
    (told_token a_name c.in_ok-name.name c.want.new.self c.name.new.self c.in_ok-name.ensures.used c.in_ok-name.ensures.tree
    (told_token (the Colon) tt c.name.new.self c.want-2.new.self c.in_ok-want-2.ensures.used c.in_ok-want-2.ensures.tree
    (told_inner c.want-2.new.self c.read_type.new.self c.in_ok-domain.ensures.parsed.1 c.in_ok-domain.ensures.limits
    (told_token (the Close) tt c.read_type.new.self c.want-3.new.self c.in_ok-want-3.ensures.used c.in_ok-want-3.ensures.tree
    (told_inner_stops (same_error _ c.in_err-body.field-0.0 c.from_residual-in_err-body.ensures.1) c.in_err-body.ensures.parsed))))))

pub rec_term-returns-clause-parsed : goal.rec_term-returns-clause-parsed
rec_term-returns-clause-parsed t c =
    let p = c.args.self.now in let ts = names c.args.types.now in let es = names c.args.terms.now in
    let A = c.in_ok-domain.ensures.parsed in let b = c.in_ok-body.ensures.parsed in
    let l = laid_at ts ts (nodes c.want-2.new.self) (nodes p) (nodes c.read_type.new.self) A.0 _ refl (ap held (c.in_ok-want-2.ensures.tree ∙ c.in_ok-name.ensures.tree ∙ c.in_ok-want.ensures.tree)) A.2 in
    let m = laid_term_at ts ts _ (c.in_ok-name.name ∷ es) (nodes c.want-3.new.self) (nodes c.read_type.new.self) (nodes c.read_term.new.self) b.0 _ refl (names_inside c.in_ok-name.name c.args.terms) (ap held c.in_ok-want-3.ensures.tree) b.2 in
    let node = given_rec ts es c.args.byte c.in_ok-name.name (nodes p) (nodes c.read_type.new.self) (nodes c.read_term.new.self) A.0 b.0 _ _ l m in
    told_symbols term_base c.args.depth c.args.byte behind_rec (rec_term c.args.byte) p c.whole.new.self (LaidTerm ts es (nodes p) (nodes c.whole.new.self)) _
    (told_token (the Open) tt p c.want.new.self c.in_ok-want.ensures.used c.in_ok-want.ensures.tree
    (told_token a_name c.in_ok-name.name c.want.new.self c.name.new.self c.in_ok-name.ensures.used c.in_ok-name.ensures.tree
    (told_token (the Colon) tt c.name.new.self c.want-2.new.self c.in_ok-want-2.ensures.used c.in_ok-want-2.ensures.tree
    (told_inner c.want-2.new.self c.read_type.new.self c.in_ok-domain.ensures.parsed.1 c.in_ok-domain.ensures.limits
    (told_token (the Close) tt c.read_type.new.self c.want-3.new.self c.in_ok-want-3.ensures.used c.in_ok-want-3.ensures.tree
    (told_inner c.want-3.new.self c.read_term.new.self c.in_ok-body.ensures.parsed.1 c.in_ok-body.ensures.limits
    (told_term ts es (nodes p) c.read_term.new.self c.read_term.new.self c.whole.new.self _ _ c.args.byte refl refl node c.whole.ensures.laid c.whole.ensures.tokens c.whole.ensures.limits)))))))

pub term_base-returns-in_err-token-clause-parsed : goal.term_base-returns-in_err-token-clause-parsed
term_base-returns-in_err-token-clause-parsed t c =
    let p = c.args.self.now in let ts = names c.args.types.now in let es = names c.args.terms.now in
    looks_fails term_base c.args.depth _ p p (LaidTerm ts es (nodes p) (nodes p)) _ (same_error _ c.in_err-token.field-0.0 c.from_residual.ensures.1) c.in_err-token.ensures

pub term_base-returns-in_err-begin-in-TopTerm-clause-parsed : goal.term_base-returns-in_err-begin-in-TopTerm-clause-parsed
term_base-returns-in_err-begin-in-TopTerm-clause-parsed t c =
    let p = c.args.self.now in let ts = names c.args.types.now in let es = names c.args.terms.now in let s = c.in_ok-token.token in let h = c.in_ok-token.ensures in
    let p1 : Parser = record { tokens = c.advance.new.self; tree = p.tree } in let i = sym (first_byte (items p) s h) in
    told_first term_base c.in_ok-token.token.byte c.args.depth (next_byte 0 (items p)) p p1 (LaidTerm ts es (nodes p) (nodes p1)) _ TopTerm s c.advance.new.self h c.in-TopTerm.is refl c.advance.ensures (λ b. refl) (is_at s c.in-TopTerm.is)
    (told_too_deep s.byte i (same_error _ c.in_err-begin-in-TopTerm.field-0.0 c.from_residual-in_err-begin-in-TopTerm.ensures.1) c.in_err-begin-in-TopTerm.ensures)

pub term_base-returns-in_err-begin-in-Name-clause-parsed : goal.term_base-returns-in_err-begin-in-Name-clause-parsed
term_base-returns-in_err-begin-in-Name-clause-parsed t c =
    let p = c.args.self.now in let ts = names c.args.types.now in let es = names c.args.terms.now in let s = c.in_ok-token.token in let h = c.in_ok-token.ensures in
    let p1 : Parser = record { tokens = c.advance-in-Name.new.self; tree = p.tree } in let i = sym (first_byte (items p) s h) in
    told_first term_base (c.in_ok-token.token.byte, c.in-Name.name) c.args.depth (next_byte 0 (items p)) p p1 (LaidTerm ts es (nodes p) (nodes p1)) _ (Named c.in-Name.name) s c.advance-in-Name.new.self h c.in-Name.is refl c.advance-in-Name.ensures (λ b. refl) (is_name_at s c.in-Name.is)
    (told_too_deep s.byte i (same_error _ c.in_err-begin-in-Name.field-0.0 c.from_residual-in_err-begin-in-Name.ensures.1) c.in_err-begin-in-Name.ensures)

pub term_base-returns-in_err-begin-in-Fun-clause-parsed : goal.term_base-returns-in_err-begin-in-Fun-clause-parsed
term_base-returns-in_err-begin-in-Fun-clause-parsed t c =
    let p = c.args.self.now in let ts = names c.args.types.now in let es = names c.args.terms.now in let s = c.in_ok-token.token in let h = c.in_ok-token.ensures in
    let p1 : Parser = record { tokens = c.advance-in-Fun.new.self; tree = p.tree } in let i = sym (first_byte (items p) s h) in
    told_first term_base c.in_ok-token.token.byte c.args.depth (next_byte 0 (items p)) p p1 (LaidTerm ts es (nodes p) (nodes p1)) _ Fun s c.advance-in-Fun.new.self h c.in-Fun.is refl c.advance-in-Fun.ensures (λ b. refl) (is_at s c.in-Fun.is)
    (told_too_deep s.byte i (same_error _ c.in_err-begin-in-Fun.field-0.0 c.from_residual-in_err-begin-in-Fun.ensures.1) c.in_err-begin-in-Fun.ensures)

pub term_base-returns-in_err-want-in-Fun-clause-parsed : goal.term_base-returns-in_err-want-in-Fun-clause-parsed
term_base-returns-in_err-want-in-Fun-clause-parsed t c =
    let p = c.args.self.now in let ts = names c.args.types.now in let es = names c.args.terms.now in let s = c.in_ok-token.token in let h = c.in_ok-token.ensures in
    let p1 : Parser = record { tokens = c.advance-in-Fun.new.self; tree = p.tree } in let i = sym (first_byte (items p) s h) in
    told_first term_base c.in_ok-token.token.byte c.args.depth (next_byte 0 (items p)) p c.want.new.self (LaidTerm ts es (nodes p) (nodes c.want.new.self)) _ Fun s c.advance-in-Fun.new.self h c.in-Fun.is refl c.advance-in-Fun.ensures (λ b. refl) (is_at s c.in-Fun.is)
    (told_begin c.in_ok-begin-in-Fun.ensures
    (told_refused (same_error _ c.in_err-want-in-Fun.field-0.0 c.from_residual-in_err-want-in-Fun.ensures.1) c.in_err-want-in-Fun.ensures.used))

pub term_base-returns-in_err-name-in-Fun-clause-parsed : goal.term_base-returns-in_err-name-in-Fun-clause-parsed
term_base-returns-in_err-name-in-Fun-clause-parsed t c =
    let p = c.args.self.now in let ts = names c.args.types.now in let es = names c.args.terms.now in let s = c.in_ok-token.token in let h = c.in_ok-token.ensures in
    let p1 : Parser = record { tokens = c.advance-in-Fun.new.self; tree = p.tree } in let i = sym (first_byte (items p) s h) in
    told_first term_base c.in_ok-token.token.byte c.args.depth (next_byte 0 (items p)) p c.name.new.self (LaidTerm ts es (nodes p) (nodes c.name.new.self)) _ Fun s c.advance-in-Fun.new.self h c.in-Fun.is refl c.advance-in-Fun.ensures (λ b. refl) (is_at s c.in-Fun.is)
    (told_begin c.in_ok-begin-in-Fun.ensures
    (told_token (the Open) tt p1 c.want.new.self c.in_ok-want-in-Fun.ensures.used c.in_ok-want-in-Fun.ensures.tree
    (told_refused (same_error _ c.in_err-name-in-Fun.field-0.0 c.from_residual-in_err-name-in-Fun.ensures.1) c.in_err-name-in-Fun.ensures.used)))

pub term_base-fun_rest-requires : goal.term_base-fun_rest-requires
term_base-fun_rest-requires t c =
    let u = uses_looked (at Fun) c.in_ok-token.token.byte c.in_ok-token.token (items c.args.self.now) (to_come c.advance-in-Fun.new.self) c.in_ok-token.ensures c.advance-in-Fun.ensures (ap ends c.in-Fun.is) (is_at c.in_ok-token.token c.in-Fun.is) in
    let a = uses_shorter (at Fun) c.in_ok-token.token.byte (items c.args.self.now) (to_come c.advance-in-Fun.new.self) u in
    let b = uses_shorter (the Open) tt (to_come c.advance-in-Fun.new.self) (items c.want.new.self) c.in_ok-want-in-Fun.ensures.used in
    let d = uses_shorter a_name c.in_ok-name-in-Fun.name (items c.want.new.self) (items c.name.new.self) c.in_ok-name-in-Fun.ensures.used in
    (omega (arith, c.decreases, a, b, d), (c.requires.binders, c.in_ok-begin-in-Fun.ensures))

pub term_base-returns-in_err-node-in-Fun-clause-parsed : goal.term_base-returns-in_err-node-in-Fun-clause-parsed
term_base-returns-in_err-node-in-Fun-clause-parsed t c =
    let p = c.args.self.now in let ts = names c.args.types.now in let es = names c.args.terms.now in let s = c.in_ok-token.token in let h = c.in_ok-token.ensures in
    let p1 : Parser = record { tokens = c.advance-in-Fun.new.self; tree = p.tree } in let i = sym (first_byte (items p) s h) in
    told_first term_base c.in_ok-token.token.byte c.args.depth (next_byte 0 (items p)) p c.fun_rest.new.self (LaidTerm ts es (nodes p) (nodes c.fun_rest.new.self)) _ Fun s c.advance-in-Fun.new.self h c.in-Fun.is refl c.advance-in-Fun.ensures (λ b. refl) (is_at s c.in-Fun.is)
    (told_begin c.in_ok-begin-in-Fun.ensures
    (told_token (the Open) tt p1 c.want.new.self c.in_ok-want-in-Fun.ensures.used c.in_ok-want-in-Fun.ensures.tree
    (told_token a_name c.in_ok-name-in-Fun.name c.want.new.self c.name.new.self c.in_ok-name-in-Fun.ensures.used c.in_ok-name-in-Fun.ensures.tree
    (told_part_stops (same_error _ c.in_err-node-in-Fun.field-0.0 c.from_residual-in_err-node-in-Fun.ensures.1) (c.in_err-node-in-Fun.ensures.parsed (next_byte 0 (items p)))))))

pub term_base-returns-in_err-begin-in-Fold-clause-parsed : goal.term_base-returns-in_err-begin-in-Fold-clause-parsed
term_base-returns-in_err-begin-in-Fold-clause-parsed t c =
    let p = c.args.self.now in let ts = names c.args.types.now in let es = names c.args.terms.now in let s = c.in_ok-token.token in let h = c.in_ok-token.ensures in
    let p1 : Parser = record { tokens = c.advance-in-Fold.new.self; tree = p.tree } in let i = sym (first_byte (items p) s h) in
    told_first term_base c.in_ok-token.token.byte c.args.depth (next_byte 0 (items p)) p p1 (LaidTerm ts es (nodes p) (nodes p1)) _ Fold s c.advance-in-Fold.new.self h c.in-Fold.is refl c.advance-in-Fold.ensures (λ b. refl) (is_at s c.in-Fold.is)
    (told_too_deep s.byte i (same_error _ c.in_err-begin-in-Fold.field-0.0 c.from_residual-in_err-begin-in-Fold.ensures.1) c.in_err-begin-in-Fold.ensures)

pub term_base-fold-requires : goal.term_base-fold-requires
term_base-fold-requires t c =
    let u = uses_looked (at Fold) c.in_ok-token.token.byte c.in_ok-token.token (items c.args.self.now) (to_come c.advance-in-Fold.new.self) c.in_ok-token.ensures c.advance-in-Fold.ensures (ap ends c.in-Fold.is) (is_at c.in_ok-token.token c.in-Fold.is) in
    let a = uses_shorter (at Fold) c.in_ok-token.token.byte (items c.args.self.now) (to_come c.advance-in-Fold.new.self) u in
    (omega (arith, c.decreases, a), (c.requires.binders, c.in_ok-begin-in-Fold.ensures))

pub term_base-returns-in_err-begin-in-Unfold-clause-parsed : goal.term_base-returns-in_err-begin-in-Unfold-clause-parsed
term_base-returns-in_err-begin-in-Unfold-clause-parsed t c =
    let p = c.args.self.now in let ts = names c.args.types.now in let es = names c.args.terms.now in let s = c.in_ok-token.token in let h = c.in_ok-token.ensures in
    let p1 : Parser = record { tokens = c.advance-in-Unfold.new.self; tree = p.tree } in let i = sym (first_byte (items p) s h) in
    told_first term_base c.in_ok-token.token.byte c.args.depth (next_byte 0 (items p)) p p1 (LaidTerm ts es (nodes p) (nodes p1)) _ Unfold s c.advance-in-Unfold.new.self h c.in-Unfold.is refl c.advance-in-Unfold.ensures (λ b. refl) (is_at s c.in-Unfold.is)
    (told_too_deep s.byte i (same_error _ c.in_err-begin-in-Unfold.field-0.0 c.from_residual-in_err-begin-in-Unfold.ensures.1) c.in_err-begin-in-Unfold.ensures)

pub term_base-returns-in_err-want-in-Unfold-clause-parsed : goal.term_base-returns-in_err-want-in-Unfold-clause-parsed
term_base-returns-in_err-want-in-Unfold-clause-parsed t c =
    let p = c.args.self.now in let ts = names c.args.types.now in let es = names c.args.terms.now in let s = c.in_ok-token.token in let h = c.in_ok-token.ensures in
    let p1 : Parser = record { tokens = c.advance-in-Unfold.new.self; tree = p.tree } in let i = sym (first_byte (items p) s h) in
    told_first term_base c.in_ok-token.token.byte c.args.depth (next_byte 0 (items p)) p c.want-in-Unfold.new.self (LaidTerm ts es (nodes p) (nodes c.want-in-Unfold.new.self)) _ Unfold s c.advance-in-Unfold.new.self h c.in-Unfold.is refl c.advance-in-Unfold.ensures (λ b. refl) (is_at s c.in-Unfold.is)
    (told_begin c.in_ok-begin-in-Unfold.ensures
    (told_refused (same_error _ c.in_err-want-in-Unfold.field-0.0 c.from_residual-in_err-want-in-Unfold.ensures.1) c.in_err-want-in-Unfold.ensures.used))

pub term_base-read_term-requires : goal.term_base-read_term-requires
term_base-read_term-requires t c =
    let u = uses_looked (at Unfold) c.in_ok-token.token.byte c.in_ok-token.token (items c.args.self.now) (to_come c.advance-in-Unfold.new.self) c.in_ok-token.ensures c.advance-in-Unfold.ensures (ap ends c.in-Unfold.is) (is_at c.in_ok-token.token c.in-Unfold.is) in
    let a = uses_shorter (at Unfold) c.in_ok-token.token.byte (items c.args.self.now) (to_come c.advance-in-Unfold.new.self) u in
    let b = uses_shorter (the Open) tt (to_come c.advance-in-Unfold.new.self) (items c.want-in-Unfold.new.self) c.in_ok-want-in-Unfold.ensures.used in
    (omega (arith, c.decreases, a, b), (omega (arith, c.requires.binders), omega (arith, c.in_ok-begin-in-Unfold.ensures)))

pub term_base-returns-in_err-argument-in-Unfold-clause-parsed : goal.term_base-returns-in_err-argument-in-Unfold-clause-parsed
term_base-returns-in_err-argument-in-Unfold-clause-parsed t c =
    let p = c.args.self.now in let ts = names c.args.types.now in let es = names c.args.terms.now in let s = c.in_ok-token.token in let h = c.in_ok-token.ensures in
    let p1 : Parser = record { tokens = c.advance-in-Unfold.new.self; tree = p.tree } in let i = sym (first_byte (items p) s h) in
    told_first term_base c.in_ok-token.token.byte c.args.depth (next_byte 0 (items p)) p c.read_term.new.self (LaidTerm ts es (nodes p) (nodes c.read_term.new.self)) _ Unfold s c.advance-in-Unfold.new.self h c.in-Unfold.is refl c.advance-in-Unfold.ensures (λ b. refl) (is_at s c.in-Unfold.is)
    (told_begin c.in_ok-begin-in-Unfold.ensures
    (told_token (the Open) tt p1 c.want-in-Unfold.new.self c.in_ok-want-in-Unfold.ensures.used c.in_ok-want-in-Unfold.ensures.tree
    (told_inner_stops (same_error _ c.in_err-argument-in-Unfold.field-0.0 c.from_residual-in_err-argument-in-Unfold.ensures.1) c.in_err-argument-in-Unfold.ensures.parsed)))

pub term_base-returns-in_err-want-in-Unfold-2-clause-parsed : goal.term_base-returns-in_err-want-in-Unfold-2-clause-parsed
term_base-returns-in_err-want-in-Unfold-2-clause-parsed t c =
    let p = c.args.self.now in let ts = names c.args.types.now in let es = names c.args.terms.now in let s = c.in_ok-token.token in let h = c.in_ok-token.ensures in
    let p1 : Parser = record { tokens = c.advance-in-Unfold.new.self; tree = p.tree } in let i = sym (first_byte (items p) s h) in
    told_first term_base c.in_ok-token.token.byte c.args.depth (next_byte 0 (items p)) p c.want-in-Unfold-2.new.self (LaidTerm ts es (nodes p) (nodes c.want-in-Unfold-2.new.self)) _ Unfold s c.advance-in-Unfold.new.self h c.in-Unfold.is refl c.advance-in-Unfold.ensures (λ b. refl) (is_at s c.in-Unfold.is)
    (told_begin c.in_ok-begin-in-Unfold.ensures
    (told_token (the Open) tt p1 c.want-in-Unfold.new.self c.in_ok-want-in-Unfold.ensures.used c.in_ok-want-in-Unfold.ensures.tree
    (told_inner c.want-in-Unfold.new.self c.read_term.new.self c.in_ok-argument-in-Unfold.ensures.parsed.1 c.in_ok-argument-in-Unfold.ensures.limits
    (told_refused (same_error _ c.in_err-want-in-Unfold-2.field-0.0 c.from_residual-in_err-want-in-Unfold-2.ensures.1) c.in_err-want-in-Unfold-2.ensures.used))))

pub term_base-returns-in_err-begin-in-RecTerm-clause-parsed : goal.term_base-returns-in_err-begin-in-RecTerm-clause-parsed
term_base-returns-in_err-begin-in-RecTerm-clause-parsed t c =
    let p = c.args.self.now in let ts = names c.args.types.now in let es = names c.args.terms.now in let s = c.in_ok-token.token in let h = c.in_ok-token.ensures in
    let p1 : Parser = record { tokens = c.advance-in-RecTerm.new.self; tree = p.tree } in let i = sym (first_byte (items p) s h) in
    told_first term_base c.in_ok-token.token.byte c.args.depth (next_byte 0 (items p)) p p1 (LaidTerm ts es (nodes p) (nodes p1)) _ RecTerm s c.advance-in-RecTerm.new.self h c.in-RecTerm.is refl c.advance-in-RecTerm.ensures (λ b. refl) (is_at s c.in-RecTerm.is)
    (told_too_deep s.byte i (same_error _ c.in_err-begin-in-RecTerm.field-0.0 c.from_residual-in_err-begin-in-RecTerm.ensures.1) c.in_err-begin-in-RecTerm.ensures)

pub term_base-rec_term-requires : goal.term_base-rec_term-requires
term_base-rec_term-requires t c =
    let u = uses_looked (at RecTerm) c.in_ok-token.token.byte c.in_ok-token.token (items c.args.self.now) (to_come c.advance-in-RecTerm.new.self) c.in_ok-token.ensures c.advance-in-RecTerm.ensures (ap ends c.in-RecTerm.is) (is_at c.in_ok-token.token c.in-RecTerm.is) in
    let a = uses_shorter (at RecTerm) c.in_ok-token.token.byte (items c.args.self.now) (to_come c.advance-in-RecTerm.new.self) u in
    (omega (arith, c.decreases, a), (c.requires.binders, c.in_ok-begin-in-RecTerm.ensures))

pub term_base-returns-in_err-begin-in-OpenBrace-clause-parsed : goal.term_base-returns-in_err-begin-in-OpenBrace-clause-parsed
term_base-returns-in_err-begin-in-OpenBrace-clause-parsed t c =
    let p = c.args.self.now in let ts = names c.args.types.now in let es = names c.args.terms.now in let s = c.in_ok-token.token in let h = c.in_ok-token.ensures in
    let p1 : Parser = record { tokens = c.advance-in-OpenBrace.new.self; tree = p.tree } in let i = sym (first_byte (items p) s h) in
    told_first term_base tt c.args.depth (next_byte 0 (items p)) p p1 (LaidTerm ts es (nodes p) (nodes p1)) _ OpenBrace s c.advance-in-OpenBrace.new.self h c.in-OpenBrace.is refl c.advance-in-OpenBrace.ensures (λ b. refl) (is_the s c.in-OpenBrace.is)
    (told_too_deep s.byte i (same_error _ c.in_err-begin-in-OpenBrace.field-0.0 c.from_residual-in_err-begin-in-OpenBrace.ensures.1) c.in_err-begin-in-OpenBrace.ensures)

pub term_base-read_term-requires-in-OpenBrace : goal.term_base-read_term-requires-in-OpenBrace
term_base-read_term-requires-in-OpenBrace t c =
    let u = uses_looked (the OpenBrace) tt c.in_ok-token.token (items c.args.self.now) (to_come c.advance-in-OpenBrace.new.self) c.in_ok-token.ensures c.advance-in-OpenBrace.ensures (ap ends c.in-OpenBrace.is) (is_the c.in_ok-token.token c.in-OpenBrace.is) in
    let a = uses_shorter (the OpenBrace) tt (items c.args.self.now) (to_come c.advance-in-OpenBrace.new.self) u in
    (omega (arith, c.decreases, a), (omega (arith, c.requires.binders), omega (arith, c.in_ok-begin-in-OpenBrace.ensures)))

pub term_base-returns-in_err-inner-in-OpenBrace-clause-parsed : goal.term_base-returns-in_err-inner-in-OpenBrace-clause-parsed
term_base-returns-in_err-inner-in-OpenBrace-clause-parsed t c =
    let p = c.args.self.now in let ts = names c.args.types.now in let es = names c.args.terms.now in let s = c.in_ok-token.token in let h = c.in_ok-token.ensures in
    let p1 : Parser = record { tokens = c.advance-in-OpenBrace.new.self; tree = p.tree } in let i = sym (first_byte (items p) s h) in
    told_first term_base tt c.args.depth (next_byte 0 (items p)) p c.read_term-in-OpenBrace.new.self (LaidTerm ts es (nodes p) (nodes c.read_term-in-OpenBrace.new.self)) _ OpenBrace s c.advance-in-OpenBrace.new.self h c.in-OpenBrace.is refl c.advance-in-OpenBrace.ensures (λ b. refl) (is_the s c.in-OpenBrace.is)
    (told_begin c.in_ok-begin-in-OpenBrace.ensures
    (told_inner_stops (same_error _ c.in_err-inner-in-OpenBrace.field-0.0 c.from_residual-in_err-inner-in-OpenBrace.ensures.1) c.in_err-inner-in-OpenBrace.ensures.parsed))

pub term_base-returns-in_err-want-in-OpenBrace-clause-parsed : goal.term_base-returns-in_err-want-in-OpenBrace-clause-parsed
term_base-returns-in_err-want-in-OpenBrace-clause-parsed t c =
    let p = c.args.self.now in let ts = names c.args.types.now in let es = names c.args.terms.now in let s = c.in_ok-token.token in let h = c.in_ok-token.ensures in
    let p1 : Parser = record { tokens = c.advance-in-OpenBrace.new.self; tree = p.tree } in let i = sym (first_byte (items p) s h) in
    told_first term_base tt c.args.depth (next_byte 0 (items p)) p c.want-in-OpenBrace.new.self (LaidTerm ts es (nodes p) (nodes c.want-in-OpenBrace.new.self)) _ OpenBrace s c.advance-in-OpenBrace.new.self h c.in-OpenBrace.is refl c.advance-in-OpenBrace.ensures (λ b. refl) (is_the s c.in-OpenBrace.is)
    (told_begin c.in_ok-begin-in-OpenBrace.ensures
    (told_inner p1 c.read_term-in-OpenBrace.new.self c.in_ok-inner-in-OpenBrace.ensures.parsed.1 c.in_ok-inner-in-OpenBrace.ensures.limits
    (told_refused (same_error _ c.in_err-want-in-OpenBrace.field-0.0 c.from_residual-in_err-want-in-OpenBrace.ensures.1) c.in_err-want-in-OpenBrace.ensures.used)))

pub term_base-returns-in_ok-begin-in-TopTerm-clause-parsed : goal.term_base-returns-in_ok-begin-in-TopTerm-clause-parsed
term_base-returns-in_ok-begin-in-TopTerm-clause-parsed t c =
    let p = c.args.self.now in let ts = names c.args.types.now in let es = names c.args.terms.now in let s = c.in_ok-token.token in let h = c.in_ok-token.ensures in
    let p1 : Parser = record { tokens = c.advance.new.self; tree = p.tree } in let i = sym (first_byte (items p) s h) in
    told_first term_base c.in_ok-token.token.byte c.args.depth (next_byte 0 (items p)) p c.whole.new.self (LaidTerm ts es (nodes p) (nodes c.whole.new.self)) _ TopTerm s c.advance.new.self h c.in-TopTerm.is refl c.advance.ensures (λ b. refl) (is_at s c.in-TopTerm.is)
    (told_begin c.in_ok-begin-in-TopTerm.ensures
    (told_term ts es (nodes p) p1 p1 c.whole.new.self (TopTermNode s.byte) _ s.byte i refl refl c.whole.ensures.laid c.whole.ensures.tokens c.whole.ensures.limits))

pub term_base-returns-in_ok-begin-in-Name-clause-parsed : goal.term_base-returns-in_ok-begin-in-Name-clause-parsed
term_base-returns-in_ok-begin-in-Name-clause-parsed t c =
    let p = c.args.self.now in let ts = names c.args.types.now in let es = names c.args.terms.now in let s = c.in_ok-token.token in let h = c.in_ok-token.ensures in
    let p1 : Parser = record { tokens = c.advance-in-Name.new.self; tree = p.tree } in let i = sym (first_byte (items p) s h) in
    told_first term_base (c.in_ok-token.token.byte, c.in-Name.name) c.args.depth (next_byte 0 (items p)) p c.whole-in-Name.new.self (LaidTerm ts es (nodes p) (nodes c.whole-in-Name.new.self)) _ (Named c.in-Name.name) s c.advance-in-Name.new.self h c.in-Name.is refl c.advance-in-Name.ensures (λ b. refl) (is_name_at s c.in-Name.is)
    (told_begin c.in_ok-begin-in-Name.ensures
    (told_term ts es (nodes p) p1 p1 c.whole-in-Name.new.self c.term_name.result _ s.byte i refl (ap (λ x. nodes p ++ x ∷ []) c.term_name.ensures) c.whole-in-Name.ensures.laid c.whole-in-Name.ensures.tokens c.whole-in-Name.ensures.limits))

pub term_base-returns-in_ok-node-in-Fun-clause-parsed : goal.term_base-returns-in_ok-node-in-Fun-clause-parsed
term_base-returns-in_ok-node-in-Fun-clause-parsed t c =
    let p = c.args.self.now in let ts = names c.args.types.now in let es = names c.args.terms.now in let s = c.in_ok-token.token in let h = c.in_ok-token.ensures in
    let p1 : Parser = record { tokens = c.advance-in-Fun.new.self; tree = p.tree } in let i = sym (first_byte (items p) s h) in
    let b = c.in_ok-node-in-Fun.ensures.parsed (next_byte 0 (items p)) in
    let node = subst (λ y. GivenTerm ts es y (nodes c.fun_rest.new.self) (b.0 s.byte c.in_ok-name-in-Fun.name) c.in_ok-node-in-Fun.node) (ap held (c.in_ok-name-in-Fun.ensures.tree ∙ c.in_ok-want-in-Fun.ensures.tree)) b.2 in
    told_first term_base c.in_ok-token.token.byte c.args.depth (next_byte 0 (items p)) p c.whole-in-Fun.new.self (LaidTerm ts es (nodes p) (nodes c.whole-in-Fun.new.self)) _ Fun s c.advance-in-Fun.new.self h c.in-Fun.is refl c.advance-in-Fun.ensures (λ b. refl) (is_at s c.in-Fun.is)
    (told_begin c.in_ok-begin-in-Fun.ensures
    (told_token (the Open) tt p1 c.want.new.self c.in_ok-want-in-Fun.ensures.used c.in_ok-want-in-Fun.ensures.tree
    (told_token a_name c.in_ok-name-in-Fun.name c.want.new.self c.name.new.self c.in_ok-name-in-Fun.ensures.used c.in_ok-name-in-Fun.ensures.tree
    (told_part c.name.new.self c.fun_rest.new.self (c.in_ok-node-in-Fun.ensures.parsed (next_byte 0 (items p))).1 c.in_ok-node-in-Fun.ensures.limits
    (told_term ts es (nodes p) c.fun_rest.new.self c.fun_rest.new.self c.whole-in-Fun.new.self _ _ s.byte i refl node c.whole-in-Fun.ensures.laid c.whole-in-Fun.ensures.tokens c.whole-in-Fun.ensures.limits)))))

pub term_base-returns-in_ok-begin-in-Fold-clause-parsed : goal.term_base-returns-in_ok-begin-in-Fold-clause-parsed
term_base-returns-in_ok-begin-in-Fold-clause-parsed t c =
    let p = c.args.self.now in let ts = names c.args.types.now in let es = names c.args.terms.now in let s = c.in_ok-token.token in let h = c.in_ok-token.ensures in
    let p1 : Parser = record { tokens = c.advance-in-Fold.new.self; tree = p.tree } in let i = sym (first_byte (items p) s h) in
    told_first term_base c.in_ok-token.token.byte c.args.depth (next_byte 0 (items p)) p c.fold.new.self (LaidTerm ts es (nodes p) (nodes c.fold.new.self)) _ Fold s c.advance-in-Fold.new.self h c.in-Fold.is refl c.advance-in-Fold.ensures (λ b. refl) (is_at s c.in-Fold.is)
    (told_begin c.in_ok-begin-in-Fold.ensures
    (symbols_told term_base c.args.depth (next_byte 0 (items p)) behind_fold (fold_term s.byte) p1 c.fold.new.self (LaidTerm ts es (nodes p) (nodes c.fold.new.self)) c.fold.result s.byte i c.fold.ensures.parsed))

pub term_base-returns-in_ok-want-in-Unfold-2-clause-parsed : goal.term_base-returns-in_ok-want-in-Unfold-2-clause-parsed
term_base-returns-in_ok-want-in-Unfold-2-clause-parsed t c =
    let p = c.args.self.now in let ts = names c.args.types.now in let es = names c.args.terms.now in let s = c.in_ok-token.token in let h = c.in_ok-token.ensures in
    let p1 : Parser = record { tokens = c.advance-in-Unfold.new.self; tree = p.tree } in let i = sym (first_byte (items p) s h) in
    let b = c.in_ok-argument-in-Unfold.ensures.parsed in
    let m = laid_term_at ts ts es es (nodes c.want-in-Unfold.new.self) (nodes p) (nodes c.read_term.new.self) b.0 _ refl refl (ap held c.in_ok-want-in-Unfold.ensures.tree) b.2 in
    let node = given_unfold ts es s.byte (nodes p) (nodes c.read_term.new.self) b.0 _ m in
    told_first term_base c.in_ok-token.token.byte c.args.depth (next_byte 0 (items p)) p c.whole-in-Unfold.new.self (LaidTerm ts es (nodes p) (nodes c.whole-in-Unfold.new.self)) _ Unfold s c.advance-in-Unfold.new.self h c.in-Unfold.is refl c.advance-in-Unfold.ensures (λ b. refl) (is_at s c.in-Unfold.is)
    (told_begin c.in_ok-begin-in-Unfold.ensures
    (told_token (the Open) tt p1 c.want-in-Unfold.new.self c.in_ok-want-in-Unfold.ensures.used c.in_ok-want-in-Unfold.ensures.tree
    (told_inner c.want-in-Unfold.new.self c.read_term.new.self c.in_ok-argument-in-Unfold.ensures.parsed.1 c.in_ok-argument-in-Unfold.ensures.limits
    (told_token (the Close) tt c.read_term.new.self c.want-in-Unfold-2.new.self c.in_ok-want-in-Unfold-2.ensures.used c.in_ok-want-in-Unfold-2.ensures.tree
    (told_term ts es (nodes p) c.read_term.new.self c.want-in-Unfold-2.new.self c.whole-in-Unfold.new.self _ _ s.byte i c.in_ok-want-in-Unfold-2.ensures.tree node c.whole-in-Unfold.ensures.laid c.whole-in-Unfold.ensures.tokens c.whole-in-Unfold.ensures.limits)))))

pub term_base-returns-in_ok-begin-in-RecTerm-clause-parsed : goal.term_base-returns-in_ok-begin-in-RecTerm-clause-parsed
term_base-returns-in_ok-begin-in-RecTerm-clause-parsed t c =
    let p = c.args.self.now in let ts = names c.args.types.now in let es = names c.args.terms.now in let s = c.in_ok-token.token in let h = c.in_ok-token.ensures in
    let p1 : Parser = record { tokens = c.advance-in-RecTerm.new.self; tree = p.tree } in let i = sym (first_byte (items p) s h) in
    told_first term_base c.in_ok-token.token.byte c.args.depth (next_byte 0 (items p)) p c.rec_term.new.self (LaidTerm ts es (nodes p) (nodes c.rec_term.new.self)) _ RecTerm s c.advance-in-RecTerm.new.self h c.in-RecTerm.is refl c.advance-in-RecTerm.ensures (λ b. refl) (is_at s c.in-RecTerm.is)
    (told_begin c.in_ok-begin-in-RecTerm.ensures
    (symbols_told term_base c.args.depth (next_byte 0 (items p)) behind_rec (rec_term s.byte) p1 c.rec_term.new.self (LaidTerm ts es (nodes p) (nodes c.rec_term.new.self)) c.rec_term.result s.byte i c.rec_term.ensures.parsed))

pub term_base-returns-in_ok-want-in-OpenBrace-clause-parsed : goal.term_base-returns-in_ok-want-in-OpenBrace-clause-parsed
term_base-returns-in_ok-want-in-OpenBrace-clause-parsed t c =
    let p = c.args.self.now in let ts = names c.args.types.now in let es = names c.args.terms.now in let s = c.in_ok-token.token in let h = c.in_ok-token.ensures in
    let p1 : Parser = record { tokens = c.advance-in-OpenBrace.new.self; tree = p.tree } in let i = sym (first_byte (items p) s h) in
    let b = c.in_ok-inner-in-OpenBrace.ensures.parsed in
    told_first term_base tt c.args.depth (next_byte 0 (items p)) p c.want-in-OpenBrace.new.self (LaidTerm ts es (nodes p) (nodes c.want-in-OpenBrace.new.self)) (Ok c.in_ok-inner-in-OpenBrace.inner) OpenBrace s c.advance-in-OpenBrace.new.self h c.in-OpenBrace.is refl c.advance-in-OpenBrace.ensures (λ b. refl) (is_the s c.in-OpenBrace.is)
    (told_begin c.in_ok-begin-in-OpenBrace.ensures
    (told_inner p1 c.read_term-in-OpenBrace.new.self c.in_ok-inner-in-OpenBrace.ensures.parsed.1 c.in_ok-inner-in-OpenBrace.ensures.limits
    (told_token (the CloseBrace) tt c.read_term-in-OpenBrace.new.self c.want-in-OpenBrace.new.self c.in_ok-want-in-OpenBrace.ensures.used c.in_ok-want-in-OpenBrace.ensures.tree
    (told_done b.0 _ (subst (λ y. LaidTerm ts es (nodes p) y b.0 c.in_ok-inner-in-OpenBrace.inner) (ap held (sym c.in_ok-want-in-OpenBrace.ensures.tree)) b.2)))))

pub term_base-returns-in_default : goal.term_base-returns-in_default
term_base-returns-in_default t c =
    let p = c.args.self.now in let ts = names c.args.types.now in let es = names c.args.terms.now in let s = c.in_ok-token.token in let h = c.in_ok-token.ensures in
    record {
      parsed =
          no_row_told term_base c.args.depth (next_byte 0 (items p)) p p (LaidTerm ts es (nodes p) (nodes p)) (Err (Unexpected s.byte)) (Ok s) h.0 refl h.1
          (chosen_other s h.0 (
            not_at s c.in_default.not-TopTerm,
            (
              not_name_at s c.in_default.not-Name,
              (
                not_at s c.in_default.not-Fun,
                (
                  not_at s c.in_default.not-Fold,
                  (
                    not_at s c.in_default.not-Unfold,
                    (not_at s c.in_default.not-RecTerm, (not_the s c.in_default.not-OpenBrace, tt)),
                  ),
                ),
              ),
            ),
          )) refl;
      depth = tt;
      limits = refl;
      shorter = tt;
    }
