use Rattle.std.proofs.Common.{◌≡◌, length, [], Ok, refl, ap, sym, ◌∙◌, arith}
use Rattle.lexer.specs.Coming.{to_come}
use Rattle.lexer.specs.Items.{ends}
use Rattle.grammar.specs.Notation.{env, a_name}
use Rattle.grammar.specs.Derives.{next_byte, choose}
use Rattle.grammar.proofs.Words.{chosen_other, not_name, is_name}
use Rattle.parser.specs.Parsing.{items, nodes, LaidEnv}
use Rattle.parser.specs.declared.parser.Parser.{Parser}
use Rattle.parser.proofs.Env.{told_binding, told_own_rest}
use Rattle.parser.proofs.PhraseNodes.{laid_none, laid_more}
use Rattle.parser.proofs.Taking.{looks_fails, first_byte, uses_looked, uses_shorter}
use Rattle.parser.proofs.Told.{told_row, told_done, told_part, told_part_stops, told_full, told_whole, same_error}
use Rattle.parser.proofs.parser.Parser.env.Goals as goal

pub loop-token-init : goal.loop-token-init
loop-token-init c = record { limits = refl; shorter = omega arith; rest = λ new r z. z }

pub returns-in_err-token-clause-parsed : goal.returns-in_err-token-clause-parsed
returns-in_err-token-clause-parsed c =
    let p = c.loop-token.self in
    c.loop-token.invariant.rest p _
    (looks_fails env 0 (next_byte 0 (items p)) p p (λ v _. LaidEnv (nodes p) (nodes p) v) _ (same_error _ c.in_err-token.field-0.0 c.from_residual.ensures.1) c.in_err-token.ensures)

pub returns-in_err-token-clause-limits : goal.returns-in_err-token-clause-limits
returns-in_err-token-clause-limits c = c.loop-token.invariant.limits

pub returns-in_default : goal.returns-in_default
returns-in_default c =
    let p = c.loop-token.self in
    let s = c.in_ok-token.token in
    let h = c.in_ok-token.ensures in
    record {
      parsed = c.loop-token.invariant.rest p (Ok tt)
          (told_row env 0 (next_byte 0 (items p)) p p (λ v _. LaidEnv (nodes p) (nodes p) v) (Ok tt)
          (ap (choose env) h.1 ∙ chosen_other s h.0 (not_name s c.in_default.not-Name, tt)) (told_done [] (tt {0}) (laid_none (nodes p))));
      limits = c.loop-token.invariant.limits;
      shorter = c.loop-token.invariant.shorter;
    }

pub returns-in_err-binding-clause-parsed : goal.returns-in_err-binding-clause-parsed
returns-in_err-binding-clause-parsed c =
    let p = c.loop-token.self in let p2 = c.binding_rest.new.self in
    c.loop-token.invariant.rest p2 _
    (told_binding p p2 c.in-Name.name c.in_ok-token.token c.advance.new.self _ c.in_ok-token.ensures c.in-Name.is c.advance.ensures
    (told_part_stops (same_error _ c.in_err-binding.field-0.0 c.from_residual-in_err-binding.ensures.1) (c.in_err-binding.ensures.parsed (next_byte 0 (items p)))))

pub returns-in_err-binding-clause-limits : goal.returns-in_err-binding-clause-limits
returns-in_err-binding-clause-limits c = c.in_err-binding.ensures.limits ∙ c.loop-token.invariant.limits

pub returns-in_err-whole-clause-parsed : goal.returns-in_err-whole-clause-parsed
returns-in_err-whole-clause-parsed c =
    let p = c.loop-token.self in let q = next_byte 0 (items p) in let s = c.in_ok-token.token in
    let p1 : Parser = record { tokens = c.advance.new.self; tree = p.tree } in
    let p2 = c.binding_rest.new.self in let p3 = c.whole.new.self in
    c.loop-token.invariant.rest p3 _
    (told_binding p p3 c.in-Name.name s c.advance.new.self _ c.in_ok-token.ensures c.in-Name.is c.advance.ensures
    (told_part p1 p2 (c.in_ok-binding.ensures.parsed q).1 c.in_ok-binding.ensures.limits
    (told_full s.byte (sym (first_byte (items p) s c.in_ok-token.ensures)) (same_error _ c.in_err-whole.field-0.0 c.from_residual-in_err-whole.ensures.1)
    c.in_err-whole.ensures.laid)))

pub returns-in_err-whole-clause-limits : goal.returns-in_err-whole-clause-limits
returns-in_err-whole-clause-limits c = c.in_err-whole.ensures.limits ∙ c.in_ok-binding.ensures.limits ∙ c.loop-token.invariant.limits

pub loop-token-smaller : goal.loop-token-smaller
loop-token-smaller c =
    let p = c.loop-token.self in let s = c.in_ok-token.token in
    let used_one = uses_shorter a_name c.in-Name.name (items p) (to_come c.advance.new.self)
    (uses_looked a_name c.in-Name.name s (items p) (to_come c.advance.new.self) c.in_ok-token.ensures c.advance.ensures (ap ends c.in-Name.is) (is_name s c.in-Name.is)) in
    let same : length (items c.whole.new.self) ≡ length (items c.binding_rest.new.self) = ap (λ t. length (to_come t)) c.in_ok-whole.ensures.tokens in
    omega (arith, used_one, same, c.in_ok-binding.ensures.shorter)

pub loop-token-preserved : goal.loop-token-preserved
loop-token-preserved c =
    let p = c.loop-token.self in let q = next_byte 0 (items p) in let s = c.in_ok-token.token in
    let p1 : Parser = record { tokens = c.advance.new.self; tree = p.tree } in
    let p2 = c.binding_rest.new.self in let p3 = c.whole.new.self in
    let b = c.in_ok-binding.ensures.parsed q in
    let used_one = uses_shorter a_name c.in-Name.name (items p) (to_come c.advance.new.self)
    (uses_looked a_name c.in-Name.name s (items p) (to_come c.advance.new.self) c.in_ok-token.ensures c.advance.ensures (ap ends c.in-Name.is) (is_name s c.in-Name.is)) in
    let same : length (items p3) ≡ length (items p2) = ap (λ t. length (to_come t)) c.in_ok-whole.ensures.tokens in
    record {
      limits = c.in_ok-whole.ensures.limits ∙ c.in_ok-binding.ensures.limits ∙ c.loop-token.invariant.limits;
      shorter = omega (arith, used_one, same, c.in_ok-binding.ensures.shorter, c.loop-token.invariant.shorter);
      rest = λ new r z. c.loop-token.invariant.rest new r
          (told_binding p new c.in-Name.name s c.advance.new.self r c.in_ok-token.ensures c.in-Name.is c.advance.ensures
          (told_part p1 p2 b.1 c.in_ok-binding.ensures.limits
          (told_whole p2 p3 c.in_ok-whole.field-0 c.in_ok-binding.binding c.in_ok-whole.ensures.laid c.in_ok-whole.ensures.tokens c.in_ok-whole.ensures.limits
          (told_own_rest p3 new (λ v _. LaidEnv (nodes p3) (nodes new) v) r z
          (λ E x h. laid_more (nodes p) (nodes p2) (nodes p3) (nodes new) (b.0 c.in-Name.name) c.in_ok-binding.binding E b.2 c.in_ok-whole.ensures.laid.2 h)))));
    }
