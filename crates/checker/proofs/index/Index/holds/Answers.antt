use Rattle.std.proofs.Common.{◌≡◌, ◌-◌, get_or, vec_items, vec_len, Decides, sym, refl, ap, ◌∙◌, subst, arith, rules, tests}
use Rattle.checker.proofs.Indexing.{Walk, walk_start, walk_next, not_found, found}
use Rattle.checker.proofs.index.Index.holds.Goals as goal
use Rattle.lines.specs.contracts.line.LinePartialEq.TheImpl.{eq-value}
use Rattle.lines.specs.declared.line.Line.{Line}
use Rattle.std.proofs.lemmas.List.{get_or_read}
use Rattle.std.proofs.lemmas.Bool.{both_ways}

same : (x y : Line) → Decides (eq-value.it x y) (x ≡ y)
same x y = search (rules, tests)

pub loop-m-init : goal.loop-m-init
loop-m-init g c =
    let v = c.args.self.now in let size = vec_len v.heads in let b = c.requires.slot in
    subst (Walk c.args.before.now size c.args.l)
    (ap (λ i. get_or (vec_items v.heads) i 0) (sym b)
    ∙ sym (get_or_read (vec_items v.heads) c.args.slot c.index-m.result.now (omega (arith, c.requires.within, c.requires.index.sized)) c.index-m.ensures 0))
    (walk_start c.args.before.now size (vec_items v.heads) (vec_items v.next) c.args.l c.requires.index (omega (arith, b, c.requires.within)))

pub returns-then-eq : goal.returns-then-eq
returns-then-eq g c = (
  λ _. found c.args.before.now c.loop-m.m (c.loop-m.m - 1) c.args.l (omega (arith, c.loop-m-test.true)) c.loop-m.invariant.within
      (sym c.line.ensures ∙ (same c.line.result c.args.l).0 (sym c.eq.ensures ∙ c.if-eq.true)),
  λ _. refl,
)

pub loop-m-preserved : goal.loop-m-preserved
loop-m-preserved g c =
    let v = c.args.self.now in
    walk_next c.args.before.now (vec_len v.heads) (vec_items v.heads) (vec_items v.next) c.args.l c.requires.index
    c.loop-m.m (c.loop-m.m - 1) c.index-m-in-loop-m.result.now (omega (arith, c.loop-m-test.true))
    (get_or_read (vec_items v.next) (c.loop-m.m - 1) c.index-m-in-loop-m.result.now
    (omega (arith, c.loop-m-test.true, c.loop-m.invariant.within, c.requires.index.linked)) c.index-m-in-loop-m.ensures 0)
    c.loop-m.invariant (λ e. both_ways c.eq.result c.if-eq.false (c.eq.ensures ∙ (same c.line.result c.args.l).1 (c.line.ensures ∙ e)))

pub returns : goal.returns
returns g c = (
  λ t. absurd (both_ways _ refl t),
  λ h. absurd (not_found c.args.before.now (vec_len c.args.self.now.heads) c.args.l c.loop-m.m c.loop-m.invariant (omega (arith, c.loop-m-test.false)) h),
)
