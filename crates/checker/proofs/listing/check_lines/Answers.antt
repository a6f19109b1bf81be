use Rattle.std.proofs.Common.{◌++◌, ◌∷◌, [], take, length, ◌<◌, add-one, None, Some, sym, ap, ◌∙◌, subst, arith}
use Rattle.checker.proofs.Verdicts.{first_fault, still_sound, still_tracked}
use Rattle.checker.proofs.Sounds.{take_next}
use Rattle.checker.proofs.Walks.{line_read}
use Rattle.checker.proofs.listing.check_lines.Goals as goal
use Rattle.checker.specs.Checked.{Tested}
use Rattle.checker.specs.Seen.{Holds}

pub returns-in-Err : goal.returns-in-Err
returns-in-Err g c =
    let lines = g.S.LineStore.lines c.args.store.now in let n = c.loop-n.n in let l = c.unwrap_or_default-l.result in let s = c.loop-n.session in
    let here = line_read lines n c.get.result _ l (omega (arith, c.count-count.ensures)) c.get.ensures c.unwrap_or_default-l.ensures in
    first_fault g.Q.Quantifier.rule lines n s.latest s.env l here c.loop-n.invariant.0 c.loop-n.invariant.1 c.in-Err.cause
    (subst (λ xs. Tested g.Q.Quantifier.rule xs s.latest s.env l (Some c.in-Err.cause)) c.new-before.ensures c.in-Err.ensures.tested)

pub loop-n-preserved : goal.loop-n-preserved
loop-n-preserved g c =
    let lines = g.S.LineStore.lines c.args.store.now in let n = c.loop-n.n in let l = c.unwrap_or_default-l.result in let s = c.loop-n.session in
    let R = g.Q.Quantifier.rule in let after = c.after-session in
    let less : n < length lines = omega (arith, c.count-count.ensures) in
    let here = line_read lines n c.get.result _ l less c.get.ensures c.unwrap_or_default-l.ensures in
    let passed = subst (λ xs. Tested R xs s.latest s.env l None) c.new-before.ensures c.in_default.ensures.tested in (
      still_sound R lines n s.latest s.env l here c.loop-n.invariant.0 c.loop-n.invariant.1 passed,
      still_tracked R lines n s.latest s.env l here c.loop-n.invariant.0 c.loop-n.invariant.1 passed after.result.latest after.result.env
          after.ensures.latest after.ensures.env,
      subst (Holds c.test.new.seen) (ap (λ xs. xs ++ l ∷ []) c.new-before.ensures ∙ sym (ap (λ k. take k lines) (add-one n) ∙ take_next lines n l here)) c.in_default.ensures.seen,
    )
