use Rattle.std.proofs.Common.{◌≡◌, ◌+◌, ◌≤◌, ℕ, cond, leb, List, ◌∷◌, ap, ◌∙◌, arith}
use Rattle.lines.specs.declared.line.Line.{Line}
use Rattle.std.proofs.lemmas.Bool.{and_from, le-leb}
use Rattle.std.proofs.lemmas.List.Sums.{count_by-le-length, sum_by-cons}
use Rattle.report.proofs.tally.Tally.of.Goals as goal
use Rattle.report.specs.Verdicts.{between, coded_between}

-- one that is still to come
one_more : (low high : ℕ) (l : Line) (ls : List Line) → low ≤ l.code → l.code ≤ high → coded_between low high (l ∷ ls) ≡ 1 + coded_between low high ls
one_more low high l ls h k =
    sum_by-cons (λ x. cond (between low high x.code) 1 0) l ls
    ∙ ap (λ b. cond b 1 0 + coded_between low high ls) (and_from (leb low l.code) (leb l.code high) (le-leb low l.code h) (le-leb l.code high k))

pub overflow_add-tally : goal.overflow_add-tally
overflow_add-tally g c =
    let store = c.args.store.now in
    let s = ap (coded_between 50 79) c.in-Some.ensures.steps ∙ one_more 50 79 c.in-Some.line c.next.new.self (omega arith) (omega arith) in
    omega (arith, s, count_by-le-length (λ l. between 50 79 l.code) (g.S.LineStore.lines store), c.loop-line.invariant.0, g.met.S.LineStore.within store, g.met.S.LineStore.capped store)

pub overflow_add-tally-in-91-to-92 : goal.overflow_add-tally-in-91-to-92
overflow_add-tally-in-91-to-92 g c =
    let store = c.args.store.now in
    let s = ap (coded_between 91 92) c.in-Some.ensures.steps ∙ one_more 91 92 c.in-Some.line c.next.new.self (omega arith) (omega arith) in
    omega (arith, s, count_by-le-length (λ l. between 91 92 l.code) (g.S.LineStore.lines store), c.loop-line.invariant.1, g.met.S.LineStore.within store, g.met.S.LineStore.capped store)
