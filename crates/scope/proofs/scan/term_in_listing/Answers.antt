use Rattle.std.proofs.Common.{◌≡◌, ◌-◌, Some, None, true, false, sym, ap, ◌∙◌, arith, rules}
use Rattle.std.specs.Option.{option_eq}
use Rattle.lexer.specs.Names.{same}
use Rattle.lines.specs.Stores.{numbered}
use Rattle.scope.proofs.First.{first, first-none, term-hit, term-miss, term-other, more-suc_of, numbered-positive}
use Rattle.scope.proofs.Under.{more}
use Rattle.scope.specs.Definitions.{name_given}
use Rattle.scope.specs.Scope.{number}
use Rattle.scope.proofs.scan.term_in_listing.Goals as goal
use Rattle.scope.proofs.scan.term_in_listing.Goals.{then-l-eq-LET_TERM+else-eq, else-l-eq-LET_TERM}

pub returns-then-eq : goal.returns-then-eq
returns-then-eq g c =
    let lines = g.S.LineStore.lines c.args.store.now in
    let l = c.in-Some.l in
    let here = sym c.get.ensures ∙ c.in-Some.is in
    let hit : option_eq same (name_given lines l) (Some c.args.name) ≡ true = search rules in
    sym (c.loop-l.invariant.1 ∙ ap (more c.loop-l.passed) (term-hit lines c.loop-l.n l c.args.name here (search rules) hit))

pub loop-l-preserved : goal.loop-l-preserved
loop-l-preserved g c =
    let lines = g.S.LineStore.lines c.args.store.now in
    let l = c.in-Some.l in
    let here = sym c.get.ensures ∙ c.in-Some.is in
    let w = c.args.name in
    let n = c.loop-l.n in
    let positive = numbered-positive lines n l here in
    let before = number (first lines (n - 1)).terms w in
    elim c.if-l-eq-LET_TERM.branch [
      | then-l-eq-LET_TERM+else-eq b ↦
          let miss : option_eq same (name_given lines l) (Some w) ≡ false = search rules in
          (omega arith, c.loop-l.invariant.1 ∙ ap (more c.loop-l.passed) (term-miss lines n l w here (search rules) miss) ∙ more-suc_of c.loop-l.passed before ∙ ap (λ k. more k before) (sym b.passed-is))
      | else-l-eq-LET_TERM b ↦ (omega arith, c.loop-l.invariant.1 ∙ ap (more c.loop-l.passed) (term-other lines n l w here (search rules)) ∙ ap (λ k. more k before) (sym b.passed-is))
    ]

pub returns : goal.returns
returns g c =
    let lines = g.S.LineStore.lines c.args.store.now in
    let here : numbered lines c.loop-l.n ≡ None = search rules in
    sym (c.loop-l.invariant.1 ∙ ap (λ s. more c.loop-l.passed (number s.terms c.args.name)) (first-none lines c.loop-l.n (omega arith) here))
