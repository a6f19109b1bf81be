use Rattle.std.proofs.Common.{◌≡◌, Some, None, true, false, sym, ap, ◌∙◌, arith, rules}
use Rattle.std.specs.Option.{option_eq}
use Rattle.lexer.specs.Names.{same}
use Rattle.scope.proofs.First.{first-none, type-hit, type-miss, type-other}
use Rattle.lines.specs.Stores.{numbered}
use Rattle.scope.specs.Definitions.{name_given}
use Rattle.scope.specs.Scope.{meaning}
use Rattle.scope.proofs.scan.type_in_listing.Goals as goal
use Rattle.scope.proofs.scan.type_in_listing.Goals.{else-l-eq-LET_TYPE-via-then-l-eq-LET_TYPE+else-eq, else-l-eq-LET_TYPE-via-else-l-eq-LET_TYPE}

pub returns-then-eq : goal.returns-then-eq
returns-then-eq g c =
    let lines = g.S.LineStore.lines c.args.store.now in
    let l = c.in-Some.l in
    let here = sym c.get.ensures ∙ c.in-Some.is in
    let hit : option_eq same (name_given lines l) (Some c.args.name) ≡ true = search rules in
    sym (c.loop-l.invariant.1 ∙ type-hit lines c.loop-l.n l c.args.name here (search rules) hit)

pub loop-l-preserved : goal.loop-l-preserved
loop-l-preserved g c =
    let lines = g.S.LineStore.lines c.args.store.now in
    let l = c.in-Some.l in
    let here = sym c.get.ensures ∙ c.in-Some.is in (
      omega arith,
      c.loop-l.invariant.1 ∙ elim c.else-l-eq-LET_TYPE.branch [
        | else-l-eq-LET_TYPE-via-then-l-eq-LET_TYPE+else-eq w ↦
            let miss : option_eq same (name_given lines l) (Some c.args.name) ≡ false = search rules in
            type-miss lines c.loop-l.n l c.args.name here (search rules) miss
        | else-l-eq-LET_TYPE-via-else-l-eq-LET_TYPE w ↦ type-other lines c.loop-l.n l c.args.name here (search rules)
      ],
    )

pub returns : goal.returns
returns g c =
    let lines = g.S.LineStore.lines c.args.store.now in
    let here : numbered lines c.loop-l.n ≡ None = search rules in
    sym (c.loop-l.invariant.1 ∙ ap (λ s. meaning s.types c.args.name) (first-none lines c.loop-l.n c.loop-l.invariant.0 here))
