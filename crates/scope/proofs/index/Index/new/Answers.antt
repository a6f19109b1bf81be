use Rattle.std.proofs.Common.{◌≡◌, [], length, ap, arith, rules}
use Rattle.std.specs.List.{fold, flat_map}
use Rattle.scope.specs.Definitions.{defined_in}
use Rattle.scope.specs.Scope.{define}
use Rattle.scope.proofs.index.Index.new.Goals as goal

pub loop-line-init : goal.loop-line-init
loop-line-init g c =
    let store = c.args.store.now in
    let all : c.into_iter-line-iterator.result ≡ g.S.LineStore.lines store = search rules in
    (record { types = []; terms = [] }, (c.new.ensures, c.new-2.ensures), ap (λ ls. fold define (record { types = []; terms = [] }) (flat_map (defined_in (g.S.LineStore.lines store)) ls)) all, omega (arith, ap length all, g.met.S.LineStore.within store, g.met.S.LineStore.capped store))
