use Rattle.std.proofs.Common.{◌≡◌, refl, ◌∙◌, subst, rules, tests, ◌≢◌, ◌↔◌}
use Rattle.std.specs.Bool.{IsTrue}
use Rattle.std.specs.List.{Contains}
use Rattle.std.proofs.lemmas.Bool.{MatchBool-at_true}
use Rattle.std.proofs.lemmas.Iterator.{cases_from_any, YieldsList-from_take}
use Rattle.std.proofs.lemmas.Iterator.Consumers.{YieldsList-from_rest}
use Rattle.std.proofs.lemmas.Iterator.Search.{true_from_Any}
use Rattle.checker.proofs.prefix.Prefix.contains.Goals as goal

pub returns : goal.returns
returns g c =
    let l = c.args.l in
    let lines = g.S.LineStore.lines c.self.inside.store.now in
    let chain = YieldsList-from_take c.self.inside.len (YieldsList-from_rest lines (c.take.ensures.source ∙ c.iter.ensures)) (c.take.ensures.count ∙ c.into.ensures) in
    let r = cases_from_any _ _ _ (λ v. v ≡ l) (λ v. v ≢ l) c.any.ensures.ran chain (λ y b k. search (rules, tests)) (λ y b k. search (rules, tests)) in
    subst (λ xs. IsTrue c.any.result ↔ Contains xs l) c.self.view_is (
      λ t. let w = MatchBool-at_true _ _ t r in (w.0, w.1, w.2 l),
      λ h. true_from_Any (λ v. v ≡ l) (λ v. v ≢ l) _ _ (λ y p q. q p) r l h refl,
    )
