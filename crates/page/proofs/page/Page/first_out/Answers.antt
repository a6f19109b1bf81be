use Rattle.std.proofs.Common.{◌≡◌, ℕ, ◌+◌, ◌-◌, ◌/◌, ◌<◌, length, min, take, refl, ap, ◌∙◌, subst, arith, rules}
use borrow.Author.Tests.{tests}
use Rattle.std.proofs.lemmas.Iterator.{IsFirst-from_position, YieldsList-from_slice}
use Rattle.std.proofs.lemmas.Option.{MatchOption-at_some, MatchOption-at_none}
use Rattle.std.specs.Option.{MatchOption}
use Rattle.std.specs.Simd.{first_chunks}
use Rattle.page.specs.Form.{InForm}
use Rattle.page.specs.Pages.{place, text}
use Rattle.page.proofs.Adoption.{searched}
use Rattle.page.proofs.Rows.{take-first_chunks}
use Rattle.page.proofs.page.Page.first_out.Goals as goal
use Rattle.page.proofs.page.Page.first_out.Goals.{After-position}

found : (c : After-position) →
    MatchOption c.position.result ((k : ℕ) → k < c.min.result → InForm (place k (text c.args.self.now)))
    (λ i. (i < c.min.result) × (InForm (place i (text c.args.self.now)) → ⊥) × ((k : ℕ) → k < i → InForm (place k (text c.args.self.now))))
found c =
    let s = text c.args.self.now in
    let t = c.min.result in
    let m = length s / 46 in
    let within : min m t ≡ t = omega arith in
    let is : c.iter.result.rest.now ≡ first_chunks 46 t s =
    c.iter.ensures.rest ∙ ap (take t) c.places.ensures.places ∙ take-first_chunks 46 t m s ∙ ap (λ k. first_chunks 46 k s) within in
    searched s t c.position.result (IsFirst-from_position _ _ _ (λ x. InForm x → ⊥) InForm c.position.ensures.ran (YieldsList-from_slice (first_chunks 46 t s) is) (λ x q k. search (rules, tests)) (λ x q k. search (rules, tests)))

pub returns-in-Some : goal.returns-in-Some
returns-in-Some c =
    let k = c.in-Some.k in
    let s = text c.args.self.now in
    let e : k + 1 - 1 ≡ k = omega arith in
    let out = MatchOption-at_some _ _ k c.in-Some.is (found (goal.at.returns-in-Some c).After-position) in
    (omega arith, omega (arith, out.0), λ q z l. (omega (arith, out.0), out.2 (q - 1) (omega arith)), λ g. out.1 (subst (λ j. InForm (place j s)) e g.1))

pub returns-in-None : goal.returns-in-None
returns-in-None c =
    let all = MatchOption-at_none _ _ c.in-None.is (found (goal.at.returns-in-None c).After-position) in
    (omega arith, omega arith, λ q z l. (omega arith, all (q - 1) (omega arith)), λ g. omega (arith, g.0))

pub returns-in-None-2 : goal.returns-in-None-2
returns-in-None-2 c =
    let all = MatchOption-at_none _ _ c.in-None-2.is (found (goal.at.returns-in-None-2 c).After-position) in
    (refl, omega arith, λ q z l. all (q - 1) (omega arith))
