use Rattle.std.proofs.Common.{◌≡◌, ◌-◌, min, sym, refl, ap, ◌∙◌, subst, arith}
use Rattle.std.proofs.lemmas.Result.{err_from_is_err_and}
use Rattle.lines.specs.Adopts.{Good, Lowest}
use Rattle.page.specs.Form.{InForm}
use Rattle.page.specs.Pages.{place, text, spaces, rows, rows_length}
use Rattle.page.proofs.Adoption.{from_zero}
use Rattle.page.proofs.Rows.{rows_take}
use Rattle.page.proofs.page.Page.adopt.Goals as goal

pub returns-in_err-count-clause-cases : goal.returns-in_err-count-clause-cases
returns-in_err-count-clause-cases c =
    let p = c.args.self.now in
    let fault = c.in_err-count.field-0.0 in
    let given = err_from_is_err_and c.from_residual.result c.from_residual.ensures.1 in
    rw (given.1, given.2) (
      subst (λ r. Lowest (Good (λ q. InForm (place (q - 1) (text p))) r) c.args.n fault.place) (sym (rows_length (spaces p) (text p))) c.in_err-count.ensures,
      refl,
    )

pub returns-clause-cases : goal.returns-clause-cases
returns-clause-cases c =
    let p = c.args.self.now in
    let found = c.in_ok-count.ensures in
    let e : c.in_ok-count.count ≡ min (spaces p) c.args.n = omega (arith, found.0, found.1) in
    (found.0, omega (arith, found.1, rows_length (spaces p) (text p)), found.2, ap (λ k. rows k (text p)) e ∙ sym (rows_take (spaces p) c.args.n (text p)))

pub returns-clause-ok : goal.returns-clause-ok
returns-clause-ok c = let found = c.in_ok-count.ensures in from_zero (text c.args.self.now) c.in_ok-count.count (λ p z l. found.2 p z (omega (arith, found.0)))

pub returns-clause-kept : goal.returns-clause-kept
returns-clause-kept c = λ _. returns-clause-ok c
