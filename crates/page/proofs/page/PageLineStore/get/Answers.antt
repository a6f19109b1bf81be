use Rattle.std.proofs.Common.{◌≡◌, ◌-◌, ◌/◌, length, Some, sym, ap, ◌∙◌, arith, length-take}
use Rattle.lines.proofs.Numbered.{numbered_past}
use Rattle.page.specs.Form.{decoded}
use Rattle.page.specs.Pages.{place, text, standing, rows_length}
use Rattle.page.proofs.Rows.{rows_numbered, place_read}
use Rattle.page.proofs.page.PageLineStore.get.Goals as goal

pub returns-in_err-place : goal.returns-in_err-place
returns-in_err-place c =
    let p = c.args.self.now in
    let past = c.in_err-place.ensures.lookup.3 in
    c.from_residual-in_err-place.ensures
    ∙ sym (numbered_past (standing p) c.args.n (omega (arith, rows_length p.count (text p), c.in_ok-k.ensures, past, length-take p.count c.places.result.now)))

pub returns : goal.returns
returns c =
    let p = c.args.self.now in
    let n = c.args.n in
    let found = c.in_ok-place.ensures.lookup in
    let k : n - 1 ≡ c.in_ok-k.k = omega (arith, c.in_ok-k.ensures) in
    let m = length (text p) / 46 in
    let is : c.in_ok-place.place.now ≡ place c.in_ok-k.k (text p) =
    place_read m p.count c.in_ok-k.k (text p) c.in_ok-place.place.now (omega (arith, p.within))
    (rw c.places.ensures.places at found.3.0) (rw c.places.ensures.places at found.1) in
    ap Some (c.decode.ensures ∙ ap decoded (is ∙ ap (λ j. place j (text p)) (sym k)))
    ∙ sym (rows_numbered p.count n (text p) (omega (arith, c.in_ok-k.ensures)) (omega (arith, c.in_ok-k.ensures, found.3.0, length-take p.count c.places.result.now)))
