use Rattle.std.proofs.Common.{sym, ap, ◌∙◌}
use Rattle.std.proofs.lemmas.Bool.Decides.{Decides-eqb}
use Rattle.std.proofs.lemmas.Slice.Eq.{slice_eq-Decides}
use Rattle.page.specs.Form.{encoded, decoded}
use Rattle.page.proofs.Digits.{encoded_back, decoded_range}
use Rattle.page.proofs.form.in_form.Goals as goal

pub returns : goal.returns
returns c =
    let s = c.args.place.now in
    let d = slice_eq-Decides Decides-eqb s c.encode.result c.eq.result c.eq.ensures in
    let e = c.encode.ensures.bytes ∙ ap encoded c.decode.ensures in (
      λ t. (decoded s, decoded_range s, d.0 t ∙ e),
      λ f. d.1 (f.2 ∙ sym (e ∙ ap encoded (ap decoded f.2 ∙ encoded_back f.0 f.1))),
    )
