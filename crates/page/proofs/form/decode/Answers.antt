use Rattle.std.proofs.Common.{min, ap, ◌∙◌, arith}
use Rattle.page.specs.Form.{decoded}
use Rattle.page.proofs.Digits.{three_read, six_read}
use Rattle.page.proofs.form.decode.Goals as goal

pub returns : goal.returns
unfolding decoded
returns c =
    let s = c.args.place.now in
    let code = c.min.ensures ∙ ap (λ n. min n 255) c.read.ensures ∙ three_read s (omega arith) in
    let c1 = c.read-2.ensures ∙ six_read 3 s (omega arith) in
    let c2 = c.read-3.ensures ∙ six_read 9 s (omega arith) in
    let c3 = c.read-4.ensures ∙ six_read 15 s (omega arith) in
    let c4 = c.read-5.ensures ∙ six_read 21 s (omega arith) in
    let c5 = c.read-6.ensures ∙ six_read 27 s (omega arith) in
    let c6 = c.read-7.ensures ∙ six_read 33 s (omega arith) in
    let c7 = c.read-8.ensures ∙ six_read 39 s (omega arith) in
    cc
