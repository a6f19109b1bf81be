use Rattle.std.proofs.Common.{◌≡◌, suc, ◌-◌, ◌/◌, ◌++◌, length, drop, set, ap, ◌∙◌, arith, ℕ, length-set}
use Rattle.page.specs.Form.{spaced}
use Rattle.page.proofs.Digits.{last_written, one_written}
use Rattle.page.proofs.form.write.Goals as goal

pub loop-k-init : goal.loop-k-init
loop-k-init c =
    let s = c.args.columns.now in
    last_written (length s - 1) c.args.n s (omega arith)

pub loop-k-preserved : goal.loop-k-preserved
loop-k-preserved c =
    let l = c.loop-k in
    let e : suc (l.k - 1) ≡ l.k = omega arith in
    ap (λ b. spaced (l.k - 1) (l.rest / 10) ++ drop (l.k - 1) (set l.columns (l.k - 1) b)) c.column.ensures
    ∙ one_written (l.k - 1) l.rest l.columns (omega (arith, length-set {A = ℕ}))
    ∙ ap (λ k. spaced k l.rest ++ drop k l.columns) e
    ∙ l.invariant
