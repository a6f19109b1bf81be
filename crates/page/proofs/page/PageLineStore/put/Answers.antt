use Rattle.std.proofs.Common.{◌≡◌, ◌+◌, ◌-◌, ◌*◌, ◌≤◌, ◌++◌, ◌∷◌, [], length, sym, ap, ◌∙◌, subst, arith}
use borrow.Rule.Slice.PartMut.{put_mid}
use Rattle.page.specs.Form.{pasted, encoded, decoded, InForm}
use Rattle.page.specs.Pages.{place, text, rows, rows_length}
use Rattle.page.proofs.Rows.{rows-pasted, formed-pasted}
use Rattle.page.proofs.Written.{put_mid-pasted, length-encoded}
use Rattle.page.proofs.page.PageLineStore.put.Goals as goal
use Rattle.page.proofs.page.PageLineStore.put.Goals.{After-copy_from_slice}

fits : (c : After-copy_from_slice) → 46 * c.args.self.now.count + 46 ≤ length (text c.args.self.now)
fits c = let p = c.args.self.now in omega (arith, p.within)

wrote : (c : After-copy_from_slice) → let p = c.args.self.now in put_mid (46 * p.count) (46 * p.count + 46 - 46 * p.count) (text p) c.copy_from_slice.new.self ≡ pasted (46 * p.count) (encoded c.args.line) (text p)
wrote c =
    let p = c.args.self.now in
    let l = c.args.line in
    put_mid-pasted (46 * p.count) (46 * p.count + 46 - 46 * p.count) (text p) c.copy_from_slice.new.self (encoded l) (c.copy_from_slice.ensures.after ∙ c.encode.ensures.bytes) (omega (arith, length-encoded l))

pub returns-clause-cases : goal.returns-clause-cases
returns-clause-cases c =
    let p = c.args.self.now in
    let n = p.count in
    let s = text p in
    let l = c.args.line in
    let at = (goal.at.returns-clause-cases c).After-copy_from_slice in
    let back = ap decoded (sym c.encode.ensures.bytes) ∙ c.encode.ensures.back in (
      omega (arith, rows_length n s),
      ap (λ k. k + 1) (sym (rows_length n s)),
      ap (rows (n + 1)) (wrote at) ∙ rows-pasted n (encoded l) s (fits at) (length-encoded l) ∙ ap (λ x. rows n s ++ x ∷ []) back,
    )

pub returns-clause-kept : goal.returns-clause-kept
returns-clause-kept c =
    let p = c.args.self.now in
    let l = c.args.line in
    let at = (goal.at.returns-clause-kept c).After-copy_from_slice in
    let here = subst InForm c.encode.ensures.bytes c.encode.ensures.form in
    λ f k h. subst (λ u. InForm (place k u)) (sym (wrote at)) (formed-pasted p.count (encoded l) (text p) (fits at) (length-encoded l) here f k h)

pub returns-clause-bytes : goal.returns-clause-bytes
returns-clause-bytes c =
    let p = c.args.self.now in
    wrote (goal.at.returns-clause-bytes c).After-copy_from_slice ∙ ap (λ k. pasted (46 * k) (encoded c.args.line) (text p)) (sym (rows_length p.count (text p)))
