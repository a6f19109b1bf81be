use Rattle.std.proofs.Common.{sym, ap, ◌∙◌, arith}
use Rattle.page.specs.Pages.{text, rows}
use Rattle.page.proofs.Rows.{rows_take}
use Rattle.page.proofs.page.PageLineStore.cut.Goals as goal

pub returns-clause-lines : goal.returns-clause-lines
returns-clause-lines c = let p = c.args.self.now in ap (λ k. rows k (text p)) (c.min-self.ensures) ∙ sym (rows_take p.count c.args.n (text p))

pub returns-clause-kept : goal.returns-clause-kept
returns-clause-kept c = λ f k h. f k (omega arith)
