use Rattle.std.proofs.Common.{sym, ◌∙◌, rules, arith}
use Rattle.lines.proofs.Numbered.{drop_first, drop_none}
use Rattle.lines.proofs.iter.LinesIterator.next.Goals as goal

pub returns-in_err-line-clause-steps : goal.returns-in_err-line-clause-steps
returns-in_err-line-clause-steps g c =
    let i = c.self.inside in
    let d = sym c.self.view_is ∙ drop_none (g.S.LineStore.lines i.store.now) i.passed c.in_ok-number.number (omega arith) (sym c.get.ensures ∙ c.in_err-line.was) in
    search rules

pub returns-clause-steps : goal.returns-clause-steps
returns-clause-steps g c =
    let i = c.self.inside in
    sym c.self.view_is
    ∙ drop_first (g.S.LineStore.lines i.store.now) i.passed c.in_ok-number.number c.in_ok-line.line (omega arith) (sym c.get.ensures ∙ c.in_ok-line.was)

pub returns-clause-goes : goal.returns-clause-goes
returns-clause-goes g c =
    let i = c.self.inside in
    let d = sym c.self.view_is
    ∙ drop_first (g.S.LineStore.lines i.store.now) i.passed c.in_ok-number.number c.in_ok-line.line (omega arith) (sym c.get.ensures ∙ c.in_ok-line.was) in
    search rules
