use Rattle.std.proofs.Common.{Ok, Err, ap, ◌∙◌, arith}
use Rattle.page.specs.Pages.{standing}
use Rattle.report.proofs.Adopting.{err_is, lines_are, checked, refused}
use Rattle.report.proofs.check_page.sound.Goals as goal
use Rattle.report.specs.RuleNames.{rule_of}
use Rattle.report.specs.Verdicts.{coded_between}

pub returns-in_err-adopt-clause-refused : goal.returns-in_err-adopt-clause-refused
returns-in_err-adopt-clause-refused c =
    let page = c.new-page.result in
    err_is _ c.from_residual.result _ c.from_residual.ensures.1 (
      refused page c.args.bytes.now c.div_ceil-places.result c.new-page.ensures.bytes c.div_ceil-places.ensures
          (rule_of c.args.rule) (standing page) (standing c.adopt.new.self) c.in_err-adopt.field-0.0 c.in_err-adopt.ensures.cases,
      λ e. absurd (omega arith),
    )

pub returns-in_err-count-clause-refused : goal.returns-in_err-count-clause-refused
returns-in_err-count-clause-refused c =
    let page = c.new-page.result in
    err_is _ c.from_residual-in_err-count.result _ c.from_residual-in_err-count.ensures.1 (
      checked page c.args.bytes.now c.div_ceil-places.result c.new-page.ensures.bytes c.div_ceil-places.ensures
          _ (standing page) (standing c.adopt.new.self) c.in_ok-adopt.ensures.cases (rule_of c.args.rule) (Err c.in_err-count.field-0.0) c.in_err-count.ensures,
      λ e. absurd (omega arith),
    )

pub returns-clause-answer : goal.returns-clause-answer
returns-clause-answer c =
    let page = c.new-page.result in
    checked page c.args.bytes.now c.div_ceil-places.result c.new-page.ensures.bytes c.div_ceil-places.ensures
    _ (standing page) (standing c.adopt.new.self) c.in_ok-adopt.ensures.cases (rule_of c.args.rule) (Ok c.in_ok-count.count) c.in_ok-count.ensures

pub returns-clause-judgments : goal.returns-clause-judgments
returns-clause-judgments c =
    let page = c.new-page.result in
    let same = lines_are page c.args.bytes.now c.div_ceil-places.result c.new-page.ensures.bytes c.div_ceil-places.ensures
    _ (standing page) (standing c.adopt.new.self) c.in_ok-adopt.ensures.cases in
    c.of-judgments.ensures.judgments ∙ ap (coded_between 50 79) same

pub returns-clause-definitions : goal.returns-clause-definitions
returns-clause-definitions c =
    let page = c.new-page.result in
    let same = lines_are page c.args.bytes.now c.div_ceil-places.result c.new-page.ensures.bytes c.div_ceil-places.ensures
    _ (standing page) (standing c.adopt.new.self) c.in_ok-adopt.ensures.cases in
    c.of-judgments.ensures.definitions ∙ ap (coded_between 91 92) same
