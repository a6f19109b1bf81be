use Rattle.std.proofs.Common.{◌≡◌, suc, length, sym, ap, ◌∙◌, arith}
use Rattle.parser.specs.Binders.{names}
use Rattle.parser.proofs.Numbers.{number_of_within, names_inside}
use Rattle.parser.proofs.binders.Binders.+number_of.Goals as goal

pub overflow_add-result : goal.overflow_add-result
overflow_add-result t c =
    let k = number_of_within (names c.in-Inside.around.now) c.args.name c.in_ok-number_of-in-Inside.field-0 (sym c.number_of.ensures ∙ c.in_ok-number_of-in-Inside.was) in
    let h : length (names c.args.self.now) ≡ suc (length (names c.in-Inside.around.now)) =
    ap (λ b. length (names b)) c.in-Inside.is ∙ ap length (names_inside c.in-Inside.binder c.in-Inside.around) in
    omega (arith, k, c.requires, h)
