use Rattle.std.proofs.Common.{rules, not, nat_eq, ap, ◌∙◌}
use Rattle.std.proofs.lemmas.List.{take_rest}
use Rattle.std.specs.List.{list_all}
use Rattle.rules.specs.Names.{letter_or_digit}
use Rattle.std.proofs.lemmas.Iterator.{YieldsList-from_slice}
use Rattle.std.proofs.lemmas.Iterator.Search.{all_from_yields_List, position_from_yields_List}
use borrow.Author.Tests.{tests}
use Rattle.checker.proofs.Spelling.{all_zero-from}
use Rattle.checker.proofs.name.padded.Goals as goal

pub returns : goal.returns
returns c =
    let bs = c.args.bytes.now in
    all_from_yields_List (λ b. nat_eq b 0) _ _ _ c.all.ensures.ran (YieldsList-from_slice _ c.iter-2.ensures.rest) (λ x b q k. search (rules, tests))
    ∙ ap (list_all (λ b. nat_eq b 0)) (take_rest bs c.unwrap_or-end.result)
    ∙ all_zero-from bs c.position.result c.unwrap_or-end.result
    (position_from_yields_List (λ b. not (letter_or_digit b)) _ _ _ c.position.ensures.ran (YieldsList-from_slice bs c.iter.ensures.rest) (λ x b q k. search (rules, tests)))
    c.unwrap_or-end.ensures
