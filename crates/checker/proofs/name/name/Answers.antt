use Rattle.std.proofs.Common.{rules, [], ◌∙◌, ap, arith}
use Rattle.checker.proofs.name.name.Goals as goal
use Rattle.rules.specs.Names.{is_name, two_bytes}
use Rattle.checker.proofs.Spelling.{flat_map-two_bytes}
use borrow.Author.Tests.{tests}

pub returns : goal.returns
returns c =
    let pairs = flat_map-two_bytes c.columns.result c.map.result (search rules) (search (rules, tests)) (λ i l. let h = c.map.ensures.items.at i 0 [] (omega arith) in search (rules, tests)) in
    c.is_name.ensures ∙ ap is_name (c.as_flattened.ensures.value ∙ pairs ∙ ap two_bytes c.columns.ensures)
