use Rattle.std.proofs.Common.{rules, [], ◌∙◌, arith}
use borrow.Author.Tests.{tests}
use Rattle.lexer.proofs.Columns.{flat_map-two_bytes}
use Rattle.lexer.proofs.name.Name.from_columns.Goals as goal

pub returns : goal.returns
returns c =
    c.copy_from_slice.ensures.after
    ∙ c.as_flattened.ensures.value
    ∙ flat_map-two_bytes c.args.columns c.map.result (search rules) (search (rules, tests)) (λ i l. let h = c.map.ensures.items.at i 0 [] (omega arith) in search (rules, tests))
