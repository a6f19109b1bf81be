use Rattle.std.proofs.Common.{rules, [], ◌∷◌}
use Rattle.lexer.proofs.Columns.{two_bytes-drop}
use Rattle.lexer.proofs.name.Name.columns.Goals as goal

pub returns : goal.returns
returns c =
    let ns =
    c.from_be_bytes.result ∷ c.from_be_bytes-2.result ∷ c.from_be_bytes-3.result ∷ c.from_be_bytes-4.result ∷ c.from_be_bytes-5.result ∷ c.from_be_bytes-6.result
    ∷ c.from_be_bytes-7.result ∷ []
    in
    two_bytes-drop 0 ns c.args.self.bytes (search rules) (λ i. search rules) (
      c.from_be_bytes.ensures,
      (c.from_be_bytes-2.ensures, (c.from_be_bytes-3.ensures, (c.from_be_bytes-4.ensures, (c.from_be_bytes-5.ensures, (c.from_be_bytes-6.ensures, (c.from_be_bytes-7.ensures, tt)))))),
    )
