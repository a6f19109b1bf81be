-- What reading a source answers.
use Rattle.std.specs.Prelude.{◌≡◌, ℕ, List, Result, Ok, Err}
use Rattle.std.specs.Borrow.{MutBor}
use Rattle.grammar.specs.Reading.{limits, Answered}
use Rattle.grammar.specs.declared.fault.SyntaxFault.{SyntaxFault}
use Rattle.lexer.specs.Items.{Item}
use Rattle.syntax.specs.Layout.{nodes, record_of}
use Rattle.syntax.specs.Named.{NamedPhrase}
use Rattle.syntax.specs.declared.node.Node.{Node}
use Rattle.syntax.specs.declared.phrase.Phrase.{Phrase}

-- With a tree table of so many places the items are the phrase p, whose record and nodes are given; or they are none, or one beyond the limits.
abbrev pub ReadAs : List Item → (places : ℕ) → Result (Phrase × MutBor (List Node)) SyntaxFault → Type 0
ReadAs items places (Ok (phrase, tree)) =
    (p : NamedPhrase) × Answered (limits places) items (Ok p) × (phrase ≡ record_of p) × (tree.now ≡ nodes p)
ReadAs items places (Err fault) = Answered (limits places) items (Err fault)
