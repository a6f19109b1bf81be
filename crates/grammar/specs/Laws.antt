-- What is proved of the grammar and of its answers.
use Rattle.std.specs.Prelude.{◌≡◌, ◌≤◌, ◌↔◌, List, ◌++◌, length, All, Result, Ok}
use Rattle.lexer.specs.Items.{Item}
use Rattle.syntax.specs.Layout.{nodes}
use Rattle.syntax.specs.Named.{NamedPhrase}
use Rattle.grammar.specs.Cases.{cases, Right}
use Rattle.grammar.specs.Derives.{Event, Spells}
use Rattle.grammar.specs.Reading.{Limits, count, Met, Ended, Answered}
use Rattle.grammar.specs.Written.{WrittenPhrase}
use Rattle.grammar.specs.declared.fault.SyntaxFault.{SyntaxFault}

-- the rows, by which a source is read, derive just what is written in the forms
abbrev pub RowsAsWritten : Type 0
RowsAsWritten = (items : List Item) (p : NamedPhrase) → ((es : List Event) × Spells items es p) ↔ WrittenPhrase items p

-- the items are written as one phrase at most
abbrev pub OnePhrase : Type 0
OnePhrase = (items : List Item) (p q : NamedPhrase) → WrittenPhrase items p → WrittenPhrase items q → p ≡ q

-- the items of a source have one answer
abbrev pub OneAnswer : Type 0
OneAnswer =
    (l : Limits) (items : List Item) → Ended items
    → (a : Result NamedPhrase SyntaxFault) × Answered l items a × ((b : Result NamedPhrase SyntaxFault) → Answered l items b → b ≡ a)

-- what is met in reading the items is met first in some phrase that begins with the first of them, or with none of them
abbrev pub MetInPhrase : Type 0
MetInPhrase =
    (items : List Item) (es : List Event) → Met items es
    → (used left others : List Item) × (later : List Event) × (p : NamedPhrase) × (items ≡ used ++ left) × Spells (used ++ others) (es ++ later) p

-- in reading a phrase each of its nodes takes one place
abbrev pub PlacesTaken : Type 0
PlacesTaken = (items : List Item) (es : List Event) (p : NamedPhrase) → Spells items es p → count 0 es ≡ length (nodes p)

-- the tree of a phrase that is read has a place for each of its nodes
abbrev pub TreeFits : Type 0
TreeFits = (l : Limits) (items : List Item) (p : NamedPhrase) → Answered l items (Ok p) → length (nodes p) ≤ l.places

abbrev pub CasesRight : Type 0
CasesRight = All Right cases
