-- What is answered to the items of a source, with a tree table of n places and after these definitions.
use Rattle.std.specs.Prelude.{◌≡◌, ℕ, List, Ok, Err, Result}
use Rattle.std.specs.Borrow.{MutBor}
use Rattle.lexer.specs.Items.{Item}
use Rattle.lines.specs.declared.answer.Answer.{Answer}
use Rattle.lines.specs.declared.answer.Answer.TheVariants.{Unbound as unbound_answer}
use Rattle.grammar.specs.Laws.{RowsAsWritten, OnePhrase, OneAnswer, MetInPhrase, PlacesTaken, TreeFits, CasesRight}
use Rattle.grammar.specs.Reading.{limits, Answered}
use Rattle.grammar.specs.Answers.{answer_of}
use Rattle.syntax.specs.Named.{NamedPhrase}
use Rattle.syntax.specs.declared.node.Node.{Node}
use Rattle.syntax.specs.declared.phrase.Phrase.{Phrase}
use Rattle.scope.specs.Definitions.{Definition}
use Rattle.scope.specs.Examples.{ExamplesAnswered}
use Rattle.scope.specs.Laws.{ClosedAlike, AmongThose, RecordKept}
use Rattle.scope.specs.Scope.{scope}
use Rattle.scope.specs.Scoped.{ScopedPhrase}
use Rattle.scope.specs.ScopedLayout.{nodes, record_of}
use Rattle.reader.specs.declared.fault.ReadFault.{ReadFault}
use Rattle.reader.specs.declared.fault.ReadFault.TheVariants.{Syntax, Unbound}

-- The items are a phrase within the limits, and this is it with every name looked up; or they are no such phrase; or they are, and a name is not bound.
abbrev pub ReadAs : ℕ → List Item → List (Definition ℕ) → Result (ScopedPhrase ℕ) ReadFault → Type 0
ReadAs n items ds (Ok q) = (p : NamedPhrase) × Answered (limits n) items (Ok p) × (scope ds p ≡ Ok q)
ReadAs n items ds (Err (Syntax fault)) = Answered (limits n) items (Err fault)
ReadAs n items ds (Err (Unbound fault)) = (p : NamedPhrase) × Answered (limits n) items (Ok p) × (scope ds p ≡ Err fault.byte)

-- a call answers that, with the nodes and the record of the phrase
abbrev pub Reads : ℕ → List Item → List (Definition ℕ) → Result (Phrase × MutBor (List Node)) ReadFault → Type 0
Reads n items ds (Ok (x, tree)) = (q : ScopedPhrase ℕ) × ReadAs n items ds (Ok q) × (tree.now ≡ nodes q) × (x ≡ record_of q)
Reads n items ds (Err fault) = ReadAs n items ds (Err fault)

-- What is proved of the grammar by which sources are read: its rows are the forms as they are written; the items of a source are one phrase at most,
-- and have exactly one answer; what is met in reading is met first in some phrase; each node of a phrase takes one place; and the sources of a list have the answers
-- that are computed for them.
abbrev pub OfGrammar : Type 0
OfGrammar = RowsAsWritten × OnePhrase × OneAnswer × MetInPhrase × PlacesTaken × TreeFits × CasesRight

-- What is proved of names: a phrase that is bound without definitions is the same after any; the variables of a phrase
-- are bound by its binders, its bindings and the let definitions; its record is that of the phrase as it was read; and the names of some sources
-- mean what is computed for them.
abbrev pub OfNames : Type 0
OfNames = ClosedAlike ℕ × AmongThose ℕ × RecordKept ℕ × ExamplesAnswered

abbrev pub answer_to : ReadFault → Answer
answer_to (Syntax fault) = answer_of fault
answer_to (Unbound fault) = unbound_answer fault.byte
