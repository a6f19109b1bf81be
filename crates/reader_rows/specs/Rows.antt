-- A phrase and its nodes as rows of numbers, and what a call that reads into rows answers.
use Rattle.std.specs.Prelude.{◌≡◌, ◌≢◌, ℕ, zero, suc, ◌+◌, ◌*◌, ◌^◌, ◌-◌, ◌<◌, ◌≤◌, ◌⊎◌, List, [], ◌∷◌, ◌++◌, length, take, drop, map, replicate, Result, Ok, Err}
use Rattle.lines.specs.Answers.{number, place}
use Rattle.lines.specs.declared.answer.Answer.{Answer}
use Rattle.lines.specs.declared.answer.Answer.TheVariants.{OutOfForm, SourceTooLong}
use Rattle.lines.specs.declared.line.Line.{Line}
use Rattle.lexer.specs.Items.{items}
use Rattle.lexer.specs.Names.{bytes_of}
use Rattle.lexer.specs.declared.name.Name.{Name}
use Rattle.reader.specs.Reads.{ReadAs, answer_to}
use Rattle.reader.specs.declared.fault.ReadFault.{ReadFault}
use Rattle.scope.specs.Definitions.{definitions}
use Rattle.scope.specs.Scoped.{ScopedPhrase}
use Rattle.scope.specs.ScopedLayout.{nodes, record_of}
use Rattle.syntax.specs.declared.node.Node.{Node}
use Rattle.syntax.specs.declared.node.Node.TheVariants.{Top, TypeVar, TypeName, TypeLine, Arrow, All, AllUnbounded, RecType, TopTerm, TermVar, TermName, Fun, Appl, Fun2, Fun2Unbounded, Appl2, Fold, Unfold, RecTerm, TypeBinding, TermBinding}
use Rattle.syntax.specs.declared.phrase.Phrase.{Phrase}
use Rattle.syntax.specs.declared.phrase.Phrase.TheVariants.{LetType, LetTypeUnbounded, LetTerm, LetTermUntyped, TypePhrase, TermPhrase, JudgeEnv, JudgeType, JudgeSubtype, JudgeTerm}
use Rattle.reader_rows.specs.declared.row.Row.{Row}

abbrev pub row : (kind byte first second : ℕ) → (name : List ℕ) → Row
row kind byte first second name = record { kind = kind; byte = byte; first = first; second = second; name = name }

abbrev pub no_name : List ℕ
no_name = replicate 14 0

abbrev pub node_row : Node → Row
node_row Top = row 0 0 0 0 no_name
node_row (TypeVar number) = row 1 0 number 0 no_name
node_row (TypeName byte w inside) = row 2 byte inside 0 (bytes_of w)
node_row (Arrow left right) = row 3 0 left right no_name
node_row (All bound body) = row 4 0 bound body no_name
node_row (AllUnbounded first body) = row 5 0 first body no_name
node_row (RecType body) = row 6 0 body 0 no_name
node_row (TopTerm byte) = row 7 byte 0 0 no_name
node_row (TermVar byte number) = row 8 byte number 0 no_name
node_row (TermName byte w inside) = row 9 byte inside 0 (bytes_of w)
node_row (Fun byte domain body) = row 10 byte domain body no_name
node_row (Appl byte function argument) = row 11 byte function argument no_name
node_row (Fun2 byte bound body) = row 12 byte bound body no_name
node_row (Fun2Unbounded byte first body) = row 13 byte first body no_name
node_row (Appl2 byte function argument) = row 14 byte function argument no_name
node_row (Fold byte to argument) = row 15 byte to argument no_name
node_row (Unfold byte argument) = row 16 byte argument 0 no_name
node_row (RecTerm byte domain body) = row 17 byte domain body no_name
node_row (TypeBinding w bound) = row 18 0 bound 0 (bytes_of w)
node_row (TermBinding w domain) = row 19 0 domain 0 (bytes_of w)
node_row (TypeLine line) = row 20 0 line 0 no_name

abbrev pub phrase_row : Phrase → Row
phrase_row (LetType w bound to) = row 0 0 bound to (bytes_of w)
phrase_row (LetTypeUnbounded w to) = row 1 0 to 0 (bytes_of w)
phrase_row (LetTerm w stated term) = row 2 0 stated term (bytes_of w)
phrase_row (LetTermUntyped w term) = row 3 0 term 0 (bytes_of w)
phrase_row (TypePhrase node) = row 4 0 node 0 no_name
phrase_row (TermPhrase node) = row 5 0 node 0 no_name
phrase_row JudgeEnv = row 6 0 0 0 no_name
phrase_row (JudgeType node) = row 7 0 node 0 no_name
phrase_row (JudgeSubtype left right) = row 8 0 left right no_name
phrase_row (JudgeTerm term stated) = row 9 0 term stated no_name

-- the row of a phrase, and behind it those of its nodes
abbrev pub rows_of : Phrase → List Node → List Row
rows_of x tree = phrase_row x ∷ map node_row tree

-- these rows stand first, as many as there is room for, and behind them what stood there
abbrev pub Shown : List Row → (old new : List Row) → Type 0
Shown rows old new = new ≡ take (length old) rows ++ drop (length rows) old

-- answer * 2^40 + place * 2^8, and where memory was refused 2^64 - 1
abbrev pub packed : Answer → ℕ
packed a = number a * 2 ^ 40 + place a * 2 ^ 8

abbrev pub no_memory : ℕ
no_memory = 2 ^ 64 - 1

-- r is the answer to the source, with as many places as there are rows behind the first, and the records as the lines of a listing
pub data ReadInto (source : List ℕ) (records : List Line) (old new : List Row) : (r : ℕ) → Type 0 where
  too_long : {r : ℕ} → 65535 < length source → r ≡ packed SourceTooLong → new ≡ old → ReadInto source records old new r
  too_many : {r : ℕ} → 65535 < length records → r ≡ packed (OutOfForm 65536) → new ≡ old → ReadInto source records old new r
  refused : {r : ℕ} → r ≡ no_memory → new ≡ old → ReadInto source records old new r
  is_read : {r : ℕ} (q : ScopedPhrase ℕ) → r ≡ 0 → ReadAs (length old - 1) (items source) (definitions records) (Ok q)
      → Shown (rows_of (record_of q) (nodes q)) old new → ReadInto source records old new r
  not_read : {r : ℕ} (fault : ReadFault) → ReadAs (length old - 1) (items source) (definitions records) (Err fault) → r ≡ packed (answer_to fault) → new ≡ old
      → ReadInto source records old new r
