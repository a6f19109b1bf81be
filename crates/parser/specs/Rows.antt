-- What functions that read the end of a row promise.
use Rattle.std.specs.Prelude.{ℕ, List, [], ◌∷◌, Result, Ok, Err}
use Rattle.lexer.specs.Items.{Item}
use Rattle.lexer.specs.declared.token.Word.TheVariants.{Colon, Open, Close, Semicolon, End}
use Rattle.syntax.specs.Named.{NamedPhrase}
use Rattle.syntax.specs.declared.phrase.Phrase.{Phrase}
use Rattle.grammar.specs.Notation.{Kind, phrase, Val, type, term, inner, Sym, whole, part, Action, tok, ident}
use Rattle.grammar.specs.Steps.{Reads, ReadsPart, Stops, StopsPart}
use Rattle.grammar.specs.declared.fault.SyntaxFault.{SyntaxFault}
use Rattle.parser.specs.declared.parser.Parser.{Parser}
use Rattle.parser.specs.Parsing.{items, nodes, placed, limits, LaidPhrase}

-- The symbols ss, the last ones of a row of kind K, are read, and what is answered is what Laid says of the value; or reading them stops.
abbrev pub ParsedRow : {X : Type 0} (K : Kind) (d q : ℕ) (ss : List Sym) → Action ss (Val K) → (old new : Parser) → (Val K → X → Type 0)
    → Result X SyntaxFault → Type 0
ParsedRow K d q ss f old new Laid (Ok x) =
    (v : Val K) × Reads (limits old) K d (placed old) q ss f (items old) (items new) (placed new) v × Laid v x
ParsedRow K d q ss f old new Laid (Err e) = Stops (limits old) d (placed old) q ss (items old) e

-- behind fold and its beginning, and behind rec and its beginning
abbrev pub behind_fold : List Sym
behind_fold = tok Open ∷ tok Colon ∷ part inner type ∷ tok Close ∷ tok Open ∷ part inner term ∷ tok Close ∷ whole ∷ []

abbrev pub behind_rec : List Sym
behind_rec = tok Open ∷ ident ∷ tok Colon ∷ part inner type ∷ tok Close ∷ part inner term ∷ whole ∷ []

-- what stands behind each phrase
abbrev pub ending : List Sym
ending = tok Semicolon ∷ tok End ∷ []

-- A phrase that begins at `old` is read up to p: whatever its last symbols give, the phrase gives.
pub record Begun (old : Parser) (ss : List Sym) (f : Action ss (Val phrase)) (p : Parser) : Type 0 where
  pub reads : {left : List Item} {n : ℕ} {v : Val phrase} → Reads (limits p) phrase 0 (placed p) 0 ss f (items p) left n v
      → ReadsPart (limits old) phrase 0 (placed old) 0 (items old) left n v
  pub stops : {e : SyntaxFault} → Stops (limits p) 0 (placed p) 0 ss (items p) e → StopsPart (limits old) phrase 0 (placed old) 0 (items old) e

-- All of a phrase but its ending is read and its nodes are laid; or reading it stops.
abbrev pub ParsedBody : (old new : Parser) → Result Phrase SyntaxFault → Type 0
ParsedBody old new (Ok x) = (v : NamedPhrase) × LaidPhrase (nodes old) (nodes new) v x × Begun old ending v new
ParsedBody old new (Err e) = StopsPart (limits old) phrase 0 (placed old) 0 (items old) e
