-- The word that stands next, as a function.
use Rattle.std.specs.Prelude.{◌≡◌, ℕ, Bool, List, [], ◌∷◌, length, drop, take_while, Option, Some, None, Result, Ok, Err}
use Rattle.std.specs.Borrow.{Bor}
use Rattle.lexer.specs.Classes.{class_of, in_word, in_symbol}
use Rattle.lexer.specs.Words.{keyword, symbol, delimiter}
use Rattle.lexer.specs.Names.{name_spelled}
use Rattle.lexer.specs.declared.class.Class.{Class}
use Rattle.lexer.specs.declared.class.Class.TheVariants.{Letter, Special, Delimiter}
use Rattle.lexer.specs.declared.fault.LexicalFault.{LexicalFault}
use Rattle.lexer.specs.declared.fault.LexicalFault.TheVariants.{NoToken, LongName}
use Rattle.lexer.specs.declared.name.Name.{Name}
use Rattle.lexer.specs.declared.token.Word.{Word}
use Rattle.lexer.specs.declared.token.Word.TheVariants.{Name as named, End}

-- the longest run of bytes of such classes, and what is behind it
abbrev pub run : (Class → Bool) → List ℕ → List ℕ
run of bs = take_while (λ b. of (class_of b)) bs

abbrev pub behind_run : (Class → Bool) → List ℕ → List ℕ
behind_run of bs = drop (length (run of bs)) bs

abbrev pub name_word : Option Name → Option Word
name_word None = None
name_word (Some name) = Some (named name)

abbrev pub or_else : Option Word → Option Word → Option Word
or_else None o = o
or_else (Some w) o = Some w

abbrev pub keyword_or_name : List ℕ → Option Word
keyword_or_name bytes = or_else (keyword bytes) (name_word (name_spelled bytes))

-- a word and what is behind it
pub record WordRead : Type 0 where
  pub word : Word
  pub rest : List ℕ

abbrev pub word_or : LexicalFault → Option Word → List ℕ → Result WordRead LexicalFault
word_or fault None rest = Err fault
word_or fault (Some w) rest = Ok (record { word = w; rest = rest })

-- the word that a byte of that class begins, which has that number, and the bytes behind it
abbrev pub word_in : Class → (byte b : ℕ) → List ℕ → Result WordRead LexicalFault
word_in Letter byte b bs = word_or (LongName byte) (keyword_or_name (run in_word (b ∷ bs))) (behind_run in_word (b ∷ bs))
word_in Special byte b bs = word_or (NoToken byte) (symbol (run in_symbol (b ∷ bs))) (behind_run in_symbol (b ∷ bs))
word_in Delimiter byte b bs = Ok (record { word = delimiter (b ∷ []); rest = bs })
word_in _ byte b bs = Err (NoToken byte)

-- the word that these bytes begin with, the first of which has that number
abbrev pub word_at : (byte : ℕ) → List ℕ → Result WordRead LexicalFault
word_at byte [] = Ok (record { word = End; rest = [] })
word_at byte (b ∷ bs) = word_in (class_of b) byte b bs

-- a call answers that
abbrev pub Gives : Result WordRead LexicalFault → Result (Word × Bor (List ℕ)) LexicalFault → Type 0
Gives l (Ok (word, rest)) = l ≡ Ok (record { word = word; rest = rest.now })
Gives l (Err fault) = l ≡ Err fault
