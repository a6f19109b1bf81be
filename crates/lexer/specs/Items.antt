-- What stands next in a source, a token with its first byte or what is wrong where none can be read; and all that a source has, as a function.
use Rattle.std.specs.Prelude.{◌≡◌, ℕ, zero, suc, Bool, true, false, List, [], ◌∷◌, length, Result, Ok, Err}
use Rattle.std.specs.Borrow.{Bor}
use Rattle.lexer.specs.Reading.{WordRead, word_at}
use Rattle.lexer.specs.Skipping.{Skipped, skipped}
use Rattle.lexer.specs.Lexicon.{byte_of}
use Rattle.lexer.specs.declared.fault.LexicalFault.{LexicalFault}
use Rattle.lexer.specs.declared.token.Token.{Token}
use Rattle.lexer.specs.declared.token.Word.{Word}
use Rattle.lexer.specs.declared.token.Word.TheVariants.{End}

abbrev pub Item : Type 0
Item = Result Token LexicalFault

-- a token and what is behind it
pub record Taken : Type 0 where
  pub token : Token
  pub rest : List ℕ

abbrev pub taken_word : (byte : ℕ) → Result WordRead LexicalFault → Result Taken LexicalFault
taken_word byte (Err fault) = Err fault
taken_word byte (Ok l) = Ok (record { token = record { word = l.word; byte = byte }; rest = l.rest })

abbrev pub taken_behind : (whole : ℕ) → Skipped → Result Taken LexicalFault
taken_behind whole (Err fault) = Err fault
taken_behind whole (Ok bs) = taken_word (byte_of whole bs) (word_at (byte_of whole bs) bs)

-- the first token of these bytes, the last ones of a source of so many
abbrev pub taken : (whole : ℕ) → List ℕ → Result Taken LexicalFault
taken whole bs = taken_behind whole (skipped whole [] bs)

-- a call answers that
abbrev pub Takes : Result Taken LexicalFault → Result (Token × Bor (List ℕ)) LexicalFault → Type 0
Takes t (Ok (token, rest)) = t ≡ Ok (record { token = token; rest = rest.now })
Takes t (Err fault) = t ≡ Err fault

abbrev pub item_of : Result Taken LexicalFault → Item
item_of (Err fault) = Err fault
item_of (Ok t) = Ok t.token

-- no token comes behind the end
abbrev pub ends : Word → Bool
ends End = true
ends _ = false

-- what comes behind that, if `more` gives the items of bytes
abbrev pub behind_with : (List ℕ → List Item) → Result Taken LexicalFault → List Item
behind_with more (Err fault) = []
behind_with more (Ok t) = elim (ends t.token.word) [ true ↦ [] | false ↦ more t.rest ]

-- the first items of these bytes, at most so many
abbrev pub items_within : (most whole : ℕ) → List ℕ → List Item
items_within zero whole bs = []
items_within (suc most) whole bs = item_of (taken whole bs) ∷ behind_with (items_within most whole) (taken whole bs)

-- Every token but the end uses a byte.
unfoldable pub items_from : (whole : ℕ) → List ℕ → List Item
items_from whole bs = items_within (suc (length bs)) whole bs

-- the items of a source: its tokens in order, up to the end or the first fault
abbrev pub items : List ℕ → List Item
items source = items_from (length source) source
