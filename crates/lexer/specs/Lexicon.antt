-- The lexicon: what space is, what a lexeme is, and which token each is.
-- A list of bytes is what is left of a source from some byte on. `whole` is the length of the source.
use Rattle.std.specs.Prelude.{◌≡◌, ◌≢◌, ℕ, suc, ◌-◌, ◌<◌, ◌≤◌, Bool, List, [], ◌∷◌, ◌++◌, length, All, IsTrue, codes, Some, None}
use Rattle.lexer.specs.Classes.{class_of, is_blank, in_word, in_symbol}
use Rattle.lexer.specs.Words.{keyword, symbol, delimiter}
use Rattle.lexer.specs.Names.{kept}
use Rattle.lexer.specs.declared.class.Class.{Class}
use Rattle.lexer.specs.declared.class.Class.TheVariants.{Blank, Letter, Special, Delimiter, Illegal}
use Rattle.lexer.specs.declared.token.Token.{Token}
use Rattle.lexer.specs.declared.token.Word.{Word}
use Rattle.lexer.specs.declared.token.Word.TheVariants.{Name as named, End}

-- the number of the first of these bytes
abbrev pub byte_of : (whole : ℕ) → List ℕ → ℕ
byte_of whole bs = whole - length bs

-- these bytes stand next
abbrev pub BeginsWith : List ℕ → List ℕ → Type 0
BeginsWith mark bs = (rest : List ℕ) × (bs ≡ mark ++ rest)

-- a byte of such a class stands next
abbrev pub BeginsIn : (Class → Bool) → List ℕ → Type 0
BeginsIn classes bs = (b : ℕ) × (rest : List ℕ) × (bs ≡ b ∷ rest) × IsTrue (classes (class_of b))

-- Comments: behind an opening, with which so many are open, stands bs. There the comment closes, and rest is behind it.
-- Two bytes are looked at: a closing, an opening, or else one byte is passed.
pub data Comment : (opened : ℕ) → (bs rest : List ℕ) → Type 0 where
  closing : {n : ℕ} {rest : List ℕ} → Comment n (codes "*)" ++ rest) rest
  opening : {n : ℕ} {bs behind rest : List ℕ} → n < 128 → Comment (suc n) bs behind → Comment n behind rest → Comment n (codes "(*" ++ bs) rest
  other : {n b : ℕ} {bs rest : List ℕ} → (BeginsWith (codes "(*") (b ∷ bs) → ⊥) → (BeginsWith (codes "*)") (b ∷ bs) → ⊥) → (class_of b ≢ Illegal)
      → Comment n bs rest → Comment n (b ∷ bs) rest

-- Space: bs begins with it, and rest is behind it.
pub data Space : (bs rest : List ℕ) → Type 0 where
  blank : {b : ℕ} {bs rest : List ℕ} → class_of b ≡ Blank → Space bs rest → Space (b ∷ bs) rest
  comment : {bs behind rest : List ℕ} → Comment 1 bs behind → Space behind rest → Space (codes "(*" ++ bs) rest
  ended : {bs : List ℕ} → (BeginsWith (codes "(*") bs → ⊥) → (BeginsIn is_blank bs → ⊥) → Space bs bs

-- bs begins with the longest run of bytes of such classes, and rest is behind it
pub record LongestRun (classes : Class → Bool) (bs run rest : List ℕ) : Type 0 where
  pub parts : bs ≡ run ++ rest
  pub of_them : All (λ b. IsTrue (classes (class_of b))) run
  pub longest : BeginsIn classes rest → ⊥

-- Lexemes: bs begins with one, and rest is behind it.
pub data WordLexeme : (bs lexeme rest : List ℕ) → Type 0 where
  word_lexeme : {b : ℕ} {bs run rest : List ℕ} → class_of b ≡ Letter → LongestRun in_word (b ∷ bs) run rest → WordLexeme (b ∷ bs) run rest

pub data SymbolLexeme : (bs lexeme rest : List ℕ) → Type 0 where
  symbol_lexeme : {b : ℕ} {bs run rest : List ℕ} → class_of b ≡ Special → LongestRun in_symbol (b ∷ bs) run rest → SymbolLexeme (b ∷ bs) run rest

pub data DelimiterLexeme : (bs lexeme rest : List ℕ) → Type 0 where
  delimiter_lexeme : {b : ℕ} {rest : List ℕ} → class_of b ≡ Delimiter → DelimiterLexeme (b ∷ rest) (b ∷ []) rest

-- Words: bs begins with the lexeme of one, or has ended, and rest is behind it.
pub data WordOf : (bs : List ℕ) → Word → (rest : List ℕ) → Type 0 where
  a_keyword : {bs run rest : List ℕ} {w : Word} → WordLexeme bs run rest → keyword run ≡ Some w → WordOf bs w rest
  a_name : {bs run rest : List ℕ} → WordLexeme bs run rest → keyword run ≡ None → length run ≤ 14 → WordOf bs (named (kept run)) rest
  a_symbol : {bs run rest : List ℕ} {w : Word} → SymbolLexeme bs run rest → symbol run ≡ Some w → WordOf bs w rest
  a_delimiter : {bs one rest : List ℕ} → DelimiterLexeme bs one rest → WordOf bs (delimiter one) rest
  the_end : WordOf [] End []

-- Tokens: bs begins with space and a word, and rest is behind it.
pub data Reads (whole : ℕ) : (bs : List ℕ) → Token → (rest : List ℕ) → Type 0 where
  token : {bs behind rest : List ℕ} {w : Word} → Space bs behind → WordOf behind w rest
      → Reads whole bs (record { word = w; byte = byte_of whole behind }) rest
