-- What is wrong where the lexicon gives no token, and which byte is named.
use Rattle.std.specs.Prelude.{◌≡◌, ◌≢◌, IsTrue, ℕ, suc, ◌<◌, ◌≤◌, List, [], ◌∷◌, ◌++◌, length, codes, None}
use Rattle.lexer.specs.Classes.{class_of, begins_none}
use Rattle.lexer.specs.Words.{keyword, symbol}
use Rattle.lexer.specs.Lexicon.{byte_of, BeginsWith, Comment, Space, WordLexeme, SymbolLexeme}
use Rattle.lexer.specs.declared.class.Class.TheVariants.{Blank, Illegal}
use Rattle.lexer.specs.declared.fault.LexicalFault.{LexicalFault}
use Rattle.lexer.specs.declared.fault.LexicalFault.TheVariants.{NoToken, OpenComment, LongName, DeepComment}

-- a comment that opened at byte `first`, with which so many are open: bs stands behind its opening
pub data CommentFault (whole : ℕ) : (opened first : ℕ) → List ℕ → LexicalFault → Type 0 where
  not_closed : {n first : ℕ} → CommentFault whole n first [] (OpenComment first)
  not_legal : {n first b : ℕ} {bs : List ℕ} → class_of b ≡ Illegal → CommentFault whole n first (b ∷ bs) (NoToken (byte_of whole (b ∷ bs)))
  too_deep : {n first : ℕ} {bs : List ℕ} → 128 ≤ n → CommentFault whole n first (codes "(*" ++ bs) (DeepComment (byte_of whole (codes "(*" ++ bs)))
  in_opened : {n first : ℕ} {bs : List ℕ} {fault : LexicalFault} → n < 128 → CommentFault whole (suc n) (byte_of whole (codes "(*" ++ bs)) bs fault
      → CommentFault whole n first (codes "(*" ++ bs) fault
  behind_opened : {n first : ℕ} {bs behind : List ℕ} {fault : LexicalFault} → n < 128 → Comment (suc n) bs behind → CommentFault whole n first behind fault
      → CommentFault whole n first (codes "(*" ++ bs) fault
  behind_other : {n first b : ℕ} {bs : List ℕ} {fault : LexicalFault} → (BeginsWith (codes "(*") (b ∷ bs) → ⊥) → (BeginsWith (codes "*)") (b ∷ bs) → ⊥)
      → (class_of b ≢ Illegal) → CommentFault whole n first bs fault → CommentFault whole n first (b ∷ bs) fault

pub data SpaceFault (whole : ℕ) : List ℕ → LexicalFault → Type 0 where
  behind_blank : {b : ℕ} {bs : List ℕ} {fault : LexicalFault} → class_of b ≡ Blank → SpaceFault whole bs fault → SpaceFault whole (b ∷ bs) fault
  in_comment : {bs : List ℕ} {fault : LexicalFault} → CommentFault whole 1 (byte_of whole (codes "(*" ++ bs)) bs fault → SpaceFault whole (codes "(*" ++ bs) fault
  behind_comment : {bs behind : List ℕ} {fault : LexicalFault} → Comment 1 bs behind → SpaceFault whole behind fault → SpaceFault whole (codes "(*" ++ bs) fault

-- a lexeme that is no token, or a byte that begins none; `byte` is the number of the first of these bytes
pub data WordFault (byte : ℕ) : List ℕ → LexicalFault → Type 0 where
  no_symbol : {bs run rest : List ℕ} → SymbolLexeme bs run rest → symbol run ≡ None → WordFault byte bs (NoToken byte)
  long_name : {bs run rest : List ℕ} → WordLexeme bs run rest → keyword run ≡ None → 14 < length run → WordFault byte bs (LongName byte)
  no_lexeme : {b : ℕ} {bs : List ℕ} → IsTrue (begins_none (class_of b)) → WordFault byte (b ∷ bs) (NoToken byte)

pub data Faulty (whole : ℕ) : List ℕ → LexicalFault → Type 0 where
  in_space : {bs : List ℕ} {fault : LexicalFault} → SpaceFault whole bs fault → Faulty whole bs fault
  in_word : {bs behind : List ℕ} {fault : LexicalFault} → Space bs behind → WordFault (byte_of whole behind) behind fault → Faulty whole bs fault
