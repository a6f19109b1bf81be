-- The items of a source: its tokens in order, ended by the end or by what is wrong where no token can be read.
use Rattle.std.specs.Prelude.{◌≡◌, ◌≢◌, ℕ, List, [], ◌∷◌, length, Result, Ok, Err}
use Rattle.std.specs.Borrow.{Bor}
use Rattle.lexer.specs.Lexicon.{Reads}
use Rattle.lexer.specs.Faults.{Faulty}
use Rattle.lexer.specs.Items.{Item}
use Rattle.lexer.specs.declared.fault.LexicalFault.{LexicalFault}
use Rattle.lexer.specs.declared.token.Token.{Token}
use Rattle.lexer.specs.declared.token.Word.TheVariants.{End}

-- at bs the lexicon gives this token and no other, and nothing is wrong
pub record OneToken (whole : ℕ) (bs : List ℕ) (token : Token) (rest : List ℕ) : Type 0 where
  pub given : Reads whole bs token rest
  pub only : (other : Token) (behind : List ℕ) → Reads whole bs other behind → (other ≡ token) × (behind ≡ rest)
  pub sound : (fault : LexicalFault) → Faulty whole bs fault → ⊥

-- at bs the lexicon gives no token, and this and nothing else is wrong
pub record OneFault (whole : ℕ) (bs : List ℕ) (fault : LexicalFault) : Type 0 where
  pub wrong : Faulty whole bs fault
  pub only : (other : LexicalFault) → Faulty whole bs other → other ≡ fault
  pub none : (token : Token) (rest : List ℕ) → Reads whole bs token rest → ⊥

-- a call answers so
abbrev pub Tells : (whole : ℕ) → List ℕ → Result (Token × Bor (List ℕ)) LexicalFault → Type 0
Tells whole bs (Ok (token, rest)) = OneToken whole bs token rest.now
Tells whole bs (Err fault) = OneFault whole bs fault

pub data ItemsOf (whole : ℕ) : List ℕ → List Item → Type 0 where
  at_end : {bs rest : List ℕ} {token : Token} → Reads whole bs token rest → token.word ≡ End → ItemsOf whole bs (Ok token ∷ [])
  at_fault : {bs : List ℕ} {fault : LexicalFault} → Faulty whole bs fault → ItemsOf whole bs (Err fault ∷ [])
  going_on : {bs rest : List ℕ} {token : Token} {items : List Item} → Reads whole bs token rest → (token.word ≢ End) → ItemsOf whole rest items
      → ItemsOf whole bs (Ok token ∷ items)

-- these are the items of the source, and there are no others
pub record Lexed (source : List ℕ) (items : List Item) : Type 0 where
  pub gives : ItemsOf (length source) source items
  pub only : (others : List Item) → ItemsOf (length source) source others → others ≡ items
