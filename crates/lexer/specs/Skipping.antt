-- The space that stands next, as a function: blanks and comments are skipped from left to right, and two bytes looked at at a time.
use Rattle.std.specs.Prelude.{◌≡◌, ℕ, Bool, true, false, ◌&&◌, List, [], ◌∷◌, length, ◌==◌, nat_lt, Result, Ok, Err}
use Rattle.std.specs.Borrow.{Bor}
use Rattle.lexer.specs.Classes.{class_of, is_blank, is_illegal}
use Rattle.lexer.specs.Lexicon.{byte_of}
use Rattle.lexer.specs.declared.fault.LexicalFault.{LexicalFault}
use Rattle.lexer.specs.declared.fault.LexicalFault.TheVariants.{NoToken, OpenComment, DeepComment}

abbrev pub Skipped : Type 0
Skipped = Result (List ℕ) LexicalFault

-- at the end of the source: in comments, the innermost one is not closed
abbrev pub skipped_all : List ℕ → Skipped
skipped_all [] = Ok []
skipped_all (innermost ∷ opened) = Err (OpenComment innermost)

abbrev pub opens : ℕ → ℕ → Bool
opens b c = b == 40 && c == 42

abbrev pub closes : ℕ → ℕ → Bool
closes b c = b == 42 && c == 41

-- What is behind the space that these bytes begin with. `opened` has the first bytes of the comments that are open, the innermost first.
abbrev pub skipped : (whole : ℕ) → (opened : List ℕ) → List ℕ → Skipped
skipped whole opened [] = skipped_all opened
skipped whole [] (b ∷ []) = elim (is_blank (class_of b)) [ true ↦ Ok [] | false ↦ Ok (b ∷ []) ]
skipped whole (innermost ∷ opened) (b ∷ []) = elim (is_illegal (class_of b)) [ true ↦ Err (NoToken (byte_of whole (b ∷ []))) | false ↦ Err (OpenComment innermost) ]
skipped whole [] (b ∷ c ∷ bs) =
    elim (opens b c) [
      | true ↦ skipped whole (byte_of whole (b ∷ c ∷ bs) ∷ []) bs
      | false ↦ elim (is_blank (class_of b)) [ true ↦ skipped whole [] (c ∷ bs) | false ↦ Ok (b ∷ c ∷ bs) ]
    ]
skipped whole (innermost ∷ opened) (b ∷ c ∷ bs) =
    elim (opens b c) [
      | true ↦
          elim (nat_lt (length (innermost ∷ opened)) 128)
          [ true ↦ skipped whole (byte_of whole (b ∷ c ∷ bs) ∷ innermost ∷ opened) bs | false ↦ Err (DeepComment (byte_of whole (b ∷ c ∷ bs))) ]
      | false ↦
          elim (closes b c) [
            | true ↦ skipped whole opened bs
            | false ↦
                elim (is_illegal (class_of b))
                [ true ↦ Err (NoToken (byte_of whole (b ∷ c ∷ bs))) | false ↦ skipped whole (innermost ∷ opened) (c ∷ bs) ]
          ]
    ]

-- a call answers that
abbrev pub Skips : Skipped → Result (Bor (List ℕ)) LexicalFault → Type 0
Skips s (Ok rest) = s ≡ Ok rest.now
Skips s (Err fault) = s ≡ Err fault

-- a call skips a comment up to its end, or tells what is wrong with it; `opened` are open around it
abbrev pub Closes : (whole opening : ℕ) → (opened bs : List ℕ) → Result (Bor (List ℕ)) LexicalFault → Type 0
Closes whole opening opened bs (Ok rest) = skipped whole (opening ∷ opened) bs ≡ skipped whole opened rest.now
Closes whole opening opened bs (Err fault) = skipped whole (opening ∷ opened) bs ≡ Err fault
