-- Names: as they are kept, and when two are the same.
use Rattle.std.specs.Prelude.{ℕ, suc, ◌-◌, ◌/◌, ◌%◌, ◌≤◌, Bool, List, [], ◌∷◌, ◌++◌, length, replicate, All, IsTrue, Option, Some, None, if◌then◌else◌, nat_eq, nat_le}
use Rattle.std.specs.Cmp.Lexicographic.{pointwise}
use Rattle.lexer.specs.Classes.{class_of, in_word}
use Rattle.lexer.specs.declared.name.Name.{Name}

-- its 14 bytes
abbrev pub bytes_of : Name → List ℕ
bytes_of name = name.bytes

abbrev pub same : Name → Name → Bool
same v w = pointwise nat_eq v.bytes w.bytes

abbrev pub one_further : Option ℕ → Option ℕ
one_further None = None
one_further (Some k) = Some (suc k)

-- which of these binders binds the name: the innermost stands first and has number 1
abbrev pub number_of : List Name → Name → Option ℕ
number_of [] w = None
number_of (v ∷ vs) w = if same v w then Some 1 else one_further (number_of vs w)

-- a name as it is kept
abbrev pub kept : List ℕ → Name
kept bytes = record { bytes = bytes ++ replicate (14 - length bytes) 0 }

abbrev pub name_spelled : List ℕ → Option Name
name_spelled bytes = if nat_le (length bytes) 14 then Some (kept bytes) else None

-- the spellings that names of sources have are such
pub record IsSpelling (bytes : List ℕ) : Type 0 where
  pub short : length bytes ≤ 14
  pub letters_and_digits : All (λ b. IsTrue (in_word (class_of b))) bytes

-- two bytes a number, first the high one
abbrev pub two_bytes : List ℕ → List ℕ
two_bytes [] = []
two_bytes (n ∷ ns) = (n / 256) ∷ (n % 256) ∷ two_bytes ns
