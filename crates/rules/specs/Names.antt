-- Names: 1 to 14 letters and digits, a letter first, and no keyword. A line spells one with two bytes a number, 0 after its end.
use Rattle.std.specs.Prelude.{ℕ, ◌/◌, ◌%◌, Bool, true, false, if◌then◌else◌, ◌&&◌, ◌||◌, not, List, [], ◌∷◌, codes, ◌==◌, nat_le}

abbrev pub between : ℕ → ℕ → ℕ → Bool
between low high b = nat_le low b && nat_le b high

-- A to Z; the backquote and a to z
abbrev pub letter : ℕ → Bool
letter b = between 65 90 b || between 96 122 b

abbrev pub letter_or_digit : ℕ → Bool
letter_or_digit b = letter b || between 48 57 b

-- letters and digits up to the first 0, and only 0 from there on
abbrev pub padded : Bool → List ℕ → Bool
padded ended [] = true
padded false (b ∷ bs) = if b == 0 then padded true bs else letter_or_digit b && padded false bs
padded true (b ∷ bs) = b == 0 && padded true bs

-- the bytes are this word, and then a 0
abbrev pub spells : List ℕ → List ℕ → Bool
spells word [] = false
spells [] (b ∷ bs) = b == 0
spells (c ∷ word) (b ∷ bs) = b == c && spells word bs

abbrev pub keywords : List (List ℕ)
keywords =
    codes "All" ∷ codes "Let" ∷ codes "Rec" ∷ codes "Top" ∷ codes "fold" ∷ codes "fun" ∷ codes "judge" ∷ codes "let" ∷ codes "rec"
    ∷ codes "top" ∷ codes "unfold" ∷ []

abbrev pub spells_one : List (List ℕ) → List ℕ → Bool
spells_one [] bs = false
spells_one (word ∷ words) bs = spells word bs || spells_one words bs

abbrev pub starts_with_letter : List ℕ → Bool
starts_with_letter [] = false
starts_with_letter (b ∷ bs) = letter b

abbrev pub is_name : List ℕ → Bool
is_name bs = starts_with_letter bs && padded false bs && not (spells_one keywords bs)

abbrev pub two_bytes : List ℕ → List ℕ
two_bytes [] = []
two_bytes (n ∷ ns) = (n / 256) ∷ (n % 256) ∷ two_bytes ns
