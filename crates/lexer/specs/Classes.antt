-- The class of a byte.
use Rattle.std.specs.Prelude.{ℕ, Bool, true, false, ◌||◌, ◌&&◌, List, [], ◌∷◌, codes, ◌==◌, nat_le, if◌then◌else◌}
use Rattle.lexer.specs.declared.class.Class.{Class}
use Rattle.lexer.specs.declared.class.Class.TheVariants.{Blank, Letter, Digit, Special, Delimiter, Reserved, Illegal}

abbrev pub one_of : List ℕ → ℕ → Bool
one_of [] b = false
one_of (c ∷ cs) b = b == c || one_of cs b

abbrev pub between : ℕ → ℕ → ℕ → Bool
between low high b = nat_le low b && nat_le b high

-- tab, line feed, form feed, carriage return, space
abbrev pub blank : ℕ → Bool
blank b = one_of (9 ∷ 10 ∷ 12 ∷ 13 ∷ 32 ∷ []) b

-- A to Z, the backquote, a to z
abbrev pub letter : ℕ → Bool
letter b = between 65 90 b || b == 96 || between 97 122 b

abbrev pub digit : ℕ → Bool
digit b = between 48 57 b

-- the last three are the backslash, ^ and the bar
abbrev pub special : ℕ → Bool
special b = one_of (codes "#$%&*+-/:<=>@") b || b == 92 || b == 94 || b == 124

abbrev pub delimiter : ℕ → Bool
delimiter b = one_of (codes "!(),.;?[]_{}") b

-- the double quote, the quote and the tilde
abbrev pub reserved : ℕ → Bool
reserved b = b == 34 || b == 39 || b == 126

unfoldable pub class_of : ℕ → Class
class_of b =
    if blank b then Blank else
    (if letter b then Letter else
    (if digit b then Digit else
    (if special b then Special else
    (if delimiter b then Delimiter else
    (if reserved b then Reserved else Illegal)))))

abbrev pub is_blank : Class → Bool
is_blank Blank = true
is_blank _ = false

abbrev pub is_illegal : Class → Bool
is_illegal Illegal = true
is_illegal _ = false

-- the classes of the bytes that a word is made of, and a symbol
abbrev pub in_word : Class → Bool
in_word Letter = true
in_word Digit = true
in_word _ = false

abbrev pub in_symbol : Class → Bool
in_symbol Special = true
in_symbol _ = false

-- no lexeme begins with them
abbrev pub begins_none : Class → Bool
begins_none Digit = true
begins_none Reserved = true
begins_none Illegal = true
begins_none _ = false
