-- A line as text: the code in 3 columns, the seven numbers in 6 each, and byte 10.
use Rattle.std.specs.Prelude.{◌≡◌, ℕ, zero, suc, ◌+◌, ◌-◌, ◌*◌, ◌/◌, ◌%◌, ◌≤◌, min, if◌then◌else◌, ◌==◌, List, [], ◌∷◌, ◌++◌, length, take, drop, slice_index}
use Rattle.std.specs.List.{flat_map}
use Rattle.lines.specs.Lines.{numbers}
use Rattle.lines.specs.declared.line.Line.{Line}

-- the last digit of n, or a space if n is 0
abbrev pub digit_or_space : ℕ → ℕ
digit_or_space n = (if n == 0 then 32 else 48 + n % 10)

-- n at the end of k columns, with spaces in front; 0 is spaces only
abbrev pub spaced : ℕ → ℕ → List ℕ
spaced zero n = []
spaced (suc k) n = spaced k (n / 10) ++ digit_or_space n ∷ []

-- n in k columns; the last one has a digit always
unfoldable pub in_columns : ℕ → ℕ → List ℕ
in_columns zero n = []
in_columns (suc k) n = spaced k (n / 10) ++ (48 + n % 10) ∷ []

-- the columns of a code, and of a number
abbrev pub in_three : ℕ → List ℕ
in_three = in_columns 3

abbrev pub in_six : ℕ → List ℕ
in_six = in_columns 6

unfoldable pub encoded : Line → List ℕ
encoded l = in_three l.code ++ flat_map in_six (numbers l) ++ 10 ∷ []

-- the bytes with others written over them from i on
abbrev pub pasted : ℕ → List ℕ → List ℕ → List ℕ
pasted i t s = take i s ++ t ++ drop (i + length t) s

-- the value of the byte at i as a digit, 0 for a space
abbrev pub value : List ℕ → ℕ → ℕ
value s i = slice_index s i - 48

-- what k columns from i on are read as, whatever bytes stand there
abbrev pub of_columns : ℕ → List ℕ → ℕ → ℕ
of_columns zero s i = 0
of_columns (suc k) s i = of_columns k s i * 10 + value s (i + k)

-- a code and a number that are read, at most what their types hold
abbrev pub of_three : List ℕ → ℕ → ℕ
of_three s i = min (of_columns 3 s i) 255

abbrev pub of_six : List ℕ → ℕ → ℕ
of_six s i = min (of_columns 6 s i) 65535

unfoldable pub decoded : List ℕ → Line
decoded s =
    record {
      code = of_three s 0;
      c1 = of_six s 3;
      c2 = of_six s 9;
      c3 = of_six s 15;
      c4 = of_six s 21;
      c5 = of_six s 27;
      c6 = of_six s 33;
      c7 = of_six s 39;
    }

-- each number is in its range
pub record InRange (l : Line) : Type 0 where
  pub code : l.code ≤ 255
  pub c1 : l.c1 ≤ 65535
  pub c2 : l.c2 ≤ 65535
  pub c3 : l.c3 ≤ 65535
  pub c4 : l.c4 ≤ 65535
  pub c5 : l.c5 ≤ 65535
  pub c6 : l.c6 ≤ 65535
  pub c7 : l.c7 ≤ 65535

-- bytes are in form if they are what some line is written as
abbrev pub InForm : List ℕ → Type 0
InForm s = (l : Line) × InRange l × (s ≡ encoded l)
