-- The checker's tests over line numbers, in the order of the codes. L n is line n, and a line of code 0 where there is none.
use Rattle.std.specs.Prelude.{ℕ, ◌+◌, Bool, true, false, if◌then◌else◌, not, ◌&&◌, List, Some, None, Option, ◌==◌, nat_le, nat_lt}
use Rattle.lines.specs.Stores.{numbered}
use Rattle.lines.specs.declared.line.Line.{Line}
use Rattle.rules.specs.Faults.{numbers}
use Rattle.rules.specs.Names.{is_name, two_bytes}

abbrev pub no_line : Line
no_line = record { code = 0; c1 = 0; c2 = 0; c3 = 0; c4 = 0; c5 = 0; c6 = 0; c7 = 0 }

abbrev pub line_or_none : Option Line → Line
line_or_none None = no_line
line_or_none (Some l) = l

abbrev pub At : Type 0
At = ℕ → Line

abbrev pub at : List Line → At
at lines n = line_or_none (numbered lines n)

abbrev pub in_range : (low high n : ℕ) → Bool
in_range low high n = nat_le low n && nat_le n high

-- what a premise says
abbrev pub raises : At → (p A j C : ℕ) → Bool
raises L p A j C = (L p).code == 40 && (L p).c1 == A && (L p).c2 == j && (L p).c3 == C

abbrev pub puts : At → (p B j A C : ℕ) → Bool
puts L p B j A C = (L p).code == 41 && (L p).c1 == B && (L p).c2 == j && (L p).c3 == A && (L p).c4 == C

-- line p has this code, or one of these, and these first columns
abbrev pub pair : At → (code p c1 c2 : ℕ) → Bool
pair L code p c1 c2 = (L p).code == code && (L p).c1 == c1 && (L p).c2 == c2

abbrev pub triple : At → (code p c1 c2 c3 : ℕ) → Bool
triple L code p c1 c2 c3 = pair L code p c1 c2 && (L p).c3 == c3

abbrev pub judged : At → (low high p c1 c2 c3 : ℕ) → Bool
judged L low high p c1 c2 c3 = in_range low high (L p).code && (L p).c1 == c1 && (L p).c2 == c2 && (L p).c3 == c3

abbrev pub bound_is : At → (p E k B : ℕ) → Bool
bound_is L = triple L 42

abbrev pub typing_is : At → (p E k A : ℕ) → Bool
typing_is L = triple L 43

abbrev pub is_env : At → (p E : ℕ) → Bool
is_env L p E = (L p).code == 50 && (L p).c1 == E

abbrev pub is_type : At → (p E A : ℕ) → Bool
is_type L = pair L 51

abbrev pub is_sub : At → (p E A B : ℕ) → Bool
is_sub L = judged L 60 66

abbrev pub has_type : At → (p E a A : ℕ) → Bool
has_type L = judged L 70 79

-- line F is E,x:A or E,X<:A
abbrev pub binds_term : At → (F E A : ℕ) → Bool
binds_term L = pair L 31

abbrev pub binds_type : At → (F E A : ℕ) → Bool
binds_type L = pair L 32

-- 40: A, j, C, p, q
abbrev pub raise_top : Line → Bool
raise_top l = l.c3 == l.c1 && l.c4 == 0 && l.c5 == 0

abbrev pub raise_var : At → (k : ℕ) → Line → Bool
raise_var L k l =
    (l.c4 == 0) && l.c5 == 0
    && (if nat_le k l.c2 then l.c3 == l.c1 else (L l.c3).code == 11 && (L l.c3).c1 == k + 1)

-- a type of two parts: j for the first, and the second has its own
abbrev pub raise_parts : At → (code second : ℕ) → (A : Line) → Line → Bool
raise_parts L code second A l =
    ((L l.c3).code == code) && raises L l.c4 A.c1 l.c2 (L l.c3).c1 && raises L l.c5 A.c2 second (L l.c3).c2

abbrev pub raise_arrow : At → (A : Line) → Line → Bool
raise_arrow L A l = raise_parts L 12 l.c2 A l

abbrev pub raise_all : At → (A : Line) → Line → Bool
raise_all L A l = raise_parts L 13 (l.c2 + 1) A l

abbrev pub raise_rec : At → (A : Line) → Line → Bool
raise_rec L A l = (L l.c3).code == 14 && raises L l.c4 A.c1 (l.c2 + 1) (L l.c3).c1 && l.c5 == 0

abbrev pub raise_by : At → (A : Line) → Line → Bool
raise_by L A l =
    if A.code == 10 then raise_top l
    else if A.code == 11 then raise_var L A.c1 l
    else if A.code == 12 then raise_arrow L A l
    else if A.code == 13 then raise_all L A l
    else if A.code == 14 then raise_rec L A l
    else false

abbrev pub raise : At → Line → Bool
raise L l = raise_by L (L l.c1) l

-- 41: B, j, A, C, p, q, r
abbrev pub no_premises : Line → Bool
no_premises l = l.c5 == 0 && l.c6 == 0 && l.c7 == 0

abbrev pub put_top : Line → Bool
put_top l = l.c4 == l.c1 && no_premises l

abbrev pub put_var : At → (k : ℕ) → Line → Bool
put_var L k l =
    no_premises l
    && (if nat_lt k l.c2 then l.c4 == l.c1 else if k == l.c2 then l.c4 == l.c3 else (L l.c4).code == 11 && (L l.c4).c1 + 1 == k)

abbrev pub put_arrow : At → (B : Line) → Line → Bool
put_arrow L B l =
    ((L l.c4).code == 12) && puts L l.c5 B.c1 l.c2 l.c3 (L l.c4).c1
    && puts L l.c6 B.c2 l.c2 l.c3 (L l.c4).c2 && l.c7 == 0

abbrev pub put_all : At → (B : Line) → Line → Bool
put_all L B l =
    ((L l.c4).code == 13) && puts L l.c5 B.c1 l.c2 l.c3 (L l.c4).c1
    && raises L l.c6 l.c3 0 (L l.c6).c3 && puts L l.c7 B.c2 (l.c2 + 1) (L l.c6).c3 (L l.c4).c2

abbrev pub put_rec : At → (B : Line) → Line → Bool
put_rec L B l =
    ((L l.c4).code == 14) && raises L l.c5 l.c3 0 (L l.c5).c3
    && puts L l.c6 B.c1 (l.c2 + 1) (L l.c5).c3 (L l.c4).c1 && l.c7 == 0

abbrev pub put_by : At → (B : Line) → Line → Bool
put_by L B l =
    if B.code == 10 then put_top l
    else if B.code == 11 then put_var L B.c1 l
    else if B.code == 12 then put_arrow L B l
    else if B.code == 13 then put_all L B l
    else if B.code == 14 then put_rec L B l
    else false

abbrev pub put : At → Line → Bool
put L l = put_by L (L l.c1) l

-- 42: E, k, B, p, q
abbrev pub bound_last : At → (E : Line) → Line → Bool
bound_last L E l = l.c2 == 1 && raises L l.c5 E.c2 0 l.c3

abbrev pub bound_past_type : At → (E : Line) → Line → Bool
bound_past_type L E l =
    ((L l.c4).code == 42) && (L l.c4).c1 == E.c1 && (L l.c4).c2 + 1 == l.c2 && raises L l.c5 (L l.c4).c3 0 l.c3

abbrev pub bound_past_term : At → (E : Line) → Line → Bool
bound_past_term L E l = bound_is L l.c4 E.c1 l.c2 l.c3 && l.c5 == 0

abbrev pub bound_by : At → (E : Line) → Line → Bool
bound_by L E l =
    if E.code == 31 then bound_past_term L E l
    else if E.code == 32 then (if l.c4 == 0 then bound_last L E l else bound_past_type L E l)
    else false

abbrev pub bound : At → Line → Bool
bound L l = bound_by L (L l.c1) l

-- 43: E, k, A, p, q
abbrev pub typing_last : (E : Line) → Line → Bool
typing_last E l = l.c2 == 1 && l.c3 == E.c2 && l.c5 == 0

abbrev pub typing_past_term : At → (E : Line) → Line → Bool
typing_past_term L E l =
    ((L l.c4).code == 43) && (L l.c4).c1 == E.c1 && (L l.c4).c2 + 1 == l.c2 && (L l.c4).c3 == l.c3 && l.c5 == 0

abbrev pub typing_past_type : At → (E : Line) → Line → Bool
typing_past_type L E l = typing_is L l.c4 E.c1 l.c2 (L l.c4).c3 && raises L l.c5 (L l.c4).c3 0 l.c3

abbrev pub typing_by : At → (E : Line) → Line → Bool
typing_by L E l =
    if E.code == 31 then (if l.c4 == 0 then typing_last E l else typing_past_term L E l)
    else if E.code == 32 then typing_past_type L E l
    else false

abbrev pub typing : At → Line → Bool
typing L l = typing_by L (L l.c1) l

-- 50: E, p
abbrev pub env_by : At → (E : Line) → Line → Bool
env_by L E l =
    if E.code == 30 then l.c2 == 0
    else if E.code == 31 then is_type L l.c2 E.c1 E.c2
    else if E.code == 32 then is_type L l.c2 E.c1 E.c2
    else false

abbrev pub env : At → Line → Bool
env L l = env_by L (L l.c1) l

-- 51: E, A, p, q
abbrev pub type_top : At → Line → Bool
type_top L l = is_env L l.c3 l.c1 && l.c4 == 0

abbrev pub type_var : At → (k : ℕ) → Line → Bool
type_var L k l = is_env L l.c3 l.c1 && bound_is L l.c4 l.c1 k (L l.c4).c3

abbrev pub type_arrow : At → (A : Line) → Line → Bool
type_arrow L A l = is_type L l.c3 l.c1 A.c1 && is_type L l.c4 l.c1 A.c2

abbrev pub type_all : At → (A : Line) → Line → Bool
type_all L A l = is_type L l.c3 (L l.c3).c1 A.c2 && binds_type L (L l.c3).c1 l.c1 A.c1 && l.c4 == 0

abbrev pub type_rec : At → (A : Line) → Line → Bool
type_rec L A l =
    is_type L l.c3 (L l.c3).c1 A.c1 && binds_type L (L l.c3).c1 l.c1 (L (L l.c3).c1).c2
    && (L (L (L l.c3).c1).c2).code == 10 && l.c4 == 0

abbrev pub formed_by : At → (A : Line) → Line → Bool
formed_by L A l =
    if A.code == 10 then type_top L l
    else if A.code == 11 then type_var L A.c1 l
    else if A.code == 12 then type_arrow L A l
    else if A.code == 13 then type_all L A l
    else if A.code == 14 then type_rec L A l
    else false

abbrev pub formed : At → Line → Bool
formed L l = formed_by L (L l.c2) l

-- 60 to 66: E, A, B, p, q
abbrev pub sub_refl : At → Line → Bool
sub_refl L l = l.c2 == l.c3 && is_type L l.c4 l.c1 l.c2 && l.c5 == 0

abbrev pub sub_trans : At → Line → Bool
sub_trans L l = is_sub L l.c4 l.c1 l.c2 (L l.c4).c3 && is_sub L l.c5 l.c1 (L l.c4).c3 l.c3

abbrev pub sub_var : At → Line → Bool
sub_var L l = (L l.c2).code == 11 && is_env L l.c4 l.c1 && bound_is L l.c5 l.c1 (L l.c2).c1 l.c3

abbrev pub sub_top : At → Line → Bool
sub_top L l = (L l.c3).code == 10 && is_type L l.c4 l.c1 l.c2 && l.c5 == 0

abbrev pub sub_arrow : At → Line → Bool
sub_arrow L l =
    ((L l.c2).code == 12) && (L l.c3).code == 12 && is_sub L l.c4 l.c1 (L l.c3).c1 (L l.c2).c1
    && is_sub L l.c5 l.c1 (L l.c2).c2 (L l.c3).c2

abbrev pub sub_all_equal : At → Line → Bool
sub_all_equal L l =
    ((L l.c2).code == 13) && (L l.c3).code == 13 && (L l.c2).c1 == (L l.c3).c1
    && is_sub L l.c4 (L l.c4).c1 (L l.c2).c2 (L l.c3).c2 && binds_type L (L l.c4).c1 l.c1 (L l.c2).c1 && l.c5 == 0

abbrev pub sub_all_least : At → Line → Bool
sub_all_least L l =
    ((L l.c2).code == 13) && (L l.c3).code == 13 && is_sub L l.c4 l.c1 (L l.c3).c1 (L l.c2).c1
    && is_sub L l.c5 (L l.c5).c1 (L l.c2).c2 (L l.c3).c2 && binds_type L (L l.c5).c1 l.c1 (L l.c3).c1

abbrev pub subtype : At → Line → Bool
subtype L l =
    if l.code == 60 then sub_refl L l
    else if l.code == 61 then sub_trans L l
    else if l.code == 62 then sub_var L l
    else if l.code == 63 then sub_top L l
    else if l.code == 64 then sub_arrow L l
    else if l.code == 65 then sub_all_equal L l
    else if l.code == 66 then sub_all_least L l
    else false

-- 70 to 79: E, a, A, p, q, r
abbrev pub has_subsumed : At → Line → Bool
has_subsumed L l =
    has_type L l.c4 l.c1 l.c2 (L l.c4).c3 && is_sub L l.c5 l.c1 (L l.c4).c3 l.c3 && l.c6 == 0

abbrev pub has_var : At → Line → Bool
has_var L l =
    ((L l.c2).code == 21) && is_env L l.c4 l.c1 && typing_is L l.c5 l.c1 (L l.c2).c1 l.c3 && l.c6 == 0

abbrev pub has_top : At → Line → Bool
has_top L l =
    ((L l.c2).code == 20) && (L l.c3).code == 10 && is_env L l.c4 l.c1 && l.c5 == 0 && l.c6 == 0

-- a function of a term or of a type: the codes of the term, of its type and of the binding
abbrev pub has_function : At → (term arrow binding : ℕ) → Line → Bool
has_function L term arrow binding l =
    ((L l.c2).code == term) && (L l.c3).code == arrow && (L l.c2).c1 == (L l.c3).c1
    && has_type L l.c4 (L l.c4).c1 (L l.c2).c2 (L l.c3).c2 && pair L binding (L l.c4).c1 l.c1 (L l.c2).c1
    && l.c5 == 0 && l.c6 == 0

abbrev pub has_fun : At → Line → Bool
has_fun L = has_function L 22 12 31

abbrev pub has_appl : At → Line → Bool
has_appl L l =
    ((L l.c2).code == 23) && has_type L l.c4 l.c1 (L l.c2).c1 (L l.c4).c3 && (L (L l.c4).c3).code == 12
    && (L (L l.c4).c3).c2 == l.c3 && has_type L l.c5 l.c1 (L l.c2).c2 (L (L l.c4).c3).c1 && l.c6 == 0

abbrev pub has_fun2 : At → Line → Bool
has_fun2 L = has_function L 24 13 32

abbrev pub has_appl2 : At → Line → Bool
has_appl2 L l =
    ((L l.c2).code == 25) && has_type L l.c4 l.c1 (L l.c2).c1 (L l.c4).c3 && (L (L l.c4).c3).code == 13
    && is_sub L l.c5 l.c1 (L l.c2).c2 (L (L l.c4).c3).c1
    && puts L l.c6 (L (L l.c4).c3).c2 1 (L l.c2).c2 l.c3

abbrev pub has_fold : At → Line → Bool
has_fold L l =
    ((L l.c2).code == 26) && (L l.c2).c1 == l.c3 && (L l.c3).code == 14
    && puts L l.c4 (L l.c3).c1 1 l.c3 (L l.c4).c4 && has_type L l.c5 l.c1 (L l.c2).c2 (L l.c4).c4 && l.c6 == 0

abbrev pub has_unfold : At → Line → Bool
has_unfold L l =
    ((L l.c2).code == 27) && has_type L l.c4 l.c1 (L l.c2).c1 (L l.c4).c3 && (L (L l.c4).c3).code == 14
    && puts L l.c5 (L (L l.c4).c3).c1 1 (L l.c4).c3 l.c3 && l.c6 == 0

abbrev pub has_rec : At → Line → Bool
has_rec L l =
    ((L l.c2).code == 28) && (L l.c2).c1 == l.c3 && has_type L l.c4 (L l.c4).c1 (L l.c2).c2 l.c3
    && binds_term L (L l.c4).c1 l.c1 l.c3 && l.c5 == 0 && l.c6 == 0

abbrev pub typed : At → Line → Bool
typed L l =
    if l.code == 70 then has_subsumed L l
    else if l.code == 71 then has_var L l
    else if l.code == 72 then has_top L l
    else if l.code == 73 then has_fun L l
    else if l.code == 74 then has_appl L l
    else if l.code == 75 then has_fun2 L l
    else if l.code == 76 then has_appl2 L l
    else if l.code == 77 then has_fold L l
    else if l.code == 78 then has_unfold L l
    else if l.code == 79 then has_rec L l
    else false

-- 90
abbrev pub name : Line → Bool
name l = is_name (two_bytes (numbers l))

-- 91 and 92, where d is the latest definition and E the session environment, 0 where there is none
abbrev pub define_type : At → (d E : ℕ) → Line → Bool
define_type L d E l = not (E == 0) && l.c6 == d && l.c5 == E && is_sub L l.c4 E l.c3 l.c2

abbrev pub define_term : At → (d E : ℕ) → Line → Bool
define_term L d E l = not (E == 0) && l.c6 == d && has_type L l.c4 E l.c3 l.c2 && binds_term L l.c5 E l.c2

-- 11 and 21: a variable's number is not 0
abbrev pub numbered_variable : (variable : ℕ) → Line → Bool
numbered_variable variable l = if l.code == variable then not (l.c1 == 0) else true

-- cause 5: the line follows
abbrev pub follows : At → (d E : ℕ) → Line → Bool
follows L d E l =
    if in_range 10 14 l.code then numbered_variable 11 l
    else if in_range 20 28 l.code then numbered_variable 21 l
    else if in_range 30 32 l.code then true
    else if l.code == 40 then raise L l
    else if l.code == 41 then put L l
    else if l.code == 42 then bound L l
    else if l.code == 43 then typing L l
    else if l.code == 50 then env L l
    else if l.code == 51 then formed L l
    else if in_range 60 66 l.code then subtype L l
    else if in_range 70 79 l.code then typed L l
    else if l.code == 90 then name l
    else if l.code == 91 then define_type L d E l
    else if l.code == 92 then define_term L d E l
    else false

-- the latest definition and the session environment after line n, which is l
abbrev pub latest_after : (d n : ℕ) → Line → ℕ
latest_after d n l = if in_range 91 92 l.code then n else d

abbrev pub env_after : (E n : ℕ) → Line → ℕ
env_after E n l =
    if in_range 91 92 l.code then l.c5
    else if l.code == 30 then n
    else E
