-- The code of a statement, and the line that says it.
use Rattle.std.specs.Prelude.{ℕ, List, map, get_or}
use Rattle.lines.specs.declared.line.Line.{Line}
use Rattle.rules.specs.Quantifiers.{all_number}
use Rattle.rules.specs.Statements.{TypeLine, top', var', arrow', all', rec', TermLine, top_term', var_term', fun', appl', fun2', appl2', fold_term', unfold_term', rec_term', EnvLine, empty', with_term', with_type', SubRule, s_refl, s_trans, s_var, s_top, s_arrow, s_all, HasRule, h_subsumed, h_var, h_top, h_fun, h_appl, h_fun2, h_appl2, h_fold, h_unfold, h_rec, Statement, type_line, term_line, env_line, raising, putting, bound_line, typing_line, env_judged, type_judged, sub_judged, has_judged, name_line, let_type, let_term, Column, plain, type_at, term_at, env_at, name_at, premise_at, definition_at, columns}

abbrev pub type_code : TypeLine → ℕ
type_code top' = 10
type_code (var' k) = 11
type_code (arrow' A B) = 12
type_code (all' A B) = 13
type_code (rec' B) = 14

abbrev pub term_code : TermLine → ℕ
term_code top_term' = 20
term_code (var_term' k) = 21
term_code (fun' A b) = 22
term_code (appl' b a) = 23
term_code (fun2' A b) = 24
term_code (appl2' b A) = 25
term_code (fold_term' A a) = 26
term_code (unfold_term' a) = 27
term_code (rec_term' A b) = 28

abbrev pub env_code : EnvLine → ℕ
env_code empty' = 30
env_code (with_term' E A) = 31
env_code (with_type' E A) = 32

abbrev pub sub_code : SubRule → ℕ
sub_code s_refl = 60
sub_code s_trans = 61
sub_code s_var = 62
sub_code s_top = 63
sub_code s_arrow = 64
sub_code (s_all c) = all_number c

abbrev pub has_code : HasRule → ℕ
has_code h_subsumed = 70
has_code h_var = 71
has_code h_top = 72
has_code h_fun = 73
has_code h_appl = 74
has_code h_fun2 = 75
has_code h_appl2 = 76
has_code h_fold = 77
has_code h_unfold = 78
has_code h_rec = 79

abbrev pub code_of : Statement → ℕ
code_of (type_line t) = type_code t
code_of (term_line a) = term_code a
code_of (env_line e) = env_code e
code_of (raising A j C p q) = 40
code_of (putting B j A C p q r) = 41
code_of (bound_line E k B p q) = 42
code_of (typing_line E k A p q) = 43
code_of (env_judged E p) = 50
code_of (type_judged E A p q) = 51
code_of (sub_judged s E A B p q) = sub_code s
code_of (has_judged h E a A p q r) = has_code h
code_of (name_line n₁ n₂ n₃ n₄ n₅ n₆ n₇) = 90
code_of (let_type name B A p E previous) = 91
code_of (let_term name A b p E previous) = 92

abbrev pub number_in : Column → ℕ
number_in (plain n) = n
number_in (type_at n) = n
number_in (term_at n) = n
number_in (env_at n) = n
number_in (name_at n) = n
number_in (premise_at n) = n
number_in (definition_at n) = n

abbrev pub held : Statement → List ℕ
held s = map number_in (columns s)

-- the line that says s, with l's columns where s holds none
abbrev pub line_of : Statement → Line → Line
line_of s l =
    let n : List ℕ = held s in
    record { code = code_of s; c1 = get_or n 0 l.c1; c2 = get_or n 1 l.c2; c3 = get_or n 2 l.c3; c4 = get_or n 3 l.c4; c5 = get_or n 4 l.c5; c6 = get_or n 5 l.c6; c7 = get_or n 6 l.c7 }

-- a line of zeros
abbrev pub blank : Line
blank = record { code = 0; c1 = 0; c2 = 0; c3 = 0; c4 = 0; c5 = 0; c6 = 0; c7 = 0 }

-- the line that says s: the inverse of `statement`
abbrev pub line : Statement → Line
line s = line_of s blank
