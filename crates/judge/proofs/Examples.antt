-- Phrases judged, by computation.
use Rattle.std.proofs.Common.{◌≡◌, ℕ, [], ◌∷◌, length, None, refl}
use Rattle.lines.specs.declared.answer.Answer.{Answer}
use Rattle.lines.specs.declared.answer.Answer.TheVariants.{Granted, Fails}
use Rattle.lines.specs.declared.line.Line.{Line}
use Rattle.rules.specs.Quantifiers.{Rule, equal_bounds, least_bound}
use Rattle.rules.specs.Statements.{statement}
use Rattle.judge.specs.Phrases.{scoped_top, scoped_var, scoped_arrow, scoped_all, scoped_top_term, scoped_var_term, scoped_fun, scoped_appl, scoped_fun2, Phrase, type_phrase, term_phrase, judge_subtype, judged, answer_of, steps_of, lines_left}
use Rattle.judge.specs.Seeking.{Limits, established, refused, steps_spent, goals_full, store_full}

-- a line's code and its columns
abbrev row : (code c1 c2 c3 c4 c5 c6 c7 : ℕ) → Line
row code c1 c2 c3 c4 c5 c6 c7 = record { code = code; c1 = c1; c2 = c2; c3 = c3; c4 = c4; c5 = c5; c6 = c6; c7 = c7 }

abbrev at_most : (steps room : ℕ) → Limits
at_most steps room = record { steps = steps; room = room }

-- `:Top;`
abbrev top_is_a_type : Phrase
top_is_a_type = type_phrase scoped_top

granted_top : judged equal_bounds (at_most 2 4) 2 [] top_is_a_type
    ≡ established 4 0 (record {
      lines = row 30 0 0 0 0 0 0 0 ∷ row 10 0 0 0 0 0 0 0 ∷ row 50 1 0 0 0 0 0 0 ∷ row 51 1 2 3 0 0 0 0 ∷ [];
      steps = 2;
    })
unfolding statement
granted_top = refl

one_step : judged equal_bounds (at_most 1 4) 2 [] top_is_a_type ≡ refused steps_spent None 1
unfolding statement
one_step = refl

one_place : judged equal_bounds (at_most 2 4) 1 [] top_is_a_type ≡ refused goals_full None 0
unfolding statement
one_place = refl

three_lines : judged equal_bounds (at_most 2 3) 2 [] top_is_a_type ≡ refused (store_full 3) None 2
unfolding statement
three_lines = refl

-- answer, steps and how many lines stand after it, with 1,000 steps and 1,024 places in each table
abbrev tried : Rule → Phrase → Answer × ℕ × ℕ
tried R phrase =
    let o = judged R (at_most 1000 1024) 1024 [] phrase in
    (answer_of o, steps_of o, length (lines_left [] o))

-- `judge subtype |- All(X)X <: All(X<:Top->Top)X;`
abbrev all_below_all : Phrase
all_below_all = judge_subtype [] (scoped_all scoped_top (scoped_var 1)) (scoped_all (scoped_arrow scoped_top scoped_top) (scoped_var 1))

all_by_least : tried least_bound all_below_all ≡ (Granted 18, 14, 18)
unfolding statement
all_by_least = refl

all_by_equal : tried equal_bounds all_below_all ≡ (Fails 0, 0, 0)
unfolding statement
all_by_equal = refl

-- `fun(X<:Top->Top)fun(f:X)f(top);`
abbrev applies_variable : Phrase
applies_variable =
    term_phrase (scoped_fun2 0 (scoped_arrow scoped_top scoped_top)
    (scoped_fun 16 (scoped_var 1) (scoped_appl 25 (scoped_var_term 24 1) (scoped_top_term 26))))

granted_application : tried equal_bounds applies_variable ≡ (Granted 31, 23, 31)
unfolding statement
granted_application = refl

-- `fun(X)fun(f:X)f(top);`
abbrev applies_top : Phrase
applies_top = term_phrase (scoped_fun2 0 scoped_top (scoped_fun 6 (scoped_var 1) (scoped_appl 15 (scoped_var_term 14 1) (scoped_top_term 16))))

top_is_no_function : tried equal_bounds applies_top ≡ (Fails 15, 14, 0)
unfolding statement
top_is_no_function = refl

-- `{fun(x:Top->Top)x}(top);`
abbrev applies_to_top : Phrase
applies_to_top = term_phrase (scoped_appl 18 (scoped_fun 1 (scoped_arrow scoped_top scoped_top) (scoped_var_term 16 1)) (scoped_top_term 19))

top_is_no_arrow : tried equal_bounds applies_to_top ≡ (Fails 18, 10, 0)
unfolding statement
top_is_no_arrow = refl
