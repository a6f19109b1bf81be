-- Runs, by computation.
use Rattle.std.proofs.Common.{ℕ, List, [], ◌∷◌, ◌++◌, Ok, inl, refl, arith}
use Rattle.std.specs.Prelude.{codes}
use Rattle.grammar.proofs.Cases.{answered}
use Rattle.grammar.specs.Reading.{limits}
use Rattle.lexer.specs.Items.{items, items_from}
use Rattle.lexer.specs.Classes.{class_of}
use Rattle.lexer.specs.declared.name.Name.{Name}
use Rattle.lexer.specs.Words.{keyword, symbol, delimiter}
use Rattle.lines.specs.declared.answer.Answer.TheVariants.{Granted}
use Rattle.lines.specs.declared.line.Line.{Line}
use Rattle.rules.specs.Faults.{Sound}
use Rattle.rules.specs.Quantifiers.{Rule, equal_bounds, least_bound}
use Rattle.rules.specs.Statements.{statement}
use Rattle.runs.specs.Calls.{phrase, trial, withdraw, PhraseCall, judges, Does}
use Rattle.runs.specs.Runs.{Run, begins, goes_on}
use Rattle.rules.specs.LawsLemmas.{chains_equal, instances_equal, bodies_equal, admitted_equal, chains_least, instances_least, bodies_least, admitted_least}
use Rattle.runs.specs.Law.{Law}
use Rattle.runs.proofs.Law.{law}
use Rattle.scope.specs.Scoped as scoped
use Rattle.scope.specs.Scoped.{ScopedPhrase}
use Rattle.std.proofs.lemmas.Option.{none-some}
use Rattle.syntax.specs.Named as named
use Rattle.syntax.specs.Named.{NamedPhrase}

abbrev row : (code c1 c2 c3 c4 c5 c6 c7 : ℕ) → Line
row code c1 c2 c3 c4 c5 c6 c7 = record { code = code; c1 = c1; c2 = c2; c3 = c3; c4 = c4; c5 = c5; c6 = c6; c7 = c7 }

no_lines : (R : Rule) → Sound R []
no_lines R n l e = absurd (none-some _ e)

abbrev called : List ℕ → (steps goals : ℕ) → PhraseCall
called source steps goals = record { source = source; steps = steps; goals = goals; nodes = 100 }

-- `:Top;`
abbrev top_lines : List Line
top_lines = row 30 0 0 0 0 0 0 0 ∷ row 10 0 0 0 0 0 0 0 ∷ row 50 1 0 0 0 0 0 0 ∷ row 51 1 2 3 0 0 0 0 ∷ []

top_granted : Run equal_bounds 4 (phrase (called (codes ":Top;") 2 2) (Granted 4) 2 ∷ []) top_lines
unfolding statement items_from class_of keyword symbol delimiter
top_granted =
    goes_on begins (judges (scoped.of_type scoped.top) (omega arith) (no_lines equal_bounds)
    (named.of_type named.top, answered (limits 100) (items (codes ":Top;")) (Ok (named.of_type named.top)) refl, refl) refl refl refl)

-- a let, then a Let in a trial that is withdrawn, and the let's name

abbrev t : Name
t = record { bytes = 116 ∷ 0 ∷ 0 ∷ 0 ∷ 0 ∷ 0 ∷ 0 ∷ 0 ∷ 0 ∷ 0 ∷ 0 ∷ 0 ∷ 0 ∷ 0 ∷ [] }

abbrev A : Name
A = record { bytes = 65 ∷ 0 ∷ 0 ∷ 0 ∷ 0 ∷ 0 ∷ 0 ∷ 0 ∷ 0 ∷ 0 ∷ 0 ∷ 0 ∷ 0 ∷ 0 ∷ [] }

abbrev with_let : List Line
with_let =
    row 30 0 0 0 0 0 0 0 ∷ row 20 0 0 0 0 0 0 0 ∷ row 50 1 0 0 0 0 0 0 ∷ row 10 0 0 0 0 0 0 0 ∷ row 72 1 2 4 3 0 0 0 ∷ row 90 29696 0 0 0 0 0 0
    ∷ row 31 1 4 0 0 0 0 0 ∷ row 92 6 4 2 5 7 0 0 ∷ []

abbrev in_trial : List Line
in_trial =
    with_let ++ row 51 1 4 3 0 0 0 0 ∷ row 50 7 9 0 0 0 0 0 ∷ row 51 7 4 10 0 0 0 0 ∷ row 63 7 4 4 11 0 0 0 ∷ row 90 16640 0 0 0 0 0 0
    ∷ row 91 13 4 4 12 7 8 0 ∷ []

abbrev at_end : List Line
at_end =
    with_let ++ row 21 1 0 0 0 0 0 0 ∷ row 51 1 4 3 0 0 0 0 ∷ row 50 7 10 0 0 0 0 0 ∷ row 43 7 1 4 0 0 0 0 ∷ row 71 7 9 4 11 12 0 0 ∷ []

let_called : Does equal_bounds 1024 [] (phrase (called (codes "let t=top;") 1000 100) (Granted 8) 2) with_let
unfolding statement items_from class_of keyword symbol delimiter
let_called =
    judges (scoped.let_term_untyped t (scoped.top_term 6)) (omega arith) (no_lines equal_bounds)
    (named.let_term_untyped t (named.top_term 6), answered (limits 100) (items (codes "let t=top;")) (Ok (named.let_term_untyped t (named.top_term 6))) refl, refl)
    refl refl refl

Let_called : Sound equal_bounds with_let → Does equal_bounds 1024 with_let (phrase (called (codes "Let A=Top;") 1000 100) (Granted 14) 5) in_trial
unfolding statement items_from class_of keyword symbol delimiter
Let_called sound =
    judges (scoped.let_type_unbounded A scoped.top) (omega arith) sound
    (named.let_type_unbounded A named.top, answered (limits 100) (items (codes "Let A=Top;")) (Ok (named.let_type_unbounded A named.top)) refl, refl)
    refl refl refl

name_called : Sound equal_bounds with_let → Does equal_bounds 1024 with_let (phrase (called (codes "t;") 1000 100) (Granted 13) 5) at_end
unfolding statement items_from class_of keyword symbol delimiter
name_called sound =
    judges (scoped.of_term (scoped.term_var 0 1)) (omega arith) sound
    (named.of_term (named.term_name 0 t), answered (limits 100) (items (codes "t;")) (Ok (named.of_term (named.term_name 0 t))) refl, refl)
    refl refl refl

equal_law : Law equal_bounds
equal_law = law chains_equal instances_equal bodies_equal admitted_equal

least_law : Law least_bound
least_law = law chains_least instances_least bodies_least admitted_least

first_run : Run equal_bounds 1024 (phrase (called (codes "let t=top;") 1000 100) (Granted 8) 2 ∷ []) with_let
first_run = goes_on begins let_called

with_let_sound : Sound equal_bounds with_let
with_let_sound = (equal_law.each_run _ _ _ first_run).the_checker_accepts.1

session_run : Run equal_bounds 1024
    (phrase (called (codes "t;") 1000 100) (Granted 13) 5 ∷ withdraw 8 (Granted 8) ∷ phrase (called (codes "Let A=Top;") 1000 100) (Granted 14) 5
    ∷ trial 8 ∷ phrase (called (codes "let t=top;") 1000 100) (Granted 8) 2 ∷ []) at_end
session_run =
    goes_on (goes_on (goes_on (goes_on first_run (refl, refl)) (Let_called with_let_sound)) (inl (omega arith, refl, refl))) (name_called with_let_sound)
