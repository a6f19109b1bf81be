-- When a line is at fault, and when a listing is sound: at any length and numbers.
use Rattle.std.specs.Prelude.{◌≡◌, ℕ, suc, ◌<◌, ◌≤◌, Bool, true, T, ◌⊎◌, List, [], ◌∷◌, length, take, drop, Some, None, Option, ◌≢◌}
pub use Rattle.lines.specs.Lines.{numbers}
use Rattle.lines.specs.Answers.{cause_number}
use Rattle.lines.specs.Stores.{numbered}
use Rattle.lines.specs.declared.answer.Cause.{Cause}
use Rattle.lines.specs.declared.answer.Cause.TheVariants.{Code, Column as PastColumn, Reference, Repeated, Unfounded}
use Rattle.lines.specs.declared.line.Line.{Line}
use Rattle.rules.specs.Follows.{Follows}
use Rattle.rules.specs.Quantifiers.{Rule}
use Rattle.rules.specs.Statements.{SubRule, s_refl, s_trans, s_var, s_top, s_arrow, s_all, Statement, type_line, term_line, env_line, raising, putting, bound_line, typing_line, env_judged, type_judged, sub_judged, has_judged, name_line, let_type, let_term, statement, said, Column, plain, type_at, term_at, env_at, name_at, premise_at, definition_at, columns}

-- the codes for All are those that the rule admits; every other code of the table is admitted
abbrev sub_admitted : Rule → SubRule → Bool
sub_admitted R s_refl = true
sub_admitted R s_trans = true
sub_admitted R s_var = true
sub_admitted R s_top = true
sub_admitted R s_arrow = true
sub_admitted R (s_all c) = R.admits c

abbrev pub admitted : Rule → Statement → Bool
admitted R (type_line t) = true
admitted R (term_line a) = true
admitted R (env_line e) = true
admitted R (raising A j C p q) = true
admitted R (putting B j A C p q r) = true
admitted R (bound_line E k B p q) = true
admitted R (typing_line E k A p q) = true
admitted R (env_judged E p) = true
admitted R (type_judged E A p q) = true
admitted R (sub_judged s E A B p q) = sub_admitted R s
admitted R (has_judged h E a A p q r) = true
admitted R (name_line n₁ n₂ n₃ n₄ n₅ n₆ n₇) = true
admitted R (let_type name B A p E previous) = true
admitted R (let_term name A b p E previous) = true

abbrev pub AllZero : List ℕ → Type 0
AllZero [] = Unit {0}
AllZero (n ∷ ns) = (n ≡ 0) × AllZero ns

-- line n stands in the list, with a code in this range
abbrev pub Stands : List Line → (low high n : ℕ) → Type 0
Stands lines low high n = (l : Line) × (numbered lines n ≡ Some l) × (low ≤ l.code) × (l.code ≤ high)

-- a column names a line that stands earlier and is of its kind
abbrev pub Names : List Line → Column → Type 0
Names before (plain n) = Unit {0}
Names before (type_at n) = Stands before 10 14 n
Names before (term_at n) = Stands before 20 28 n
Names before (env_at n) = Stands before 30 32 n
Names before (name_at n) = Stands before 90 90 n
Names before (premise_at n) = (n ≡ 0) ⊎ Stands before 40 79 n
Names before (definition_at n) = (n ≡ 0) ⊎ Stands before 91 92 n

abbrev pub AllName : List Line → List Column → Type 0
AllName before [] = Unit {0}
AllName before (c ∷ cs) = Names before c × AllName before cs

-- what each cause denies, of a line that says s, with the lines before it
abbrev pub Right : Rule → List Line → Line → Statement → Cause → Type 0
Right R before l s Code = T (admitted R s)
Right R before l s PastColumn = AllZero (drop (length (columns s)) (numbers l))
Right R before l s Reference = AllName before (columns s)
Right R before l s Repeated = (n : ℕ) → numbered before n ≢ Some l
Right R before l s Unfounded = Follows (said before) s

-- a line is at fault for the first cause that holds; one whose code is not in the table, for that
abbrev FirstCause : Rule → List Line → Line → Option Statement → Cause → Type 0
FirstCause R before l None c = c ≡ Code
FirstCause R before l (Some s) c =
    (Right R before l s c → ⊥) × ((d : Cause) → cause_number d < cause_number c → Right R before l s d)

abbrev pub AtFault : Rule → List Line → Line → Cause → Type 0
AtFault R before l c = FirstCause R before l (statement l) c

-- a line without fault
abbrev pub Fine : Rule → List Line → Line → Type 0
Fine R before l = (s : Statement) × (statement l ≡ Some s) × ((c : Cause) → Right R before l s c)

-- a listing is sound if no line is at fault, each judged by the lines before it
abbrev pub Sound : Rule → List Line → Type 0
Sound R lines = (n : ℕ) (l : Line) → numbered lines (suc n) ≡ Some l → Fine R (take n lines) l

-- line n is the first at fault, and c the first cause that holds of it
abbrev pub FirstFault : Rule → List Line → ℕ → Cause → Type 0
FirstFault R lines n c = (m : ℕ) × (l : Line) × (n ≡ suc m) × (numbered lines n ≡ Some l) × Sound R (take m lines) × AtFault R (take m lines) l c
