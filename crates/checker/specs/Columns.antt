-- What the columns of a line hold, and the tests of causes 1 to 3 over it.
use Rattle.std.specs.Prelude.{ℕ, Bool, true, ◌&&◌, ◌||◌, List, [], ◌∷◌, length, drop, Some, None, Option, is_some, unwrap_or, if◌then◌else◌, ◌==◌}
use Rattle.std.specs.List.{list_all, zip}
use Rattle.checker.specs.Decide.{At, in_range}
use Rattle.checker.specs.declared.column.Kind.{Kind}
use Rattle.checker.specs.declared.column.Kind.TheVariants.{Number, «Type», Term, Env, Name, Premise, Definition}
use Rattle.lines.specs.Lines.{numbers}
use Rattle.lines.specs.declared.line.Line.{Line}
use Rattle.rules.specs.Quantifiers.{Rule}
use Rattle.rules.specs.declared.all_code.AllCode.TheVariants.{Equal, Least}

-- the table, a row a code: what the columns of a line hold
abbrev pub row : (c : ℕ) → Option (List Kind)
row c =
    if c == 10 then Some []
    else if c == 11 then Some (Number ∷ [])
    else if in_range 12 13 c then Some («Type» ∷ «Type» ∷ [])
    else if c == 14 then Some («Type» ∷ [])
    else if c == 20 then Some []
    else if c == 21 then Some (Number ∷ [])
    else if c == 22 then Some («Type» ∷ Term ∷ [])
    else if c == 23 then Some (Term ∷ Term ∷ [])
    else if c == 24 then Some («Type» ∷ Term ∷ [])
    else if c == 25 then Some (Term ∷ «Type» ∷ [])
    else if c == 26 then Some («Type» ∷ Term ∷ [])
    else if c == 27 then Some (Term ∷ [])
    else if c == 28 then Some («Type» ∷ Term ∷ [])
    else if c == 30 then Some []
    else if in_range 31 32 c then Some (Env ∷ «Type» ∷ [])
    else if c == 40 then Some («Type» ∷ Number ∷ «Type» ∷ Premise ∷ Premise ∷ [])
    else if c == 41 then Some («Type» ∷ Number ∷ «Type» ∷ «Type» ∷ Premise ∷ Premise ∷ Premise ∷ [])
    else if in_range 42 43 c then Some (Env ∷ Number ∷ «Type» ∷ Premise ∷ Premise ∷ [])
    else if c == 50 then Some (Env ∷ Premise ∷ [])
    else if c == 51 then Some (Env ∷ «Type» ∷ Premise ∷ Premise ∷ [])
    else if in_range 60 66 c then Some (Env ∷ «Type» ∷ «Type» ∷ Premise ∷ Premise ∷ [])
    else if in_range 70 79 c then Some (Env ∷ Term ∷ «Type» ∷ Premise ∷ Premise ∷ Premise ∷ [])
    else if c == 90 then Some (Number ∷ Number ∷ Number ∷ Number ∷ Number ∷ Number ∷ Number ∷ [])
    else if c == 91 then Some (Name ∷ «Type» ∷ «Type» ∷ Premise ∷ Env ∷ Definition ∷ [])
    else if c == 92 then Some (Name ∷ «Type» ∷ Term ∷ Premise ∷ Env ∷ Definition ∷ [])
    else None

-- of the codes for All, those that the rule admits
abbrev pub admits : Rule → (c : ℕ) → Bool
admits R c = if c == 65 then R.admits Equal else if c == 66 then R.admits Least else true

-- cause 1: the code is in the table and admitted
abbrev pub known : Rule → (c : ℕ) → Bool
known R c = is_some (row c) && admits R c

-- its row, and no columns for a code that is not in the table
abbrev pub kinds : (c : ℕ) → List Kind
kinds c = unwrap_or (row c) []

-- cause 2: the columns past these are 0
abbrev pub zero_past : List Kind → Line → Bool
zero_past ks l = list_all (λ n. n == 0) (drop (length ks) (numbers l))

-- n may stand in a column of this kind
abbrev pub fits : At → Kind → (n : ℕ) → Bool
fits L Number n = true
fits L «Type» n = in_range 10 14 (L n).code
fits L Term n = in_range 20 28 (L n).code
fits L Env n = in_range 30 32 (L n).code
fits L Name n = in_range 90 90 (L n).code
fits L Premise n = n == 0 || in_range 40 79 (L n).code
fits L Definition n = n == 0 || in_range 91 92 (L n).code

-- cause 3: each line that is named is earlier and of its kind
abbrev pub named : At → List Kind → Line → Bool
named L ks l = list_all (λ p. fits L p.0 p.1) (zip ks (numbers l))
