-- The definitions of a listing: its lines 91 and 92, in order. The name of each is on the line that its column 1 names,
-- whatever line that is. Where there is none, a 91 defines nothing, and a 92 a term that no name means.
use Rattle.std.specs.Prelude.{ℕ, suc, List, [], ◌∷◌, Option, Some, None, if◌then◌else◌, ◌==◌}
use Rattle.std.specs.Option.{option_map}
use Rattle.std.specs.List.{flat_map}
use Rattle.lexer.specs.Names.{two_bytes}
use Rattle.lexer.specs.declared.name.Name.{Name}
use Rattle.lines.specs.Lines.{numbers}
use Rattle.lines.specs.Stores.{numbered}
use Rattle.lines.specs.declared.code.TheConstants.{LET_TYPE, LET_TERM}
use Rattle.lines.specs.declared.line.Line.{Line}

pub data Definition (X : Type 0) : Type 0 where
  -- Let w<:B = A, where X names A
  let_type : Name → X → Definition X
  -- let w:A = b
  let_term : Name → Definition X
  let_unnamed : Definition X

-- the name on a line, two bytes a column
abbrev pub name_on : Line → Name
name_on l = record { bytes = two_bytes (numbers l) }

-- the name that the definition of line l gives
abbrev pub name_given : List Line → Line → Option Name
name_given lines l = option_map name_on (numbered lines l.c1)

abbrev pub type_defined : Option Name → ℕ → List (Definition ℕ)
type_defined None n = []
type_defined (Some w) n = let_type w n ∷ []

abbrev pub term_defined : Option Name → List (Definition ℕ)
term_defined None = let_unnamed ∷ []
term_defined (Some w) = let_term w ∷ []

-- what line l defines: a Let name stands for the type of the line in column 3
abbrev pub defined_in : List Line → Line → List (Definition ℕ)
defined_in lines l =
    if l.code == LET_TYPE then type_defined (name_given lines l) l.c3 else (if l.code == LET_TERM then term_defined (name_given lines l) else [])

-- those of a listing, the earliest first
abbrev pub definitions : List Line → List (Definition ℕ)
definitions lines = flat_map (defined_in lines) lines

-- how many are of terms
abbrev pub lets : {X : Type 0} → List (Definition X) → ℕ
lets [] = 0
lets (let_type w x ∷ ds) = lets ds
lets (let_term w ∷ ds) = suc (lets ds)
lets (let_unnamed ∷ ds) = suc (lets ds)
