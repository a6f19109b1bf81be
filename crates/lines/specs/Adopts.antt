-- What adopt answers, of a table and of a page.
use Rattle.std.specs.Prelude.{◌≡◌, ℕ, ◌<◌, ◌≤◌, List, length, take, Ok, Err, Result}
use Rattle.lines.specs.declared.fault.OutOfForm.{OutOfForm}
use Rattle.lines.specs.declared.line.Line.{Line}

-- place p, numbered from 1, is within the room and in form
abbrev pub Good : (ℕ → Type 0) → ℕ → ℕ → Type 0
Good InForm room p = (p ≤ room) × InForm p

-- p is the lowest of the places 1 to n that is not good
abbrev pub Lowest : (ℕ → Type 0) → ℕ → ℕ → Type 0
Lowest P n p = (0 < p) × (p ≤ n) × ((q : ℕ) → 0 < q → q < p → P q) × (P p → ⊥)

-- an adopt of n of all places, of which `InForm` says which are in form: the first n of them are the lines,
-- or the lowest that is out of form or beyond the room is named and the lines are as they were
abbrev pub Adopted : (ℕ → Type 0) → List Line → ℕ → List Line → List Line → Result ℕ OutOfForm → Type 0
Adopted InForm all n xs ys (Ok m) = (m ≡ n) × (n ≤ length all) × ((p : ℕ) → 0 < p → p ≤ n → InForm p) × (ys ≡ take n all)
Adopted InForm all n xs ys (Err fault) = Lowest (Good InForm (length all)) n fault.place × (ys ≡ xs)
