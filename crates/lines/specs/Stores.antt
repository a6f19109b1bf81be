-- What the calls of a line store do to its list of lines.
use Rattle.std.specs.Prelude.{◌≡◌, ℕ, zero, suc, ◌+◌, ◌<◌, List, [], ◌∷◌, ◌++◌, length, None, Ok, Err, Option, Result}
use Rattle.lines.specs.declared.line.Line.{Line}
use Rattle.lines.specs.declared.store.StoreFault.{StoreFault}
use Rattle.std.specs.List.{slice_get}

-- line n of a list, numbered from 1
abbrev pub numbered : {X : Type 0} → List X → ℕ → Option X
numbered xs zero = None
numbered xs (suc n) = slice_get xs n

-- a put: the line stands at the end and its number is given, or the store is full and nothing changes
abbrev pub Put : List Line → List Line → ℕ → Line → Result ℕ StoreFault → Type 0
Put xs ys room line (Ok n) = (length xs < room) × (n ≡ length xs + 1) × (ys ≡ xs ++ line ∷ [])
Put xs ys room line (Err e) = (length xs ≡ room) × (e.count ≡ length xs) × (ys ≡ xs)
