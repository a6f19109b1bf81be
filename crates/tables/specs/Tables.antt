-- What a table holds, and what its calls do to it.
use Rattle.std.specs.Prelude.{◌≡◌, ℕ, ◌<◌, ◌≤◌, List, [], ◌∷◌, ◌++◌, length, take, Some, None, Option, Ok, Err, Result, ⊤, slice_set}
use Rattle.std.specs.Borrow.{GName}
use Rattle.tables.specs.declared.table.Table.{Table}
use Rattle.tables.specs.declared.table.TableFault.{TableFault}

-- what stands in all of its slots
abbrev pub contents : {X : Type 0} → Table X → List X
contents t = t.slots.now

-- its records
abbrev pub held : {X : Type 0} → Table X → List X
held t = take t.len (contents t)

-- how many records it can hold
abbrev pub places : {X : Type 0} → Table X → ℕ
places t = length (contents t)

-- the slice that was lent to it, by its name in proofs
abbrev pub lender : {X : Type 0} → Table X → GName
lender t = t.slots.ghost_name

-- a push: the record stands at the end, or the table is full and nothing changes
abbrev pub Pushed : {X : Type 0} → List X → List X → ℕ → X → Result ⊤ TableFault → Type 0
Pushed xs ys room x (Ok _) = (length xs < room) × (ys ≡ xs ++ x ∷ [])
Pushed xs ys room x (Err fault) = (length xs ≡ room) × (fault.places ≡ room) × (ys ≡ xs)

-- a pop: the last record is given and no longer held, or there is none
abbrev pub Popped : {X : Type 0} → List X → List X → Option X → Type 0
Popped xs ys (Some x) = xs ≡ ys ++ x ∷ []
Popped xs ys None = (xs ≡ []) × (ys ≡ [])

-- an adopt: the first n slots are the records, or there are fewer slots and nothing changes
abbrev pub Taken : {X : Type 0} → List X → ℕ → List X → List X → Result ⊤ TableFault → Type 0
Taken slots n xs ys (Ok _) = (n ≤ length slots) × (ys ≡ take n slots)
Taken slots n xs ys (Err fault) = (length slots < n) × (fault.places ≡ length slots) × (ys ≡ xs)

-- slot k is written and no other, or none if the call is refused
abbrev pub Wrote : {X R E : Type 0} → List X → List X → ℕ → X → Result R E → Type 0
Wrote xs ys k x (Ok _) = ys ≡ slice_set xs k x
Wrote xs ys k x (Err _) = ys ≡ xs
