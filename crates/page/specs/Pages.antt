-- The lines of a page.
use Rattle.std.specs.Prelude.{◌≡◌, ℕ, ◌-◌, ◌*◌, ◌/◌, ◌<◌, ◌≤◌, min, List, length, take, drop, map, Ok, Err, Result}
use Rattle.std.specs.Simd.{first_chunks}
use Rattle.std.proofs.Common.{zero, suc, refl, ap, arith}
use Rattle.std.proofs.Math.Nat.{min-le_right}
use Rattle.std.specs.Borrow.{GName}
use Rattle.lines.specs.Adopts.{Good, Lowest}
use Rattle.lines.specs.declared.fault.OutOfForm.{OutOfForm}
use Rattle.lines.specs.declared.line.Line.{Line}
use Rattle.lines.specs.declared.store.StoreFault.{StoreFault}
use Rattle.page.specs.Form.{encoded, decoded, pasted, InForm}
use Rattle.page.specs.declared.page.Page.{Page}

-- the 46 bytes at place k, counted from 0
abbrev pub place : ℕ → List ℕ → List ℕ
place k s = take 46 (drop (46 * k) s)

-- the lines that the first k places are read as
abbrev pub rows : ℕ → List ℕ → List Line
rows k s = map decoded (first_chunks 46 k s)

-- all of its bytes
abbrev pub text : Page → List ℕ
text p = p.bytes.now

-- the bytes that were lent to it, by their name in proofs
abbrev pub lender : Page → GName
lender p = p.bytes.ghost_name

-- how many lines it can hold
abbrev pub spaces : Page → ℕ
spaces p = min (length (text p) / 46) 65535

-- its lines, and what all of its places are read as
abbrev pub standing : Page → List Line
standing p = rows p.count (text p)

abbrev pub every : Page → List Line
every p = rows (spaces p) (text p)

-- its counted places are in form
abbrev pub Formed : Page → Type 0
Formed p = (k : ℕ) → k < p.count → InForm (place k (text p))

-- the places 1 to n are within the room and in form, or the lowest that is not is named
abbrev pub FirstOut : Page → ℕ → Result ℕ OutOfForm → Type 0
FirstOut page n (Ok m) = (m ≡ n) × (n ≤ spaces page) × ((p : ℕ) → 0 < p → p ≤ n → InForm (place (p - 1) (text page)))
FirstOut page n (Err fault) = Lowest (Good (λ q. InForm (place (q - 1) (text page))) (spaces page)) n fault.place

-- a put writes its own 46 bytes and no other, or none if it is refused
abbrev pub Wrote : List ℕ → List ℕ → ℕ → Line → Result ℕ StoreFault → Type 0
Wrote s t k line (Ok n) = t ≡ pasted (46 * k) (encoded line) s
Wrote s t k line (Err e) = t ≡ s

-- the two laws of a store, proved
pub rows_length : (k : ℕ) (s : List ℕ) → length (rows k s) ≡ k
rows_length zero s = refl
rows_length (suc k) s = ap suc (rows_length k (drop 46 s))

pub within_room : (p : Page) → length (standing p) ≤ spaces p
within_room p = omega (arith, p.within, rows_length p.count (text p))

pub within_cap : (p : Page) → spaces p ≤ 65535
within_cap p = min-le_right (length (text p) / 46) 65535
