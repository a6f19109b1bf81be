-- A table that adopts all of its records has them for its lines; there is room for 65535 of them.
use Rattle.std.proofs.Common.{◌≡◌, ℕ, ◌<◌, ◌≤◌, min, List, length, Ok, Err, Result, IsOk, refl, ap, ◌∙◌, arith, length-take}
use Rattle.lines.specs.Adopts.{Adopted, Good, Lowest}
use Rattle.lines.specs.declared.fault.OutOfForm.{OutOfForm}
use Rattle.lines.specs.declared.line.Line.{Line}
use Rattle.std.proofs.lemmas.List.{take_all}
use Rattle.tables.specs.LineTables.{records, every, standing}
use Rattle.tables.specs.declared.line_table.LineTable.{LineTable}

pub adopted_all : (all xs ys : List Line) (n : ℕ) (r : Result ℕ OutOfForm) → n ≡ length all → Adopted (λ _. Unit {0}) all n xs ys r → ys ≡ all
adopted_all all xs ys n (Ok m) e a = a.3 ∙ take_all n all (omega arith)
adopted_all all xs ys n (Err fault) e a = absurd (a.0.3 (omega arith, tt))

pub adopted_ok : (t u : LineTable) (xs : List Line) (r : Result ℕ OutOfForm) → records t ≡ xs → length xs ≤ 65535
    → Adopted (λ _. Unit {0}) (every t) (length xs) (standing t) (standing u) r → IsOk r
adopted_ok t u xs (Ok m) same small a = refl
adopted_ok t u xs (Err fault) same small a = let long : length (records t) ≡ length xs = ap length same in absurd (a.0.3 (simp length-take (omega arith), tt))

pub adopted_records : (t u : LineTable) (xs : List Line) (r : Result ℕ OutOfForm) → records t ≡ xs → length xs ≤ 65535
    → Adopted (λ _. Unit {0}) (every t) (length xs) (standing t) (standing u) r → standing u ≡ xs
adopted_records t u xs r same small a =
    let long : length (records t) ≡ length xs = ap length same in
    adopted_all (every t) (standing t) (standing u) (length xs) r (simp length-take (omega arith)) a ∙ take_all 65535 (records t) (omega arith) ∙ same

module _ (t : LineTable) (xs : List Line) (same : records t ≡ xs) where
  room : length (every t) ≡ min 65535 (length xs)
  room = omega (arith, ap length same, length-take 65535 (records t))

  pub fits : length xs ≤ length (every t) → length xs ≤ 65535
  fits h = omega (arith, room)

  pub beyond : (p : ℕ) → Lowest (Good (λ _. Unit {0}) (length (every t))) (length xs) p → (65535 < length xs) × (p ≡ 65536)
  beyond p (z, h, below, out) =
      let over : p ≤ length (every t) → ⊥ = λ l. out (l, tt) in
      let first : 65536 < p → ⊥ = λ l. let g = below 65536 (omega arith) l in omega (arith, g.0, room) in
      (omega (arith, over, room), omega (arith, over, first, room))
