-- Writing rows one after another over those that stood.
use Rattle.std.proofs.Common.{◌≡◌, ℕ, zero, suc, ◌+◌, ◌-◌, ◌<◌, ◌≤◌, min, List, [], ◌∷◌, ◌++◌, length, take, drop, map, slice_set, slice_index_or, ◌⊎◌, ⊎_elim, inl, inr, ◌==◌, true≢false, Bool, false, subst, refl, sym, ap, ap₂, ◌∙◌, arith}
use Rattle.std.proofs.lemmas.List.{length-map, length-set, take_all}
use Rattle.std.proofs.Math.ListN.{drop_of_length-le}
use Rattle.std.specs.Prelude.{get_or}
use Rattle.syntax.specs.declared.node.Node.{Node}
use Rattle.syntax.specs.declared.phrase.Phrase.{Phrase}
use Rattle.reader_rows.specs.Rows.{node_row, phrase_row, rows_of, Shown}
use Rattle.reader_rows.specs.declared.row.Row.{Row}

-- the first i of these stand over those that stood
abbrev pub over : {X : Type 0} → ℕ → List X → List X → List X
over i xs ys = take i xs ++ drop i ys

pub set_next : {X : Type 0} (i : ℕ) (xs ys : List X) (x d : X) → i < length xs → i < length ys → x ≡ get_or xs i d → slice_set (over i xs ys) i x ≡ over (suc i) xs ys
set_next i [] ys x d h k e = absurd (omega (arith, h))
set_next i (x' ∷ xs) [] x d h k e = absurd (omega (arith, k))
set_next zero (x' ∷ xs) (y ∷ ys) x d h k e = ap (λ z. z ∷ ys) e
set_next (suc i) (x' ∷ xs) (y ∷ ys) x d h k e = ap (λ zs. x' ∷ zs) (set_next i xs ys x d (omega (arith, h)) (omega (arith, k)) e)

pub node_at : (ns : List Node) (i : ℕ) (d : Node) (e : Row) → i < length ns → get_or (map node_row ns) i e ≡ node_row (slice_index_or ns i d)
node_at [] i d e h = absurd (omega (arith, h))
node_at (n ∷ ns) zero d e h = refl
node_at (n ∷ ns) (suc i) d e h = node_at ns i d e (omega (arith, h))

pub row_at : (x : Phrase) (ns : List Node) (i : ℕ) (d : Node) (e : Row) → i < length ns → get_or (rows_of x ns) (i + 1) e ≡ node_row (slice_index_or ns i d)
row_at x ns i d e h =
    let p : suc i ≡ i + 1 = omega arith in
    subst (λ k. get_or (rows_of x ns) k e ≡ node_row (slice_index_or ns i d)) p (node_at ns i d e h)

pub first_row : (x : Phrase) (ns : List Node) (old : List Row) (r : Row) → (false ≡ (length old == 0)) → r ≡ phrase_row x
    → slice_set old 0 r ≡ over 1 (rows_of x ns) old
first_row x ns [] r h e = absurd (true≢false (sym h))
first_row x ns (y ∷ ys) r h e = ap (λ z. z ∷ ys) e

pub next_row : (x : Phrase) (ns : List Node) (old rows : List Row) (r : Row) (i m : ℕ) (d : Node) → rows ≡ over (i + 1) (rows_of x ns) old
    → i < m → m ≡ min (length ns) (length (slice_set old 0 r) - 1) → (q : Row) → q ≡ node_row (slice_index_or ns i d)
    → slice_set rows (i + 1) q ≡ over (i + 1 + 1) (rows_of x ns) old
next_row x ns old rows r i m d inv lt e q is =
    let h : i < length ns = omega (arith, lt, e) in
    let n : length (map node_row ns) ≡ length ns = length-map ns node_row in
    let s : length (slice_set old 0 r) ≡ length old = length-set old 0 r in
    let p : suc (i + 1) ≡ i + 1 + 1 = omega arith in
    ap (λ zs. slice_set zs (i + 1) q) inv
    ∙ set_next (i + 1) (rows_of x ns) old q q (omega (arith, h, n)) (omega (arith, lt, e, s)) (is ∙ sym (row_at x ns i d q h))
    ∙ ap (λ k. over k (rows_of x ns) old) p

last_row : (x : Phrase) (ns : List Node) (old : List Row) (i : ℕ) → (i ≡ length ns) × (length ns ≤ length old - 1) ⊎ (i ≡ length old - 1) × (length old - 1 ≤ length ns)
    → 0 < length old → over (i + 1) (rows_of x ns) old ≡ take (length old) (rows_of x ns) ++ drop (length (rows_of x ns)) old
last_row x ns old i (inl h) some =
    let R = rows_of x ns in
    let n : length (map node_row ns) ≡ length ns = length-map ns node_row in
    let k : i + 1 ≡ length R = omega (arith, n, h.0) in
    ap₂ ◌++◌
    (take_all (i + 1) R (omega (arith, k)) ∙ sym (take_all (length old) R (omega (arith, n, h.1, some))))
    (ap (λ m. drop m old) k)
last_row x ns old i (inr h) some =
    let R = rows_of x ns in
    let n : length (map node_row ns) ≡ length ns = length-map ns node_row in
    let k : i + 1 ≡ length old = omega (arith, h.0, some) in
    ap₂ ◌++◌
    (ap (λ m. take m R) k)
    (drop_of_length-le old {i = i + 1} (omega (arith, k)) ∙ sym (drop_of_length-le old {i = length R} (omega (arith, n, h.1, some))))

le_or : (a b : ℕ) → (a ≤ b) ⊎ (b ≤ a)
le_or zero b = inl (omega arith)
le_or (suc a) zero = inr (omega arith)
le_or (suc a) (suc b) = ⊎_elim (λ h. inl (omega (arith, h))) (λ h. inr (omega (arith, h))) (le_or a b)

which_min : (a b i : ℕ) → i ≡ min a b → (i ≡ a) × (a ≤ b) ⊎ (i ≡ b) × (b ≤ a)
which_min a b i e = go (le_or a b)
  where
    go : (a ≤ b) ⊎ (b ≤ a) → (i ≡ a) × (a ≤ b) ⊎ (i ≡ b) × (b ≤ a)
    go (inl h) = inl (omega (arith, e, h), h)
    go (inr h) = inr (omega (arith, e, h), h)

pub all_rows : (x : Phrase) (ns : List Node) (old rows : List Row) (r : Row) (i m : ℕ) → rows ≡ over (i + 1) (rows_of x ns) old → m ≤ i → i ≤ m
    → m ≡ min (length ns) (length (slice_set old 0 r) - 1) → (false ≡ (length old == 0)) → Shown (rows_of x ns) old rows
all_rows x ns [] rows r i m inv h k e some = absurd (true≢false (sym some))
all_rows x ns (y ∷ ys) rows r i m inv h k e some =
    let s : length (slice_set (y ∷ ys) 0 r) ≡ length (y ∷ ys) = length-set (y ∷ ys) 0 r in
    inv ∙ last_row x ns (y ∷ ys) i (which_min (length ns) (length (y ∷ ys) - 1) i (omega (arith, h, k, e, s))) (omega arith)
