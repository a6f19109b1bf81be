-- The places of some bytes and the lines that they are read as: fewer of them, one of them, and after one is written.
use Rattle.std.proofs.Common.{◌≡◌, ℕ, zero, suc, ◌+◌, ◌-◌, ◌*◌, ◌<◌, ◌≤◌, min, List, [], ◌∷◌, ◌++◌, length, get_or, take, drop, map, Some, refl, sym, ap, ap₂, ◌∙◌, subst, add-one, below_more, arith}
use Rattle.std.proofs.lemmas.List.{drop-drop, take-map, take_at, take-append-le, drop-append-le, take-take, append_assoc, map-append, length-drop, length-take, length-take-le, get_or-take, get_or_append_left, get_or_push, drop-take}
use Rattle.std.proofs.lemmas.Option.{slice_get-map, slice_get-get_or}
use Rattle.std.specs.Option.{option_map}
use Rattle.std.specs.Simd.{first_chunks}
use Rattle.lines.proofs.Numbered.{numbered_is}
use Rattle.lines.specs.Stores.{numbered}
use Rattle.page.specs.Form.{pasted, decoded, InForm}
use Rattle.page.specs.Pages.{place, rows}

pub length-first_chunks : {X : Type 0} (n k : ℕ) (xs : List X) → length (first_chunks n k xs) ≡ k
length-first_chunks n zero xs = refl
length-first_chunks n (suc k) xs = ap suc (length-first_chunks n k (drop n xs))

pub take-first_chunks : {X : Type 0} (n k m : ℕ) (xs : List X) → take k (first_chunks n m xs) ≡ first_chunks n (min m k) xs
take-first_chunks n zero m xs = let e : min m 0 ≡ 0 = omega arith in ap (λ j. first_chunks n j xs) (sym e)
take-first_chunks n (suc k) zero xs = let e : min 0 (suc k) ≡ 0 = omega arith in ap (λ j. first_chunks n j xs) (sym e)
take-first_chunks n (suc k) (suc m) xs =
    let e : suc (min m k) ≡ min (suc m) (suc k) = omega arith in
    ap (λ ys. take n xs ∷ ys) (take-first_chunks n k m (drop n xs)) ∙ ap (λ j. first_chunks n j xs) e

pub get_or-first_chunks : (m k : ℕ) (s d : List ℕ) → k < m → get_or (first_chunks 46 m s) k d ≡ place k s
get_or-first_chunks zero k s d h = absurd (omega arith)
get_or-first_chunks (suc m) zero s d h = refl
get_or-first_chunks (suc m) (suc k) s d h =
    let e : 46 + 46 * k ≡ 46 * suc k = omega arith in
    get_or-first_chunks m k (drop 46 s) d (omega arith) ∙ ap (take 46) (drop-drop (46 * k) 46 s ∙ ap (λ j. drop j s) e)

-- place k, from what is read of the first c of m places
pub place_read : (m c k : ℕ) (s u : List ℕ) → c ≤ m → k < length (take c (first_chunks 46 m s)) → u ≡ get_or (take c (first_chunks 46 m s)) k u → u ≡ place k s
place_read m c k s u h l e =
    let lt : k < c = omega (arith, length-take c (first_chunks 46 m s)) in
    e ∙ get_or-take c (first_chunks 46 m s) k u lt ∙ get_or-first_chunks m k s u (omega arith)

pub rows_take : (k n : ℕ) (s : List ℕ) → take n (rows k s) ≡ rows (min k n) s
rows_take k n s = take-map decoded n (first_chunks 46 k s) ∙ ap (map decoded) (take-first_chunks 46 n k s)

pub rows_numbered : (k n : ℕ) (s : List ℕ) → 0 < n → n ≤ k → numbered (rows k s) n ≡ Some (decoded (place (n - 1) s))
rows_numbered k n s z h =
    let lt : n - 1 < length (first_chunks 46 k s) = omega (arith, length-first_chunks 46 k s) in
    numbered_is (rows k s) n z
    ∙ slice_get-map decoded (first_chunks 46 k s) (n - 1)
    ∙ ap (option_map decoded) (slice_get-get_or (first_chunks 46 k s) (n - 1) [] lt ∙ ap Some (get_or-first_chunks k (n - 1) s [] (omega arith)))

-- place n is written: of n + 1 places, it alone is another
chunks_pasted : (n : ℕ) (e s : List ℕ) → 46 * n + 46 ≤ length s → length e ≡ 46 → first_chunks 46 (suc n) (pasted (46 * n) e s) ≡ first_chunks 46 n s ++ e ∷ []
chunks_pasted zero e s h l = ap (λ u. u ∷ []) (take_at e (drop (0 + length e) s) 46 l)
chunks_pasted (suc n) e s h l =
    let p = 46 * suc n in
    let m : p ≡ 46 + 46 * n = omega arith in
    let behind : p + length e ≡ 46 + (46 * n + length e) = omega arith in
    let rest : List ℕ = e ++ drop (p + length e) s in
    let long : 46 ≤ length (take p s) = omega (arith, length-take-le p s (omega arith)) in
    let split : pasted p e s ≡ take p s ++ rest = append_assoc (take p s) e (drop (p + length e) s) in
    let front : take 46 (pasted p e s) ≡ take 46 s = ap (take 46) split ∙ take-append-le 46 (take p s) rest long ∙ take-take 46 p s (omega arith) in
    let back : drop 46 (pasted p e s) ≡ pasted (46 * n) e (drop 46 s) =
    ap (drop 46) split
    ∙ drop-append-le 46 (take p s) rest long
    ∙ ap₂ ◌++◌ (ap (λ k. drop 46 (take k s)) m ∙ drop-take 46 (46 * n) s) (ap (λ k. e ++ drop k s) behind ∙ ap (λ u. e ++ u) (sym (drop-drop (46 * n + length e) 46 s)))
    ∙ sym (append_assoc (take (46 * n) (drop 46 s)) e (drop (46 * n + length e) (drop 46 s))) in
    ap₂ ◌∷◌ front (ap (first_chunks 46 (suc n)) back ∙ chunks_pasted n e (drop 46 s) (omega (arith, length-drop 46 s)) l)

-- the bytes e are written at place n of s, as long as a place
module _ (n : ℕ) (e s : List ℕ) (fits : 46 * n + 46 ≤ length s) (long : length e ≡ 46) where
  pub rows-pasted : rows (n + 1) (pasted (46 * n) e s) ≡ rows n s ++ decoded e ∷ []
  rows-pasted =
      ap (λ k. rows k (pasted (46 * n) e s)) (add-one n)
      ∙ ap (map decoded) (chunks_pasted n e s fits long)
      ∙ map-append decoded (first_chunks 46 n s) (e ∷ [])

  placed : (k : ℕ) → k < n + 1 → place k (pasted (46 * n) e s) ≡ get_or (first_chunks 46 n s ++ e ∷ []) k []
  placed k h = sym (get_or-first_chunks (suc n) k (pasted (46 * n) e s) [] (omega arith)) ∙ ap (λ xs. get_or xs k []) (chunks_pasted n e s fits long)

  pub formed-pasted : InForm e → ((k : ℕ) → k < n → InForm (place k s)) → (k : ℕ) → k < n + 1 → InForm (place k (pasted (46 * n) e s))
  formed-pasted here below =
      below_more (λ k. InForm (place k (pasted (46 * n) e s))) n
      (λ k h. subst InForm (sym (placed k (omega arith) ∙ get_or_append_left (first_chunks 46 n s) (e ∷ []) [] k (omega (arith, length-first_chunks 46 n s)) ∙ get_or-first_chunks n k s [] h)) (below k h))
      (subst InForm (sym (placed n (omega arith) ∙ get_or_push (first_chunks 46 n s) e [] n (length-first_chunks 46 n s))) here)
