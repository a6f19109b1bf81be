-- A name's bytes as columns.
use Rattle.std.proofs.Common.{◌≡◌, ℕ, suc, ◌+◌, ◌*◌, ◌/◌, ◌%◌, ◌<◌, List, [], ◌∷◌, ◌++◌, length, drop, get_or, drop-cons, refl, sym, ap, ap₂, ◌∙◌, arith}
use Rattle.std.proofs.lemmas.List.{drop_all}
use Rattle.std.specs.Int.{w16, to_be_bytes}
use Rattle.std.specs.List.{flat_map}
use Rattle.lexer.specs.Names.{two_bytes}

pub flat_map-two_bytes : (ns : List ℕ) (pairs : List (List ℕ)) → length pairs ≡ length ns
    → ((i : ℕ) → get_or ns i 0 < 65536) → ((i : ℕ) → i < length ns → get_or pairs i [] ≡ to_be_bytes w16 (get_or ns i 0))
    → flat_map (λ x. x) pairs ≡ two_bytes ns
flat_map-two_bytes [] [] len fits each = refl
flat_map-two_bytes [] (pair ∷ pairs) len fits each = grind arith
flat_map-two_bytes (n ∷ ns) [] len fits each = grind arith
flat_map-two_bytes (n ∷ ns) (pair ∷ pairs) len fits each =
    let front : pair ≡ n / 256 ∷ n % 256 ∷ [] = each 0 (omega arith) ∙ ap (λ high. high ∷ n % 256 ∷ []) (omega (arith, fits 0)) in
    ap₂ ◌++◌ front (flat_map-two_bytes ns pairs (omega arith) (λ i. fits (suc i)) (λ i l. each (suc i) (omega arith)))

-- one number for each two bytes
halves : (n a b : ℕ) → n ≡ a * 256 + b → b < 256 → (n / 256 ≡ a) × (n % 256 ≡ b)
halves n a b e l = (omega arith, omega arith)

pair : (n a b : ℕ) (ns bs : List ℕ) → n ≡ a * 256 + b → b < 256 → two_bytes ns ≡ bs → two_bytes (n ∷ ns) ≡ a ∷ b ∷ bs
pair n a b ns bs e l more = let h = halves n a b e l in ap₂ (λ (x : ℕ) (xs : List ℕ). x ∷ xs) h.0 (ap₂ (λ (x : ℕ) (xs : List ℕ). x ∷ xs) h.1 more)

-- the numbers are the bytes from place k on, two each
abbrev pub AreHalves : (k : ℕ) → (ns bs : List ℕ) → Type 0
AreHalves k [] bs = Unit {0}
AreHalves k (n ∷ ns) bs = (n ≡ get_or bs k 0 * 256 + get_or bs (suc k) 0) × AreHalves (suc (suc k)) ns bs

pub two_bytes-drop : (k : ℕ) (ns bs : List ℕ) → length bs ≡ k + 2 * length ns → ((i : ℕ) → get_or bs i 0 < 256) → AreHalves k ns bs → two_bytes ns ≡ drop k bs
two_bytes-drop k [] bs l fits h = sym (drop_all k bs (omega arith))
two_bytes-drop k (n ∷ ns) bs l fits h =
    pair n (get_or bs k 0) (get_or bs (suc k) 0) ns (drop (suc (suc k)) bs) h.0 (fits (suc k)) (two_bytes-drop (suc (suc k)) ns bs (omega arith) fits h.1)
    ∙ sym (drop-cons bs k 0 (omega arith) ∙ ap (λ (xs : List ℕ). get_or bs k 0 ∷ xs) (drop-cons bs (suc k) 0 (omega arith)))
