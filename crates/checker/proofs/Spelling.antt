-- What the calls over a name's bytes say, in the words for names.
use Rattle.std.proofs.Common.{◌≡◌, ℕ, suc, ◌/◌, ◌%◌, ◌<◌, Bool, true, false, not, cond, ◌&&◌, nat_eq, nat_lt, Option, Some, None, List, [], ◌∷◌, ◌++◌, length, get_or, drop, refl, ap, ap₂, ◌∙◌, arith}
use Rattle.std.specs.Int.{w16, to_be_bytes}
use Rattle.std.specs.List.{flat_map, list_all, position, position_or_len}
use Rattle.std.proofs.lemmas.Bool.Decides.{nat_tests}
use Rattle.std.proofs.lemmas.List.{drop-drop, drop_all}
use Rattle.std.specs.Option.{unwrap_or}
use Rattle.rules.specs.Names.{letter_or_digit, padded, two_bytes}

abbrev all_zero : List ℕ → Bool
all_zero = list_all (λ b. nat_eq b 0)

all_zero-padded : (bs : List ℕ) → all_zero bs ≡ padded true bs
all_zero-padded [] = refl
all_zero-padded (b ∷ bs) = ap (λ t. nat_eq b 0 && t) (all_zero-padded bs)

-- the letters and digits in front, and the zeros behind them
rest_padded : (bs : List ℕ) → all_zero (drop (position_or_len (λ b. not (letter_or_digit b)) bs) bs) ≡ padded false bs
rest_padded [] = refl
rest_padded (b ∷ bs) = grind (arith, nat_tests, all_zero-padded bs, rest_padded bs, drop-drop (position_or_len (λ c. not (letter_or_digit c)) bs) 1 (b ∷ bs))

-- the same from the place that `position` gives
pub all_zero-from : (bs : List ℕ) (found : Option ℕ) (end : ℕ) → found ≡ position (λ b. not (letter_or_digit b)) bs → end ≡ unwrap_or found (length bs)
    → all_zero (drop end bs) ≡ padded false bs
all_zero-from bs found end e f = ap all_zero (go (nat_lt k (length bs)) refl found e end f) ∙ rest_padded bs
  where
    k : ℕ
    k = position_or_len (λ b. not (letter_or_digit b)) bs

    go : (t : Bool) → nat_lt k (length bs) ≡ t → (o : Option ℕ) → o ≡ cond (nat_lt k (length bs)) (Some k) None → (n : ℕ) → n ≡ unwrap_or o (length bs) → drop n bs ≡ drop k bs
    go true h o e n f = grind arith
    go false h o e n f = grind (arith, drop_all k bs, drop_all (length bs) bs)

pub flat_map-two_bytes : (ns : List ℕ) (pairs : List (List ℕ)) → length pairs ≡ length ns
    → ((i : ℕ) → get_or ns i 0 < 65536) → ((i : ℕ) → i < length ns → get_or pairs i [] ≡ to_be_bytes w16 (get_or ns i 0))
    → flat_map (λ x. x) pairs ≡ two_bytes ns
flat_map-two_bytes [] [] len fits each = refl
flat_map-two_bytes [] (pair ∷ pairs) len fits each = grind arith
flat_map-two_bytes (n ∷ ns) [] len fits each = grind arith
flat_map-two_bytes (n ∷ ns) (pair ∷ pairs) len fits each =
    let front : pair ≡ n / 256 ∷ n % 256 ∷ [] = each 0 (omega arith) ∙ ap (λ high. high ∷ n % 256 ∷ []) (omega (arith, fits 0)) in
    ap₂ ◌++◌ front (flat_map-two_bytes ns pairs (omega arith) (λ i. fits (suc i)) (λ i l. each (suc i) (omega arith)))
