-- A name of 14 bytes that spells one is what its line 90 spells.
use Rattle.std.proofs.Common.{◌≡◌, ℕ, zero, suc, ◌+◌, ◌<◌, ◌≤◌, Bool, true, false, cond, ◌&&◌, T, List, [], ◌∷◌, length, get_or, refl, ap, sym, ◌∙◌, subst, ⊎_elim, arith}
use Rattle.std.specs.Prelude.{◌/◌, ◌%◌, ◌==◌, nat_le, not}
use Rattle.rules.specs.Follows.{Follows, a_name}
use Rattle.rules.specs.Names.{between, letter_or_digit, padded, keywords, spells_one, starts_with_letter, is_name, two_bytes as bytes_of}
use Rattle.rules.specs.Statements.{Get}
use Rattle.judge.specs.Judgments.{Spelled}
use Rattle.judge.specs.Phrases.{two_bytes, name_statement}
use Rattle.std.proofs.lemmas.Bool.{and_parts, or_cases, leb-true, eqb-true}
use Rattle.std.proofs.lemmas.Nat.{div-mul-add, mod-mul-add}

listed : ℕ → (ℕ → ℕ) → List ℕ
listed zero f = []
listed (suc n) f = f zero ∷ listed n (λ i. f (suc i))

list-listed : (xs : List ℕ) (n : ℕ) → length xs ≡ n → xs ≡ listed n (λ i. get_or xs i 0)
unfolding listed
list-listed [] zero e = refl
list-listed [] (suc n) e = absurd (let z : ⊥ = omega (arith, e) in z)
list-listed (x ∷ xs) zero e = absurd (let z : ⊥ = omega (arith, e) in z)
list-listed (x ∷ xs) (suc n) e = ap (λ ys. x ∷ ys) (list-listed xs n (omega (arith, e)))

-- each byte is below 256

small : (low high b : ℕ) → high < 256 → between low high b ≡ true → b < 256
small low high b h e = let i : b ≤ high = leb-true b high (and_parts (nat_le low b) (nat_le b high) e).1 in omega (arith, h, i)

letter_small : (b : ℕ) → letter_or_digit b ≡ true → b < 256
letter_small b e = ⊎_elim (λ l. ⊎_elim (small 65 90 b (omega arith)) (small 96 122 b (omega arith)) (or_cases _ _ l)) (small 48 57 b (omega arith)) (or_cases _ _ e)

padded_small : (ended : Bool) (bs : List ℕ) → padded ended bs ≡ true → (i : ℕ) → get_or bs i 0 < 256
padded_small ended [] e i = omega arith
padded_small true (b ∷ bs) e zero = let h = eqb-true b 0 (and_parts _ _ e).0 in omega (arith, h)
padded_small true (b ∷ bs) e (suc i) = padded_small true bs (and_parts _ _ e).1 i
padded_small false (b ∷ bs) e i = go (b == 0) refl e i (λ f j. padded_small true bs f j) (λ f j. padded_small false bs f j)
  where
    go : (c : Bool) → (b == 0) ≡ c → cond c (padded true bs) (letter_or_digit b && padded false bs) ≡ true → (i : ℕ)
        → (padded true bs ≡ true → (j : ℕ) → get_or bs j 0 < 256) → (padded false bs ≡ true → (j : ℕ) → get_or bs j 0 < 256)
        → get_or (b ∷ bs) i 0 < 256
    go true h e zero f g = let k = eqb-true b 0 h in omega (arith, k)
    go true h e (suc i) f g = f e i
    go false h e zero f g = letter_small b (and_parts _ _ e).0
    go false h e (suc i) f g = g (and_parts _ _ e).1 i

is_true : (b : Bool) → T b → b ≡ true
is_true true t = refl
is_true false t = absurd t

-- the bytes of the name that its line holds are its own
pub name_bytes : (name : List ℕ) → Spelled name
    → name ≡ bytes_of (two_bytes name 0 ∷ two_bytes name 2 ∷ two_bytes name 4 ∷ two_bytes name 6 ∷ two_bytes name 8 ∷ two_bytes name 10 ∷ two_bytes name 12 ∷ [])
unfolding listed
name_bytes name (e, t) =
    list-listed name 14 e
    ∙ (λ i. first 0 i ∷ second 0 i ∷ first 2 i ∷ second 2 i ∷ first 4 i ∷ second 4 i ∷ first 6 i ∷ second 6 i ∷ first 8 i ∷ second 8 i
    ∷ first 10 i ∷ second 10 i ∷ first 12 i ∷ second 12 i ∷ [])
  where
    spelled : padded false name ≡ true
    spelled =
        let all = is_true (is_name name) t in
        (and_parts (starts_with_letter name) (padded false name)
        (and_parts (starts_with_letter name && padded false name) (not (spells_one keywords name)) all).0).1

    below : (i : ℕ) → get_or name i 0 < 256
    below i = padded_small false name spelled i

    first : (i : ℕ) → get_or name i 0 ≡ two_bytes name i / 256
    first i = sym (div-mul-add (get_or name i 0) 256 (get_or name (i + 1) 0) (below (i + 1)))

    second : (i : ℕ) → get_or name (i + 1) 0 ≡ two_bytes name i % 256
    second i = sym (mod-mul-add (get_or name i 0) 256 (get_or name (i + 1) 0) (below (i + 1)))

pub name_follows : (G : Get) (name : List ℕ) → Spelled name → Follows G (name_statement name)
name_follows G name x = a_name (subst (λ bs. T (is_name bs)) (name_bytes name x) x.1)
