-- What a line is written as reads back as the line.
use Rattle.std.proofs.Common.{◌≡◌, ℕ, zero, suc, ◌+◌, ◌-◌, ◌*◌, ◌/◌, ◌%◌, ◌<◌, ◌≤◌, ◌^◌, min, List, ◌++◌, ◌∷◌, [], length, get_or, set, take, drop, refl, sym, ap, ◌∙◌, add-one, arith}
use native.Mathlib.Nat.{min-eq_left, min-le_right}
use Rattle.std.proofs.lemmas.List.{length_push, length-take, length-drop, get_or_append_left, get_or_push, get_or-take, get_or-drop, drop_all, drop-set, append_assoc}
use Rattle.std.proofs.lemmas.Grind.{common_steps}
use Rattle.std.proofs.lemmas.Bool.Decides.{nat_tests}
use Rattle.page.specs.Form.{digit_or_space, spaced, in_columns, in_three, in_six, encoded, of_columns, of_three, of_six, decoded, InRange}
use Rattle.lines.specs.declared.line.Line.{Line}

pub length-spaced : (k n : ℕ) → length (spaced k n) ≡ k
length-spaced zero n = refl
length-spaced (suc k) n = let h = length-spaced k (n / 10) in length_push (spaced k (n / 10)) _ ∙ omega arith

pub length-in_columns : (k n : ℕ) → length (in_columns k n) ≡ k
unfolding in_columns
length-in_columns zero n = refl
length-in_columns (suc k) n = let h = length-spaced k (n / 10) in length_push (spaced k (n / 10)) _ ∙ omega arith

pub length-in_three : (n : ℕ) → length (in_three n) ≡ 3
length-in_three = length-in_columns 3

pub length-in_six : (n : ℕ) → length (in_six n) ≡ 6
length-in_six = length-in_columns 6

-- the first k columns, whatever stands behind them
of_columns-append : (k : ℕ) (s t : List ℕ) → k ≤ length s → of_columns k (s ++ t) 0 ≡ of_columns k s 0
of_columns-append zero s t h = refl
of_columns-append (suc k) s t h = let a = of_columns-append k s t (omega arith) in let b = get_or_append_left s t 0 (0 + k) (omega arith) in cc

-- k columns, and one more
of_columns-push : (k d : ℕ) (s : List ℕ) → length s ≡ k → of_columns (suc k) (s ++ d ∷ []) 0 ≡ of_columns k s 0 * 10 + (d - 48)
of_columns-push k d s h = let a = of_columns-append k s (d ∷ []) (omega arith) in let b = get_or_push s d 0 (0 + k) (omega arith) in cc

spaced_back : (k n : ℕ) → n < 10 ^ k → of_columns k (spaced k n) 0 ≡ n
spaced_back zero n h = omega arith
spaced_back (suc k) n h =
    let rest = spaced_back k (n / 10) (grind (arith, common_steps)) in
    let last : digit_or_space n - 48 ≡ n % 10 = grind (arith, common_steps, nat_tests) in
    of_columns-push k _ (spaced k (n / 10)) (length-spaced k (n / 10)) ∙ omega arith

-- what k columns have of n reads back as n
back : (k n : ℕ) → 0 < k → n < 10 ^ k → of_columns k (in_columns k n) 0 ≡ n
unfolding in_columns
back zero n z h = absurd (omega arith)
back (suc k) n z h =
    let rest = spaced_back k (n / 10) (grind (arith, common_steps)) in
    of_columns-push k (48 + n % 10) (spaced k (n / 10)) (length-spaced k (n / 10)) ∙ omega arith

three_back : (n : ℕ) → n ≤ 255 → min (of_columns 3 (in_three n) 0) 255 ≡ n
three_back n h = ap (λ k. min k 255) (back 3 n (omega arith) (omega arith)) ∙ min-eq_left h

six_back : (n : ℕ) → n ≤ 65535 → min (of_columns 6 (in_six n) 0) 65535 ≡ n
six_back n h = ap (λ k. min k 65535) (back 6 n (omega arith) (omega arith)) ∙ min-eq_left h

abbrev made : ℕ → ℕ → ℕ → ℕ → ℕ → ℕ → ℕ → ℕ → Line
made code c1 c2 c3 c4 c5 c6 c7 = record { code = code; c1 = c1; c2 = c2; c3 = c3; c4 = c4; c5 = c5; c6 = c6; c7 = c7 }

line_ext : (a b : Line) → a.code ≡ b.code → a.c1 ≡ b.c1 → a.c2 ≡ b.c2 → a.c3 ≡ b.c3 → a.c4 ≡ b.c4 → a.c5 ≡ b.c5 → a.c6 ≡ b.c6 → a.c7 ≡ b.c7 → a ≡ b
line_ext a b p0 p1 p2 p3 p4 p5 p6 p7 =
    let e : made a.code a.c1 a.c2 a.c3 a.c4 a.c5 a.c6 a.c7 ≡ made b.code b.c1 b.c2 b.c3 b.c4 b.c5 b.c6 b.c7 = cc in e

pub encoded_back : (l : Line) → InRange l → decoded (encoded l) ≡ l
unfolding decoded encoded in_columns
encoded_back l r =
    line_ext (decoded (encoded l)) l
    (three_back l.code r.code)
    (six_back l.c1 r.c1)
    (six_back l.c2 r.c2)
    (six_back l.c3 r.c3)
    (six_back l.c4 r.c4)
    (six_back l.c5 r.c5)
    (six_back l.c6 r.c6)
    (six_back l.c7 r.c7)

pub decoded_range : (s : List ℕ) → InRange (decoded s)
unfolding decoded
decoded_range s =
    record {
      code = min-le_right _ 255;
      c1 = min-le_right _ 65535;
      c2 = min-le_right _ 65535;
      c3 = min-le_right _ 65535;
      c4 = min-le_right _ 65535;
      c5 = min-le_right _ 65535;
      c6 = min-le_right _ 65535;
      c7 = min-le_right _ 65535;
    }

-- k columns from i on, cut out
of_columns-part : (j k i : ℕ) (s : List ℕ) → j ≤ k → of_columns j (take k (drop i s)) 0 ≡ of_columns j s i
of_columns-part zero k i s h = refl
of_columns-part (suc j) k i s h =
    let a = of_columns-part j k i s (omega arith) in
    let b : get_or (take k (drop i s)) (0 + j) 0 ≡ get_or s (i + j) 0 =
    get_or-take k (drop i s) (0 + j) 0 (omega arith) ∙ get_or-drop i s (0 + j) 0 ∙ ap (λ m. get_or s (i + m) 0) (omega arith) in
    cc

cut_out : (k i : ℕ) (s : List ℕ) → i + k ≤ length s → of_columns (length (take k (drop i s))) (take k (drop i s)) 0 ≡ of_columns k s i
cut_out k i s h =
    let e : length (take k (drop i s)) ≡ k = omega (arith, length-take k (drop i s), length-drop i s) in
    ap (λ m. of_columns m (take k (drop i s)) 0) e ∙ of_columns-part k k i s (omega arith)

pub three_read : (s : List ℕ) → 3 ≤ length s → min (min (of_columns (length (take 3 s)) (take 3 s) 0) 65535) 255 ≡ of_three s 0
three_read s h = omega (arith, cut_out 3 0 s h)

pub six_read : (i : ℕ) (s : List ℕ) → i + 6 ≤ length s → min (of_columns (length (take 6 (drop i s))) (take 6 (drop i s)) 0) 65535 ≡ of_six s i
six_read i s h = ap (λ n. min n 65535) (cut_out 6 i s h)

-- the last column is written
pub last_written : (j n : ℕ) (columns : List ℕ) → length columns ≡ suc j → spaced j (n / 10) ++ drop j (set columns j (48 + n % 10)) ≡ in_columns (length columns) n
unfolding in_columns
last_written j n columns h =
    ap (λ u. spaced j (n / 10) ++ u) (drop-set columns j (48 + n % 10) (omega arith) ∙ ap (λ m. (48 + n % 10) ∷ drop m columns) (add-one j) ∙ ap (λ u. (48 + n % 10) ∷ u) (drop_all (suc j) columns (omega arith)))
    ∙ ap (λ k. in_columns k n) (sym h)

-- column j is written, in front of those that are
pub one_written : (j n : ℕ) (columns : List ℕ) → j < length columns → spaced j (n / 10) ++ drop j (set columns j (digit_or_space n)) ≡ spaced (suc j) n ++ drop (suc j) columns
one_written j n columns h =
    ap (λ u. spaced j (n / 10) ++ u) (drop-set columns j (digit_or_space n) h ∙ ap (λ m. digit_or_space n ∷ drop m columns) (add-one j))
    ∙ sym (append_assoc (spaced j (n / 10)) (digit_or_space n ∷ []) (drop (suc j) columns))

-- column j is read, and those behind it up to the power w of ten
pub one_read : (j n w v : ℕ) (s : List ℕ) → v ≡ get_or s j 0 - 48 → of_columns j s 0 * (w * 10) + (n + v * w) ≡ of_columns (suc j) s 0 * w + n
one_read j n w v s h =
    let e : v ≡ get_or s (0 + j) 0 - 48 = h ∙ ap (λ k. get_or s k 0 - 48) (omega arith) in
    let sum : of_columns j s 0 * (w * 10) + (n + v * w) ≡ (of_columns j s 0 * 10 + v) * w + n = omega arith in
    sum ∙ ap (λ d. (of_columns j s 0 * 10 + d) * w + n) e
