-- A number in a column of 8.
use Rattle.std.proofs.Common.{◌≡◌, ℕ, zero, suc, ◌-◌, ◌^◌, false, [], ◌∷◌, length, replicate, decimal, refl, ap, arith, append-nil}
use Rattle.std.specs.Fmt.{padded_integral, format_spec, char_count}
use Rattle.std.specs.List.{repeat}
use Rattle.report.specs.Report.{in_eight}
use lib.Utf8.{encode}

spaces : (n : ℕ) → repeat {A = ℕ} n (32 ∷ []) ≡ replicate n 32
spaces zero = refl
spaces (suc n) = ap (λ t. 32 ∷ t) (spaces n)

pub padded_in_eight : (n : ℕ) → padded_integral (format_spec 32 3 0 8 (2 ^ 64 - 1)) false [] (decimal n) ≡ in_eight n
unfolding padded_integral char_count encode
padded_in_eight n =
    let padding : 8 - length (decimal n) - 0 - 0 ≡ 8 - length (decimal n) = omega arith in
    let none : ◌≡◌ {A = ℕ} (8 - length (decimal n) - (8 - length (decimal n))) 0 = omega arith in
    rw (padding, none, spaces (8 - length (decimal n))) (simp append-nil)
