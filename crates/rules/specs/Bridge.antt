-- lift is a renaming, put is a substitution; what follows for the two.
use Rattle.std.specs.Prelude.{◌≡◌, ℕ, zero, suc, Bool, true, false, cond, ◌==◌, nat_lt, refl}
use Rattle.std.proofs.Math.Dec.{leb-zero, leb-suc-zero, leb-suc-suc, eqb-zero-suc, eqb-suc-zero, eqb-suc-suc}
use Rattle.std.proofs.Common.{sym, ◌∙◌, ap, ap₂}
use Rattle.std.proofs.Math.Path.{fun_ext}
use Rattle.rules.specs.Syntax.{Ty, top, var, arrow, all, rec, lift, put}
use Rattle.rules.specs.Renaming.{up, ren, ups, sub, ren-ren, sub-ren, ren-sub, sub_id}

-- the renaming that raises what is above j
abbrev pub shift : ℕ → ℕ → ℕ
shift zero = suc
shift (suc j) = up (shift j)

cond-suc : (b : Bool) (m n : ℕ) → cond b (suc m) (suc n) ≡ suc (cond b m n)
cond-suc true m n = refl
cond-suc false m n = refl

lift_var : (j k : ℕ) → cond (nat_lt j k) (suc k) k ≡ up (shift j) k
lift_var j zero = rw (leb-suc-zero j) refl
lift_var zero (suc k) = rw (leb-suc-suc zero k, leb-zero k) refl
lift_var (suc j) (suc k) = rw (leb-suc-suc (suc j) k) (cond-suc (nat_lt j k) (suc k) k ∙ ap suc (lift_var j k))

pub lift_ren : (j : ℕ) (A : Ty) → lift j A ≡ ren (shift j) A
lift_ren j top = refl
lift_ren j (var k) = ap var (lift_var j k)
lift_ren j (arrow A B) = ap₂ arrow (lift_ren j A) (lift_ren j B)
lift_ren j (all A B) = ap₂ all (lift_ren j A) (lift_ren (suc j) B)
lift_ren j (rec B) = ap rec (lift_ren (suc j) B)

-- the substitution that puts X for variable j + 1, and its form where j is 0
abbrev pub puts : ℕ → Ty → ℕ → Ty
puts j X k = put (suc j) X (var (suc k))

abbrev pub inst : Ty → ℕ → Ty
inst X zero = X
inst X (suc k) = var (suc k)

cond-ren : (b : Bool) (X A : Ty) → cond b (lift 0 X) (ren suc A) ≡ ren suc (cond b X A)
cond-ren true X A = lift_ren 0 X
cond-ren false X A = refl

cond_var : (b : Bool) (m n : ℕ) → var (cond b (suc (suc m)) (suc (suc n))) ≡ ren suc (var (cond b (suc m) (suc n)))
cond_var true m n = refl
cond_var false m n = refl

lowered : (j k : ℕ) → var (cond (nat_lt (suc j) (suc k)) (suc k) (suc (suc k))) ≡ ren suc (var (cond (nat_lt (suc j) (suc k)) k (suc k)))
lowered j zero = rw (leb-suc-suc (suc j) zero, leb-suc-zero j) refl
lowered j (suc k) = cond_var (nat_lt (suc j) (suc (suc k))) k (suc k)

puts_up : (j : ℕ) (X : Ty) (k : ℕ) → puts (suc j) (lift 0 X) k ≡ ups (puts j X) k
puts_up j X zero = rw (eqb-suc-suc zero (suc j), eqb-zero-suc j, leb-suc-suc (suc (suc j)) zero, leb-suc-zero (suc j)) refl
puts_up j X (suc k) =
    rw (eqb-suc-suc (suc k) (suc j), leb-suc-suc (suc (suc j)) (suc k))
    (ap (λ A. cond (suc k == suc j) (lift 0 X) A) (lowered j k) ∙ cond-ren (suc k == suc j) X _)

pub put_sub : (j : ℕ) (X B : Ty) → put (suc j) X B ≡ sub (puts j X) B
put_sub j X top = refl
put_sub j X (var zero) = rw (eqb-zero-suc j, leb-suc-zero (suc j)) refl
put_sub j X (var (suc k)) = refl
put_sub j X (arrow A B) = ap₂ arrow (put_sub j X A) (put_sub j X B)
put_sub j X (all A B) = ap₂ all (put_sub j X A) (put_sub (suc j) (lift 0 X) B ∙ ap (λ f. sub f B) (fun_ext (puts_up j X)))
put_sub j X (rec B) = ap rec (put_sub (suc j) (lift 0 X) B ∙ ap (λ f. sub f B) (fun_ext (puts_up j X)))

puts_inst : (X : Ty) (k : ℕ) → puts 0 X k ≡ inst X k
puts_inst X zero = refl
puts_inst X (suc k) = rw (eqb-suc-suc (suc k) zero, eqb-suc-zero k, leb-suc-suc 1 (suc k), leb-suc-suc zero k, leb-zero k) refl

pub put_inst : (X B : Ty) → put 1 X B ≡ sub (inst X) B
put_inst X B = put_sub 0 X B ∙ ap (λ f. sub f B) (fun_ext (puts_inst X))

pub inst_lift : (X A : Ty) → sub (inst X) (lift 0 A) ≡ A
inst_lift X A = ap (sub (inst X)) (lift_ren 0 A) ∙ sub-ren (inst X) suc A ∙ sub_id A

pub put-lift : (X A : Ty) → put 1 X (lift 0 A) ≡ A
put-lift X A = put_inst X (lift 0 A) ∙ inst_lift X A

pub ren-lift : (ρ : ℕ → ℕ) (A : Ty) → ren (up ρ) (lift 0 A) ≡ lift 0 (ren ρ A)
ren-lift ρ A = ap (ren (up ρ)) (lift_ren 0 A) ∙ ren-ren (up ρ) suc A ∙ sym (ren-ren suc ρ A) ∙ sym (lift_ren 0 (ren ρ A))

pub sub-lift : (σ : ℕ → Ty) (A : Ty) → sub (ups σ) (lift 0 A) ≡ lift 0 (sub σ A)
sub-lift σ A = ap (sub (ups σ)) (lift_ren 0 A) ∙ sub-ren (ups σ) suc A ∙ sym (ren-sub suc σ A) ∙ sym (lift_ren 0 (sub σ A))
