-- Renamings and substitutions of all type variables at once, and how they compose. They count variables from 0;
-- `up` and `at` take them to the variables of types, which count from 1.
use Rattle.std.specs.Prelude.{◌≡◌, ℕ, zero, suc, refl}
use Rattle.std.proofs.Common.{sym, ◌∙◌, ap, ap₂}
use Rattle.std.proofs.Math.Path.{fun_ext}
use Rattle.rules.specs.Syntax.{Ty, top, var, arrow, all, rec}

-- a renaming at variables from 1; also the renaming under a binder
abbrev pub up : (ℕ → ℕ) → ℕ → ℕ
up ρ zero = zero
up ρ (suc k) = suc (ρ k)

abbrev pub ren : (ℕ → ℕ) → Ty → Ty
ren ρ top = top
ren ρ (var k) = var (up ρ k)
ren ρ (arrow A B) = arrow (ren ρ A) (ren ρ B)
ren ρ (all A B) = all (ren ρ A) (ren (up ρ) B)
ren ρ (rec B) = rec (ren (up ρ) B)

-- a substitution at variables from 1
abbrev pub at : (ℕ → Ty) → ℕ → Ty
at σ zero = var zero
at σ (suc k) = σ k

-- the substitution under a binder
abbrev pub ups : (ℕ → Ty) → ℕ → Ty
ups σ zero = var 1
ups σ (suc k) = ren suc (σ k)

abbrev pub sub : (ℕ → Ty) → Ty → Ty
sub σ top = top
sub σ (var k) = at σ k
sub σ (arrow A B) = arrow (sub σ A) (sub σ B)
sub σ (all A B) = all (sub σ A) (sub (ups σ) B)
sub σ (rec B) = rec (sub (ups σ) B)

-- the substitution that changes nothing
abbrev pub vars : ℕ → Ty
vars k = var (suc k)

pub up_up : (τ ρ : ℕ → ℕ) (k : ℕ) → up τ (up ρ k) ≡ up (λ n. τ (ρ n)) k
up_up τ ρ zero = refl
up_up τ ρ (suc k) = refl

pub ren-ren : (τ ρ : ℕ → ℕ) (A : Ty) → ren τ (ren ρ A) ≡ ren (λ n. τ (ρ n)) A
ren-ren τ ρ top = refl
ren-ren τ ρ (var k) = ap var (up_up τ ρ k)
ren-ren τ ρ (arrow A B) = ap₂ arrow (ren-ren τ ρ A) (ren-ren τ ρ B)
ren-ren τ ρ (all A B) = ap₂ all (ren-ren τ ρ A) (ren-ren (up τ) (up ρ) B ∙ ap (λ f. ren f B) (fun_ext (up_up τ ρ)))
ren-ren τ ρ (rec B) = ap rec (ren-ren (up τ) (up ρ) B ∙ ap (λ f. ren f B) (fun_ext (up_up τ ρ)))

pub up_id : (k : ℕ) → up (λ n. n) k ≡ k
up_id zero = refl
up_id (suc k) = refl

pub ren_id : (A : Ty) → ren (λ n. n) A ≡ A
ren_id top = refl
ren_id (var k) = ap var (up_id k)
ren_id (arrow A B) = ap₂ arrow (ren_id A) (ren_id B)
ren_id (all A B) = ap₂ all (ren_id A) (ap (λ f. ren f B) (fun_ext up_id) ∙ ren_id B)
ren_id (rec B) = ap rec (ap (λ f. ren f B) (fun_ext up_id) ∙ ren_id B)

at_up : (σ : ℕ → Ty) (ρ : ℕ → ℕ) (k : ℕ) → at σ (up ρ k) ≡ at (λ n. σ (ρ n)) k
at_up σ ρ zero = refl
at_up σ ρ (suc k) = refl

ups-up : (σ : ℕ → Ty) (ρ : ℕ → ℕ) (k : ℕ) → ups σ (up ρ k) ≡ ups (λ n. σ (ρ n)) k
ups-up σ ρ zero = refl
ups-up σ ρ (suc k) = refl

pub sub-ren : (σ : ℕ → Ty) (ρ : ℕ → ℕ) (A : Ty) → sub σ (ren ρ A) ≡ sub (λ n. σ (ρ n)) A
sub-ren σ ρ top = refl
sub-ren σ ρ (var k) = at_up σ ρ k
sub-ren σ ρ (arrow A B) = ap₂ arrow (sub-ren σ ρ A) (sub-ren σ ρ B)
sub-ren σ ρ (all A B) = ap₂ all (sub-ren σ ρ A) (sub-ren (ups σ) (up ρ) B ∙ ap (λ f. sub f B) (fun_ext (ups-up σ ρ)))
sub-ren σ ρ (rec B) = ap rec (sub-ren (ups σ) (up ρ) B ∙ ap (λ f. sub f B) (fun_ext (ups-up σ ρ)))

pub ren-at : (ρ : ℕ → ℕ) (σ : ℕ → Ty) (k : ℕ) → ren ρ (at σ k) ≡ at (λ n. ren ρ (σ n)) k
ren-at ρ σ zero = refl
ren-at ρ σ (suc k) = refl

ren-ups : (ρ : ℕ → ℕ) (σ : ℕ → Ty) (k : ℕ) → ren (up ρ) (ups σ k) ≡ ups (λ n. ren ρ (σ n)) k
ren-ups ρ σ zero = refl
ren-ups ρ σ (suc k) = ren-ren (up ρ) suc (σ k) ∙ sym (ren-ren suc ρ (σ k))

pub ren-sub : (ρ : ℕ → ℕ) (σ : ℕ → Ty) (A : Ty) → ren ρ (sub σ A) ≡ sub (λ n. ren ρ (σ n)) A
ren-sub ρ σ top = refl
ren-sub ρ σ (var k) = ren-at ρ σ k
ren-sub ρ σ (arrow A B) = ap₂ arrow (ren-sub ρ σ A) (ren-sub ρ σ B)
ren-sub ρ σ (all A B) = ap₂ all (ren-sub ρ σ A) (ren-sub (up ρ) (ups σ) B ∙ ap (λ f. sub f B) (fun_ext (ren-ups ρ σ)))
ren-sub ρ σ (rec B) = ap rec (ren-sub (up ρ) (ups σ) B ∙ ap (λ f. sub f B) (fun_ext (ren-ups ρ σ)))

sub_at : (τ σ : ℕ → Ty) (k : ℕ) → sub τ (at σ k) ≡ at (λ n. sub τ (σ n)) k
sub_at τ σ zero = refl
sub_at τ σ (suc k) = refl

sub-ups : (τ σ : ℕ → Ty) (k : ℕ) → sub (ups τ) (ups σ k) ≡ ups (λ n. sub τ (σ n)) k
sub-ups τ σ zero = refl
sub-ups τ σ (suc k) = sub-ren (ups τ) suc (σ k) ∙ sym (ren-sub suc τ (σ k))

pub sub-sub : (τ σ : ℕ → Ty) (A : Ty) → sub τ (sub σ A) ≡ sub (λ n. sub τ (σ n)) A
sub-sub τ σ top = refl
sub-sub τ σ (var k) = sub_at τ σ k
sub-sub τ σ (arrow A B) = ap₂ arrow (sub-sub τ σ A) (sub-sub τ σ B)
sub-sub τ σ (all A B) = ap₂ all (sub-sub τ σ A) (sub-sub (ups τ) (ups σ) B ∙ ap (λ f. sub f B) (fun_ext (sub-ups τ σ)))
sub-sub τ σ (rec B) = ap rec (sub-sub (ups τ) (ups σ) B ∙ ap (λ f. sub f B) (fun_ext (sub-ups τ σ)))

at-vars : (k : ℕ) → at vars k ≡ var k
at-vars zero = refl
at-vars (suc k) = refl

ups-vars : (k : ℕ) → ups vars k ≡ vars k
ups-vars zero = refl
ups-vars (suc k) = refl

pub sub_id : (A : Ty) → sub vars A ≡ A
sub_id top = refl
sub_id (var k) = at-vars k
sub_id (arrow A B) = ap₂ arrow (sub_id A) (sub_id B)
sub_id (all A B) = ap₂ all (sub_id A) (ap (λ f. sub f B) (fun_ext ups-vars) ∙ sub_id B)
sub_id (rec B) = ap rec (ap (λ f. sub f B) (fun_ext ups-vars) ∙ sub_id B)
