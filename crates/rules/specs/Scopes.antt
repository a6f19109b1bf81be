-- Scopes: renamings and substitutions that take n binders to m, and back; lifting and putting.
use Rattle.std.specs.Prelude.{ℕ, zero, suc, ◌<◌}
use Rattle.std.proofs.Common.{arith}
use Rattle.rules.specs.Syntax.{Ty, top, var, arrow, all, rec, lift, put, Scoped}
use Rattle.rules.specs.Renaming.{up, ren, ups, sub}
use Rattle.rules.specs.Bridge.{lift_ren, inst, put_inst}

pub up_within : (ρ : ℕ → ℕ) (n m : ℕ) → ((i : ℕ) → i < n → ρ i < m) → (i : ℕ) → i < suc n → up ρ i < suc m
up_within ρ n m h zero lt = omega arith
up_within ρ n m h (suc i) lt = omega (arith, h i (omega arith))

pub scoped_ren : (A : Ty) (ρ : ℕ → ℕ) (n m : ℕ) → ((i : ℕ) → i < n → ρ i < m) → Scoped n A → Scoped m (ren ρ A)
scoped_ren top ρ n m h w = tt
scoped_ren (var zero) ρ n m h w = (w.0, omega (arith, w.0))
scoped_ren (var (suc k)) ρ n m h w = (omega arith, h k w.1)
scoped_ren (arrow A B) ρ n m h w = (scoped_ren A ρ n m h w.0, scoped_ren B ρ n m h w.1)
scoped_ren (all A B) ρ n m h w = (scoped_ren A ρ n m h w.0, scoped_ren B (up ρ) (suc n) (suc m) (up_within ρ n m h) w.1)
scoped_ren (rec B) ρ n m h w = scoped_ren B (up ρ) (suc n) (suc m) (up_within ρ n m h) w

pub ups_within : (σ : ℕ → Ty) (n m : ℕ) → ((i : ℕ) → i < n → Scoped m (σ i)) → (i : ℕ) → i < suc n → Scoped (suc m) (ups σ i)
ups_within σ n m h zero lt = (omega arith, omega arith)
ups_within σ n m h (suc i) lt = scoped_ren (σ i) suc m (suc m) (λ j l. omega arith) (h i (omega arith))

pub scoped_sub : (A : Ty) (σ : ℕ → Ty) (n m : ℕ) → ((i : ℕ) → i < n → Scoped m (σ i)) → Scoped n A → Scoped m (sub σ A)
scoped_sub top σ n m h w = tt
scoped_sub (var zero) σ n m h w = (w.0, omega (arith, w.0))
scoped_sub (var (suc k)) σ n m h w = h k w.1
scoped_sub (arrow A B) σ n m h w = (scoped_sub A σ n m h w.0, scoped_sub B σ n m h w.1)
scoped_sub (all A B) σ n m h w = (scoped_sub A σ n m h w.0, scoped_sub B (ups σ) (suc n) (suc m) (ups_within σ n m h) w.1)
scoped_sub (rec B) σ n m h w = scoped_sub B (ups σ) (suc n) (suc m) (ups_within σ n m h) w

-- back: what is in scope after a renaming or substitution was in scope before

up_back : (ρ : ℕ → ℕ) (n m : ℕ) → ((i : ℕ) → ρ i < m → i < n) → (i : ℕ) → up ρ i < suc m → i < suc n
up_back ρ n m h zero lt = omega arith
up_back ρ n m h (suc i) lt = omega (arith, h i (omega arith))

pub unscoped_ren : (A : Ty) (ρ : ℕ → ℕ) (n m : ℕ) → ((i : ℕ) → ρ i < m → i < n) → Scoped m (ren ρ A) → Scoped n A
unscoped_ren top ρ n m h w = tt
unscoped_ren (var zero) ρ n m h w = (w.0, omega (arith, w.0))
unscoped_ren (var (suc k)) ρ n m h w = (omega arith, h k w.1)
unscoped_ren (arrow A B) ρ n m h w = (unscoped_ren A ρ n m h w.0, unscoped_ren B ρ n m h w.1)
unscoped_ren (all A B) ρ n m h w =
    (unscoped_ren A ρ n m h w.0, unscoped_ren B (up ρ) (suc n) (suc m) (up_back ρ n m h) w.1)
unscoped_ren (rec B) ρ n m h w = unscoped_ren B (up ρ) (suc n) (suc m) (up_back ρ n m h) w

ups_back : (σ : ℕ → Ty) (n m : ℕ) → ((i : ℕ) → Scoped m (σ i) → i < n) → (i : ℕ) → Scoped (suc m) (ups σ i) → i < suc n
ups_back σ n m h zero w = omega arith
ups_back σ n m h (suc i) w = omega (arith, h i (unscoped_ren (σ i) suc m (suc m) (λ j lt. omega arith) w))

pub unscoped_sub : (A : Ty) (σ : ℕ → Ty) (n m : ℕ) → ((i : ℕ) → Scoped m (σ i) → i < n) → Scoped m (sub σ A) → Scoped n A
unscoped_sub top σ n m h w = tt
unscoped_sub (var zero) σ n m h w = (w.0, omega (arith, w.0))
unscoped_sub (var (suc k)) σ n m h w = (omega arith, h k w)
unscoped_sub (arrow A B) σ n m h w = (unscoped_sub A σ n m h w.0, unscoped_sub B σ n m h w.1)
unscoped_sub (all A B) σ n m h w =
    (unscoped_sub A σ n m h w.0, unscoped_sub B (ups σ) (suc n) (suc m) (ups_back σ n m h) w.1)
unscoped_sub (rec B) σ n m h w = unscoped_sub B (ups σ) (suc n) (suc m) (ups_back σ n m h) w

pub scoped_lift : (n : ℕ) (A : Ty) → Scoped n A → Scoped (suc n) (lift 0 A)
scoped_lift n A w = rw (lift_ren 0 A) (scoped_ren A suc n (suc n) (λ i lt. omega arith) w)

pub inst_within : (n : ℕ) (X : Ty) → Scoped n X → (i : ℕ) → i < suc n → Scoped n (inst X i)
inst_within n X v zero lt = v
inst_within n X v (suc i) lt = (omega arith, omega arith)

pub scoped_put : (n : ℕ) (X B : Ty) → Scoped n X → Scoped (suc n) B → Scoped n (put 1 X B)
scoped_put n X B v w = rw (put_inst X B) (scoped_sub B (inst X) (suc n) n (inst_within n X v) w)

pub unscoped_put : (n : ℕ) (X B : Ty) → Scoped n (put 1 X B) → Scoped (suc n) B
unscoped_put n X B w = unscoped_sub B (inst X) (suc n) n back (rw (put_inst X B) at w)
  where
    back : (i : ℕ) → Scoped n (inst X i) → i < suc n
    back zero v = omega arith
    back (suc i) v = omega (arith, v.1)
