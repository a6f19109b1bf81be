-- Two morphisms: narrowing replaces a bound by one below it; an instance puts a type below the bound for the variable.
use Rattle.std.specs.Prelude.{ℕ, zero, suc, ◌<◌}
use Rattle.std.proofs.Common.{arith}
use Rattle.rules.specs.Syntax.{Ty, lift, put, Env, with_type, Bound, bound_here, bound_past_type, depth}
use Rattle.rules.specs.Quantifiers.{Rule}
use Rattle.rules.specs.Tries.{Tries, try_var}
use Rattle.rules.specs.Renaming.{ren, at, sub, vars, sub_id}
use Rattle.rules.specs.Bridge.{inst, inst_lift, put_inst}
use Rattle.rules.specs.Scopes.{inst_within}
use Rattle.rules.specs.Variables.{bound_not_zero}
use Rattle.rules.specs.Weaken.{Ren, renames, weaken_type}
use Rattle.rules.specs.Regular.{regular}
use Rattle.rules.specs.Morphism.{substitutes}
use Rattle.rules.specs.Transitive.{size, size-ren, size-lift, TransitiveBelow, Transitive}

pub narrow_below : {R : Rule} {n : ℕ} {E : Env} {A B C D : Ty}
    → TransitiveBelow R n → size A < n → Tries R E C A → Tries R (with_type E A) B D → Tries R (with_type E C) B D
narrow_below {R} {n} {E} {A} {B} {C} {D} transitive lt s t =
    rw (sub_id B, sub_id D) at (substitutes t vars (with_type E C) (λ i l. (omega arith, l), goes))
  where
    goes : (k : ℕ) (F : Ty) → Bound (with_type E A) k F → (G : Env) (ρ : ℕ → ℕ) → Ren ρ (with_type E C) G
        → (H : Ty) → Tries R G (ren ρ (sub vars F)) H → Tries R G (ren ρ (at vars k)) H
    goes k F bound_here G ρ r H u =
        let less : size (ren ρ (lift 0 A)) < n = omega (arith, size-ren ρ (lift 0 A), size-lift A) in
        try_var (r.1 1 (lift 0 C) bound_here)
        (transitive _ less _ _ _ (renames (weaken_type C s) ρ G r) (rw (sub_id (lift 0 A)) at u))
    goes k F (bound_past_type {k = j} {B = I} b) G ρ r H u =
        try_var (r.1 (suc j) (lift 0 I) (bound_past_type b)) (rw (sub_id (lift 0 I)) at u)

pub narrow : {R : Rule} {E : Env} {A B C D : Ty}
    → Transitive R → Tries R E C A → Tries R (with_type E A) B D → Tries R (with_type E C) B D
narrow {A = A} transitive s t =
    narrow_below {n = suc (size A)} (λ Q lt E X Y. transitive E X Q Y) (omega arith) s t

pub instance : {R : Rule} {E : Env} {B C D X : Ty}
    → Transitive R → Tries R E X C → Tries R (with_type E C) B D → Tries R E (put 1 X B) (put 1 X D)
instance {R} {E} {B} {C} {D} {X} transitive s t =
    rw (put_inst X B, put_inst X D) (substitutes t (inst X) E (inst_within (depth E) X (regular s).0, goes))
  where
    past : (k : ℕ) (F : Ty) → Bound E k F → (G : Env) (ρ : ℕ → ℕ) → Ren ρ E G
        → (H : Ty) → Tries R G (ren ρ F) H → Tries R G (ren ρ (inst X k)) H
    past zero F b G ρ r H u = absurd (bound_not_zero b)
    past (suc k) F b G ρ r H u = try_var (r.1 (suc k) F b) u

    goes : (k : ℕ) (F : Ty) → Bound (with_type E C) k F → (G : Env) (ρ : ℕ → ℕ) → Ren ρ E G
        → (H : Ty) → Tries R G (ren ρ (sub (inst X) F)) H → Tries R G (ren ρ (at (inst X) k)) H
    goes k F bound_here G ρ r H u = transitive _ _ _ _ (renames s ρ G r) (rw (inst_lift X C) at u)
    goes k F (bound_past_type {k = j} {B = I} b) G ρ r H u = past j I b G ρ r H (rw (inst_lift X I) at u)
