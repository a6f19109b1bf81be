-- Transitivity of the tries, by the size of the type in the middle. Only the step for two All depends on the rule.
use Rattle.std.specs.Prelude.{◌≡◌, ℕ, zero, suc, ◌+◌, ◌<◌, ◌≤◌, refl}
use Rattle.std.proofs.Common.{◌∙◌, ap, ap₂, arith}
use Rattle.rules.specs.Syntax.{Ty, top, var, arrow, all, rec, lift, Env, Within}
use Rattle.rules.specs.Quantifiers.{Rule}
use Rattle.rules.specs.Tries.{Tries, try_top, try_same, try_var, try_arrow, try_all_same, try_all_below}
use Rattle.rules.specs.Laws.{Chains}
use Rattle.rules.specs.Renaming.{up, ren}
use Rattle.rules.specs.Bridge.{lift_ren}
use Rattle.rules.specs.Regular.{regular}

abbrev pub size : Ty → ℕ
size top = 1
size (var k) = 1
size (arrow A B) = suc (size A + size B)
size (all A B) = suc (size A + size B)
size (rec B) = suc (size B)

pub size-ren : (ρ : ℕ → ℕ) (A : Ty) → size (ren ρ A) ≡ size A
size-ren ρ top = refl
size-ren ρ (var k) = refl
size-ren ρ (arrow A B) = ap₂ (λ m n. suc (m + n)) (size-ren ρ A) (size-ren ρ B)
size-ren ρ (all A B) = ap₂ (λ m n. suc (m + n)) (size-ren ρ A) (size-ren (up ρ) B)
size-ren ρ (rec B) = ap suc (size-ren (up ρ) B)

pub size-lift : (A : Ty) → size (lift 0 A) ≡ size A
size-lift A = ap size (lift_ren 0 A) ∙ size-ren suc A

-- transitivity where the middle is smaller than n
abbrev pub TransitiveBelow : Rule → ℕ → Type 0
TransitiveBelow R n = (Q : Ty) → size Q < n → (E : Env) (A B : Ty) → Tries R E A Q → Tries R E Q B → Tries R E A B

-- chains where the middle All has size n at most
abbrev pub ChainsTo : Rule → ℕ → Type 0
ChainsTo R n =
    (E : Env) (A B C D F G : Ty) → size (all C D) ≤ n
    → Tries R E (all A B) (all C D) → Tries R E (all C D) (all F G) → Tries R E (all A B) (all F G)

top_above : {R : Rule} {E : Env} {A B : Ty} → Within E A → Tries R E top B → Tries R E A B
top_above w (try_top v) = try_top w
top_above w (try_same v) = try_top w

module _ {R : Rule} (n : ℕ) (transitive : TransitiveBelow R n) (chains : ChainsTo R n) where
  past_arrow : {E : Env} {A B C D F : Ty} → size (arrow C D) ≤ n → Tries R E C A → Tries R E B D → Tries R E (arrow C D) F → Tries R E (arrow A B) F
  past_arrow le s t (try_top w) = try_top (regular (try_arrow s t)).0
  past_arrow le s t (try_same w) = try_arrow s t
  past_arrow {A = A} {B} {C} {D} le s t (try_arrow u v) =
      try_arrow (transitive C (omega arith) _ _ _ u s) (transitive D (omega arith) _ _ _ t v)

  past_all : {E : Env} {A B C D F : Ty} → size (all C D) ≤ n → Tries R E (all A B) (all C D) → Tries R E (all C D) F → Tries R E (all A B) F
  past_all le t (try_top w) = try_top (regular t).0
  past_all le t (try_same w) = t
  past_all le t (try_all_same e w u) = chains _ _ _ _ _ _ _ le t (try_all_same e w u)
  past_all le t (try_all_below e s u) = chains _ _ _ _ _ _ _ le t (try_all_below e s u)

  pub transitive_step : {E : Env} {A Q B : Ty} → size Q ≤ n → Tries R E A Q → Tries R E Q B → Tries R E A B
  transitive_step le (try_top w) u = top_above w u
  transitive_step le (try_same w) u = u
  transitive_step le (try_var b t) u = try_var b (transitive_step le t u)
  transitive_step le (try_arrow s t) u = past_arrow le s t u
  transitive_step le (try_all_same e w t) u = past_all le (try_all_same e w t) u
  transitive_step le (try_all_below e s t) u = past_all le (try_all_below e s t) u

-- transitivity at all sizes, from the step for two All at each size
pub transitive_below : {R : Rule} → ((n : ℕ) → TransitiveBelow R n → ChainsTo R n) → (n : ℕ) → TransitiveBelow R n
transitive_below c zero Q lt E A B t u = absurd (omega (arith, lt))
transitive_below c (suc n) Q lt E A B t u =
    transitive_step n (transitive_below c n) (c n (transitive_below c n)) (omega arith) t u

abbrev pub Transitive : Rule → Type 0
Transitive R = (E : Env) (A Q B : Ty) → Tries R E A Q → Tries R E Q B → Tries R E A B

pub transitive_all : {R : Rule} → ((n : ℕ) → TransitiveBelow R n → ChainsTo R n) → Transitive R
transitive_all c E A Q B t u = transitive_below c (suc (size Q)) Q (omega arith) E A B t u

-- for every rule with the law of chains
pub transitive : {R : Rule} → Chains R → Transitive R
transitive chains = transitive_all (λ n t E A B C D F G le. chains E A B C D F G)
