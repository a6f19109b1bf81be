-- A <: B by the judge's tries: B is Top; A is B; A is a variable whose bound is below B; both are arrows; both are All, by the rule's own code.
use Rattle.std.specs.Prelude.{◌≡◌, ℕ}
use Rattle.rules.specs.Syntax.{Ty, top, var, arrow, all, Env, with_type, Bound, Within}
use Rattle.rules.specs.Quantifiers.{Rule, bounds, bodies_under, body_bound}
use Rattle.rules.specs.declared.all_code.Bounds.TheVariants.{Same, RightBelowLeft}

pub data Tries (R : Rule) : Env → Ty → Ty → Type 0 where
  try_top : {E : Env} {A : Ty} → Within E A → Tries R E A top
  try_same : {E : Env} {A : Ty} → Within E A → Tries R E A A
  try_var : {E : Env} {k : ℕ} {A B : Ty} → Bound E k A → Tries R E A B → Tries R E (var k) B
  try_arrow : {E : Env} {A B C D : Ty} → Tries R E C A → Tries R E B D → Tries R E (arrow A B) (arrow C D)
  try_all_same : {E : Env} {A B D : Ty} → bounds R.own ≡ Same → Within E A
      → Tries R (with_type E (body_bound (bodies_under R.own) A A)) B D → Tries R E (all A B) (all A D)
  try_all_below : {E : Env} {A B C D : Ty} → bounds R.own ≡ RightBelowLeft → Tries R E C A
      → Tries R (with_type E (body_bound (bodies_under R.own) A C)) B D → Tries R E (all A B) (all C D)
