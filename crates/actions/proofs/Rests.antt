-- No plan is told more than five answers.
use Rattle.std.proofs.Common.{◌≡◌, ℕ, zero, suc, Bool, true, false, List, [], ◌∷◌, length, Option, refl, sym, subst, arith}
use Rattle.rules.specs.Quantifiers.{Rule}
use Rattle.rules.specs.Statements.{Get}
use Rattle.judge.specs.Goals as judge
use Rattle.judge.specs.Goals.{Plan, ask, lay, see, pay, close, give, fail}
use Rattle.judge.specs.Loop.{after, action}
use Rattle.judge.specs.Loop as loop
use Rattle.judge.specs.Plans.{plan}
use Rattle.judge.specs.Seeking.{byte_at}
use Rattle.judge.proofs.Shapes.{Shape, plan_shape}
use Rattle.actions.specs.Actions.{Terms, answers, done, Spare}
use Rattle.actions.specs.Room.{GoesOn}
use Rattle.actions.specs.declared.told.Told.{Told}
use Rattle.actions.specs.declared.told.Told.TheVariants.{Nothing, One, Two, Three, Four, Five}
use Rattle.actions.specs.declared.action.Action.{Action}
use Rattle.actions.specs.declared.action.Action.TheVariants.{Ask, Lay, Become, Pay, Close, Fail}

abbrev Resting : loop.Action → Type 0
Resting (loop.to_ask g) = ⊥
Resting (loop.to_lay u) = ⊥
Resting loop.to_pay = ⊥
Resting other = Unit {0}

rests : (byte : Option ℕ) (unpaid : Bool) (d e : ℕ) (p : Plan) (xs : List (ℕ × ℕ)) → length xs ≡ e → Shape byte unpaid d e p → Resting (action (after p xs))
rests byte unpaid zero e (ask g k) xs n x = absurd x
rests byte unpaid zero e (lay u k) xs n x = absurd x
rests byte unpaid zero e (pay p) xs n x = absurd x
rests byte unpaid (suc d) zero (ask g k) xs n x = absurd x
rests byte unpaid (suc d) zero (lay u k) xs n x = absurd x
rests byte unpaid (suc d) zero (pay p) xs n x = absurd x
rests byte unpaid (suc d) (suc e) (ask g k) [] n x = absurd (let z : ⊥ = omega (arith, n) in z)
rests byte unpaid (suc d) (suc e) (lay u k) [] n x = absurd (let z : ⊥ = omega (arith, n) in z)
rests byte unpaid (suc d) (suc e) (pay p) [] n x = absurd (let z : ⊥ = omega (arith, n) in z)
rests byte unpaid (suc d) (suc e) (ask g k) (a ∷ xs) n x = rests byte true 3 e (k a.0 a.1) xs (omega (arith, n)) (x.1 a.0 a.1)
rests byte unpaid (suc d) (suc e) (lay u k) (a ∷ xs) n x = rests byte unpaid d e (k a.0) xs (omega (arith, n)) (x a.0)
rests byte unpaid (suc d) (suc e) (pay p) (a ∷ xs) n x = rests byte false d e p xs (omega (arith, n)) x.1
rests byte unpaid d e (see g m k) [] n x = tt
rests byte unpaid d e (see g m k) (a ∷ xs) n x = tt
rests byte unpaid d e (close u) [] n x = tt
rests byte unpaid d e (close u) (a ∷ xs) n x = tt
rests byte unpaid d e (give m r) [] n x = tt
rests byte unpaid d e (give m r) (a ∷ xs) n x = tt
rests byte unpaid d e fail [] n x = tt
rests byte unpaid d e fail (a ∷ xs) n x = tt

goes : (a : Action) (told : Told) → Spare told → GoesOn a told
goes (Ask g) told x = x
goes (Lay s) told x = x
goes (Become g) told x = tt
goes Pay told x = x
goes (Close s) told x = tt
goes Fail told x = tt

module _ (R : Rule) (G : Get) (g : judge.Goal) (t : Terms) where
  resting : (a : Action) (told : Told) → Resting (done t a) → GoesOn a told
  resting (Ask g) told x = absurd x
  resting (Lay s) told x = absurd x
  resting (Become g) told x = tt
  resting Pay told x = absurd x
  resting (Close s) told x = tt
  resting Fail told x = tt

  pub goes_on : (a : Action) (told : Told) → done t a ≡ action (after (plan R G g) (answers told)) → GoesOn a told
  goes_on a Nothing e = goes a Nothing (omega arith)
  goes_on a (One x) e = goes a (One x) (omega arith)
  goes_on a (Two x y) e = goes a (Two x y) (omega arith)
  goes_on a (Three x y z) e = goes a (Three x y z) (omega arith)
  goes_on a (Four x y z w) e = goes a (Four x y z w) (omega arith)
  goes_on a (Five x y z w v) e =
      resting a (Five x y z w v)
      (subst Resting (sym e) (rests (byte_at g) true 3 5 (plan R G g) (answers (Five x y z w v)) refl (plan_shape R G g)))
