-- The binders around, and that a binder's number is at most their number.
use Rattle.std.proofs.Common.{◌≡◌, refl, sym, ap, ◌∙◌, ℕ, suc, ◌≤◌, Bool, true, false, List, [], ◌∷◌, length, Option, Some, None, arith}
use Rattle.std.specs.Borrow.{Bor}
use Rattle.parser.specs.Binders.{names, names_step}
use Rattle.parser.specs.declared.binders.Binders.{Binders}
use Rattle.parser.specs.declared.binders.Binders.TheOpen
use Rattle.parser.specs.declared.binders.Binders.TheViews.{Inside, rolls-Inside}
use Rattle.parser.specs.declared.binders.Binders.TheFolds.{fold-roll-Binders}
use Rattle.lexer.specs.Names.{number_of, same}
use Rattle.lexer.specs.declared.name.Name.{Name}

pub names_inside : (w : Name) (around : Bor Binders) → names (Inside w around) ≡ w ∷ names around.now
names_inside w around = ap names (sym (rolls-Inside w around)) ∙ fold-roll-Binders (List Name) names_step (TheOpen.Inside w around)

one_more : (v : Name) (vs : List Name) (w : Name) (k : ℕ) (b : Bool) (r : Option ℕ) → same v w ≡ b → number_of vs w ≡ r
    → ((j : ℕ) → number_of vs w ≡ Some j → j ≤ length vs) → number_of (v ∷ vs) w ≡ Some k → k ≤ suc (length vs)
one_more v vs w k true r e f h i = let x = rw e at i in grind (arith, x)
one_more v vs w k false None e f h i = let x = rw (e, f) at i in grind (arith, x)
one_more v vs w k false (Some j) e f h i = let y : j ≤ length vs = h j f in let x = rw (e, f) at i in grind (arith, x, y)

pub number_of_within : (vs : List Name) (w : Name) (k : ℕ) → number_of vs w ≡ Some k → k ≤ length vs
number_of_within [] w k e = grind arith
number_of_within (v ∷ vs) w k e = one_more v vs w k (same v w) (number_of vs w) refl refl (number_of_within vs w) e
