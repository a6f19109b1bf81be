-- A standing line that serves what is sought.
use Rattle.std.proofs.Common.{◌≡◌, ℕ, zero, suc, ◌<◌, true, cond, List, Some, None, Ok, Err, ap, sym, ◌∙◌, arith}
use Rattle.lines.specs.declared.line.Line.{Line}
use Rattle.rules.specs.Quantifiers.{Rule}
use Rattle.judge.specs.Goals.{Goal}
use Rattle.judge.specs.Loop as judge
use Rattle.judge.specs.Seeking.{established, refused, number_passed, standing, fits, paid}
use Rattle.search.specs.Searches.{limits, state}
use Rattle.search.specs.Turns.{Paid, halted}
use Rattle.search.specs.declared.halt.Halt.{Halt}
use Rattle.search.specs.declared.steps.Steps.{Steps}

module _ (R : Rule) (n : Steps) (room count places : ℕ) (lines : List Line) (g : Goal) (fit : fits g ≡ true) (some : 0 < places) (a r : ℕ)
    (stands : Some (a, r) ≡ standing g 1 lines) where
  uses : judge.search R (limits n.most room) count places (state lines n.taken) g
      ≡ paid (limits n.most room) (state lines n.taken) (λ t. established a r t)
  uses = go places some
    where
      go : (p : ℕ) → 0 < p → judge.search R (limits n.most room) count p (state lines n.taken) g
          ≡ paid (limits n.most room) (state lines n.taken) (λ t. established a r t)
      go zero h = absurd (let z : ⊥ = omega (arith, h) in z)
      go (suc free) h =
          ap (λ b. cond b (judge.search_from R (limits n.most room) count free (state lines n.taken) g (standing g 1 lines)) (refused number_passed None n.taken)) fit
          ∙ ap (judge.search_from R (limits n.most room) count free (state lines n.taken) g) (sym stands)

  pub used : (m : Steps) → Paid n (Ok m)
      → (judge.search R (limits n.most room) count places (state lines n.taken) g ≡ established a r (state lines m.taken)) × (m.most ≡ n.most)
  used m p = (uses ∙ p.1 room lines (λ t. established a r t), p.0)

  pub unpaid : (halt : Halt) → Paid n (Err halt)
      → judge.search R (limits n.most room) count places (state lines n.taken) g ≡ halted halt None n.taken
  unpaid halt p = uses ∙ p.1 room lines (λ t. established a r t) ∙ ap (λ h. halted h None n.taken) (sym p.0)
