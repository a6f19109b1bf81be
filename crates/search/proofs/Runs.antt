-- The loop, as far as it has come: what is left of it answers what it answers as a whole.
use Rattle.std.proofs.Common.{◌≡◌, ℕ, suc, ◌<◌, List, ◌∷◌, length, None, Ok, Err, ap, sym, ◌∙◌, arith}
use Rattle.lines.specs.declared.line.Line.{Line}
use Rattle.rules.specs.Quantifiers.{Rule}
use Rattle.judge.specs.Loop as judge
use Rattle.judge.specs.Loop.{on, over, next, placed_in}
use Rattle.judge.specs.Seeking.{established}
use Rattle.actions.specs.Actions.{Terms}
use Rattle.search.specs.Searches.{limits, state}
use Rattle.search.specs.Frames.{wait, stack, search_at}
use Rattle.search.specs.Turns.{halted}
use Rattle.search.specs.declared.halt.Halt.{Halt}
use Rattle.actions.specs.declared.told.Found.{Found}
use Rattle.search.specs.declared.turn.Turn.TheVariants.{On, Over}
use Rattle.search.specs.Goes.{Went}
use Rattle.search.specs.Outcomes.{turns}
use Rattle.search.specs.declared.steps.Steps.{Steps}
use Rattle.search.specs.declared.work.Work.{Work}
use Rattle.search.specs.declared.work.Wait.{Wait}

-- from the first of these, and with so many turns left
pub record Running (R : Rule) (t : Terms) (room places : ℕ) (xs : List Wait) (w : Work) (lines : List Line) (n : Steps)
    (left room' places' : ℕ) (xs' : List Wait) (w' : Work) (lines' : List Line) (n' : Steps) : Type 0 where
  pub same_room : room' ≡ room
  pub same_places : places' ≡ places
  pub same_most : n'.most ≡ n.most
  pub within : length xs' < places
  pub loops : judge.loop R (limits n.most room) (turns n.most places) (search_at t places xs w lines n.taken)
      ≡ judge.loop R (limits n.most room) left (search_at t places xs' w' lines' n'.taken)

module _ (R : Rule) (t : Terms) (room places : ℕ) (xs : List Wait) (w : Work) (lines : List Line) (n : Steps) (left room' places' : ℕ) (xs' : List Wait)
    (w' : Work) (lines' : List Line) (n' : Steps) (r : Running R t room places xs w lines n left room' places' xs' w' lines' n') (m : ℕ) (is : left ≡ suc m) where
  abbrev this : judge.Turn
  this = judge.turn R (limits n'.most room') (search_at t places' xs' w' lines' n'.taken)

  -- the turn that is taken is that of the loop
  taken : judge.loop R (limits n.most room) (turns n.most places) (search_at t places xs w lines n.taken) ≡ next (λ d. judge.loop R (limits n.most room) m d) this
  taken =
      r.loops ∙ ap (λ k. judge.loop R (limits n.most room) k (search_at t places xs' w' lines' n'.taken)) is
      ∙ ap (next (λ d. judge.loop R (limits n.most room) m d))
      (λ i. judge.turn R (limits (sym r.same_most i) (sym r.same_room i)) (search_at t (sym r.same_places i) xs' w' lines' n'.taken))

  pub goes_on : (ys : List Wait) (v : Work) (more : List Line) (k : Steps) (room'' places'' : ℕ) → Went t places' xs' ys w' more n' this (Ok (On v k))
      → room'' ≡ room' → places'' ≡ places' → Running R t room places xs w lines n m room'' places'' ys v more k
  goes_on ys v more k room'' places'' (x, most, within) same_room same_places =
      record {
        same_room = same_room ∙ r.same_room;
        same_places = same_places ∙ r.same_places;
        same_most = most ∙ r.same_most;
        within = omega (arith, within, r.same_places);
        loops =
            taken ∙ ap (next (λ d. judge.loop R (limits n.most room) m d)) x
            ∙ ap (λ p. judge.loop R (limits n.most room) m (search_at t p ys v more k.taken)) r.same_places;
      }

  pub ends : (ys : List Wait) (more : List Line) (f : Found) (k : Steps) → Went t places' xs' ys w' more n' this (Ok (Over f k))
      → (judge.loop R (limits n.most room) (turns n.most places) (search_at t places xs w lines n.taken) ≡ established f.line f.result (state more k.taken)) × (k.most ≡ n.most)
  ends ys more f k (x, most) = (taken ∙ ap (next (λ d. judge.loop R (limits n.most room) m d)) x, most ∙ r.same_most)

  pub halts : (ys : List Wait) (more : List Line) (halt : Halt) → Went t places' xs' ys w' more n' this (Err halt)
      → judge.loop R (limits n.most room) (turns n.most places) (search_at t places xs w lines n.taken)
      ≡ placed_in (wait t w' ∷ stack t xs') (halted halt None n'.taken)
  halts ys more halt x = taken ∙ ap (next (λ d. judge.loop R (limits n.most room) m d)) x.0
