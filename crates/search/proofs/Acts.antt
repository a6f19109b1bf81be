-- What the actions of a goal come to.
use Rattle.std.proofs.Common.{◌≡◌, ℕ, suc, ◌-◌, ◌<◌, true, cond, List, [], ◌∷◌, ◌++◌, length, Some, None, Option, Ok, Err, Result, refl, ap, sym, ◌∙◌, arith, length-append}
use Rattle.std.specs.Prelude.{⊤}
use Rattle.std.specs.Result.{IsErrAnd}
use Rattle.tables.specs.Tables.{Pushed}
use Rattle.tables.specs.declared.table.TableFault.{TableFault}
use Rattle.std.proofs.lemmas.Result.{err_from_is_err_and}
use Rattle.lines.specs.declared.line.Line.{Line}
use Rattle.rules.specs.Statements.{Statement}
use Rattle.judge.specs.Goals.{Goal}
use Rattle.judge.specs.Loop as loop
use Rattle.judge.specs.Loop.{told, fresh, on, over, placed_in, or_over, returned, used_or_pushed, asked, to_ask, to_close, to_pay}
use Rattle.judge.specs.Seeking.{established, refused, number_passed, steps_spent, standing, result, fits}
use Rattle.actions.specs.Actions.{Terms}
use Rattle.search.specs.Searches.{limits, state, Laid}
use Rattle.search.specs.Frames.{wait, onto, stack, free, search_at}
use Rattle.search.specs.Turns.{Paid}
use Rattle.search.specs.Goes.{acts}
use Rattle.search.specs.declared.halt.Halt.{Halt}
use Rattle.search.specs.declared.steps.Steps.{Steps}
use Rattle.search.specs.declared.work.Work.{Work}
use Rattle.search.specs.declared.work.Wait.{Wait}
use Rattle.search.specs.declared.turn.Turn.{Turn}

pub same_halt : (r : Result Turn Halt) (e : Halt) → IsErrAnd r (λ y. y ≡ e) → r ≡ Err e
same_halt r e h = let p = err_from_is_err_and r h in p.1 ∙ ap Err p.2

-- one more at the top of the table is one more above in the loop
onto_snoc : (t : Terms) (below : List loop.Wait) (xs : List Wait) (x : Wait) → onto t below (xs ++ x ∷ []) ≡ wait t x.work ∷ onto t below xs
onto_snoc t below [] x = refl
onto_snoc t below (y ∷ xs) x = onto_snoc t (wait t y.work ∷ below) xs x

pub stack_snoc : (t : Terms) (xs ys : List Wait) (x : Wait) → ys ≡ xs ++ x ∷ [] → stack t ys ≡ wait t x.work ∷ stack t xs
stack_snoc t xs ys x e = ap (stack t) e ∙ onto_snoc t [] xs x

pub one_more : (xs ys : List Wait) (x : Wait) → ys ≡ xs ++ x ∷ [] → length ys ≡ suc (length xs)
one_more xs ys x e = omega (arith, ap length e, length-append xs (x ∷ []))

module _ (t : Terms) (n : Steps) (room places : ℕ) (xs : List Wait) (w : Work) (lines : List Line) where
  above : List loop.Wait
  above = wait t w ∷ stack t xs

  -- a step

  pub stepped : (m : Steps) (v : Work) → Paid n (Ok m) → wait t v ≡ told (wait t w) 0 0
      → acts t n room places xs w lines to_pay ≡ on (search_at t places xs v lines m.taken)
  stepped m v p e =
      ap (λ o. or_over (wait t w ∷ stack t xs) o (λ a r s. on (record { free = free places xs; top = told (wait t w) a r; below = stack t xs; state = s })))
      (p.1 room lines (λ s. established 0 0 s))
      ∙ ap (λ x. on (record { free = free places xs; top = x; below = stack t xs; state = state lines m.taken })) (sym e)

  pub spent : (halt : Halt) → Paid n (Err halt)
      → acts t n room places xs w lines to_pay ≡ over (placed_in (wait t w ∷ stack t xs) (refused steps_spent None n.taken))
  spent halt p =
      ap (λ o. or_over (wait t w ∷ stack t xs) o (λ a r s. on (record { free = free places xs; top = told (wait t w) a r; below = stack t xs; state = s })))
      (p.1 room lines (λ s. established 0 0 s))

  -- a premise

  module _ (g : Goal) (fit : fits g ≡ true) (place : suc (length xs) < places) where
    has_place : free places xs ≡ suc (places - suc (suc (length xs)))
    has_place = omega (arith, place)

    asks : (o : Option (ℕ × ℕ)) → o ≡ standing g 1 lines
        → acts t n room places xs w lines (to_ask g)
        ≡ used_or_pushed (limits n.most room) (places - suc (suc (length xs))) (wait t w) (stack t xs) (state lines n.taken) g o
    asks o e =
        ap (λ b. cond b (asked (limits n.most room) (free places xs) (wait t w) (stack t xs) (state lines n.taken) g)
        (over (placed_in (wait t w ∷ stack t xs) (refused number_passed None n.taken)))) fit
        ∙ ap (λ k. asked (limits n.most room) k (wait t w) (stack t xs) (state lines n.taken) g) has_place
        ∙ ap (used_or_pushed (limits n.most room) (places - suc (suc (length xs))) (wait t w) (stack t xs) (state lines n.taken) g) (sym e)

    pub ask_used : (a r : ℕ) (m : Steps) (v : Work) → Some (a, r) ≡ standing g 1 lines → Paid n (Ok m) → wait t v ≡ told (wait t w) a r
        → acts t n room places xs w lines (to_ask g) ≡ on (search_at t places xs v lines m.taken)
    ask_used a r m v s p e =
        asks (Some (a, r)) s
        ∙ ap (λ o. or_over (wait t w ∷ stack t xs) o
        (λ a r s. on (record { free = suc (places - suc (suc (length xs))); top = told (wait t w) a r; below = stack t xs; state = s })))
        (p.1 room lines (λ s. established a r s))
        ∙ ap (λ x. on (record { free = suc (places - suc (suc (length xs))); top = x; below = stack t xs; state = state lines m.taken })) (sym e)
        ∙ ap (λ k. on (record { free = k; top = wait t v; below = stack t xs; state = state lines m.taken })) (sym has_place)

    pub ask_spent : (a r : ℕ) (halt : Halt) → Some (a, r) ≡ standing g 1 lines → Paid n (Err halt)
        → acts t n room places xs w lines (to_ask g) ≡ over (placed_in (wait t w ∷ stack t xs) (refused steps_spent None n.taken))
    ask_spent a r halt s p =
        asks (Some (a, r)) s
        ∙ ap (λ o. or_over (wait t w ∷ stack t xs) o
        (λ a r s. on (record { free = suc (places - suc (suc (length xs))); top = told (wait t w) a r; below = stack t xs; state = s })))
        (p.1 room lines (λ s. established a r s))

    pub ask_pushed : (x : Wait) (v : Work) (ys : List Wait) → None ≡ standing g 1 lines → x.work ≡ w → ys ≡ xs ++ x ∷ [] → wait t v ≡ fresh g
        → acts t n room places xs w lines (to_ask g) ≡ on (search_at t places ys v lines n.taken)
    ask_pushed x v ys s same e new =
        asks None s
        ∙ ap (λ y. on (record { free = places - suc (suc (length xs)); top = y; below = wait t w ∷ stack t xs; state = state lines n.taken })) (sym new)
        ∙ ap (λ k. on (record { free = k; top = wait t v; below = wait t w ∷ stack t xs; state = state lines n.taken })) here
        ∙ ap (λ ws. on (record { free = free places ys; top = wait t v; below = ws; state = state lines n.taken })) waits
      where
        here : places - suc (suc (length xs)) ≡ free places ys
        here = ap (λ k. places - suc k) (sym (one_more xs ys x e))

        waits : wait t w ∷ stack t xs ≡ stack t ys
        waits = ap (λ z. wait t z ∷ stack t xs) (sym same) ∙ sym (stack_snoc t xs ys x e)

  -- the goal's own line

  pub closed : (u : Statement) (a : ℕ) (more : List Line) (x : Wait) (ys : List Wait) (v : Work) → Laid room lines more u (Ok a) → length xs < places
      → xs ≡ ys ++ x ∷ [] → wait t v ≡ told (wait t x.work) a (result u)
      → acts t n room places xs w lines (to_close u) ≡ on (search_at t places ys v more n.taken)
  closed u a more x ys v l place e same =
      ap (λ o. or_over (wait t w ∷ stack t xs) o (λ n r s. returned (free places xs) (stack t xs) n r s)) (l n.most n.taken (λ n s. established n (result u) s))
      ∙ ap (λ ws. returned (free places xs) ws a (result u) (state more n.taken)) (stack_snoc t ys xs x e)
      ∙ ap (λ k. on (record { free = k; top = told (wait t x.work) a (result u); below = stack t ys; state = state more n.taken })) again
      ∙ ap (λ y. on (record { free = free places ys; top = y; below = stack t ys; state = state more n.taken })) (sym same)
    where
      again : suc (free places xs) ≡ free places ys
      again = omega (arith, place, one_more ys xs x e)

-- where there is a place, a push is not refused
pub pushed : (xs ys : List Wait) (places : ℕ) (x : Wait) (r : Result ⊤ TableFault) → length xs < places → Pushed xs ys places x r → ys ≡ xs ++ x ∷ []
pushed xs ys places x (Ok u) h p = p.1
pushed xs ys places x (Err fault) h p = absurd (let z : ⊥ = omega (arith, h, p.0) in z)
