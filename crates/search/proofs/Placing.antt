-- The byte that places what ends.
use Rattle.std.proofs.Common.{◌≡◌, ℕ, List, [], ◌∷◌, ◌++◌, Some, None, Option, refl, ap, sym, ◌∙◌}
use Rattle.std.specs.Option.{option_or}
use Rattle.judge.specs.Loop.{placed_in}
use Rattle.judge.specs.Seeking.{placed_at, byte_at}
use Rattle.actions.specs.Actions.{Terms, sought}
use Rattle.search.specs.Frames.{wait, stack}
use Rattle.search.specs.Turns.{halted}
use Rattle.search.specs.declared.halt.Halt.{Halt}
use Rattle.search.specs.declared.halt.Halt.TheVariants.{Fails, StepsSpent, GoalsFull, Fault}
use Rattle.search.specs.declared.work.Work.{Work}
use Rattle.search.specs.declared.work.Wait.{Wait}
use Rattle.search.proofs.Acts.{stack_snoc}

placed_halted : (h : Halt) (b c : Option ℕ) (n : ℕ) → placed_at c (halted h b n) ≡ halted h (option_or b c) n
placed_halted h None None n = refl
placed_halted h (Some x) None n = refl
placed_halted Fails None (Some y) n = refl
placed_halted Fails (Some x) (Some y) n = refl
placed_halted StepsSpent None (Some y) n = refl
placed_halted StepsSpent (Some x) (Some y) n = refl
placed_halted GoalsFull None (Some y) n = refl
placed_halted GoalsFull (Some x) (Some y) n = refl
placed_halted (Fault f) None (Some y) n = refl
placed_halted (Fault f) (Some x) (Some y) n = refl

none_or : (c : Option ℕ) → option_or None c ≡ c
none_or None = refl
none_or (Some y) = refl

module _ (t : Terms) (h : Halt) (n : ℕ) where
  pub first_byte : (w : Work) (xs : List Wait) (b : Option ℕ) → b ≡ byte_at (sought t w.goal)
      → placed_in (wait t w ∷ stack t xs) (halted h None n) ≡ placed_in (stack t xs) (halted h b n)
  first_byte w xs b e =
      ap (placed_in (stack t xs)) (placed_halted h None (byte_at (sought t w.goal)) n ∙ ap (λ c. halted h c n) (none_or _ ∙ sym e))

  pub next_byte : (x : Wait) (xs ys : List Wait) (b c d : Option ℕ) → xs ≡ ys ++ x ∷ [] → c ≡ byte_at (sought t x.work.goal) → d ≡ option_or b c
      → placed_in (stack t xs) (halted h b n) ≡ placed_in (stack t ys) (halted h d n)
  next_byte x xs ys b c d e is more =
      ap (λ ws. placed_in ws (halted h b n)) (stack_snoc t ys xs x e)
      ∙ ap (placed_in (stack t ys)) (placed_halted h b (byte_at (sought t x.work.goal)) n ∙ ap (λ c. halted h c n) (ap (option_or b) (sym is) ∙ sym more))

  pub last_byte : (xs : List Wait) (b : Option ℕ) → xs ≡ [] → placed_in (stack t xs) (halted h b n) ≡ halted h b n
  last_byte xs b e = ap (λ ys. placed_in (stack t ys) (halted h b n)) e
