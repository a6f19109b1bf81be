-- Larger limits: what is granted or fails has the same verdict, lines and steps where more steps, places and room are given.
use Rattle.std.proofs.Common.{◌≡◌, ℕ, zero, suc, ◌≤◌, Bool, true, false, cond, ◌++◌, List, [], ◌∷◌, length, Some, None, Option, refl, ap, subst, arith}
use Rattle.lines.specs.declared.line.Line.{Line}
use Rattle.rules.specs.Codes.{line, held}
use Rattle.rules.specs.Quantifiers.{Rule}
use Rattle.rules.specs.Statements.{Statement, said}
use Rattle.judge.specs.Goals.{Goal, Plan, ask, lay, see, pay, close, give, fail}
use Rattle.judge.specs.Plans.{plan}
use Rattle.judge.specs.Phrases.{Phrase, phrase_plan, judged}
use Rattle.judge.specs.Seeking.{Limits, State, Refusal, Outcome, established, fails, refused, steps_spent, goals_full, store_full, number_passed, standing, equal_at, all_fit, paid, put_last, put_unless, laid, and_then, result, run, placed_at, at_byte, byte_at, fits, use_or_seek, seek}
use Rattle.std.specs.Prelude.{nat_lt}
use Rattle.std.proofs.lemmas.Bool.{ltb-true, lt-ltb}

-- what o decides, o' decides
abbrev pub Kept : Outcome → Outcome → Type 0
Kept (established n r s) o' = established n r s ≡ o'
Kept (fails byte steps) o' = fails byte steps ≡ o'
Kept (refused why byte steps) o' = Unit {0}

kept_same : (o : Outcome) → Kept o o
kept_same (established n r s) = refl
kept_same (fails byte steps) = refl
kept_same (refused why byte steps) = tt

kept_then : (o o' : Outcome) (k k' : ℕ → ℕ → State → Outcome) → Kept o o' → ((n r : ℕ) (s : State) → Kept (k n r s) (k' n r s))
    → Kept (and_then o k) (and_then o' k')
kept_then (established n r s) o' k k' e h = subst (λ x. Kept (k n r s) (and_then x k')) e (h n r s)
kept_then (fails byte steps) o' k k' e h = ap (λ x. and_then x k') e
kept_then (refused why byte steps) o' k k' e h = tt

kept_placed : (byte : Option ℕ) (o o' : Outcome) → Kept o o' → Kept (placed_at byte o) (placed_at byte o')
kept_placed None o o' e = e
kept_placed (Some byte) (established n r s) o' e = ap (at_byte byte) e
kept_placed (Some byte) (fails inner steps) o' e = ap (at_byte byte) e
kept_placed (Some byte) (refused why inner steps) o' e = tt

kept_test : (b : Bool) (o o' : Outcome) (why : Refusal) (steps : ℕ) → Kept o o' → Kept (cond b o (refused why None steps)) (cond b o' (refused why None steps))
kept_test true o o' why steps x = x
kept_test false o o' why steps x = tt

-- no fewer steps and no less room
abbrev pub Within : Limits → Limits → Type 0
Within l m = (l.steps ≤ m.steps) × (l.room ≤ m.room)

module _ (l m : Limits) (w : Within l m) where
  kept_paid : (s : State) (k k' : State → Outcome) → ((t : State) → Kept (k t) (k' t)) → Kept (paid l s k) (paid m s k')
  kept_paid s k k' h = go (nat_lt s.steps l.steps) refl
    where
      go : (b : Bool) → nat_lt s.steps l.steps ≡ b
          → Kept (cond b (k (record { lines = s.lines; steps = suc s.steps })) (refused steps_spent None s.steps)) (paid m s k')
      go true e = rw (lt-ltb s.steps m.steps (omega (arith, ltb-true s.steps l.steps e, w.0))) (h (record { lines = s.lines; steps = suc s.steps }))
      go false e = tt

  kept_put : (s : State) (u : Statement) (k k' : ℕ → State → Outcome) → ((n : ℕ) (t : State) → Kept (k n t) (k' n t))
      → (b : Bool) → all_fit (held u) ≡ b → (c : Bool) → nat_lt (length s.lines) l.room ≡ c
      → Kept (cond b (cond c (k (suc (length s.lines)) (record { lines = s.lines ++ line u ∷ []; steps = s.steps }))
      (refused (store_full (length s.lines)) None s.steps)) (refused number_passed None s.steps)) (put_last m s u k')
  kept_put s u k k' h true e true f = rw (e, lt-ltb (length s.lines) m.room (omega (arith, ltb-true (length s.lines) l.room f, w.1))) (h _ _)
  kept_put s u k k' h true e false f = tt
  kept_put s u k k' h false e c f = tt

  kept_laid : (s : State) (u : Statement) (k k' : ℕ → State → Outcome) → ((n : ℕ) (t : State) → Kept (k n t) (k' n t))
      → Kept (laid l s u k) (laid m s u k')
  kept_laid s u k k' h = go (equal_at (line u) 1 s.lines)
    where
      go : (o : Option ℕ) → Kept (put_unless l s u k o) (put_unless m s u k' o)
      go (Some n) = h n s
      go None = kept_put s u k k' h (all_fit (held u)) refl (nat_lt (length s.lines) l.room) refl

  kept_run : (seeks seeks' : State → Goal → Outcome) → ((s : State) (g : Goal) → Kept (seeks s g) (seeks' s g)) → (p : Plan) (s : State)
      → Kept (run l seeks p s) (run m seeks' p s)
  kept_run seeks seeks' h (ask g k) s =
      kept_then (seeks s g) (seeks' s g) (λ n r t. run l seeks (k n r) t) (λ n r t. run m seeks' (k n r) t) (h s g)
      (λ n r t. kept_run seeks seeks' h (k n r) t)
  kept_run seeks seeks' h (lay u k) s =
      kept_laid s u (λ n t. run l seeks (k n) t) (λ n t. run m seeks' (k n) t) (λ n t. kept_run seeks seeks' h (k n) t)
  kept_run seeks seeks' h (see g n k) s = kept_run seeks seeks' h (k (said s.lines n)) s
  kept_run seeks seeks' h (pay p) s = kept_paid s (λ t. run l seeks p t) (λ t. run m seeks' p t) (λ t. kept_run seeks seeks' h p t)
  kept_run seeks seeks' h (close u) s = kept_laid s u (λ n t. established n (result u) t) (λ n t. established n (result u) t) (λ n t. refl)
  kept_run seeks seeks' h (give n r) s = refl
  kept_run seeks seeks' h fail s = refl

  kept_use : (R : Rule) (seeks seeks' : State → Goal → Outcome) → ((s : State) (g : Goal) → Kept (seeks s g) (seeks' s g))
      → (s : State) (g : Goal) (o : Option (ℕ × ℕ)) → Kept (use_or_seek R l seeks s g o) (use_or_seek R m seeks' s g o)
  kept_use R seeks seeks' h s g (Some found) =
      kept_paid s (λ t. established found.0 found.1 t) (λ t. established found.0 found.1 t) (λ t. refl)
  kept_use R seeks seeks' h s g None = kept_run seeks seeks' h (plan R (said s.lines) g) s

  kept_seek : (R : Rule) (places more : ℕ) → places ≤ more → (s : State) (g : Goal) → Kept (seek R l places s g) (seek R m more s g)
  kept_seek R zero more h s g = go (fits g)
    where
      go : (b : Bool) → Kept (cond b (refused goals_full None s.steps) (refused number_passed None s.steps)) (seek R m more s g)
      go true = tt
      go false = tt
  kept_seek R (suc places) zero h s g = absurd (let z : ⊥ = omega (arith, h) in z)
  kept_seek R (suc places) (suc more) h s g =
      kept_test (fits g) _ _ number_passed s.steps
      (kept_placed (byte_at g) _ _ (kept_use R _ _ (λ t f. kept_seek R places more (omega (arith, h)) t f) s g (standing g 1 s.lines)))

  -- of phrases
  pub larger_limits_same_verdict : (R : Rule) (places more : ℕ) → places ≤ more → (lines : List Line) (phrase : Phrase)
      → Kept (judged R l places lines phrase) (judged R m more lines phrase)
  larger_limits_same_verdict R places more h lines phrase =
      kept_run _ _ (λ s g. kept_seek R places more h s g) (phrase_plan lines phrase) (record { lines = lines; steps = 0 })
