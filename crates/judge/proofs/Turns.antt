-- What is left to do in a search, and that a turn does not change what comes of it.
use Rattle.std.proofs.Common.{◌≡◌, ℕ, suc, Bool, true, false, cond, List, [], ◌∷◌, ◌++◌, length, Some, None, Option, refl, ap, ◌∙◌}
use Rattle.std.specs.Prelude.{nat_lt}
use Rattle.rules.specs.Codes.{line, held}
use Rattle.rules.specs.Quantifiers.{Rule}
use Rattle.rules.specs.Statements.{Statement, said}
use Rattle.judge.specs.Goals.{Plan, ask, lay, see, pay, close, give, fail}
use Rattle.judge.specs.Loop.{Wait, after, told, Search, Turn, placed_in, or_over, next}
use Rattle.judge.specs.Plans.{plan}
use Rattle.judge.specs.Seeking.{Limits, State, Refusal, steps_spent, store_full, number_passed, Outcome, established, fails, refused, equal_at, all_fit, paid, put_unless, laid, and_then, run, placed_at, byte_at, seek}

-- answers

pub after_one_more : (p : Plan) (answers : List (ℕ × ℕ)) (a : ℕ × ℕ) → after p (answers ++ a ∷ []) ≡ after (after p answers) (a ∷ [])
after_one_more p [] a = refl
after_one_more (ask g k) (x ∷ answers) a = after_one_more (k x.0 x.1) answers a
after_one_more (lay u k) (x ∷ answers) a = after_one_more (k x.0) answers a
after_one_more (pay p) (x ∷ answers) a = after_one_more p answers a
after_one_more (see g n k) (x ∷ answers) a = refl
after_one_more (close u) (x ∷ answers) a = refl
after_one_more (give n r) (x ∷ answers) a = refl
after_one_more fail (x ∷ answers) a = refl

-- outcomes that end the search

pub data Ended : Outcome → Type 0 where
  ended_fails : {byte : Option ℕ} {steps : ℕ} → Ended (fails byte steps)
  ended_refused : {why : Refusal} {byte : Option ℕ} {steps : ℕ} → Ended (refused why byte steps)

placed_ended : (byte : Option ℕ) {o : Outcome} → Ended o → Ended (placed_at byte o)
placed_ended None x = x
placed_ended (Some byte) ended_fails = ended_fails
placed_ended (Some byte) ended_refused = ended_refused

then_ended : {o : Outcome} (k : ℕ → ℕ → State → Outcome) → Ended o → and_then o k ≡ o
then_ended k ended_fails = refl
then_ended k ended_refused = refl

-- a step or a line is there first, and then what goes on

pub paid_then : (l : Limits) (s : State) (i r : ℕ) (k : ℕ → ℕ → State → Outcome)
    → paid l s (λ t. k i r t) ≡ and_then (paid l s (λ t. established i r t)) k
paid_then l s i r k = go (nat_lt s.steps l.steps)
  where
    go : (b : Bool)
        → cond b (k i r (record { lines = s.lines; steps = suc s.steps })) (refused steps_spent None s.steps)
        ≡ and_then (cond b (established i r (record { lines = s.lines; steps = suc s.steps })) (refused steps_spent None s.steps)) k
    go true = refl
    go false = refl

pub laid_then : (l : Limits) (s : State) (u : Statement) (x : ℕ) (k : ℕ → State → Outcome)
    → laid l s u k ≡ and_then (laid l s u (λ i t. established i x t)) (λ i r t. k i t)
laid_then l s u x k = go (equal_at (line u) 1 s.lines)
  where
    put : (b c : Bool)
        → cond b (cond c (k (suc (length s.lines)) (record { lines = s.lines ++ line u ∷ []; steps = s.steps }))
        (refused (store_full (length s.lines)) None s.steps)) (refused number_passed None s.steps)
        ≡ and_then (cond b (cond c (established (suc (length s.lines)) x (record { lines = s.lines ++ line u ∷ []; steps = s.steps }))
        (refused (store_full (length s.lines)) None s.steps)) (refused number_passed None s.steps)) (λ i r t. k i t)
    put true true = refl
    put true false = refl
    put false c = refl

    go : (o : Option ℕ) → put_unless l s u k o ≡ and_then (put_unless l s u (λ i t. established i x t) o) (λ i r t. k i t)
    go (Some n) = refl
    go None = put (all_fit (held u)) (nat_lt (length s.lines) l.room)

module _ (R : Rule) (l : Limits) where
  abbrev pub left : State → Wait → Plan
  left s w = after (plan R (said s.lines) w.goal) w.answers

  -- what comes of an outcome, given back to those that wait
  abbrev pub back : (free : ℕ) → List Wait → Outcome → Outcome
  back free [] o = o
  back free (w ∷ below) o =
      back (suc free) below
      (placed_at (byte_at w.goal) (and_then o (λ i r t. run l (λ s g. seek R l (suc free) s g) (left t (told w i r)) t)))

  abbrev pub comes : Search → Outcome
  comes c = back c.free c.below (placed_at (byte_at c.top.goal) (run l (λ s g. seek R l c.free s g) (left c.state c.top) c.state))

  back_ended : (free : ℕ) (waits : List Wait) (o : Outcome) → Ended o → back free waits o ≡ placed_in waits o
  back_ended free [] o x = refl
  back_ended free (w ∷ waits) o x =
      ap (λ p. back (suc free) waits (placed_at (byte_at w.goal) p)) (then_ended _ x)
      ∙ back_ended (suc free) waits (placed_at (byte_at w.goal) o) (placed_ended (byte_at w.goal) x)

  pub top_ended : (free : ℕ) (w : Wait) (waits : List Wait) (o : Outcome) → Ended o
      → back free waits (placed_at (byte_at w.goal) o) ≡ placed_in (w ∷ waits) o
  top_ended free w waits o x = back_ended free waits _ (placed_ended (byte_at w.goal) x)

  -- an outcome that goes on, or ends the search
  pub goes_on : (free : ℕ) (w : Wait) (waits : List Wait) (o : Outcome) (k : ℕ → ℕ → State → Outcome) (f : ℕ → ℕ → State → Turn)
      → ((i r : ℕ) (t : State) → o ≡ established i r t → back free waits (placed_at (byte_at w.goal) (k i r t)) ≡ next comes (f i r t))
      → back free waits (placed_at (byte_at w.goal) (and_then o k)) ≡ next comes (or_over (w ∷ waits) o f)
  goes_on free w waits (established i r t) k f h = h i r t refl
  goes_on free w waits (fails byte steps) k f h = top_ended free w waits (fails byte steps) ended_fails
  goes_on free w waits (refused why byte steps) k f h = top_ended free w waits (refused why byte steps) ended_refused
