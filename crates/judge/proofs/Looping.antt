-- The loop over waiting goals ends, and answers what seeking answers.
use Rattle.std.proofs.Common.{◌≡◌, ℕ, zero, suc, ◌+◌, ◌*◌, ◌<◌, ◌≤◌, Bool, true, false, cond, List, [], ◌∷◌, ◌++◌, length, Some, None, Option, refl, ap, sym, ◌∙◌, subst, arith}
use Rattle.std.specs.Prelude.{nat_lt}
use Rattle.lines.specs.declared.line.Line.{Line}
use Rattle.rules.specs.Faults.{Sound}
use Rattle.rules.specs.Laws.{Chains, Admitted}
use Rattle.rules.specs.Quantifiers.{Rule}
use Rattle.rules.specs.Statements.{Statement, said}
use Rattle.rules.proofs.Whole.{◌⊑◌}
use Rattle.rules.proofs.Writing.{Listing, gets, via}
use Rattle.judge.specs.Goals.{Goal, Plan, ask, lay, see, pay, close, give, fail}
use Rattle.judge.specs.Loop.{Wait, after, told, fresh, Search, Turn, on, over, placed_in, or_over, returned, used_or_pushed, action, act, turn, next, loop, search_from, search}
use Rattle.judge.specs.Plans.{plan}
use Rattle.judge.specs.Seeking.{Limits, State, steps_spent, goals_full, number_passed, Outcome, established, fails, refused, standing, paid, and_then, result, run, placed_at, byte_at, fits, use_or_seek, seek}
use Rattle.judge.proofs.Judged.{plans_valid}
use Rattle.judge.proofs.Shapes.{Shape, plan_shape}
use Rattle.judge.proofs.Sought.{Sought, Means, Holds, Knows}
use Rattle.judge.proofs.Standing.{ValidFor, StandingAt, standing_found, standing_answers, standing_byte, seek_sound}
use Rattle.judge.proofs.Stays.{plan_stays, means_on}
use Rattle.judge.proofs.Turns.{after_one_more, Ended, ended_fails, ended_refused, paid_then, laid_then, left, back, comes, top_ended}
use Rattle.judge.proofs.Valid.{PostOf, Answered, runs, post_placed, laid_cases, added, added_says, added_grown, grown_on, grows_on}
use Rattle.std.proofs.lemmas.Bool.{ltb-true}

module _ {R : Rule} (chains : Chains R) (admitted : Admitted R) (l : Limits) where
  -- the plan of a goal is the same where there are more lines
  abbrev Stays : Listing R → Goal → Type 0
  Stays L g = (M : Listing R) → gets L ⊑ gets M → plan R (gets M) g ≡ plan R (gets L) g

  stays_on : (L M : Listing R) (g : Goal) → gets L ⊑ gets M → Stays L g → Stays M g
  stays_on L M g o stays K q = stays K (via o q) ∙ sym (stays M o)

  abbrev left_at : Listing R → Wait → Plan
  left_at L w = after (plan R (gets L) w.goal) w.answers

  -- a goal below waits for g, which means w
  record Waiting (L : Listing R) (g : Goal) (w : Sought) (x : Wait) (a : Goal) (m : Sought) : Type 0 where
    k : ℕ → ℕ → Plan
    is : left_at L x ≡ ask g k
    stays : Stays L x.goal
    valid : ValidFor R a m (ask g k) L
    same : valid.0 ≡ w
    answers : ℕ
    shape : (n r : ℕ) → Shape (byte_at x.goal) true 3 answers (k n r)
    size : length x.answers + suc answers ≤ 5

  abbrev Waits : Listing R → Goal → Sought → List Wait → Type 0
  Waits L g w [] = Unit {0}
  Waits L g w (x ∷ below) = (a : Goal) × (m : Sought) × Waiting L g w x a m × Waits L a m below

  waiting_on : (L M : Listing R) → gets L ⊑ gets M → {g : Goal} {w : Sought} {x : Wait} {a : Goal} {m : Sought} → Waiting L g w x a m → Waiting M g w x a m
  waiting_on L M o {x = x} y =
      record {
        k = y.k;
        is = ap (λ p. after p x.answers) (y.stays M o) ∙ y.is;
        stays = stays_on L M x.goal o y.stays;
        valid = (y.valid.0, means_on o y.valid.1, y.valid.2, λ K q n r s i. y.valid.3 K (via o q) n r s i);
        same = y.same;
        answers = y.answers;
        shape = y.shape;
        size = y.size;
      }

  waits_on : (L M : Listing R) → gets L ⊑ gets M → (g : Goal) (w : Sought) (below : List Wait) → Waits L g w below → Waits M g w below
  waits_on L M o g w [] x = tt
  waits_on L M o g w (y ∷ below) (a, m, x, z) = (a, m, waiting_on L M o x, waits_on L M o a m below z)

  abbrev listing : (s : State) → Sound R s.lines → Listing R
  listing s sound = record { lines = s.lines; sound = sound }

  -- what a step that is paid for is worth until the goal is established
  abbrev credit : Bool → ℕ
  credit true = 0
  credit false = 2

  -- The goal on top, of whose plan p is left, with so many actions to the next answer and answers in all; and what is left to do at most.
  record Fit (free : ℕ) (w : Wait) (below : List Wait) (s : State) (p : Plan) (unpaid : Bool) (actions answers weight : ℕ) : Type 0 where
    sound : Sound R s.lines
    goal : Goal
    sought : Sought
    is : left_at (listing s sound) w ≡ p
    stays : Stays (listing s sound) w.goal
    valid : ValidFor R goal sought p (listing s sound)
    spare : ℕ
    enough : l.steps ≤ spare + s.steps
    weighs : weight ≡ 4 * (2 * spare + free + credit unpaid) + actions
    shape : Shape (byte_at w.goal) unpaid actions answers p
    size : length w.answers + answers ≤ 5
    waits : Waits (listing s sound) goal sought below

  abbrev Inv : Search → ℕ → Type 0
  Inv c weight =
      (p : Plan) × (unpaid : Bool) × (actions : ℕ) × (answers : ℕ) × Fit c.free c.top c.below c.state p unpaid actions answers weight

  abbrev Reached : ℕ → Turn → Type 0
  Reached weight (on c) = (d : ℕ) × Inv c d × (d < weight)
  Reached weight (over o) = Unit {0}

  abbrev acted : Limits → ℕ → Wait → List Wait → State → Plan → Turn
  acted l free w below s p = act l free w below s (action p)

  abbrev seeks : ℕ → State → Goal → Outcome
  seeks free s g = seek R l free s g

  -- a turn keeps what comes of the search, and leaves less to do
  abbrev Step : ℕ → Wait → List Wait → ℕ → Outcome → Turn → Type 0
  Step free w below weight o x = (back R l free below (placed_at (byte_at w.goal) o) ≡ next (comes R l) x) × Reached weight x

  step_over : (free : ℕ) (w : Wait) (below : List Wait) (weight : ℕ) (o : Outcome) → Ended o → Step free w below weight o (over (placed_in (w ∷ below) o))
  step_over free w below weight o x = (top_ended R l free w below o x, tt)

  length-one-more : (xs : List (ℕ × ℕ)) (x : ℕ × ℕ) → length (xs ++ x ∷ []) ≡ suc (length xs)
  length-one-more [] x = refl
  length-one-more (y ∷ xs) x = ap suc (length-one-more xs x)

  -- the goal on top goes on with an answer
  module _ {free : ℕ} {w : Wait} {below : List Wait} {s : State} {p : Plan} {unpaid : Bool} {actions answers weight : ℕ}
      (fit : Fit free w below s p unpaid actions answers weight) where
    abbrev now : Listing R
    now = listing s fit.sound

    told_fit : (t : State) (sound : Sound R t.lines) → gets now ⊑ said t.lines → (n r : ℕ) (q : Plan) → after p ((n, r) ∷ []) ≡ q
        → ValidFor R fit.goal fit.sought q (listing t sound) → (more : ℕ) → l.steps ≤ more + t.steps → (b : Bool) (a e : ℕ) → suc e ≤ answers
        → Shape (byte_at w.goal) b a e q → Fit free (told w n r) below t q b a e (4 * (2 * more + free + credit b) + a)
    told_fit t sound o n r q at v more enough b a e fewer shape =
        record {
          sound = sound;
          goal = fit.goal;
          sought = fit.sought;
          is =
              ap (λ p. after p (w.answers ++ (n, r) ∷ [])) (fit.stays (listing t sound) o) ∙ after_one_more _ w.answers (n, r)
              ∙ ap (λ p. after p ((n, r) ∷ [])) fit.is ∙ at;
          stays = stays_on now (listing t sound) w.goal o fit.stays;
          valid = v;
          spare = more;
          enough = enough;
          weighs = refl;
          shape = shape;
          size = omega (arith, fit.size, fewer, length-one-more w.answers (n, r));
          waits = waits_on now (listing t sound) o fit.goal fit.sought below fit.waits;
        }

    -- so it is what comes of what is left
    told_step : (t : State) (n r : ℕ) (q : Plan) {b : Bool} {a e d : ℕ} → Fit free (told w n r) below t q b a e d → d < weight
        → Step free w below weight (run l (seeks free) q t) (on (record { free = free; top = told w n r; below = below; state = t }))
    told_step t n r q {b} {a} {e} {d} f lt =
        (ap (λ p. back R l free below (placed_at (byte_at w.goal) (run l (seeks free) p t))) (sym f.is), (d, (q, b, a, e, f), lt))

  -- a line is laid

  lay_step : (free : ℕ) (w : Wait) (below : List Wait) (s : State) (u : Statement) (k : ℕ → Plan) (unpaid : Bool) (a e weight : ℕ)
      → Fit free w below s (lay u k) unpaid (suc a) (suc e) weight
      → Step free w below weight (run l (seeks free) (lay u k) s) (acted l free w below s (lay u k))
  lay_step free w below s u k unpaid a e weight fit =
      subst (λ o. Step free w below weight o (acted l free w below s (lay u k))) (sym (laid_then l s u 0 (λ n t. run l (seeks free) (k n) t)))
      (laid_cases l L s.steps u (λ n t. established n 0 t) fit.valid.0.okay P
      (λ n e'. here s fit.sound (λ n s e. e) n e' refl)
      (λ none. here _ (added L u fit.valid.0.okay none).sound (grown_on (added_grown L u fit.valid.0.okay none)) (suc (length s.lines))
      (added_says L u fit.valid.0.okay none) refl)
      (λ why. step_over free w below weight (refused why None s.steps) ended_refused))
    where
      L : Listing R
      L = listing s fit.sound

      P : Outcome → Type 0
      P o =
          Step free w below weight (and_then o (λ n r t. run l (seeks free) (k n) t))
          (or_over (w ∷ below) o (λ n r t. on (record { free = free; top = told w n r; below = below; state = t })))

      here : (t : State) (sound : Sound R t.lines) → said s.lines ⊑ said t.lines → (n : ℕ) → said t.lines n ≡ Some u → t.steps ≡ s.steps
          → P (established n 0 t)
      here t sound o n e' same =
          told_step fit t n 0 (k n)
          (told_fit fit t sound o n 0 (k n) refl (fit.valid.1 (listing t sound) o n e') fit.spare (omega (arith, fit.enough, same)) unpaid a e (omega arith)
          (fit.shape n)) (omega (arith, fit.weighs))

  -- a step

  spare_for : (more steps most : ℕ) → most ≤ more + steps → steps < most → (left : ℕ) × (more ≡ suc left)
  spare_for zero steps most h lt = absurd (let z : ⊥ = omega (arith, h, lt) in z)
  spare_for (suc more) steps most h lt = (more, refl)

  -- a step that is taken, or the limit met, and what goes on with it
  step_paid : (free : ℕ) (w : Wait) (below : List Wait) (s : State) (weight n r : ℕ) (k : ℕ → ℕ → State → Outcome) (f : ℕ → ℕ → State → Turn)
      → (s.steps < l.steps → Step free w below weight (k n r (record { lines = s.lines; steps = suc s.steps })) (f n r (record { lines = s.lines; steps = suc s.steps })))
      → Step free w below weight (paid l s (λ t. k n r t)) (or_over (w ∷ below) (paid l s (λ t. established n r t)) f)
  step_paid free w below s weight n r k f h = go (nat_lt s.steps l.steps) refl
    where
      go : (b : Bool) → nat_lt s.steps l.steps ≡ b
          → Step free w below weight (cond b (k n r (record { lines = s.lines; steps = suc s.steps })) (refused steps_spent None s.steps))
          (or_over (w ∷ below) (cond b (established n r (record { lines = s.lines; steps = suc s.steps })) (refused steps_spent None s.steps)) f)
      go true e = h (ltb-true s.steps l.steps e)
      go false e = step_over free w below weight (refused steps_spent None s.steps) ended_refused

  pay_step : (free : ℕ) (w : Wait) (below : List Wait) (s : State) (p : Plan) (a e weight : ℕ) → Fit free w below s (pay p) true (suc a) (suc e) weight
      → Step free w below weight (run l (seeks free) (pay p) s) (acted l free w below s (pay p))
  pay_step free w below s p a e weight fit =
      step_paid free w below s weight 0 0 (λ n r t. run l (seeks free) p t) (λ n r t. on (record { free = free; top = told w n r; below = below; state = t }))
      (λ lt.
      let t : State = record { lines = s.lines; steps = suc s.steps } in
      let (more, x) = spare_for fit.spare s.steps l.steps fit.enough lt in
      told_step fit t 0 0 p
      (told_fit fit t fit.sound (λ n s e. e) 0 0 p refl fit.valid more (omega (arith, fit.enough, x)) false a e (omega arith) fit.shape.1)
      (omega (arith, fit.weighs, x)))

  -- a goal becomes another

  see_step : (free : ℕ) (w : Wait) (below : List Wait) (s : State) (g : Goal) (n : ℕ) (k : Option Statement → Plan) (unpaid : Bool) (a e weight : ℕ)
      → Fit free w below s (see g n k) unpaid (suc a) e weight → byte_at g ≡ byte_at w.goal → ((o : Option Statement) → Shape (byte_at w.goal) unpaid a 5 (k o))
      → Step free w below weight (run l (seeks free) (see g n k) s) (acted l free w below s (see g n k))
  see_step free w below s g n k unpaid a e weight fit byte shape = (
    ap (λ b. back R l free below (placed_at b (run l (seeks free) (k (said s.lines n)) s))) (sym byte)
        ∙ ap (λ p. back R l free below (placed_at (byte_at g) (run l (seeks free) p s))) (sym here),
    (4 * (2 * fit.spare + free + credit unpaid) + a, (k (said s.lines n), unpaid, a, 5, becomes), omega (arith, fit.weighs)),
  )
    where
      L : Listing R
      L = listing s fit.sound

      here : plan R (gets L) g ≡ k (said s.lines n)
      here = fit.valid.0 L (λ n s e. e)

      becomes : Fit free (fresh g) below s (k (said s.lines n)) unpaid a 5 (4 * (2 * fit.spare + free + credit unpaid) + a)
      becomes =
          record {
            sound = fit.sound;
            goal = fit.goal;
            sought = fit.sought;
            is = here;
            stays = λ M o. fit.valid.0 M o ∙ sym here;
            valid = fit.valid.1;
            spare = fit.spare;
            enough = fit.enough;
            weighs = refl;
            shape = subst (λ b. Shape b unpaid a 5 (k (said s.lines n))) (sym byte) (shape (said s.lines n));
            size = omega arith;
            waits = fit.waits;
          }

  -- the goal on top is established

  placed_established : (byte : Option ℕ) (n r : ℕ) (t : State) → placed_at byte (established n r t) ≡ established n r t
  placed_established None n r t = refl
  placed_established (Some byte) n r t = refl

  -- what a goal below is told is what the one above answers
  knows_same : {m w : Sought} (L : Listing R) (r : ℕ) → m ≡ w → Knows R (gets L) w r → Knows R (gets L) m r
  knows_same L r e x = subst (λ v. Knows R (gets L) v r) (sym e) x

  return_step : (free : ℕ) (w : Wait) (below : List Wait) (weight more a : ℕ) (t : State) (sound : Sound R t.lines) (n r : ℕ) (g : Goal) (m : Sought)
      → Waits (listing t sound) g m below → Answered R g m (listing t sound) n r → l.steps ≤ more + t.steps
      → weight ≡ 4 * (2 * more + free + 2) + a → Step free w below weight (established n r t) (returned free below n r t)
  return_step free w [] weight more a t sound n r g m x y enough h = (placed_established (byte_at w.goal) n r t, tt)
  return_step free w (v ∷ below) weight more a t sound n r g m (c, d, x, z) y enough h = (
    ap (back R l free (v ∷ below)) (placed_established (byte_at w.goal) n r t),
    (4 * (2 * more + suc free + 0) + 3, (x.k n r, true, 3, x.answers, again), omega (arith, h)),
  )
    where
      again : Fit (suc free) (told v n r) below t (x.k n r) true 3 x.answers (4 * (2 * more + suc free + 0) + 3)
      again =
          record {
            sound = sound;
            goal = c;
            sought = d;
            is = after_one_more _ v.answers (n, r) ∙ ap (λ p. after p ((n, r) ∷ [])) x.is;
            stays = x.stays;
            valid = x.valid.3 (listing t sound) (λ n s e. e) n r y.0 (knows_same (listing t sound) r x.same y.1);
            spare = more;
            enough = enough;
            weighs = refl;
            shape = x.shape n r;
            size = omega (arith, x.size, length-one-more v.answers (n, r));
            waits = z;
          }

  close_step : (free : ℕ) (w : Wait) (below : List Wait) (s : State) (u : Statement) (a e weight : ℕ) → Fit free w below s (close u) false a e weight
      → Step free w below weight (run l (seeks free) (close u) s) (acted l free w below s (close u))
  close_step free w below s u a e weight fit =
      laid_cases l L s.steps u (λ n t. established n (result u) t) fit.valid.0 P
      (λ n e'. here s fit.sound (λ n s e. e) n e' refl)
      (λ none. here _ (added L u fit.valid.0 none).sound (grown_on (added_grown L u fit.valid.0 none)) (suc (length s.lines)) (added_says L u fit.valid.0 none) refl)
      (λ why. step_over free w below weight (refused why None s.steps) ended_refused)
    where
      L : Listing R
      L = listing s fit.sound

      P : Outcome → Type 0
      P o = Step free w below weight o (or_over (w ∷ below) o (λ n r t. returned free below n r t))

      here : (t : State) (sound : Sound R t.lines) → said s.lines ⊑ said t.lines → (n : ℕ) → said t.lines n ≡ Some u → t.steps ≡ s.steps
          → P (established n (result u) t)
      here t sound o n e' same =
          return_step free w below weight fit.spare a t sound n (result u) fit.goal fit.sought (waits_on L (listing t sound) o fit.goal fit.sought below fit.waits)
          (fit.valid.1 (listing t sound) o n e') (omega (arith, fit.enough, same)) fit.weighs

  -- a premise is asked

  then_same : (o : Outcome) (k k' : ℕ → ℕ → State → Outcome) (A : ℕ → ℕ → Listing R → Type 0) (N : Type 0) (xs : List Line)
      → PostOf R (λ M n r. A n r M) N xs o → ((n r : ℕ) (t : State) → Sound R t.lines → said xs ⊑ said t.lines → k n r t ≡ k' n r t)
      → and_then o k ≡ and_then o k'
  then_same (established n r t) k k' A N xs x h = h n r t x.0 (grown_on x.1)
  then_same (fails byte steps) k k' A N xs x h = refl
  then_same (refused why byte steps) k k' A N xs x h = refl

  asked_step : (free : ℕ) (w : Wait) (below : List Wait) (s : State) (g : Goal) (k : ℕ → ℕ → Plan) (a e weight : ℕ)
      → Fit (suc free) w below s (ask g k) true (suc a) (suc e) weight → (o : Option (ℕ × ℕ)) → StandingAt g 1 s.lines o
      → Step (suc free) w below weight
      (and_then (placed_at (byte_at g) (use_or_seek R l (seeks free) s g o)) (λ n r t. run l (seeks (suc free)) (k n r) t))
      (used_or_pushed l free w below s g o)
  asked_step free w below s g k a e weight fit (Some found) x =
      subst (λ b. Step (suc free) w below weight
      (and_then (placed_at b (paid l s (λ t. established found.0 found.1 t))) (λ n r t. run l (seeks (suc free)) (k n r) t))
      (used_or_pushed l free w below s g (Some found))) (sym (standing_byte g x.says x.used))
      (subst (λ o. Step (suc free) w below weight o (used_or_pushed l free w below s g (Some found)))
      (paid_then l s found.0 found.1 (λ n r t. run l (seeks (suc free)) (k n r) t))
      (step_paid (suc free) w below s weight found.0 found.1 (λ n r t. run l (seeks (suc free)) (k n r) t)
      (λ n r t. on (record { free = suc free; top = told w n r; below = below; state = t }))
      (λ lt.
      let t : State = record { lines = s.lines; steps = suc s.steps } in
      let (more, y) = spare_for fit.spare s.steps l.steps fit.enough lt in
      let (says, knows) = standing_answers (listing s fit.sound) g fit.valid.0 found fit.valid.1 x in
      told_step fit t found.0 found.1 (k found.0 found.1)
      (told_fit fit t fit.sound (λ n s e. e) found.0 found.1 (k found.0 found.1) refl
      (fit.valid.3 (listing s fit.sound) (λ n s e. e) found.0 found.1 says knows) more (omega (arith, fit.enough, y)) true 3 e (omega arith)
      (fit.shape.1 found.0 found.1)) (omega (arith, fit.weighs, y)))))
  asked_step free w below s g k a e weight fit None x = (
    ap (λ o. back R l (suc free) below (placed_at (byte_at w.goal) o))
        (then_same (placed_at (byte_at g) (run l (seeks free) (plan R (gets L) g) s)) (λ n r t. run l (seeks (suc free)) (k n r) t)
        (λ n r t. run l (seeks (suc free)) (left R l t (told w n r)) t) (λ n r M. Answered R g fit.valid.0 M n r) (Holds R fit.valid.0 → ⊥) s.lines post
        (λ n r t sound o. ap (λ p. run l (seeks (suc free)) p t) (sym (again t sound o n r)))),
    (4 * (2 * fit.spare + free + 0) + 3, (plan R (gets L) g, true, 3, 5, pushed), omega (arith, fit.weighs)),
  )
    where
      L : Listing R
      L = listing s fit.sound

      post : PostOf R (Answered R g fit.valid.0) (Holds R fit.valid.0 → ⊥) s.lines (placed_at (byte_at g) (run l (seeks free) (plan R (gets L) g) s))
      post =
          post_placed R (Answered R g fit.valid.0) (Holds R fit.valid.0 → ⊥) (byte_at g) s.lines _
          (runs R l (seeks free) (seek_sound R l (plans_valid chains admitted) free) (λ L M. gets L ⊑ gets M) (λ L M grows. grows_on grows)
          (Answered R g fit.valid.0) (Holds R fit.valid.0 → ⊥) (plan R (gets L) g) L s.steps (plans_valid chains admitted g fit.valid.0 L fit.valid.1))

      again : (t : State) → Sound R t.lines → said s.lines ⊑ said t.lines → (n r : ℕ) → left R l t (told w n r) ≡ k n r
      again t sound o n r =
          ap (λ p. after p (w.answers ++ (n, r) ∷ [])) (fit.stays (listing t sound) o) ∙ after_one_more _ w.answers (n, r)
          ∙ ap (λ p. after p ((n, r) ∷ [])) fit.is

      pushed : Fit free (fresh g) (w ∷ below) s (plan R (gets L) g) true 3 5 (4 * (2 * fit.spare + free + 0) + 3)
      pushed =
          record {
            sound = fit.sound;
            goal = g;
            sought = fit.valid.0;
            is = refl;
            stays = λ M o. plan_stays R (gets L) (gets M) fit.valid.1 o;
            valid = plans_valid chains admitted g fit.valid.0 L fit.valid.1;
            spare = fit.spare;
            enough = fit.enough;
            weighs = refl;
            shape = plan_shape R (gets L) g;
            size = omega arith;
            waits = (
              fit.goal,
              fit.sought,
              record {
                k = k;
                is = fit.is;
                stays = fit.stays;
                valid = fit.valid;
                same = refl;
                answers = e;
                shape = fit.shape.1;
                size = fit.size;
              },
              fit.waits,
            );
          }

  ask_step : (free : ℕ) (w : Wait) (below : List Wait) (s : State) (g : Goal) (k : ℕ → ℕ → Plan) (a e weight : ℕ)
      → Fit free w below s (ask g k) true (suc a) (suc e) weight
      → Step free w below weight (run l (seeks free) (ask g k) s) (acted l free w below s (ask g k))
  ask_step zero w below s g k a e weight fit = go (fits g)
    where
      go : (b : Bool)
          → Step zero w below weight
          (and_then (cond b (refused goals_full None s.steps) (refused number_passed None s.steps)) (λ n r t. run l (seeks zero) (k n r) t))
          (cond b (over (placed_in (w ∷ below) (refused goals_full None s.steps))) (over (placed_in (w ∷ below) (refused number_passed None s.steps))))
      go true = step_over zero w below weight (refused goals_full None s.steps) ended_refused
      go false = step_over zero w below weight (refused number_passed None s.steps) ended_refused
  ask_step (suc free) w below s g k a e weight fit =
      go (fits g) _ _ (asked_step free w below s g k a e weight fit (standing g 1 s.lines) (standing_found g 1 s.lines))
    where
      go : (b : Bool) (o : Outcome) (x : Turn) → Step (suc free) w below weight (and_then o (λ n r t. run l (seeks (suc free)) (k n r) t)) x
          → Step (suc free) w below weight (and_then (cond b o (refused number_passed None s.steps)) (λ n r t. run l (seeks (suc free)) (k n r) t))
          (cond b x (over (placed_in (w ∷ below) (refused number_passed None s.steps))))
      go true o x y = y
      go false o x y = step_over (suc free) w below weight (refused number_passed None s.steps) ended_refused

  -- every turn

  acts : (free : ℕ) (w : Wait) (below : List Wait) (s : State) (p : Plan) (unpaid : Bool) (a e weight : ℕ) → Fit free w below s p unpaid a e weight
      → Step free w below weight (run l (seeks free) p s) (acted l free w below s p)
  acts free w below s (ask g k) true (suc a) (suc e) weight fit = ask_step free w below s g k a e weight fit
  acts free w below s (ask g k) false (suc a) (suc e) weight fit = absurd fit.shape.0
  acts free w below s (ask g k) unpaid zero e weight fit = absurd fit.shape
  acts free w below s (ask g k) unpaid (suc a) zero weight fit = absurd fit.shape
  acts free w below s (lay u k) unpaid (suc a) (suc e) weight fit = lay_step free w below s u k unpaid a e weight fit
  acts free w below s (lay u k) unpaid zero e weight fit = absurd fit.shape
  acts free w below s (lay u k) unpaid (suc a) zero weight fit = absurd fit.shape
  acts free w below s (pay p) true (suc a) (suc e) weight fit = pay_step free w below s p a e weight fit
  acts free w below s (pay p) false (suc a) (suc e) weight fit = absurd fit.shape.0
  acts free w below s (pay p) unpaid zero e weight fit = absurd fit.shape
  acts free w below s (pay p) unpaid (suc a) zero weight fit = absurd fit.shape
  acts free w below s (see g n k) unpaid (suc a) (suc e) weight fit =
      see_step free w below s g n k unpaid a (suc e) weight fit fit.shape.0 fit.shape.1
  acts free w below s (see g n k) unpaid (suc a) zero weight fit = see_step free w below s g n k unpaid a zero weight fit fit.shape.0 fit.shape.1
  acts free w below s (see g n k) unpaid zero e weight fit = absurd fit.shape
  acts free w below s (close u) false a e weight fit = close_step free w below s u a e weight fit
  acts free w below s (close u) true zero e weight fit = absurd fit.shape
  acts free w below s (close u) true (suc a) zero weight fit = absurd fit.shape
  acts free w below s (close u) true (suc a) (suc e) weight fit = absurd fit.shape
  acts free w below s (give n r) unpaid zero e weight fit = absurd fit.shape
  acts free w below s (give n r) unpaid (suc a) zero weight fit = absurd fit.shape
  acts free w below s (give n r) unpaid (suc a) (suc e) weight fit = absurd fit.shape
  acts free w below s fail unpaid a e weight fit = step_over free w below weight (fails None s.steps) ended_fails

  turns : (c : Search) (weight : ℕ) → Inv c weight → (comes R l c ≡ next (comes R l) (turn R l c)) × Reached weight (turn R l c)
  turns c weight (p, unpaid, a, e, fit) =
      subst (λ q. Step c.free c.top c.below weight (run l (seeks c.free) q c.state) (acted l c.free c.top c.below c.state q)) (sym fit.is)
      (acts c.free c.top c.below c.state p unpaid a e weight fit)

  loops : (count : ℕ) (c : Search) (weight : ℕ) → Inv c weight → weight < count → loop R l count c ≡ comes R l c
  loops zero c weight x lt = absurd (let z : ⊥ = omega (arith, lt) in z)
  loops (suc count) c weight x lt =
      let (same, reached) = turns c weight x in
      go (turn R l c) reached (λ d v y h. loops count d v y h) ∙ sym same
    where
      go : (x : Turn) → Reached weight x → ((d : Search) (v : ℕ) → Inv d v → v < count → loop R l count d ≡ comes R l d)
          → next (λ d. loop R l count d) x ≡ next (comes R l) x
      go (on d) (v, y, less) h = h d v y (omega (arith, less, lt))
      go (over o) y h = refl

  -- A goal that means something on a sound listing: searching for it answers what seeking it answers, if there are turns enough.
  begins : (places : ℕ) (s : State) → Sound R s.lines → (g : Goal) (w : Sought) → Means (said s.lines) g w
      → Fit places (fresh g) [] s (plan R (said s.lines) g) true 3 5 (4 * (2 * l.steps + places + 0) + 3)
  begins places s sound g w m =
      record {
        sound = sound;
        goal = g;
        sought = w;
        is = refl;
        stays = λ M o. plan_stays R (said s.lines) (gets M) m o;
        valid = plans_valid chains admitted g w (listing s sound) m;
        spare = l.steps;
        enough = omega arith;
        weighs = refl;
        shape = plan_shape R (said s.lines) g;
        size = omega arith;
        waits = tt;
      }

  pub search_seeks : (turns places : ℕ) (s : State) → Sound R s.lines → (g : Goal) (w : Sought) → Means (said s.lines) g w
      → 4 * (2 * l.steps + places) + 3 < turns → search R l turns places s g ≡ seek R l places s g
  search_seeks count zero s sound g w m lt = refl
  search_seeks count (suc places) s sound g w m lt =
      ap (λ o. cond (fits g) o (refused number_passed None s.steps)) (go (standing g 1 s.lines) (standing_found g 1 s.lines))
    where
      go : (o : Option (ℕ × ℕ)) → StandingAt g 1 s.lines o
          → search_from R l count places s g o ≡ placed_at (byte_at g) (use_or_seek R l (seeks places) s g o)
      go (Some found) x = ap (λ b. placed_at b (paid l s (λ t. established found.0 found.1 t))) (sym (standing_byte g x.says x.used))
      go None x =
          loops count (record { free = places; top = fresh g; below = []; state = s }) (4 * (2 * l.steps + places + 0) + 3)
          (plan R (said s.lines) g, true, 3, 5, begins places s sound g w m) (omega (arith, lt))
