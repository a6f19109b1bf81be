-- The search as a loop over waiting goals: what is done in one turn. It never recurs, and it answers what `seek` answers.
use Rattle.std.specs.Prelude.{ℕ, zero, suc, if◌then◌else◌, List, [], ◌∷◌, ◌++◌, Some, None, Option}
use Rattle.rules.specs.Quantifiers.{Rule}
use Rattle.rules.specs.Statements.{Statement, said}
use Rattle.judge.specs.Goals.{Goal, Plan, ask, lay, see, pay, close, give, fail}
use Rattle.judge.specs.Plans.{plan}
use Rattle.judge.specs.Seeking.{Limits, State, goals_full, number_passed, Outcome, established, fails, refused, standing, paid, laid, result, byte_at, placed_at, fits}

-- A goal that is worked on, and what its plan was answered so far: of a premise the line and the result, of a line that was laid its number.
pub record Wait : Type 0 where
  pub goal : Goal
  pub answers : List (ℕ × ℕ)

-- what is left of a plan after these answers
abbrev pub after : Plan → List (ℕ × ℕ) → Plan
after p [] = p
after (ask g k) (a ∷ answers) = after (k a.0 a.1) answers
after (lay u k) (a ∷ answers) = after (k a.0) answers
after (pay p) (a ∷ answers) = after p answers
after (see g n k) (a ∷ answers) = fail
after (close u) (a ∷ answers) = fail
after (give n r) (a ∷ answers) = fail
after fail (a ∷ answers) = fail

abbrev pub told : Wait → (n r : ℕ) → Wait
told w n r = record { goal = w.goal; answers = w.answers ++ (n, r) ∷ [] }

abbrev pub fresh : Goal → Wait
fresh g = record { goal = g; answers = [] }

-- The goal on top is worked on; those below, the nearest first, each wait for the one above. So many places are free.
pub record Search : Type 0 where
  pub free : ℕ
  pub top : Wait
  pub below : List Wait
  pub state : State

pub data Turn : Type 0 where
  on : Search → Turn
  over : Outcome → Turn

-- what ends here is placed by the innermost term that waits
abbrev pub placed_in : List Wait → Outcome → Outcome
placed_in [] o = o
placed_in (w ∷ waits) o = placed_in waits (placed_at (byte_at w.goal) o)

abbrev pub or_over : List Wait → Outcome → (ℕ → ℕ → State → Turn) → Turn
or_over waits (established n r s) k = k n r s
or_over waits (fails byte steps) k = over (placed_in waits (fails byte steps))
or_over waits (refused why byte steps) k = over (placed_in waits (refused why byte steps))

-- the goal on top is established: the one below goes on with it, and the place is free again
abbrev pub returned : (free : ℕ) → List Wait → (n r : ℕ) → State → Turn
returned free [] n r s = over (established n r s)
returned free (w ∷ below) n r s = on (record { free = suc free; top = told w n r; below = below; state = s })

-- a premise: a standing line that serves is used for a step, and else its goal comes on top
abbrev pub used_or_pushed : Limits → (free : ℕ) → Wait → List Wait → State → Goal → Option (ℕ × ℕ) → Turn
used_or_pushed l free w below s g (Some found) =
    or_over (w ∷ below) (paid l s (λ t. established found.0 found.1 t))
    (λ n r t. on (record { free = suc free; top = told w n r; below = below; state = t }))
used_or_pushed l free w below s g None = on (record { free = free; top = fresh g; below = w ∷ below; state = s })

abbrev pub asked : Limits → (free : ℕ) → Wait → List Wait → State → Goal → Turn
asked l zero w below s g = over (placed_in (w ∷ below) (refused goals_full None s.steps))
asked l (suc free) w below s g = used_or_pushed l free w below s g (standing g 1 s.lines)

-- what a plan does first
pub data Action : Type 0 where
  to_ask : Goal → Action
  to_lay : Statement → Action
  to_become : Goal → Action
  to_pay : Action
  to_close : Statement → Action
  to_fail : Action

-- the plan of a goal gives nothing: that ends phrases
abbrev pub action : Plan → Action
action (ask g k) = to_ask g
action (lay u k) = to_lay u
action (see g n k) = to_become g
action (pay p) = to_pay
action (close u) = to_close u
action (give n r) = to_fail
action fail = to_fail

-- an action of the goal on top
abbrev pub act : Limits → (free : ℕ) → Wait → List Wait → State → Action → Turn
act l free w below s (to_ask g) =
    if fits g then asked l free w below s g else over (placed_in (w ∷ below) (refused number_passed None s.steps))
act l free w below s (to_lay u) =
    or_over (w ∷ below) (laid l s u (λ n t. established n 0 t)) (λ n r t. on (record { free = free; top = told w n r; below = below; state = t }))
act l free w below s (to_become g) = on (record { free = free; top = fresh g; below = below; state = s })
act l free w below s to_pay =
    or_over (w ∷ below) (paid l s (λ t. established 0 0 t)) (λ n r t. on (record { free = free; top = told w n r; below = below; state = t }))
act l free w below s (to_close u) =
    or_over (w ∷ below) (laid l s u (λ n t. established n (result u) t)) (λ n r t. returned free below n r t)
act l free w below s to_fail = over (placed_in (w ∷ below) (fails None s.steps))

abbrev pub turn : Rule → Limits → Search → Turn
turn R l c = act l c.free c.top c.below c.state (action (after (plan R (said c.state.lines) c.top.goal) c.top.answers))

abbrev pub next : (Search → Outcome) → Turn → Outcome
next go (on c) = go c
next go (over o) = o

-- so many turns at most
abbrev pub loop : Rule → Limits → (turns : ℕ) → Search → Outcome
loop R l zero c = refused goals_full None c.state.steps
loop R l (suc turns) c = next (λ d. loop R l turns d) (turn R l c)

-- A goal that is sought: a place, a standing line, and else the loop.
abbrev pub search_from : Rule → Limits → (turns free : ℕ) → State → Goal → Option (ℕ × ℕ) → Outcome
search_from R l turns free s g (Some found) = paid l s (λ t. established found.0 found.1 t)
search_from R l turns free s g None = loop R l turns (record { free = free; top = fresh g; below = []; state = s })

abbrev pub search : Rule → Limits → (turns places : ℕ) → State → Goal → Outcome
search R l turns zero s g = if fits g then refused goals_full None s.steps else refused number_passed None s.steps
search R l turns (suc free) s g =
    if fits g then search_from R l turns free s g (standing g 1 s.lines) else refused number_passed None s.steps
