-- A phrase judged with the loop is the phrase judged by the definition.
use Rattle.std.proofs.Common.{◌≡◌, ℕ, suc, ◌+◌, ◌*◌, ◌<◌, Bool, true, false, cond, List, length, None, refl, ap, sym, ◌∙◌}
use Rattle.std.specs.Prelude.{nat_lt}
use Rattle.lines.specs.declared.line.Line.{Line}
use Rattle.rules.specs.Laws.{Chains, Instances, Bodies, Admitted}
use Rattle.rules.specs.Derivations.{Judgment}
use Rattle.rules.specs.Quantifiers.{Rule}
use Rattle.rules.specs.Syntax.{Env}
use Rattle.rules.proofs.Writing.{Listing, gets}
use Rattle.judge.specs.Goals.{Goal, Plan, ask, lay, see, pay, close, give, fail}
use Rattle.judge.specs.Judgments.{JudgmentOf, SessionEnv, WellNamed, Underivable, Grants}
use Rattle.judge.specs.Loop.{search}
use Rattle.judge.specs.Phrases.{Phrase, phrase_plan, judged}
use Rattle.judge.specs.Seeking.{Limits, State, Outcome, established, fails, refused, steps_spent, and_then, run, seek}
use Rattle.judge.proofs.Judged.{seeks_soundly}
use Rattle.judge.proofs.Looping.{search_seeks}
use Rattle.judge.proofs.Phrases.{phrase_plan_good}
use Rattle.judge.proofs.Sessions.{Later, later}
use Rattle.judge.proofs.Sought.{Sought, Means, Holds}
use Rattle.judge.proofs.Turns.{laid_then}
use Rattle.judge.proofs.Valid.{Valid_on, PostOf, Answered, Sound_seeking, Grown, Grows, grows_same, grown_kept, state_of, answer_defines_nothing, laid_cases, added, added_says, added_grows}

then_same : {R : Rule} (P : Listing R → ℕ → ℕ → Type 0) (N : Type 0) (xs : List Line) (o : Outcome) (k k' : ℕ → ℕ → State → Outcome) → PostOf R P N xs o
    → ((M : Listing R) (n r steps : ℕ) → Grown xs M.lines n → P M n r → k n r (state_of M steps) ≡ k' n r (state_of M steps))
    → and_then o k ≡ and_then o k'
then_same P N xs (established n r s) k k' (sound, g, p) h = h (record { lines = s.lines; sound = sound }) n r s.steps g p
then_same P N xs (fails byte steps) k k' x h = refl
then_same P N xs (refused why byte steps) k k' x h = refl

-- two ways to seek that answer alike what means something on a sound listing
module _ (R : Rule) (l : Limits) (seeks seeks' : State → Goal → Outcome) (sound : Sound_seeking R seeks)
    (alike : (g : Goal) (w : Sought) (L : Listing R) (steps : ℕ) → Means (gets L) g w → seeks' (state_of L steps) g ≡ seeks (state_of L steps) g)
    (On : Listing R → Listing R → Type 0) (on : (L M : Listing R) → Grows L.lines M.lines → On L M) (Q : Listing R → ℕ → ℕ → Type 0) (N : Type 0) where
  runs_alike : (p : Plan) (L : Listing R) (steps : ℕ) → Valid_on R On Q N p L → run l seeks' p (state_of L steps) ≡ run l seeks p (state_of L steps)
  runs_alike (ask g k) L steps (w, m, never, next) =
      ap (λ o. and_then o (λ n r t. run l seeks' (k n r) t)) (alike g w L steps m)
      ∙ then_same (Answered R g w) (Holds R w → ⊥) L.lines (seeks (state_of L steps) g) (λ n r t. run l seeks' (k n r) t) (λ n r t. run l seeks (k n r) t)
      (sound g w L steps m) (λ M n r more h x.
      runs_alike (k n r) M more (next M (on L M (grown_kept h (answer_defines_nothing (gets M) g n r x.0))) n r x.0 x.1))
  runs_alike (lay u k) L steps (may, next) =
      laid_then l (state_of L steps) u 0 (λ n t. run l seeks' (k n) t)
      ∙ laid_cases l L steps u (λ n t. established n 0 t) may.okay
      (λ o. and_then o (λ n r t. run l seeks' (k n) t) ≡ and_then o (λ n r t. run l seeks (k n) t))
      (λ n e. runs_alike (k n) L steps (next L (on L L (grows_same L.lines)) n e))
      (λ none.
      let M = added L u may.okay none in
      let n = suc (length L.lines) in
      runs_alike (k n) M steps (next M (on L M (added_grows L u may.okay none may.nothing)) n (added_says L u may.okay none)))
      (λ why. refl)
      ∙ sym (laid_then l (state_of L steps) u 0 (λ n t. run l seeks (k n) t))
  runs_alike (see g n k) L steps v = runs_alike (k (gets L n)) L steps v.1
  runs_alike (pay p) L steps v = go (nat_lt steps l.steps) (runs_alike p L (suc steps) v)
    where
      go : (b : Bool) → run l seeks' p (state_of L (suc steps)) ≡ run l seeks p (state_of L (suc steps))
          → cond b (run l seeks' p (state_of L (suc steps))) (refused steps_spent None steps)
          ≡ cond b (run l seeks p (state_of L (suc steps))) (refused steps_spent None steps)
      go true e = e
      go false e = refl
  runs_alike (close u) L steps v = refl
  runs_alike (give n r) L steps v = refl
  runs_alike fail L steps v = refl

-- with turns enough
pub judged_by_search : {R : Rule} → Chains R → Instances R → Bodies R → Admitted R → (L : Listing R) (Γ : Env) → SessionEnv (gets L) Γ
    → (phrase : Phrase) (J : Judgment) → JudgmentOf (gets L) Γ phrase J → WellNamed phrase → (l : Limits) (turns places : ℕ)
    → 4 * (2 * l.steps + places) + 3 < turns
    → run l (λ s g. search R l turns places s g) (phrase_plan L.lines phrase) (state_of L 0) ≡ judged R l places L.lines phrase
judged_by_search {R} chains instances bodies admitted L Γ env phrase J j named l turns places lt =
    runs_alike R l (λ s g. seek R l places s g) (λ s g. search R l turns places s g) (seeks_soundly chains admitted l places)
    (λ g w M steps m. search_seeks chains admitted l turns places (state_of M steps) M.sound g w m lt) (λ L M. Later L M) later
    (λ M n r. Grants R (gets L) Γ phrase (gets M) n) (Underivable R (gets L) Γ phrase) (phrase_plan L.lines phrase) L 0
    (phrase_plan_good chains instances bodies admitted L Γ env phrase J j named)
