-- From the tests to the definition: a line that passes them is without fault, and one that fails is at fault for that cause.
use Rattle.std.proofs.Common.{◌≡◌, ℕ, suc, ◌+◌, List, take, Some, None, sym, ap, ◌∙◌, subst, add-one}
use Rattle.checker.proofs.Columns.{known_yes, known_no, zero_past_yes, zero_past_no}
use Rattle.checker.proofs.Following.{follows_yes, follows_no}
use Rattle.checker.proofs.References.{named_yes, named_no}
use Rattle.checker.proofs.SeenLines.{numbered_from_Contains, Contains-numbered}
use Rattle.checker.proofs.Sessions.{Tracked, tracked_next}
use Rattle.checker.proofs.Sounds.{fine_from, at_column, at_reference, at_repeated, at_unfounded, sound_next}
use Rattle.checker.specs.Checked.{Tested}
use Rattle.checker.specs.Decide.{latest_after, env_after}
use Rattle.lines.specs.Stores.{numbered}
use Rattle.lines.specs.declared.answer.Cause.{Cause}
use Rattle.lines.specs.declared.answer.Cause.TheVariants.{Code, Column, Reference, Repeated, Unfounded}
use Rattle.lines.specs.declared.line.Line.{Line}
use Rattle.rules.specs.Faults.{AtFault, Fine, Sound, FirstFault}
use Rattle.rules.specs.Quantifiers.{Rule}
use Rattle.rules.specs.Statements.{said}
use Rattle.std.specs.List.{Contains}

module _ (R : Rule) (before : List Line) (d E : ℕ) (l : Line) (tracked : Tracked (said before) d E) where
  new : ¬ (Contains before l) → (n : ℕ) → numbered before n ≡ Some l → ⊥
  new h n e = h (Contains-numbered before l n e)

  pub passes : Tested R before d E l None → Fine R before l
  passes t =
      let k = known_yes R l t.0 in let s = k.0 in let e = k.1 in
      fine_from R before l s e k.2 (zero_past_yes l s e t.1) (named_yes before l s e t.2) (new t.3) (follows_yes before d E l s tracked e t.4)

  pub fails : (c : Cause) → Tested R before d E l (Some c) → AtFault R before l c
  fails Code t = known_no R before l t
  fails Column t = let k = known_yes R l t.0 in let s = k.0 in let e = k.1 in at_column R before l s e k.2 (zero_past_no l s e t.1)
  fails Reference t =
      let k = known_yes R l t.0 in let s = k.0 in let e = k.1 in
      at_reference R before l s e k.2 (zero_past_yes l s e t.1) (named_no before l s e t.2)
  fails Repeated t =
      let k = known_yes R l t.0 in let s = k.0 in let e = k.1 in
      at_repeated R before l s e k.2 (zero_past_yes l s e t.1) (named_yes before l s e t.2) (λ none. let n = numbered_from_Contains before l t.3 in none n.0 n.1)
  fails Unfounded t =
      let k = known_yes R l t.0 in let s = k.0 in let e = k.1 in
      at_unfounded R before l s e k.2 (zero_past_yes l s e t.1) (named_yes before l s e t.2) (new t.3) (follows_no before d E l s tracked e t.4)

-- line n + 1, as the loop has it
module _ (R : Rule) (lines : List Line) (n d E : ℕ) (l : Line) (here : numbered lines (suc n) ≡ Some l) (sound : Sound R (take n lines))
    (tracked : Tracked (said (take n lines)) d E) where
  pub first_fault : (c : Cause) → Tested R (take n lines) d E l (Some c) → FirstFault R lines (n + 1) c
  first_fault c t = (n, l, add-one n, ap (numbered lines) (add-one n) ∙ here, sound, fails R (take n lines) d E l tracked c t)

  module _ (t : Tested R (take n lines) d E l None) where
    pub still_sound : Sound R (take (n + 1) lines)
    still_sound = subst (λ k. Sound R (take k lines)) (sym (add-one n)) (sound_next R lines n l here sound (passes R (take n lines) d E l tracked t))

    pub still_tracked : (d' E' : ℕ) → d' ≡ latest_after d (n + 1) l → E' ≡ env_after E (n + 1) l → Tracked (said (take (n + 1) lines)) d' E'
    still_tracked d' E' e f =
        subst (λ x. Tracked (said (take (n + 1) lines)) x E') (sym e)
        (subst (λ x. Tracked (said (take (n + 1) lines)) (latest_after d (n + 1) l) x) (sym f)
        (subst (λ k. Tracked (said (take k lines)) (latest_after d k l) (env_after E k l)) (sym (add-one n))
        (tracked_next R lines n d E l here sound (passes R (take n lines) d E l tracked t) tracked)))
