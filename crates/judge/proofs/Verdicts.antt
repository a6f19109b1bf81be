-- The verdicts on phrases, one theorem each, over any sound listing, limits and places.
use Rattle.std.proofs.Common.{◌≡◌, ℕ, ◌⊎◌, ◌↔◌, ◌++◌, List, Option, subst, inl, inr, ⊎_elim}
use Rattle.lines.specs.declared.line.Line.{Line}
use Rattle.rules.specs.Derivations.{Judgment}
use Rattle.rules.specs.Faults.{Sound}
use Rattle.rules.specs.Follows.{Defines}
use Rattle.rules.specs.Laws.{Chains, Instances, Bodies, Admitted}
use Rattle.rules.specs.Quantifiers.{Rule}
use Rattle.rules.specs.Statements.{said}
use Rattle.rules.specs.Syntax.{Env}
use Rattle.rules.proofs.Whole.{defines_on}
use Rattle.judge.specs.Judgments.{JudgmentOf, SessionEnv, WellNamed, Underivable, Grants, env_after}
use Rattle.judge.specs.Phrases.{Phrase, judged}
use Rattle.judge.specs.Seeking.{Limits, State, Outcome, established, fails}
use Rattle.judge.proofs.Definitions.{session_after}
use Rattle.judge.proofs.Phrases.{judged_post}
use Rattle.judge.proofs.Valid.{PostOf, grown_on}

module _ {R : Rule} (chains : Chains R) (instances : Instances R) (bodies : Bodies R) (admitted : Admitted R) (lines : List Line) (sound : Sound R lines)
    (Γ : Env) (env : SessionEnv (said lines) Γ) (phrase : Phrase) (J : Judgment) (j : JudgmentOf (said lines) Γ phrase J) (named : WellNamed phrase)
    (l : Limits) (places : ℕ) where
  abbrev Post : Outcome → Type 0
  Post = PostOf R (λ M n r. Grants R (said lines) Γ phrase (said M.lines) n) (Underivable R (said lines) Γ phrase) lines

  post : Post (judged R l places lines phrase)
  post = judged_post chains instances bodies admitted (record { lines = lines; sound = sound }) Γ env phrase J j named l places

  -- granted: the listing is sound and grew at its end, and the line answered grants the phrase
  pub granted_says_its_judgment : (n result : ℕ) (s : State) → judged R l places lines phrase ≡ established n result s
      → Sound R s.lines × ((more : List Line) × (s.lines ≡ lines ++ more)) × Grants R (said lines) Γ phrase (said s.lines) n
  granted_says_its_judgment n result s e = let (sound, g, x) = subst Post e post in (sound, (g.more, g.whole), x)

  -- the definitions are those that were there, and of a Let or let the line answered, which was none
  pub granted_defines : (n result : ℕ) (s : State) → judged R l places lines phrase ≡ established n result s → (d E : ℕ)
      → Defines (said s.lines) d E ↔ (Defines (said lines) d E ⊎ ((d ≡ n) × Defines (said s.lines) d E))
  granted_defines n result s e d E =
      let (sound, g, x) = subst Post e post in
      (λ y. ⊎_elim inl (λ last. inr (last, y)) (g.kept_or_last d E y), λ y. ⊎_elim (λ old. defines_on (grown_on g) old) (λ new. new.1) y)

  -- and there is a session environment again: the same, or with a let's name
  pub granted_session : (n result : ℕ) (s : State) → judged R l places lines phrase ≡ established n result s
      → (K : Judgment) × JudgmentOf (said lines) Γ phrase K × SessionEnv (said s.lines) (env_after Γ phrase K)
  granted_session n result s e =
      let (sound, g, (K, k, x, new, low)) = subst Post e post in
      (K, k, session_after lines s.lines n g phrase env x new)

  -- failing: nothing that the phrase asks can be derived
  pub fails_means_no_derivation : (byte : Option ℕ) (steps : ℕ) → judged R l places lines phrase ≡ fails byte steps
      → Underivable R (said lines) Γ phrase
  fails_means_no_derivation byte steps e = subst Post e post
