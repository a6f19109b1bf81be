-- The law over all runs, proved for every rule with its laws.
use Rattle.std.proofs.Common.{◌≡◌, ℕ, List, refl, ap, sym, ◌∙◌, subst, arith}
use Rattle.lines.specs.Answers.{number}
use Rattle.lines.specs.declared.answer.Answer.{Answer}
use Rattle.lines.specs.declared.answer.Answer.TheVariants.{Granted}
use Rattle.lines.specs.declared.line.Line.{Line}
use Rattle.rules.specs.Laws.{Chains, Instances, Bodies, Admitted}
use Rattle.rules.specs.Meaning.{States}
use Rattle.rules.specs.Quantifiers.{Rule}
use Rattle.rules.specs.Statements.{said}
use Rattle.rules.proofs.Means.{states_one}
use Rattle.rules.proofs.Accepted.{accepted_means_derivable, accepted_states}
use Rattle.rules.proofs.Write.{derivable_ends_a_sound_listing}
use Rattle.std.proofs.lemmas.Option.{same_Some}
use Rattle.runs.specs.Calls.{Call, phrase, PhraseCall, Does}
use Rattle.runs.specs.Law.{AcceptedLinesState, AcceptedMeansDerivable, DerivableEndsASoundListing, PhraseLaw, RunLaw, Law}
use Rattle.runs.specs.Runs.{Run}
use Rattle.runs.proofs.Forced.{in_force_once}
use Rattle.runs.proofs.Larger.{same_verdict}
use Rattle.runs.proofs.Once.{once, some_answer, check_answers}
use Rattle.runs.proofs.Phrases.{Grant, has_judged, refused_leaves, granted, failed}
use Rattle.runs.proofs.Runs.{Stands, stands}

lines_state : (R : Rule) → AcceptedLinesState R
lines_state R lines a n l e h i = let (s, f, (J, x, d)) = accepted_states R lines a.1 n l e h i in
    (J, (s, f, x), λ K (t, g, y). states_one (subst (λ u. States (said lines) u K) (same_Some _ _ (sym g ∙ f)) y) x)

means_derivable : (R : Rule) → AcceptedMeansDerivable R
means_derivable R lines a n J (s, e, x) = accepted_means_derivable R lines a.1 n s e J x

ends_a_listing : (R : Rule) → DerivableEndsASoundListing R
ends_a_listing R J d = let (lines, sound, x) = derivable_ends_a_sound_listing R J d in (lines, (refl, sound), x)

module _ {R : Rule} (chains : Chains R) (instances : Instances R) (bodies : Bodies R) (admitted : Admitted R) where
  run_law : (room : ℕ) (calls : List Call) (lines : List Line) → Run R room calls lines → RunLaw R room calls lines
  run_law room calls lines run =
      record {
        the_checker_accepts = (refl, s.sound);
        the_check_answers_the_count = λ answer left x. check_answers R room lines left s.sound answer x;
        definitions = s.definitions;
        are_in_force = s.in_force;
        no_others_are_in_force = λ others x. in_force_once chains admitted x s.in_force;
        definitions_are_those_in_force = s.defined;
        each_phrase_is_answered = λ p. some_answer R room lines s.sound p;
        each_phrase = each;
      }
    where
      s : Stands R calls lines
      s = stands chains instances bodies admitted run

      grant : (p : PhraseCall) (answer : Answer) (steps : ℕ) (left : List Line) → Does R room lines (phrase p answer steps) left → (n : ℕ)
          → answer ≡ Granted n → Grant R lines s.definitions p n left
      grant p answer steps left does n e =
          granted chains instances bodies admitted lines s.sound s.definitions s.defined room p (has_judged does (let x = ap number e in omega (arith, x))) n e

      each : (p : PhraseCall) (answer : Answer) (steps : ℕ) (left : List Line) → Does R room lines (phrase p answer steps) left
          → PhraseLaw R room lines s.definitions p answer steps left
      each p answer steps left does =
          record {
            granted_says_its_judgment = λ n e. (grant p answer steps left does n e).says;
            fails_means_no_derivation = λ byte e.
                failed chains instances bodies admitted lines s.sound s.definitions s.defined room p
                (has_judged does (let x = ap number e in omega (arith, x))) byte e;
            larger_limits_same_verdict = λ h more wider p' larger. same_verdict s.sound (has_judged does h) h more wider p' larger;
            granted_adds_lines_at_the_end = λ n e. let g = grant p answer steps left does n e in (g.lines, g.grows);
            refused_leaves_the_lines_found = λ h. refused_leaves does h;
          }

  -- nothing is asked but the rule's laws
  pub law : Law R
  law = record {
    accepted_lines_state = lines_state R;
    accepted_means_derivable = means_derivable R;
    derivable_ends_a_sound_listing = ends_a_listing R;
    one_answer = once R;
    each_run = run_law;
  }
