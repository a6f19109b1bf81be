-- Calls and answers leave one list of definitions in force.
use Rattle.std.proofs.Common.{◌≡◌, ℕ, List, [], ◌∷◌, ◌++◌, map, Ok, Result, refl, ap, sym, ◌∙◌, subst}
use Rattle.grammar.proofs.Laws.{one_phrase}
use Rattle.lexer.specs.Items.{items}
use Rattle.lines.specs.declared.answer.Answer.{Answer}
use Rattle.lines.specs.declared.answer.Answer.TheVariants.{Granted}
use Rattle.rules.specs.Laws.{Chains, Admitted}
use Rattle.rules.specs.Quantifiers.{Rule}
use Rattle.rules.specs.Syntax.{Ty, Env}
use Rattle.runs.specs.Calls.{Call, phrase, check, trial, keep, withdraw, PhraseCall}
use Rattle.runs.specs.Definitions.{Definition, term_definition, named, session_env}
use Rattle.runs.specs.Judgments.{term_of, IsPhrase}
use Rattle.runs.specs.Runs.{Adds, PhraseDefines, WithdrawDrops, Redefines, InForce, nothing_defined, after_call}
use Rattle.runs.proofs.Antisymmetric.{least_once}
use Rattle.scope.specs.Scope.{scope}
use Rattle.scope.specs.Scoped as scoped
use Rattle.scope.specs.Scoped.{ScopedPhrase}

-- a source is one phrase
phrase_is_one : (source : List ℕ) (ds : List Definition) (q r : ScopedPhrase Ty) → IsPhrase source ds q → IsPhrase source ds r → q ≡ r
phrase_is_one source ds q r (p, a, e) (p', a', e') =
    let same : p ≡ p' = one_phrase (items source) p p' a a' in
    let both : Ok q ≡ scope (map named ds) p' = sym e ∙ ap (scope (map named ds)) same in
    ok_same both e'
  where
    ok_same : {o : Result (ScopedPhrase Ty) ℕ} → Ok q ≡ o → o ≡ Ok r → q ≡ r
    ok_same e f = let g = e ∙ f in cc

module _ {R : Rule} (chains : Chains R) (admitted : Admitted R) where
  adds_once : (Γ : Env) (n : ℕ) (q : ScopedPhrase Ty) (ds es : List Definition) → Adds R Γ n q ds → Adds R Γ n q es → ds ≡ es
  adds_once Γ n (scoped.let_type w B A) ds es x y = x ∙ sym y
  adds_once Γ n (scoped.let_type_unbounded w A) ds es x y = x ∙ sym y
  adds_once Γ n (scoped.let_term w A b) ds es x y = x ∙ sym y
  adds_once Γ n (scoped.let_term_untyped w b) ds es (A, x, e) (B, y, f) =
      e ∙ ap (λ C. term_definition n w C (term_of b) ∷ []) (least_once chains admitted x y) ∙ sym f
  adds_once Γ n other ds es x y = x ∙ sym y

  phrase_defines_once : (ds : List Definition) (p : PhraseCall) (answer : Answer) (new more : List Definition) → PhraseDefines R ds p answer new
      → PhraseDefines R ds p answer more → new ≡ more
  phrase_defines_once ds p (Granted n) new more (q, xs, i, a, e) (r, ys, j, b, f) =
      let same = phrase_is_one p.source ds q r i j in
      let added = adds_once (session_env ds) n r xs ys (subst (λ k. Adds R (session_env ds) n k xs) same a) b in
      e ∙ ap (λ zs. ds ++ zs) added ∙ sym f
  phrase_defines_once ds p other new more x y = x ∙ sym y

  drops_once : (ds : List Definition) (mark : ℕ) (answer : Answer) (new more : List Definition) → WithdrawDrops ds mark answer new
      → WithdrawDrops ds mark answer more → new ≡ more
  drops_once ds mark (Granted n) new more x y = x ∙ sym y
  drops_once ds mark other new more x y = x ∙ sym y

  redefines_once : (ds : List Definition) (call : Call) (new more : List Definition) → Redefines R ds call new → Redefines R ds call more → new ≡ more
  redefines_once ds (phrase p answer steps) new more x y = phrase_defines_once ds p answer new more x y
  redefines_once ds (check answer) new more x y = x ∙ sym y
  redefines_once ds (trial mark) new more x y = x ∙ sym y
  redefines_once ds (keep mark answer) new more x y = x ∙ sym y
  redefines_once ds (withdraw mark answer) new more x y = drops_once ds mark answer new more x y

  pub in_force_once : {calls : List Call} {ds es : List Definition} → InForce R calls ds → InForce R calls es → ds ≡ es
  in_force_once nothing_defined nothing_defined = refl
  in_force_once (after_call {call = call} {ds = ds} {new = new} f x) (after_call {ds = es} {new = more} g y) =
      let same = in_force_once f g in redefines_once es call new more (subst (λ zs. Redefines R zs call new) same x) y
