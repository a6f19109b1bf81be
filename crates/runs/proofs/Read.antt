-- A phrase that is read after the definitions of a sound listing is the phrase that its source is after the definitions in force.
use Rattle.std.proofs.Common.{◌≡◌, ℕ, List, map, Ok, Err, Result, refl, ap, sym, ◌∙◌, subst}
use Rattle.judge.specs.Judgments.{JudgmentOf, SessionEnv, WellNamed}
use Rattle.lexer.specs.Items.{items}
use Rattle.lines.specs.declared.line.Line.{Line}
use Rattle.reader.specs.Reads.{ReadAs}
use Rattle.rules.specs.Derivations.{Judgment, has}
use Rattle.rules.specs.Faults.{Sound}
use Rattle.rules.specs.Quantifiers.{Rule}
use Rattle.rules.specs.Statements.{said}
use Rattle.rules.specs.Syntax as rules
use Rattle.rules.specs.Syntax.{Ty, Env}
use Rattle.runs.specs.Definitions.{Definition, named, session_env, DefinitionsOf}
use Rattle.runs.specs.Judgments.{term_of, Asks, IsPhrase}
use Rattle.runs.specs.Trees.{phrase_judged}
use Rattle.runs.proofs.Named.{given_definitions}
use Rattle.runs.proofs.Spelling.{NameSpelled, source_good, written_spelled}
use Rattle.runs.proofs.Definitions.{definitions_some}
use Rattle.runs.proofs.Session.{session_is}
use Rattle.runs.proofs.Trees.{Known, line, type, asked_of_lines}
use Rattle.scope.proofs.Laws.{natural, among_those}
use Rattle.scope.specs.Definitions.{definitions, lets}
use Rattle.scope.specs.Mapped.{map_phrase}
use Rattle.scope.specs.Scope.{InScope, one, both, three, scope, scope_in, scope_type, scope_term, scope_env, behind, of_definitions}
use Rattle.scope.specs.Scoped as scoped
use Rattle.scope.specs.Scoped.{ScopedPhrase}
use Rattle.scope.specs.Within.{PhraseWithin}
use Rattle.syntax.specs.Named as syntax
use Rattle.syntax.specs.Named.{NamedPhrase}

-- what comes of parts that are all there

abbrev IsOk : {A : Type 0} → Result A ℕ → Type 0
IsOk (Ok x) = Unit {0}
IsOk (Err byte) = ⊥

is_ok : {A : Type 0} {r : Result A ℕ} {x : A} → r ≡ Ok x → IsOk r
is_ok e = subst IsOk (sym e) tt

ok_same : {A : Type 0} {r : Result A ℕ} {x y : A} → r ≡ Ok x → r ≡ Ok y → x ≡ y
ok_same e f = cc

one_ok : {A B : Type 0} (P : B → Type 0) (f : A → B) (a : Result A ℕ) {y : B} → ((x : A) → P (f x)) → one f a ≡ Ok y → P y
one_ok P f (Ok x) h e = subst P (ok_same refl e) (h x)
one_ok P f (Err byte) h e = absurd (is_ok e)

both_ok : {A B C : Type 0} (P : C → Type 0) (f : A → B → C) (a : Result A ℕ) (b : Result B ℕ) {z : C} → ((x : A) (y : B) → P (f x y)) → both f a b ≡ Ok z → P z
both_ok P f (Ok x) (Ok y) h e = subst P (ok_same refl e) (h x y)
both_ok P f (Ok x) (Err byte) h e = absurd (is_ok e)
both_ok P f (Err byte) b h e = absurd (is_ok e)

three_ok : {A B C D : Type 0} (P : D → Type 0) (f : A → B → C → D) (a : Result A ℕ) (b : Result B ℕ) (c : Result C ℕ) {w : D}
    → ((x : A) (y : B) (z : C) → P (f x y z)) → three f a b c ≡ Ok w → P w
three_ok P f (Ok x) (Ok y) (Ok z) h e = subst P (ok_same refl e) (h x y z)
three_ok P f (Ok x) (Ok y) (Err byte) h e = absurd (is_ok e)
three_ok P f (Ok x) (Err byte) c h e = absurd (is_ok e)
three_ok P f (Err byte) b c h e = absurd (is_ok e)

-- looking names up keeps the name that is defined
module _ {X : Type 0} (f : X → ℕ) where
  abbrev Named : ScopedPhrase X → Type 0
  Named q = WellNamed (phrase_judged (map_phrase f q))

  name_kept : (s : InScope X) (p : NamedPhrase) (q : ScopedPhrase X) → scope_in s p ≡ Ok q → NameSpelled p → Named q
  name_kept s (syntax.let_type w B A) q e h = both_ok Named (scoped.let_type w) (scope_type s B) (scope_type s A) (λ x y. h) e
  name_kept s (syntax.let_type_unbounded w A) q e h = one_ok Named (scoped.let_type_unbounded w) (scope_type s A) (λ x. h) e
  name_kept s (syntax.let_term w A b) q e h = both_ok Named (scoped.let_term w) (scope_type s A) (scope_term s b) (λ x y. h) e
  name_kept s (syntax.let_term_untyped w b) q e h = one_ok Named (scoped.let_term_untyped w) (scope_term s b) (λ x. h) e
  name_kept s (syntax.of_type A) q e h = one_ok Named scoped.of_type (scope_type s A) (λ x. tt) e
  name_kept s (syntax.of_term a) q e h = one_ok Named scoped.of_term (scope_term s a) (λ x. tt) e
  name_kept s (syntax.judge_env E) q e h = one_ok Named scoped.judge_env (scope_env s E) (λ x. tt) e
  name_kept s (syntax.judge_type E A) q e h = both_ok Named scoped.judge_type (scope_env s E) (scope_type (behind s E) A) (λ x y. tt) e
  name_kept s (syntax.judge_subtype E A B) q e h =
      three_ok Named scoped.judge_subtype (scope_env s E) (scope_type (behind s E) A) (scope_type (behind s E) B) (λ x y z. tt) e
  name_kept s (syntax.judge_term E a A) q e h =
      three_ok Named scoped.judge_term (scope_env s E) (scope_term (behind s E) a) (scope_type (behind s E) A) (λ x y z. tt) e

  -- where the names stand for more than is kept
  map_ok : (r : Result (ScopedPhrase X) ℕ) (q : ScopedPhrase ℕ) → one (map_phrase f) r ≡ Ok q → (p : ScopedPhrase X) × (r ≡ Ok p) × (map_phrase f p ≡ q)
  map_ok (Ok p) q e = (p, refl, ok_same refl e)
  map_ok (Err byte) q e = absurd (is_ok e)

-- the phrase q, which was read, with the types of its lines
pub record Understood (lines : List Line) (ds : List Definition) (source : List ℕ) (q : ScopedPhrase ℕ) : Type 0 where
  pub known : ScopedPhrase (Known (said lines))
  pub of_lines : map_phrase (line (said lines)) known ≡ q
  pub variables : ℕ
  pub within : PhraseWithin 0 variables known
  pub is_phrase : IsPhrase source ds (map_phrase (type (said lines)) known)
  pub named : WellNamed (phrase_judged (map_phrase (line (said lines)) known))

pub understood : (lines : List Line) (ds : List Definition) → DefinitionsOf lines ds → (source : List ℕ) (n : ℕ) (q : ScopedPhrase ℕ)
    → ReadAs n (items source) (definitions lines) (Ok q) → Understood lines ds source q
understood lines ds x source n q (p, a, e) =
    let (ks, f, g) = given_definitions lines ds x in
    let l = line (said lines) in
    let t = type (said lines) in
    let by_lines : one (map_phrase l) (scope ks p) ≡ Ok q = sym (natural l ks p) ∙ ap (λ es. scope es p) f ∙ e in
    let (k, h, i) = map_ok l (scope ks p) q by_lines in
    let by_types : scope (map named ds) p ≡ Ok (map_phrase t k) = ap (λ es. scope es p) (sym g) ∙ natural t ks p ∙ ap (one (map_phrase t)) h in
    record {
      known = k;
      of_lines = i;
      variables = lets ks;
      within = among_those (Known (said lines)) ks p k h;
      is_phrase = (p, a.0, by_types);
      named = name_kept l (of_definitions ks) p k h (written_spelled a.0 (source_good source));
    }

-- a phrase asks something
pub asks_some : (Γ : Env) (q : ScopedPhrase Ty) → (J : Judgment) × Asks Γ q J
asks_some Γ (scoped.let_type w B A) = (_, refl)
asks_some Γ (scoped.let_type_unbounded w A) = (_, refl)
asks_some Γ (scoped.let_term w A b) = (_, refl)
asks_some Γ (scoped.let_term_untyped w b) = (has Γ (term_of b) rules.top, (rules.top, refl))
asks_some Γ (scoped.of_type A) = (_, refl)
asks_some Γ (scoped.of_term a) = (has Γ (term_of a) rules.top, (rules.top, refl))
asks_some Γ (scoped.judge_env E) = (_, refl)
asks_some Γ (scoped.judge_type E A) = (_, refl)
asks_some Γ (scoped.judge_subtype E A B) = (_, refl)
asks_some Γ (scoped.judge_term E a A) = (_, refl)

-- So what the judge is given after any sound listing is well formed: the phrase has a judgment in the session environment, and its name is spelled.
pub record WellFormed (lines : List Line) (q : ScopedPhrase ℕ) : Type 0 where
  pub env : Env
  pub is_session : SessionEnv (said lines) env
  pub judgment : Judgment
  pub is_judgment : JudgmentOf (said lines) env (phrase_judged q) judgment
  pub named : WellNamed (phrase_judged q)

pub well_formed : (R : Rule) (lines : List Line) → Sound R lines → (source : List ℕ) (n : ℕ) (q : ScopedPhrase ℕ)
    → ReadAs n (items source) (definitions lines) (Ok q) → WellFormed lines q
well_formed R lines sound source n q r =
    let (ds, x) = definitions_some R lines sound in
    let u = understood lines ds x source n q r in
    let Γ = session_env ds in
    let (J, a) = asks_some Γ (map_phrase (type (said lines)) u.known) in
    record {
      env = Γ;
      is_session = session_is R lines sound ds x;
      judgment = J;
      is_judgment = subst (λ k. JudgmentOf (said lines) Γ (phrase_judged k) J) u.of_lines (asked_of_lines (said lines) Γ u.known u.variables u.within J a);
      named = subst (λ k. WellNamed (phrase_judged k)) u.of_lines u.named;
    }
