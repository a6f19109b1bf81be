-- The session environment of a sound listing is the one that its definitions give, reckoned in their order.
use Rattle.std.proofs.Common.{◌≡◌, ℕ, zero, suc, ◌<◌, ◌≤◌, List, [], ◌∷◌, ◌++◌, length, take, Some, refl, ap, sym, ◌∙◌, subst, ⊎_elim, arith}
use Rattle.std.specs.List.{fold, slice_get}
use Rattle.lines.specs.declared.answer.Cause.TheVariants.{Unfounded}
use Rattle.lines.specs.declared.line.Line.{Line}
use Rattle.judge.specs.Judgments as judge
use Rattle.judge.specs.Judgments.{SessionEnv}
use Rattle.judge.proofs.Definitions.{numbered_length, session_kept}
use Rattle.judge.proofs.Valid.{starts_on, defined_or_last}
use Rattle.judge.proofs.Sessions.{defines_one}
use Rattle.rules.specs.Faults.{Fine, Sound}
use Rattle.rules.specs.Follows.{Defines, type_defined, term_defined, Session, Follows}
use Rattle.rules.specs.Follows as follows
use Rattle.rules.specs.Meaning.{EnvAt, of_empty, of_with_term}
use Rattle.rules.specs.Quantifiers.{Rule}
use Rattle.rules.specs.Statements.{Statement, env_line, with_term', let_type, let_term, statement, Get, said}
use Rattle.rules.specs.Syntax.{Env, empty}
use Rattle.rules.proofs.Grow.{said_added, said_last}
use Rattle.rules.proofs.Means.{env_on}
use Rattle.rules.proofs.Whole.{defines_on, said_line}
use Rattle.runs.specs.Definitions.{Definition, line_of, env_after, session_env, Says, says_type, says_term, DefinedBy, no_line, defines_nothing, defines, DefinitionsOf}
use Rattle.runs.proofs.Definitions.{says_first}
use Rattle.std.proofs.lemmas.Bool.{cases_order}
use Rattle.std.proofs.lemmas.Option.{none-some, same_Some}
use Rattle.std.proofs.Math.Seq.{take-append_seam}

append_nil : (xs : List Line) → xs ++ [] ≡ xs
append_nil [] = refl
append_nil (x ∷ xs) = ap (λ ys. x ∷ ys) (append_nil xs)

append_one : (xs : List Line) (l : Line) (ys : List Line) → xs ++ l ∷ ys ≡ (xs ++ l ∷ []) ++ ys
append_one [] l ys = refl
append_one (x ∷ xs) l ys = ap (λ zs. x ∷ zs) (append_one xs l ys)

length_one : (xs : List Line) (l : Line) → length (xs ++ l ∷ []) ≡ suc (length xs)
length_one [] l = refl
length_one (x ∷ xs) l = ap suc (length_one xs l)

get_seam : (xs : List Line) (l : Line) (ys : List Line) → slice_get (xs ++ l ∷ ys) (length xs) ≡ Some l
get_seam [] l ys = refl
get_seam (x ∷ xs) l ys = get_seam xs l ys

pub defined_within : (xs : List Line) (m F : ℕ) → Defines (said xs) m F → m ≤ length xs
defined_within xs m F (type_defined e) = let (l, f, k) = said_line xs m _ e in numbered_length xs m l f
defined_within xs m F (term_defined e) = let (l, f, k) = said_line xs m _ e in numbered_length xs m l f

-- the session of lines is that of environments
session_at : {G : Get} {d E : ℕ} {Γ : Env} → Session G d E → SessionEnv G Γ → EnvAt G E Γ
session_at (follows.nothing_defined h e) (judge.nothing_defined k) = EnvAt.env_at e of_empty
session_at (follows.nothing_defined h e) (judge.latest_defined x k y) = absurd (h _ _ x)
session_at (follows.latest_defined x h) (judge.nothing_defined k) = absurd (k _ _ x)
session_at {G} {E = e} {Γ = Γ} (follows.latest_defined {d = d} x h) (judge.latest_defined {d = c} {E = F} y k z) =
    ⊎_elim (λ same. subst (λ n. EnvAt G n Γ) (defines_one y (subst (λ n. Defines G n e) same x)) z)
    (λ apart. absurd (⊎_elim (λ lt. h _ _ lt y) (λ lt. k _ _ lt x) apart)) (cases_order d c)

type_session : {G : Get} {x b a p E o : ℕ} → Follows G (let_type x b a p E o) → Session G o E
type_session (follows.define_type s p) = s

term_session : {G : Get} {x a t p F o : ℕ} → Follows G (let_term x a t p F o)
    → (E : ℕ) × Session G o E × (G F ≡ Some (env_line (with_term' E a)))
term_session (follows.define_term {E = E} s e p) = (E, s, e)

-- what a definition leaves, where it is the last line

module _ (before : List Line) (l : Line) where
  abbrev Now : Get
  Now = said (before ++ l ∷ [])

  later_none : (m F : ℕ) → suc (length before) < m → Defines Now m F → ⊥
  later_none m F lt x =
      ⊎_elim (λ old. let z : ⊥ = omega (arith, lt, defined_within before m F old) in z) (λ last. let z : ⊥ = omega (arith, lt, last) in z)
      (defined_or_last before l m F x)

  last_leaves : {Γ : Env} {s : Statement} {d : Definition} → SessionEnv (said before) Γ → statement l ≡ Some s → Follows (said before) s
      → line_of d ≡ suc (length before) → Says Now d → SessionEnv Now (env_after Γ d)
  last_leaves {Γ} {s} env e f k (says_type {n = n} {x = x} {b = b} {a = a} {p = p} {E = E} {previous = o} g w y z) =
      let here : Now (suc (length before)) ≡ Some (let_type x b a p E o) = ap Now (sym k) ∙ g in
      let same : s ≡ let_type x b a p E o = same_Some _ _ (sym (said_last before l s e) ∙ here) in
      let at = session_at (type_session (subst (Follows (said before)) same f)) env in
      judge.latest_defined (type_defined here) later_none (env_on (said_added before l) at)
  last_leaves {Γ} {s} env e f k (says_term {n = n} {x = x} {a = a} {t = t} {p = p} {E = F} {previous = o} {A = A} g w y z) =
      let here : Now (suc (length before)) ≡ Some (let_term x a t p F o) = ap Now (sym k) ∙ g in
      let same : s ≡ let_term x a t p F o = same_Some _ _ (sym (said_last before l s e) ∙ here) in
      let (E, u, v) = term_session (subst (Follows (said before)) same f) in
      judge.latest_defined (term_defined here) later_none
      (EnvAt.env_at (said_added before l _ _ v) (of_with_term (env_on (said_added before l) (session_at u env)) y))

module _ (R : Rule) (lines : List Line) (sound : Sound R lines) where
  session_from : (before rest : List Line) (Γ : Env) (ds : List Definition) → lines ≡ before ++ rest → SessionEnv (said before) Γ
      → DefinedBy (said lines) (suc (length before)) rest ds → SessionEnv (said lines) (fold env_after Γ ds)
  session_from before [] Γ ds e env no_line = subst (λ xs. SessionEnv (said xs) Γ) (sym (e ∙ append_nil before)) env
  session_from before (l ∷ rest) Γ ds e env (defines_nothing none more) =
      session_from (before ++ l ∷ []) rest Γ ds (e ∙ append_one before l rest)
      (session_kept before (before ++ l ∷ []) (record { more = l ∷ []; whole = refl; kept = kept }) env)
      (subst (λ n. DefinedBy (said lines) n rest ds) (ap suc (sym (length_one before l))) more)
    where
      kept : (d E : ℕ) → Defines (said (before ++ l ∷ [])) d E → Defines (said before) d E
      kept d E x =
          ⊎_elim (λ old. old)
          (λ last. absurd (none E (subst (λ n. Defines (said lines) n E) last (defines_on (starts_on (before ++ l ∷ []) lines rest (e ∙ append_one before l rest)) x))))
          (defined_or_last before l d E x)
  session_from before (l ∷ rest) Γ (d ∷ ds) e env (defines k s more) =
      session_from (before ++ l ∷ []) rest (env_after Γ d) ds (e ∙ append_one before l rest)
      (last_leaves before l env f.1 (subst (λ xs. Follows (said xs) f.0) front (f.2 Unfounded)) k
      (subst (λ xs. Says (said xs) d) first (says_first R lines sound (suc (length before)) (omega (arith, k)) s)))
      (subst (λ n. DefinedBy (said lines) n rest ds) (ap suc (sym (length_one before l))) more)
    where
      front : take (length before) lines ≡ before
      front = ap (take (length before)) e ∙ take-append_seam before (l ∷ rest)

      first : take (suc (length before)) lines ≡ before ++ l ∷ []
      first =
          ap (take (suc (length before))) (e ∙ append_one before l rest) ∙ ap (λ n. take n ((before ++ l ∷ []) ++ rest)) (sym (length_one before l))
          ∙ take-append_seam (before ++ l ∷ []) rest

      f : Fine R (take (length before) lines) l
      f = sound (length before) l (ap (λ xs. slice_get xs (length before)) e ∙ get_seam before l rest)

  pub session_is : (ds : List Definition) → DefinitionsOf lines ds → SessionEnv (said lines) (session_env ds)
  session_is ds x = session_from [] lines empty ds refl (judge.nothing_defined (λ d E y. no_definition d E y)) x
    where
      no_definition : (d E : ℕ) → Defines (said []) d E → ⊥
      no_definition zero E (type_defined e) = none-some _ e
      no_definition zero E (term_defined e) = none-some _ e
      no_definition (suc d) E (type_defined e) = none-some _ e
      no_definition (suc d) E (term_defined e) = none-some _ e
