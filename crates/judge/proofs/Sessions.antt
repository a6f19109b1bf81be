-- The session that is reckoned from a listing's lines is the one that its definitions follow by, and it stays so as other lines are added.
use Rattle.std.proofs.Common.{◌≡◌, ℕ, zero, suc, ◌+◌, ◌<◌, ◌⊎◌, List, [], ◌∷◌, Some, None, Option, refl, ap, sym, ◌∙◌, subst, inl, inr, ⊎_elim, arith}
use Rattle.std.specs.List.{slice_get}
use Rattle.lines.specs.declared.line.Line.{Line}
use Rattle.rules.specs.Follows.{Defines, type_defined, term_defined, Session as SessionIn, nothing_defined, latest_defined}
use Rattle.rules.specs.Meaning.{EnvAt, of_empty}
use Rattle.rules.specs.Quantifiers.{Rule}
use Rattle.rules.specs.Statements.{empty', Statement, env_line, let_type, let_term, statement, Get, said}
use Rattle.rules.specs.Syntax.{Env, empty}
use Rattle.rules.proofs.Means.{env_on, env_named}
use Rattle.rules.proofs.Whole.{◌⊑◌, defines_on, said_line, line_said, whole}
use Rattle.rules.proofs.Writing.{Listing, gets, via}
use Rattle.judge.specs.Judgments.{SessionEnv}
use Rattle.judge.specs.Phrases.{Session, after, session}
use Rattle.judge.proofs.Valid.{Defines_kept, Grows, grows_on}
use Rattle.std.proofs.lemmas.Bool.{cases_order}
use Rattle.std.proofs.lemmas.Option.{none-some, same_Some}

-- more lines, and no further definition
pub record Later {R : Rule} (L M : Listing R) : Type 0 where
  pub on : gets L ⊑ gets M
  pub kept : Defines_kept L.lines M.lines

pub later : {R : Rule} (L M : Listing R) → Grows L.lines M.lines → Later L M
later L M g = record { on = grows_on g; kept = g.kept }

pub later_same : {R : Rule} (L : Listing R) → Later L L
later_same L = record { on = λ n s e. e; kept = λ d E x. x }

pub later_via : {R : Rule} {L M K : Listing R} → Later L M → Later M K → Later L K
later_via o q = record { on = via o.on q.on; kept = λ d E x. o.kept d E (q.kept d E x) }

pub session_on : {R : Rule} {L M : Listing R} → Later L M → {d E : ℕ} → SessionIn (gets L) d E → SessionIn (gets M) d E
session_on o (nothing_defined h e) = nothing_defined (λ m F x. h m F (o.kept m F x)) (o.on _ _ e)
session_on o (latest_defined x h) = latest_defined (defines_on o.on x) (λ m F l y. h m F l (o.kept m F y))

-- the session as it is reckoned

-- a statement that leaves the session environment E
data Leaves : Statement → ℕ → Type 0 where
  leaves_type : {name B A p E d : ℕ} → Leaves (let_type name B A p E d) E
  leaves_term : {name A b p E d : ℕ} → Leaves (let_term name A b p E d) E

abbrev After : ℕ → Session → Statement → Type 0
After n s u = ((E : ℕ) × Leaves u E × (after n s (Some u) ≡ record { latest = n; env = E })) ⊎ (((E : ℕ) → Leaves u E → ⊥) × (after n s (Some u) ≡ s))

abbrev Is_definition : Statement → Type 0
Is_definition (let_type name B A p E d) = Unit {0}
Is_definition (let_term name A b p E d) = Unit {0}
Is_definition other = ⊥

is_definition : {u : Statement} {E : ℕ} → Leaves u E → Is_definition u
is_definition leaves_type = tt
is_definition leaves_term = tt

after_is : (n : ℕ) (s : Session) (u : Statement) → After n s u
after_is n s (let_type name B A p E d) = inl (E, leaves_type, refl)
after_is n s (let_term name A b p E d) = inl (E, leaves_term, refl)
after_is n s other = inr (λ E x. is_definition x, refl)

-- what the session after some lines is, where they are numbered from n and s was before

abbrev Defines_at : List Line → (i E : ℕ) → Type 0
Defines_at lines i E = (l : Line) × (u : Statement) × (slice_get lines i ≡ Some l) × (statement l ≡ Some u) × Leaves u E

data Reckoned (n : ℕ) (s : Session) (lines : List Line) (r : Session) : Type 0 where
  as_before : ((i E : ℕ) → Defines_at lines i E → ⊥) → r ≡ s → Reckoned n s lines r
  by_line : (i : ℕ) → r.latest ≡ n + i → Defines_at lines i r.env → ((j E : ℕ) → i < j → Defines_at lines j E → ⊥) → Reckoned n s lines r

reckoned : (n : ℕ) (s : Session) (lines : List Line) → Reckoned n s lines (session n s lines)
reckoned n s [] = as_before (λ i E x. none-some _ x.2) refl
reckoned n s (l ∷ lines) = go (statement l) refl (reckoned (suc n) (after n s (statement l)) lines)
  where
    first : {E : ℕ} {u : Statement} → statement l ≡ Some u → Defines_at (l ∷ lines) 0 E → Leaves u E
    first {E} e (m, v, f, g, x) = let same : l ≡ m = cc in subst (λ w. Leaves w E) (same_Some _ _ (sym g ∙ ap statement (sym same) ∙ e)) x

    later_one : {t : Session} → (r : Session) → Reckoned (suc n) t lines r → (t ≡ s) → ((E : ℕ) → Defines_at (l ∷ lines) 0 E → ⊥) → Reckoned n s (l ∷ lines) r
    later_one r (as_before h e) k none = as_before all (e ∙ k)
      where
        all : (i E : ℕ) → Defines_at (l ∷ lines) i E → ⊥
        all zero E x = none E x
        all (suc i) E x = h i E x
    later_one r (by_line i e x h) k none = by_line (suc i) (omega (arith, e)) x all
      where
        all : (j E : ℕ) → suc i < j → Defines_at (l ∷ lines) j E → ⊥
        all zero E lt y = let z : ⊥ = omega (arith, lt) in z
        all (suc j) E lt y = h j E (omega (arith, lt)) y

    this_one : {E : ℕ} {u : Statement} → statement l ≡ Some u → Leaves u E → (t r : Session) → t ≡ record { latest = n; env = E } → Reckoned (suc n) t lines r
        → Reckoned n s (l ∷ lines) r
    this_one {E} {u} e x t r k (as_before h f) =
        by_line 0 (ap (λ v. v.latest) (f ∙ k) ∙ omega arith) (l, u, refl, e, subst (Leaves u) (sym (ap (λ v. v.env) (f ∙ k))) x) all
      where
        all : (j F : ℕ) → 0 < j → Defines_at (l ∷ lines) j F → ⊥
        all zero F lt y = let z : ⊥ = omega (arith, lt) in z
        all (suc j) F lt y = h j F y
    this_one {E} {u} e x t r k (by_line i f y h) = by_line (suc i) (omega (arith, f)) y all
      where
        all : (j F : ℕ) → suc i < j → Defines_at (l ∷ lines) j F → ⊥
        all zero F lt y = let z : ⊥ = omega (arith, lt) in z
        all (suc j) F lt y = h j F (omega (arith, lt)) y

    go : (o : Option Statement) → statement l ≡ o → Reckoned (suc n) (after n s o) lines (session (suc n) (after n s o) lines)
        → Reckoned n s (l ∷ lines) (session (suc n) (after n s o) lines)
    go None e x = later_one _ x refl (λ E (m, v, f, g, y). let same : l ≡ m = cc in none-some _ (sym e ∙ ap statement same ∙ g))
    go (Some u) e x =
        ⊎_elim (λ (E, y, f). this_one e y (after n s (Some u)) (session (suc n) (after n s (Some u)) lines) f x)
        (λ (h, f). later_one (session (suc n) (after n s (Some u)) lines) x f (λ E y. h E (first e y))) (after_is n s u)

-- in the words of definitions

leaves_defines : {G : Get} {d E : ℕ} {u : Statement} → G d ≡ Some u → Leaves u E → Defines G d E
leaves_defines e leaves_type = type_defined e
leaves_defines e leaves_term = term_defined e

defines_leaves : {G : Get} {d E : ℕ} → Defines G d E → (u : Statement) × (G d ≡ Some u) × Leaves u E
defines_leaves (type_defined e) = (_, e, leaves_type)
defines_leaves (term_defined e) = (_, e, leaves_term)

line_defines : (lines : List Line) (i E : ℕ) → Defines_at lines i E → Defines (said lines) (suc i) E
line_defines lines i E (l, u, e, f, x) = leaves_defines (line_said lines (suc i) l u e f) x

defining_line : (lines : List Line) (d E : ℕ) → Defines (said lines) d E → (i : ℕ) × (d ≡ suc i) × Defines_at lines i E
defining_line lines zero E x = let (u, e, y) = defines_leaves x in absurd (none-some _ e)
defining_line lines (suc i) E x =
    let (u, e, y) = defines_leaves x in
    let (l, f, g) = said_line lines (suc i) u e in
    (i, refl, (l, u, f, g, y))

leaves_one : {u : Statement} {E F : ℕ} → Leaves u E → Leaves u F → E ≡ F
leaves_one leaves_type leaves_type = refl
leaves_one leaves_term leaves_term = refl

pub defines_one : {G : Get} {d E F : ℕ} → Defines G d E → Defines G d F → E ≡ F
defines_one {F = F} x y =
    let (u, e, v) = defines_leaves x in
    let (w, f, z) = defines_leaves y in
    leaves_one v (subst (λ s. Leaves s F) (same_Some _ _ (sym f ∙ e)) z)

module _ {R : Rule} (L M : Listing R) (o : Later L M) (E : ℕ) (e : gets M E ≡ Some (env_line empty')) where
  abbrev start : Session
  start = record { latest = 0; env = E }

  session_by : (r : Session) → Reckoned 1 start L.lines r → SessionIn (gets M) r.latest r.env
  session_by r (as_before h f) =
      subst (λ s. SessionIn (gets M) s.latest s.env) (sym f)
      (nothing_defined (λ m F x. let (i, k, y) = defining_line L.lines m F (o.kept m F x) in h i F y) e)
  session_by r (by_line i f x h) =
      let at : suc i ≡ r.latest = omega (arith, f) in
      latest_defined (subst (λ d. Defines (gets M) d r.env) at (defines_on o.on (line_defines L.lines i r.env x)))
      (λ m F l y. let (j, k, z) = defining_line L.lines m F (o.kept m F y) in h j F (omega (arith, l, k, f)) z)

  pub session_found : SessionIn (gets M) (session 1 start L.lines).latest (session 1 start L.lines).env
  session_found = session_by _ (reckoned 1 start L.lines)

  env_by : {Γ : Env} → SessionEnv (gets L) Γ → (r : Session) → Reckoned 1 start L.lines r → EnvAt (gets M) r.env Γ
  env_by (SessionEnv.nothing_defined h) r (as_before g f) =
      subst (λ s. EnvAt (gets M) s.env empty) (sym f) (EnvAt.env_at e of_empty)
  env_by (SessionEnv.nothing_defined h) r (by_line i f x g) = absurd (h (suc i) r.env (line_defines L.lines i r.env x))
  env_by (SessionEnv.latest_defined {d = d} {E = F} x h g) r (as_before k f) =
      let (i, l, y) = defining_line L.lines d F x in absurd (k i F y)
  env_by {Γ} (SessionEnv.latest_defined {d = d} {E = F} x h g) r (by_line i f y k) =
      let (j, l, z) = defining_line L.lines d F x in
      let v = line_defines L.lines i r.env y in
      ⊎_elim (λ same. env_on o.on (subst (λ n. EnvAt (gets L) n Γ) (defines_one x (subst (λ n. Defines (gets L) n r.env) (sym same) v)) g))
      (λ apart. absurd (⊎_elim (λ lt. h (suc i) r.env lt v) (λ lt. k j F (omega (arith, l, lt)) z) apart)) (cases_order d (suc i))

  pub session_env : {Γ : Env} → SessionEnv (gets L) Γ → EnvAt (gets M) (session 1 start L.lines).env Γ
  session_env x = env_by x _ (reckoned 1 start L.lines)

-- a sound listing has a session environment

defines_env : {R : Rule} (L : Listing R) {d E : ℕ} → Defines (gets L) d E → (Γ : Env) × EnvAt (gets L) E Γ
defines_env {R} L (type_defined e) = let w = whole R L.lines L.sound in env_named R (gets L) w (w _ _ e).named.1.1.1.1.0
defines_env {R} L (term_defined e) = let w = whole R L.lines L.sound in env_named R (gets L) w (w _ _ e).named.1.1.1.1.0

pub session_exists : {R : Rule} (L : Listing R) → (Γ : Env) × SessionEnv (gets L) Γ
session_exists L = go _ (reckoned 1 (record { latest = 0; env = 0 }) L.lines)
  where
    go : (r : Session) → Reckoned 1 (record { latest = 0; env = 0 }) L.lines r → (Γ : Env) × SessionEnv (gets L) Γ
    go r (as_before h f) =
        (empty, SessionEnv.nothing_defined (λ d E x. let (i, k, y) = defining_line L.lines d E x in h i E y))
    go r (by_line i f x h) =
        let y = line_defines L.lines i r.env x in
        let (Γ, g) = defines_env L y in
        (Γ, SessionEnv.latest_defined y (λ m F l z. let (j, k, v) = defining_line L.lines m F z in h j F (omega (arith, l, k)) v) g)
