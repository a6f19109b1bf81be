-- Every line 50 to 79 of a sound listing states a derivable judgment.
use Rattle.std.proofs.Common.{◌≡◌, ℕ, zero, suc, ◌<◌, ◌≤◌, T, List, Some, sym, subst, subst₂, arith}
use Rattle.lines.specs.Stores.{numbered}
use Rattle.lines.specs.declared.line.Line.{Line}
use Rattle.rules.specs.Derivations.{Judgment, is_env, is_type, is_sub, has, Derivable}
use Rattle.rules.specs.Faults.{admitted, Sound}
use Rattle.rules.specs.Follows.{IsEnv, IsType, IsSub, Has, BodyBoundIs, Follows}
use Rattle.rules.specs.Meaning.{TypeAt, of_top, of_var, of_arrow, of_all, of_rec, TermAt, of_top_term, of_var_term, of_fun, of_appl, of_fun2, of_appl2, of_fold, of_unfold, of_rec_term, EnvAt, EnvOf, of_empty, of_with_term, of_with_type, States, states_env, states_type, states_sub, states_has}
use Rattle.rules.specs.Quantifiers.{Rule, bodies_under, body_bound}
use Rattle.rules.specs.Statements.{with_term', with_type', SubRule, HasRule, Statement, type_line, term_line, env_line, raising, putting, bound_line, typing_line, env_judged, type_judged, sub_judged, has_judged, name_line, let_type, let_term, Get, said, premise_at, columns}
use Rattle.rules.specs.Syntax.{Ty, top, var, arrow, all, rec, Tm, top_term, var_term, fun, appl, fun2, appl2, fold_term, unfold_term, rec_term, Env, with_term, with_type, put}
use Rattle.rules.specs.declared.all_code.BodyBound.{BodyBound}
use Rattle.rules.specs.declared.all_code.BodyBound.TheVariants.{Left, Right}
use Rattle.rules.proofs.Codes.{OfKind, premises, of_raising, of_putting, of_bound, of_typing, of_env_judged, of_type_judged, of_sub_judged, of_has_judged, code_of, code_read, kind_said}
use Rattle.rules.proofs.Means.{type_one, term_one, env_one, env_parts, Judging, judges_env, judges_type, judges_sub, judges_has, type_named, states_exists}
use Rattle.rules.proofs.Says.{premise_earlier, arrow_parts, all_parts, rec_part, putted_of, bound_in, typing_in}
use Rattle.rules.proofs.Whole.{NamesEarlier, AllNameEarlier, Rests, WholeSound, line_said, whole}
use Rattle.std.proofs.lemmas.Option.{none-some}

module _ (R : Rule) (G : Get) where
  abbrev EnvSaid : ℕ → Type 0
  EnvSaid E = (Γ : Env) → EnvAt G E Γ → Derivable R (is_env Γ)

  abbrev TypeSaid : (E A : ℕ) → Type 0
  TypeSaid E A = (Γ : Env) → EnvAt G E Γ → (X : Ty) × TypeAt G A X × Derivable R (is_type Γ X)

  abbrev SubSaid : (E A B : ℕ) → Type 0
  SubSaid E A B = (Γ : Env) → EnvAt G E Γ → (X : Ty) × (Y : Ty) × TypeAt G A X × TypeAt G B Y × Derivable R (is_sub Γ X Y)

  abbrev HasSaid : (E a A : ℕ) → Type 0
  HasSaid E a A = (Γ : Env) → EnvAt G E Γ → (t : Tm) × (X : Ty) × TermAt G a t × TypeAt G A X × Derivable R (has Γ t X)

  -- what a line 50 to 79 says is derivable
  abbrev Accepted : Statement → Type 0
  Accepted (type_line t) = Unit {0}
  Accepted (term_line a) = Unit {0}
  Accepted (env_line e) = Unit {0}
  Accepted (raising A j C p q) = Unit {0}
  Accepted (putting B j A C p q r) = Unit {0}
  Accepted (bound_line E k B p q) = Unit {0}
  Accepted (typing_line E k A p q) = Unit {0}
  Accepted (env_judged E p) = EnvSaid E
  Accepted (type_judged E A p q) = TypeSaid E A
  Accepted (sub_judged s E A B p q) = SubSaid E A B
  Accepted (has_judged h E a A p q r) = HasSaid E a A
  Accepted (name_line n₁ n₂ n₃ n₄ n₅ n₆ n₇) = Unit {0}
  Accepted (let_type name B A p E previous) = Unit {0}
  Accepted (let_term name A b p E previous) = Unit {0}

  env_with_term : {F A : ℕ} → TypeSaid F A → (Γ : Env) → EnvOf G (with_term' F A) Γ → Derivable R (is_env Γ)
  env_with_term x _ (of_with_term {E = Γ} g a) =
      let (X, b, d) = x Γ g in
      Derivable.env_term (subst (λ Y. Derivable R (is_type Γ Y)) (type_one b a) d)

  env_with_type : {F A : ℕ} → TypeSaid F A → (Γ : Env) → EnvOf G (with_type' F A) Γ → Derivable R (is_env Γ)
  env_with_type x _ (of_with_type {E = Γ} g a) =
      let (X, b, d) = x Γ g in
      Derivable.env_type (subst (λ Y. Derivable R (is_type Γ Y)) (type_one b a) d)

  -- a judgment is derivable if its line's words are
  states_derivable : {s : Statement} {J : Judgment} → States G s J → Accepted s → Derivable R J
  states_derivable (states_env {E = Γ} g) x = x Γ g
  states_derivable (states_type {E = Γ} g a) x =
      let (X, b, d) = x Γ g in
      subst (λ Y. Derivable R (is_type Γ Y)) (type_one b a) d
  states_derivable (states_sub {E = Γ} g a b) x =
      let (X, Y, c, d, e) = x Γ g in
      subst₂ (λ Z W. Derivable R (is_sub Γ Z W)) (type_one c a) (type_one d b) e
  states_derivable (states_has {E = Γ} g a b) x =
      let (t, X, c, d, e) = x Γ g in
      subst₂ (λ u Z. Derivable R (has Γ u Z)) (term_one c a) (type_one d b) e

  pub body_at : (b : BodyBound) {m n t : ℕ} {X Z : Ty} → BodyBoundIs b m n t → TypeAt G m X → TypeAt G n Z → TypeAt G t (body_bound b X Z)
  body_at Left {X = X} e x z = subst (λ k. TypeAt G k X) (sym e) x
  body_at Right {Z = Z} e x z = subst (λ k. TypeAt G k Z) (sym e) z

module _ (R : Rule) (G : Get) (w : WholeSound R G) where
  abbrev AcceptedBelow : ℕ → Type 0
  AcceptedBelow b = (n : ℕ) (s : Statement) → n < b → G n ≡ Some s → Accepted R G s

  module _ (n : ℕ) (number : 0 < n) (below : AcceptedBelow n) where
    env_premise : {p E : ℕ} → NamesEarlier G n (premise_at p) → IsEnv G p E → EnvSaid R G E
    env_premise {p} h x = below p _ (premise_earlier G n p number h) x.1

    type_premise : {p E A : ℕ} → NamesEarlier G n (premise_at p) → IsType G p E A → TypeSaid R G E A
    type_premise {p} h x = below p _ (premise_earlier G n p number h) x.2

    sub_premise : {p E A B : ℕ} → NamesEarlier G n (premise_at p) → IsSub G p E A B → SubSaid R G E A B
    sub_premise {p} h x = below p _ (premise_earlier G n p number h) x.3

    has_premise : {p E a A : ℕ} → NamesEarlier G n (premise_at p) → Has G p E a A → HasSaid R G E a A
    has_premise {p} h x = below p _ (premise_earlier G n p number h) x.4

    env_by : {E p : ℕ} → AllNameEarlier G n (columns (env_judged E p)) → Follows G (env_judged E p) → EnvSaid R G E
    env_by m (Follows.env_empty e) =
        λ Γ g. subst (λ Δ. Derivable R (is_env Δ)) (env_one (EnvAt.env_at e of_empty) g) Derivable.env_empty
    env_by m (Follows.env_term e x) = λ Γ g. env_with_term R G (type_premise m.1.0 x) Γ (env_parts e g)
    env_by m (Follows.env_type e x) = λ Γ g. env_with_type R G (type_premise m.1.0 x) Γ (env_parts e g)

    type_by : {E A p q : ℕ} → AllNameEarlier G n (columns (type_judged E A p q)) → Follows G (type_judged E A p q) → TypeSaid R G E A
    type_by m (Follows.type_top e x) =
        λ Γ g. (top, TypeAt.type_at e of_top, Derivable.type_top (env_premise m.1.1.0 x Γ g))
    type_by m (Follows.type_var {k = k} e x y) =
        λ Γ g. (var k, TypeAt.type_at e of_var, Derivable.type_var (env_premise m.1.1.0 x Γ g) (bound_in R G w y g).2)
    type_by m (Follows.type_arrow e x y) = λ Γ g.
        let (X, a, c) = type_premise m.1.1.0 x Γ g in
        let (Y, b, d) = type_premise m.1.1.1.0 y Γ g in
        (arrow X Y, TypeAt.type_at e (of_arrow a b), Derivable.type_arrow c d)
    type_by m (Follows.type_all e f x) = λ Γ g.
        let (X, a) = (all_parts R G w e).0 in
        let (Y, b, d) = type_premise m.1.1.0 x (with_type Γ X) (EnvAt.env_at f (of_with_type g a)) in
        (all X Y, TypeAt.type_at e (of_all a b), Derivable.type_all d)
    type_by m (Follows.type_rec e f h x) = λ Γ g.
        let (Y, b, d) = type_premise m.1.1.0 x (with_type Γ top) (EnvAt.env_at f (of_with_type g (TypeAt.type_at h of_top))) in
        (rec Y, TypeAt.type_at e (of_rec b), Derivable.type_rec d)

    sub_by : {s : SubRule} {E A B p q : ℕ} → T (admitted R (sub_judged s E A B p q)) → AllNameEarlier G n (columns (sub_judged s E A B p q))
        → Follows G (sub_judged s E A B p q) → SubSaid R G E A B
    sub_by t m (Follows.sub_refl x) = λ Γ g.
        let (X, a, d) = type_premise m.1.1.1.0 x Γ g in
        (X, X, a, a, Derivable.sub_refl d)
    sub_by t m (Follows.sub_trans x y) = λ Γ g.
        let (X, Z, a, c, d) = sub_premise m.1.1.1.0 x Γ g in
        let (V, Y, v, b, f) = sub_premise m.1.1.1.1.0 y Γ g in
        (X, Y, a, b, Derivable.sub_trans d (subst (λ U. Derivable R (is_sub Γ U Y)) (type_one v c) f))
    sub_by t m (Follows.sub_var {k = k} e x y) = λ Γ g.
        let (Y, b, c) = bound_in R G w y g in
        (var k, Y, TypeAt.type_at e of_var, b, Derivable.sub_var (env_premise m.1.1.1.0 x Γ g) c)
    sub_by t m (Follows.sub_top e x) = λ Γ g.
        let (X, a, d) = type_premise m.1.1.1.0 x Γ g in
        (X, top, a, TypeAt.type_at e of_top, Derivable.sub_top d)
    sub_by t m (Follows.sub_arrow e f x y) = λ Γ g.
        let (C, A, c, a, h) = sub_premise m.1.1.1.0 x Γ g in
        let (B, D, b, d, i) = sub_premise m.1.1.1.1.0 y Γ g in
        (arrow A B, arrow C D, TypeAt.type_at e (of_arrow a b), TypeAt.type_at f (of_arrow c d), Derivable.sub_arrow h i)
    sub_by t m (Follows.sub_all_same c s e f h k x) = λ Γ g.
        let (A, a) = (all_parts R G w e).0 in
        let bound = body_at R G (bodies_under c) k a a in
        let (B, D, b, d, i) = sub_premise m.1.1.1.0 x (with_type Γ (body_bound (bodies_under c) A A)) (EnvAt.env_at h (of_with_type g bound)) in
        (all A B, all A D, TypeAt.type_at e (of_all a b), TypeAt.type_at f (of_all a d), Derivable.sub_all_same c t s i)
    sub_by t m (Follows.sub_all_below r s e f x h k y) = λ Γ g.
        let (C, A, c, a, j) = sub_premise m.1.1.1.0 x Γ g in
        let bound = body_at R G (bodies_under r) k a c in
        let (B, D, b, d, i) = sub_premise m.1.1.1.1.0 y (with_type Γ (body_bound (bodies_under r) A C)) (EnvAt.env_at h (of_with_type g bound)) in
        (all A B, all C D, TypeAt.type_at e (of_all a b), TypeAt.type_at f (of_all c d), Derivable.sub_all_below r t s j i)

    has_by : {h : HasRule} {E a A p q r : ℕ} → AllNameEarlier G n (columns (has_judged h E a A p q r)) → Follows G (has_judged h E a A p q r)
        → HasSaid R G E a A
    has_by m (Follows.has_subsumed x y) = λ Γ g.
        let (u, X, a, c, d) = has_premise m.1.1.1.0 x Γ g in
        let (V, Y, v, b, f) = sub_premise m.1.1.1.1.0 y Γ g in
        (u, Y, a, b, Derivable.has_subsumed d (subst (λ U. Derivable R (is_sub Γ U Y)) (type_one v c) f))
    has_by m (Follows.has_var {k = k} e x y) = λ Γ g.
        let (X, a, c) = typing_in R G w y g in
        (var_term k, X, TermAt.term_at e of_var_term, a, Derivable.has_var (env_premise m.1.1.1.0 x Γ g) c)
    has_by m (Follows.has_top e f x) =
        λ Γ g. (top_term, top, TermAt.term_at e of_top_term, TypeAt.type_at f of_top, Derivable.has_top (env_premise m.1.1.1.0 x Γ g))
    has_by m (Follows.has_fun e f h x) = λ Γ g.
        let (A, a) = (arrow_parts R G w f).0 in
        let (u, B, c, b, d) = has_premise m.1.1.1.0 x (with_term Γ A) (EnvAt.env_at h (of_with_term g a)) in
        (fun A u, arrow A B, TermAt.term_at e (of_fun a c), TypeAt.type_at f (of_arrow a b), Derivable.has_fun d)
    has_by m (Follows.has_appl e f x y) = λ Γ g.
        let (u, F, b, c, d) = has_premise m.1.1.1.0 x Γ g in
        let (v, A, k, a, i) = has_premise m.1.1.1.1.0 y Γ g in
        let (B, r) = (arrow_parts R G w f).1 in
        let same : F ≡ arrow A B = type_one c (TypeAt.type_at f (of_arrow a r)) in
        (appl u v, B, TermAt.term_at e (of_appl b k), r, Derivable.has_appl (subst (λ Z. Derivable R (has Γ u Z)) same d) i)
    has_by m (Follows.has_fun2 e f h x) = λ Γ g.
        let (A, a) = (all_parts R G w f).0 in
        let (u, B, c, b, d) = has_premise m.1.1.1.0 x (with_type Γ A) (EnvAt.env_at h (of_with_type g a)) in
        (fun2 A u, all A B, TermAt.term_at e (of_fun2 a c), TypeAt.type_at f (of_all a b), Derivable.has_fun2 d)
    has_by m (Follows.has_appl2 e f x y z) = λ Γ g.
        let (u, F, b, c, d) = has_premise m.1.1.1.0 x Γ g in
        let (S, A, s, a, i) = sub_premise m.1.1.1.1.0 y Γ g in
        let (B, r) = (all_parts R G w f).1 in
        let same : F ≡ all A B = type_one c (TypeAt.type_at f (of_all a r)) in
        (appl2 u S, put 1 S B, TermAt.term_at e (of_appl2 b s), putted_of R G w z r s, Derivable.has_appl2 (subst (λ Z. Derivable R (has Γ u Z)) same d) i)
    has_by m (Follows.has_fold e f x y) = λ Γ g.
        let (B, b) = rec_part R G w f in
        let a = TypeAt.type_at f (of_rec b) in
        let (u, F, c, k, d) = has_premise m.1.1.1.1.0 y Γ g in
        let same : F ≡ put 1 (rec B) B = type_one k (putted_of R G w x b a) in
        (fold_term (rec B) u, rec B, TermAt.term_at e (of_fold a c), a, Derivable.has_fold (subst (λ Z. Derivable R (has Γ u Z)) same d))
    has_by m (Follows.has_unfold e f x y) = λ Γ g.
        let (B, b) = rec_part R G w f in
        let a = TypeAt.type_at f (of_rec b) in
        let (u, F, c, k, d) = has_premise m.1.1.1.0 x Γ g in
        let same : F ≡ rec B = type_one k a in
        (unfold_term u, put 1 (rec B) B, TermAt.term_at e (of_unfold c), putted_of R G w y b a, Derivable.has_unfold (subst (λ Z. Derivable R (has Γ u Z)) same d))
    has_by m (Follows.has_rec e f x) = λ Γ g.
        let (A, a) = type_named R G w m.1.1.0 in
        let (u, F, c, k, d) = has_premise m.1.1.1.0 x (with_term Γ A) (EnvAt.env_at f (of_with_term g a)) in
        let same : F ≡ A = type_one k a in
        (rec_term A u, A, TermAt.term_at e (of_rec_term a c), a, Derivable.has_rec (subst (λ Z. Derivable R (has (with_term Γ A) u Z)) same d))

    accepted_by : (s : Statement) → T (admitted R s) → AllNameEarlier G n (columns s) → Rests G s → Accepted R G s
    accepted_by (type_line k) t m x = tt
    accepted_by (term_line a) t m x = tt
    accepted_by (env_line e) t m x = tt
    accepted_by (raising A j C p q) t m x = tt
    accepted_by (putting B j A C p q r) t m x = tt
    accepted_by (bound_line E k B p q) t m x = tt
    accepted_by (typing_line E k A p q) t m x = tt
    accepted_by (env_judged E p) t m x = env_by m x
    accepted_by (type_judged E A p q) t m x = type_by m x
    accepted_by (sub_judged s E A B p q) t m x = sub_by t m x
    accepted_by (has_judged h E a A p q r) t m x = has_by m x
    accepted_by (name_line n₁ n₂ n₃ n₄ n₅ n₆ n₇) t m x = tt
    accepted_by (let_type name B A p E previous) t m x = tt
    accepted_by (let_term name A b p E previous) t m x = tt

  accepted_below : (b : ℕ) → AcceptedBelow b
  accepted_below zero n s h e = absurd (let z : ⊥ = omega arith in z)
  accepted_below (suc b) n s h e =
      let x = w n s e in
      accepted_by n x.number (λ m u l f. accepted_below b m u (omega arith) f) s x.admits x.named x.rests

  pub stated_derivable : (n : ℕ) (s : Statement) → G n ≡ Some s → (J : Judgment) → States G s J → Derivable R J
  stated_derivable n s e J x = states_derivable R G x (accepted_below (suc n) n s (omega arith) e)

-- what a line of a sound listing states is derivable
pub accepted_means_derivable : (R : Rule) (lines : List Line) → Sound R lines → (n : ℕ) (s : Statement) → said lines n ≡ Some s
    → (J : Judgment) → States (said lines) s J → Derivable R J
accepted_means_derivable R lines sound n s e J x = stated_derivable R (said lines) (whole R lines sound) n s e J x

judging_code : {s : Statement} → OfKind premises s → 50 ≤ code_of s → Judging s
judging_code of_raising h = absurd (let z : ⊥ = omega arith in z)
judging_code of_putting h = absurd (let z : ⊥ = omega arith in z)
judging_code of_bound h = absurd (let z : ⊥ = omega arith in z)
judging_code of_typing h = absurd (let z : ⊥ = omega arith in z)
judging_code of_env_judged h = judges_env
judging_code of_type_judged h = judges_type
judging_code of_sub_judged h = judges_sub
judging_code of_has_judged h = judges_has

-- and each line 50 to 79 states one judgment
pub accepted_states : (R : Rule) (lines : List Line) → Sound R lines → (n : ℕ) (l : Line) → numbered lines n ≡ Some l → 50 ≤ l.code → l.code ≤ 79
    → (s : Statement) × (said lines n ≡ Some s) × ((J : Judgment) × States (said lines) s J × Derivable R J)
accepted_states R lines sound zero l e h i = absurd (none-some _ e)
accepted_states R lines sound (suc n) l e h i =
    let (s, f, r) = sound n l e in
    let g = line_said lines (suc n) l s e f in
    let c = code_read l s f in
    let (J, x) = states_exists R (said lines) (whole R lines sound) (suc n) s g (judging_code (kind_said premises l s f (omega arith) (omega arith)) (omega arith)) in
    (s, g, (J, x, accepted_means_derivable R lines sound (suc n) s g J x))
