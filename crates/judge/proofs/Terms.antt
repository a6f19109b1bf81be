-- The plans of 70 to 79 are valid: what is established is the least type, and where a plan fails the term has none.
use Rattle.std.proofs.Common.{◌≡◌, ℕ, zero, suc, ◌+◌, ◌<◌, Bool, true, false, cond, Some, refl, ap, sym, ◌∙◌, subst, subst₂, arith}
use Rattle.std.specs.Prelude.{◌==◌}
use Rattle.rules.specs.Derivations.{is_env, is_sub, has}
use Rattle.rules.specs.Follows.{IsEnv, IsSub, Has, Follows}
use Rattle.rules.specs.Laws.{Chains, Admitted}
use Rattle.rules.specs.Meaning.{TypeAt, TypeOf, of_top, of_var, of_arrow, of_all, of_rec, TermAt, of_top_term, of_var_term, of_fun, of_appl, of_fun2, of_appl2, of_fold, of_unfold, of_rec_term, EnvAt, of_empty, of_with_term, of_with_type, states_env, states_sub, states_has}
use Rattle.rules.specs.Quantifiers.{Rule}
use Rattle.rules.specs.Statements.{TypeLine, top', top_term', var_term', fun', appl', fun2', appl2', fold_term', unfold_term', rec_term', type_line, term_line, has_judged, Get, h_subsumed, h_var, h_top, h_fun, h_appl, h_fun2, h_appl2, h_fold, h_unfold, h_rec}
use Rattle.rules.specs.Syntax.{Ty, top, var, arrow, all, rec, lift, put, Tm, top_term, var_term, fun, appl, fun2, appl2, fold_term, unfold_term, rec_term, Env, with_term, with_type, Bound, bound_here, Typing, depth, Scoped, Within}
use Rattle.rules.specs.Tries.{Tries, try_same}
use Rattle.rules.specs.Variables.{bound_unique, bound_within}
use Rattle.rules.proofs.Accepted.{stated_derivable}
use Rattle.rules.proofs.Agree.{derivable_regular, tried}
use Rattle.rules.proofs.Formed.{Formed, bound_formed}
use Rattle.rules.proofs.Least.{Exposes, exposes_top, exposes_arrow, exposes_all, exposes_rec, exposes_var, exposes_unique, Least, least_var, least_top, least_fun, least_appl, least_fun2, least_appl2, least_fold, least_unfold, least_rec, least_unique}
use Rattle.rules.proofs.Means.{type_on, term_on, env_on, type_one}
use Rattle.rules.proofs.Says.{putted_of, typing_in}
use Rattle.rules.proofs.Whole.{◌⊑◌, is_env_on, is_sub_on, has_on, puts_on}
use Rattle.rules.proofs.Writing.{Listing, gets, via}
use Rattle.judge.specs.Goals.{Placed, top_placed, var_placed, fun_placed, appl_placed, fun2_placed, appl2_placed, fold_placed, unfold_placed, rec_placed, line_at, seek_sub, seek_term, seek_subsumed, Plan, ask, pay, close}
use Rattle.judge.specs.Plans.{as_type, brought, subsumed_plan, exposed_plan, exposed_line, exposing_plan, exposure, fold_plan, term_plan}
use Rattle.judge.proofs.Lines.{okay_type, okay_env, okay_has}
use Rattle.judge.proofs.Sought.{PlacedAt, top_at, var_at, fun_at, appl_at, fun2_at, appl2_at, fold_at, unfold_at, rec_at, placed_term, placed_on, replaced, typing_of, an_env, below, below_bound, typed, subsumed, means_putting, means_typing, means_env, means_sub, means_var, means_term, means_subsumed, Holds}
use Rattle.judge.proofs.Standing.{ValidFor}
use Rattle.judge.proofs.Subtypes.{var_bound, var_below}
use Rattle.judge.proofs.Types.{sure}
use Rattle.judge.proofs.Valid.{Valid_on, Valid, Answered}
use Rattle.std.proofs.lemmas.Bool.{eqb-true, lt-ltb}

-- how deep an environment is, and how far out the bound of a variable is

pub depth_below : {R : Rule} (L : Listing R) {E : ℕ} {Γ : Env} → EnvAt (gets L) E Γ → depth Γ < E
depth_below L (EnvAt.env_at e of_empty) = (sure L _ _ e).number
depth_below L {E} (EnvAt.env_at e (of_with_term {m = m} {E = Γ} g a)) =
    let below : depth Γ < m = depth_below L g in
    omega (arith, below, (sure L _ _ e).named.0.0)
depth_below L {E} (EnvAt.env_at e (of_with_type {m = m} {E = Γ} g a)) =
    let below : depth Γ < m = depth_below L g in
    omega (arith, below, (sure L _ _ e).named.0.0)

-- a type that is raised to a variable is a variable
lift_is_var : (n : ℕ) (A : Ty) → Scoped n A → (i : ℕ) → lift 0 A ≡ var i → (m : ℕ) × (A ≡ var m) × (i ≡ suc m)
lift_is_var n top w i e = absurd (none e)
  where
    none : top ≡ var i → ⊥
    none e = cc
lift_is_var n (var zero) w i e = absurd (let z : ⊥ = omega (arith, w.0) in z)
lift_is_var n (var (suc m)) w i e = (suc m, refl, same (rw (lt-ltb 0 (suc m) (omega arith)) at e))
  where
    same : var (suc (suc m)) ≡ var i → i ≡ suc (suc m)
    same e = cc
lift_is_var n (arrow A B) w i e = absurd (none e)
  where
    none : arrow (lift 0 A) (lift 0 B) ≡ var i → ⊥
    none e = cc
lift_is_var n (all A B) w i e = absurd (none e)
  where
    none : all (lift 0 A) (lift 1 B) ≡ var i → ⊥
    none e = cc
lift_is_var n (rec B) w i e = absurd (none e)
  where
    none : rec (lift 1 B) ≡ var i → ⊥
    none e = cc

pub bound_further : {Γ : Env} {k : ℕ} {A : Ty} → Bound Γ k A → Formed Γ → (i : ℕ) → A ≡ var i → k < i
bound_further (bound_here {E = Γ} {A = A}) f i e =
    let (m, x, y) = lift_is_var (depth Γ) A f.1 i e in
    let v = subst (Scoped (depth Γ)) x f.1 in
    omega (arith, y, v.0)
bound_further (Bound.bound_past_type {E = Γ} {k = k} {B = B} b) f i e =
    let (m, x, y) = lift_is_var (depth Γ) B (bound_formed b f.0) i e in
    let below : k < m = bound_further b f.0 m x in
    omega (arith, y, below)
bound_further (Bound.bound_past_term b) f i e = bound_further b f.0 i e

-- what sound lines say in the terms of the tries

module _ {R : Rule} (L : Listing R) where
  pub env_formed : (n : ℕ) {E : ℕ} {Γ : Env} → IsEnv (gets L) n E → EnvAt (gets L) E Γ → Formed Γ
  env_formed n {Γ = Γ} x g = derivable_regular (stated_derivable R (gets L) (sure L) n _ x.1 (is_env Γ) (states_env g))

  pub has_formed : (n : ℕ) {E a A : ℕ} {Γ : Env} {t : Tm} {X : Ty} → Has (gets L) n E a A → EnvAt (gets L) E Γ → TermAt (gets L) a t
      → TypeAt (gets L) A X → Formed Γ × Within Γ X
  has_formed n {Γ = Γ} {t} {X} x g a b = derivable_regular (stated_derivable R (gets L) (sure L) n _ x.4 (has Γ t X) (states_has g a b))

  pub sub_tried : Chains R → Admitted R → (n : ℕ) {E A B : ℕ} {Γ : Env} {X Y : Ty} → IsSub (gets L) n E A B → EnvAt (gets L) E Γ → TypeAt (gets L) A X
      → TypeAt (gets L) B Y → Tries R Γ X Y
  sub_tried chains admitted n {Γ = Γ} {X} {Y} x g a b =
      tried chains admitted (stated_derivable R (gets L) (sure L) n _ x.3 (is_sub Γ X Y) (states_sub g a b))

-- a type's line says the same where there are more lines
pub type_stays : {G H : Get} {n : ℕ} {X : Ty} → TypeAt G n X → G ⊑ H → H n ≡ G n
type_stays (TypeAt.type_at e x) o = o _ _ e ∙ sym e

module _ {R : Rule} (chains : Chains R) (admitted : Admitted R) where
  -- a term is brought to a wanted type, if its own is below it

  pub brought_good : (On : Listing R → Listing R → Type 0) → ((L : Listing R) → On L L)
      → ((L M K : Listing R) → On L M → On M K → On L K) → ((L M : Listing R) → On L M → gets L ⊑ gets M)
      → (Q : Listing R → ℕ → ℕ → Type 0) (N : Type 0) (L : Listing R) (E a p A B : ℕ) (k : ℕ → Plan) {Γ : Env} {t : Tm} {X Y : Ty}
      → EnvAt (gets L) E Γ → TermAt (gets L) a t → TypeAt (gets L) A X → TypeAt (gets L) B Y → Has (gets L) p E a A
      → ((Tries R Γ X Y → ⊥) → N)
      → ((M : Listing R) → On L M → (q : ℕ) → Has (gets M) q E a B → Tries R Γ X Y → Valid_on R On Q N (k q) M)
      → Valid_on R On Q N (brought E a p A B k) L
  brought_good On same on_via lines Q N L E a p A B k {Γ} {t} {X} {Y} g u x y h never next = go (A == B) refl
    where
      formed : Formed Γ × Within Γ X
      formed = has_formed L p h g u x

      go : (b : Bool) → (A == B) ≡ b
          → Valid_on R On Q N (cond b (k p) (ask (seek_sub E A B) (λ q x. ask (seek_subsumed E a B p q) (λ n y. k n)))) L
      go true e =
          let equal = eqb-true A B e in
          let here : X ≡ Y = type_one (subst (λ C. TypeAt (gets L) C X) equal x) y in
          next L (same L) p (subst (λ C. Has (gets L) p E a C) equal h) (subst (Tries R Γ X) here (try_same formed.1))
      go false e = (
        below Γ X Y,
        means_sub g x y,
        (λ z. never (λ s. z (formed.0, s))),
        λ M o q r s i.
            let l = lines L M o in (
              subsumed Γ t Y,
              means_subsumed (env_on l g) (term_on l u) (type_on l y) (has_on l h) s,
              (λ z. absurd (z tt)),
              λ K w n r' s' i'.
                  next K (on_via L M K o w) n s' (sub_tried M chains admitted q s (env_on l g) (type_on l x) (type_on l y)),
            ),
      )

  brought_valid : (Q : Listing R → ℕ → ℕ → Type 0) (N : Type 0) (L : Listing R) (E a p A B : ℕ) (k : ℕ → Plan) {Γ : Env} {t : Tm} {X Y : Ty}
      → EnvAt (gets L) E Γ → TermAt (gets L) a t → TypeAt (gets L) A X → TypeAt (gets L) B Y → Has (gets L) p E a A
      → ((Tries R Γ X Y → ⊥) → N)
      → ((M : Listing R) → gets L ⊑ gets M → (q : ℕ) → Has (gets M) q E a B → Tries R Γ X Y → Valid R Q N (k q) M)
      → Valid R Q N (brought E a p A B k) L
  brought_valid = brought_good (λ L M. gets L ⊑ gets M) (λ L n s e. e) (λ L M K o q. via o q) (λ L M o. o)

  -- exposure

  module _ (E : ℕ) (W : Placed) (Γ : Env) (f : Tm) (F : Ty) (Q : Listing R → ℕ → ℕ → Type 0) (N : Type 0) where
    -- what has to be had of the plan that goes on where a type that is no variable is exposed
    abbrev Ends : Listing R → Type 0
    Ends L =
        (M : Listing R) → gets L ⊑ gets M → (p T : ℕ) (t : TypeLine) (Z : Ty) → gets M T ≡ Some (type_line t) → TypeOf (gets M) t Z
        → Has (gets M) p E (exposed_line W) T → Exposes Γ F Z → Valid R Q N (exposed_plan E W p T t) M

    abbrev Same_exposure : Ty → Type 0
    Same_exposure X = ((S : Ty) → Exposes Γ F S → Exposes Γ X S) × ((S : Ty) → Exposes Γ X S → Exposes Γ F S)

    through_var : {k : ℕ} {Y : Ty} → Bound Γ k Y → Same_exposure (var k) → Same_exposure Y
    through_var {k} {Y} b s = (λ S x. back (s.0 S x), λ S x. s.1 S (exposes_var b x))
      where
        back : {S : Ty} → Exposes Γ (var k) S → Exposes Γ Y S
        back {S} (exposes_var c x) = subst (λ Z. Exposes Γ Z S) (bound_unique c b) x

    some_bound : {k : ℕ} {S : Ty} → Exposes Γ (var k) S → (A : Ty) × Bound Γ k A
    some_bound (exposes_var b x) = (_, b)

    abbrev Exposing : ℕ → Type 0
    Exposing most =
        (L : Listing R) (p T : ℕ) (t : TypeLine) (X : Ty) → EnvAt (gets L) E Γ → TermAt (gets L) (exposed_line W) f
        → gets L T ≡ Some (type_line t) → TypeOf (gets L) t X → Has (gets L) p E (exposed_line W) T → Same_exposure X
        → ((k : ℕ) → X ≡ var k → depth Γ < most + k) → Ends L → Valid R Q N (exposing_plan most E W p T (Some t)) L

    ends_on : (L M : Listing R) → gets L ⊑ gets M → Ends L → Ends M
    ends_on L M o ends K q = ends K (via o q)

    exposing_at : (most : ℕ) → Exposing most → (L : Listing R) (p T : ℕ) {X : Ty} → EnvAt (gets L) E Γ → TermAt (gets L) (exposed_line W) f
        → TypeAt (gets L) T X → Has (gets L) p E (exposed_line W) T → Same_exposure X → ((k : ℕ) → X ≡ var k → depth Γ < most + k) → Ends L
        → Valid R Q N (exposing_plan most E W p T (as_type (gets L T))) L
    exposing_at most by L p T {X} g u (TypeAt.type_at {t = t} e x) h s m ends =
        subst (λ o. Valid R Q N (exposing_plan most E W p T (as_type o)) L) (sym e) (by L p T t X g u e x h s m ends)

    module _ (never : ((S : Ty) → Exposes Γ F S → ⊥) → N) where
      exposing_by : (most : ℕ) → Exposing most
      exposing_by most L p T t X g u e of_top h s m ends = ends L (λ n s f. f) p T top' top e of_top h (s.1 top exposes_top)
      exposing_by most L p T t X g u e (of_arrow x y) h s m ends = ends L (λ n s f. f) p T t X e (of_arrow x y) h (s.1 X exposes_arrow)
      exposing_by most L p T t X g u e (of_all x y) h s m ends = ends L (λ n s f. f) p T t X e (of_all x y) h (s.1 X exposes_all)
      exposing_by most L p T t X g u e (of_rec x) h s m ends = ends L (λ n s f. f) p T t X e (of_rec x) h (s.1 X exposes_rec)
      exposing_by zero L p T t X g u e (of_var {k = k}) h s m ends =
          never (λ S x. let b = some_bound (s.0 S x) in let z : ⊥ = omega (arith, m k refl, (bound_within b.1).1) in z)
      exposing_by (suc most) L p T t X g u e (of_var {k = k}) h s m ends =
          let formed = (has_formed L p h g u (TypeAt.type_at e of_var)).0 in (
            below_bound Γ k,
            means_var g (TypeAt.type_at e of_var),
            (λ z. never (λ S x. z (formed, some_bound (s.0 S x)))),
            λ M o q U v i.
                let (Y, y, b) = var_bound M q E T U v (env_on o g) (TypeAt.type_at (o _ _ e) of_var) in (
                  subsumed Γ f Y,
                  means_subsumed (env_on o g) (term_on o u) y (has_on o h) (var_below M q E T U v),
                  (λ z. absurd (z tt)),
                  λ K w r x v' i'. (
                    λ P l. ap (λ o. exposing_plan most E W r U (as_type o)) (type_stays (type_on w y) l),
                    exposing_at most (λ L p T t X g u e x h s m ends. exposing_by most L p T t X g u e x h s m ends) K r U (env_on (via o w) g)
                        (term_on (via o w) u) (type_on w y) v' (through_var b s)
                        (λ j e. let far : k < j = bound_further b formed j e in omega (arith, m k refl, far)) (ends_on L K (via o w) ends),
                  ),
                ),
          )

      -- from where the function's own type is known
      pub exposure_valid : (L : Listing R) (p T : ℕ) → EnvAt (gets L) E Γ → TermAt (gets L) (exposed_line W) f → TypeAt (gets L) T F
          → Has (gets L) p E (exposed_line W) T → Ends L → Valid R Q N (exposure E W p T) L
      exposure_valid L p T g u x h ends = (
        λ P l. ap (λ o. exposing_plan (suc E) E W p T (as_type o)) (type_stays x l),
        exposing_at (suc E) (exposing_by (suc E)) L p T g u x h (λ S x. x, λ S x. x)
            (λ k e. let deep : depth Γ < E = depth_below L g in omega (arith, deep)) ends,
      )

  -- the goal of a term, and its end

  abbrev Typing_goal : (E : ℕ) → Placed → Env → Tm → Plan → Listing R → Type 0
  Typing_goal E W Γ t p L = ValidFor R (seek_term E W) (typed Γ t) p L

  -- 71 and 72

  var_has : {Γ : Env} {k : ℕ} → (A : Ty) × Least R Γ (var_term k) A → Formed Γ × ((A : Ty) × Typing Γ k A)
  var_has (A, least_var f t) = (f, (A, t))

  var_valid : (L : Listing R) (E byte k n : ℕ) {Γ : Env} → EnvAt (gets L) E Γ → gets L n ≡ Some (term_line (var_term' k))
      → Typing_goal E (var_placed byte k n) Γ (var_term k) (term_plan (gets L) E (var_placed byte k n)) L
  var_valid L E byte k n {Γ} g e = (
    an_env Γ,
    means_env g,
    (λ h x. h (var_has x).0),
    λ M o p x s i. (
      typing_of Γ k,
      means_typing (env_on o g),
      (λ h x. h (var_has x).1),
      λ K q r A t l.
          let h = via o q in
          let (X, a, d) = typing_in R (gets K) (sure K) t (env_on h g) in (
            okay_has K (Follows.has_var (h _ _ e) (is_env_on q s) t) (env_on h g) (TermAt.term_at (h _ _ e) of_var_term) a,
            λ P w m f.
                ((h_var, p, r, 0, f), (X, type_on w a, least_var (env_formed M p s (env_on o g)) d)),
          ),
    ),
  )

  top_has : {Γ : Env} → (A : Ty) × Least R Γ top_term A → Formed Γ
  top_has (A, least_top f) = f

  top_valid : (L : Listing R) (E byte n : ℕ) {Γ : Env} → EnvAt (gets L) E Γ → gets L n ≡ Some (term_line top_term')
      → Typing_goal E (top_placed byte n) Γ top_term (term_plan (gets L) E (top_placed byte n)) L
  top_valid L E byte n {Γ} g e = (
    an_env Γ,
    means_env g,
    (λ h x. h (top_has x)),
    λ M o p x s i. (
      okay_type M tt of_top,
      λ K q A a.
          let h = via o q in (
            okay_has K (Follows.has_top (h _ _ e) a (is_env_on q s)) (env_on h g) (TermAt.term_at (h _ _ e) of_top_term) (TypeAt.type_at a of_top),
            λ P w m f.
                ((h_top, p, 0, 0, f), (top, TypeAt.type_at (w _ _ a) of_top, least_top (env_formed M p s (env_on o g)))),
          ),
    ),
  )

  -- 73 and 75

  fun_has : {Γ : Env} {A : Ty} {b : Tm} → (C : Ty) × Least R Γ (fun A b) C → (B : Ty) × Least R (with_term Γ A) b B
  fun_has (C, least_fun l) = (_, l)

  fun_valid : (L : Listing R) (E byte m n : ℕ) (b : Placed) {Γ : Env} {A : Ty} {t : Tm} → EnvAt (gets L) E Γ
      → gets L n ≡ Some (term_line (fun' m (line_at b))) → TypeAt (gets L) m A → PlacedAt (gets L) b t
      → Typing_goal E (fun_placed byte m b n) Γ (fun A t) (term_plan (gets L) E (fun_placed byte m b n)) L
  fun_valid L E byte m n b {Γ} {A} {t} g e x y = (
    okay_env L (of_with_term g x),
    λ M o F f. (
      typed (with_term Γ A) t,
      means_term (EnvAt.env_at f (of_with_term (env_on o g) (type_on o x))) (placed_on o y),
      (λ h z. h (fun_has z)),
      λ K q p B s i. (
        okay_type K tt (of_arrow (type_on (via o q) x) i.1),
        λ P w C c.
            let h = via o (via q w) in
            let a = TypeAt.type_at c (of_arrow (type_on h x) (type_on w i.1)) in (
              okay_has P (Follows.has_fun (h _ _ e) c (via q w _ _ f) (has_on w s)) (env_on h g) (TermAt.term_at (h _ _ e) (of_fun (type_on h x) (placed_term (placed_on h y)))) a,
              λ P' w' k d.
                  ((h_fun, p, 0, 0, d), (arrow A i.0, type_on w' a, least_fun i.2)),
            ),
      ),
    ),
  )

  fun2_has : {Γ : Env} {A : Ty} {b : Tm} → (C : Ty) × Least R Γ (fun2 A b) C → (B : Ty) × Least R (with_type Γ A) b B
  fun2_has (C, least_fun2 l) = (_, l)

  fun2_valid : (L : Listing R) (E byte m n : ℕ) (b : Placed) {Γ : Env} {A : Ty} {t : Tm} → EnvAt (gets L) E Γ
      → gets L n ≡ Some (term_line (fun2' m (line_at b))) → TypeAt (gets L) m A → PlacedAt (gets L) b t
      → Typing_goal E (fun2_placed byte m b n) Γ (fun2 A t) (term_plan (gets L) E (fun2_placed byte m b n)) L
  fun2_valid L E byte m n b {Γ} {A} {t} g e x y = (
    okay_env L (of_with_type g x),
    λ M o F f. (
      typed (with_type Γ A) t,
      means_term (EnvAt.env_at f (of_with_type (env_on o g) (type_on o x))) (placed_on o y),
      (λ h z. h (fun2_has z)),
      λ K q p B s i. (
        okay_type K tt (of_all (type_on (via o q) x) i.1),
        λ P w C c.
            let h = via o (via q w) in
            let a = TypeAt.type_at c (of_all (type_on h x) (type_on w i.1)) in (
              okay_has P (Follows.has_fun2 (h _ _ e) c (via q w _ _ f) (has_on w s)) (env_on h g) (TermAt.term_at (h _ _ e) (of_fun2 (type_on h x) (placed_term (placed_on h y)))) a,
              λ P' w' k d.
                  ((h_fun2, p, 0, 0, d), (all A i.0, type_on w' a, least_fun2 i.2)),
            ),
      ),
    ),
  )

  -- 74

  appl_has : {Γ : Env} {b a : Tm} {B : Ty} → Least R Γ (appl b a) B
      → (F : Ty) × (A : Ty) × (C : Ty) × Least R Γ b F × Exposes Γ F (arrow A B) × Least R Γ a C × Tries R Γ C A
  appl_has (least_appl l x m t) = (_, _, _, l, x, m, t)

  appl_valid : (L : Listing R) (E byte n : ℕ) (b a : Placed) {Γ : Env} {t u : Tm} → EnvAt (gets L) E Γ
      → gets L n ≡ Some (term_line (appl' (line_at b) (line_at a))) → PlacedAt (gets L) b t → PlacedAt (gets L) a u
      → Typing_goal E (appl_placed byte b a n) Γ (appl t u) (term_plan (gets L) E (appl_placed byte b a n)) L
  appl_valid L E byte n b a {Γ} {t} {u} g e x y = (
    typed Γ t,
    means_term g x,
    (λ h z. h (_, (appl_has z.1).3)),
    λ M o p T s i.
        exposure_valid E (appl_placed byte b a n) Γ t i.0 (Answered R (seek_term E (appl_placed byte b a n)) (typed Γ (appl t u)))
        (Holds R (typed Γ (appl t u)) → ⊥) (λ h z. none i.2 h z) M p T (env_on o g) (placed_term (placed_on o x)) i.1 s
        (λ K q r S k Z d w v c. ends K (via o q) r S k Z d w v i.2 c),
  )
    where
      none : {F : Ty} → Least R Γ t F → ((S : Ty) → Exposes Γ F S → ⊥) → (B : Ty) × Least R Γ (appl t u) B → ⊥
      none {F} l h (B, m) =
          let (G, A, C, k, x, w, s) = appl_has m in
          h (arrow A B) (subst (λ Z. Exposes Γ Z (arrow A B)) (least_unique k l) x)

      other : {F Z : Ty} → Least R Γ t F → Exposes Γ F Z → ((A B : Ty) → arrow A B ≡ Z → ⊥) → (B : Ty) × Least R Γ (appl t u) B → ⊥
      other {F} {Z} l x h (B, m) =
          let (G, A, C, k, x', w, s) = appl_has m in
          h A B (exposes_unique (subst (λ Z. Exposes Γ Z (arrow A B)) (least_unique k l) x') x)

      -- the argument is below what the function wants
      below_wanted : {F A B C : Ty} → Least R Γ t F → Exposes Γ F (arrow A B) → Least R Γ u C → (D : Ty) × Least R Γ (appl t u) D → Tries R Γ C A
      below_wanted {F} {A} {B} {C} l x m (D, z) =
          let (G, A', C', k, x', m', s) = appl_has z in
          let same : arrow A' D ≡ arrow A B = exposes_unique (subst (λ Z. Exposes Γ Z (arrow A' D)) (least_unique k l) x') x in
          let first : A' ≡ A = cc in
          subst₂ (Tries R Γ) (least_unique m' m) first s

      ends : (K : Listing R) → gets L ⊑ gets K → (p T : ℕ) (k : TypeLine) (Z : Ty) → gets K T ≡ Some (type_line k) → TypeOf (gets K) k Z
          → Has (gets K) p E (line_at b) T → {F : Ty} → Least R Γ t F → Exposes Γ F Z
          → Typing_goal E (appl_placed byte b a n) Γ (appl t u) (exposed_plan E (appl_placed byte b a n) p T k) K
      ends K o p T k Z d (of_arrow {a = i₁} {b = i₂} {A = A} {B = B} v w) h l c = (
        typed Γ u,
        means_term (env_on o g) (placed_on o y),
        (λ z m. z (_, (appl_has m.1).5)),
        λ P q r C s i.
            brought_valid (Answered R (seek_term E (appl_placed byte b a n)) (typed Γ (appl t u))) (Holds R (typed Γ (appl t u)) → ⊥) P E (line_at a) r C i₁
            (λ j. pay (close (has_judged h_appl E n i₂ p j 0)))
            (env_on (via o q) g) (placed_term (placed_on (via o q) y)) i.1 (type_on q v) s (λ z m. z (below_wanted l c i.2 m)) (λ N j f h' tr.
            let w' = via (via o q) j in (
              okay_has N (Follows.has_appl (w' _ _ e) (via q j _ _ d) (has_on (via q j) h) h') (env_on w' g)
                  (TermAt.term_at (w' _ _ e) (of_appl (placed_term (placed_on w' x)) (placed_term (placed_on w' y)))) (type_on (via q j) w),
              λ P' j' m f'.
                  ((h_appl, p, f, 0, f'), (B, type_on (via (via q j) j') w, least_appl l c i.2 tr)),
            )),
      )
      ends K o p T k Z d of_top h l c = λ m. other l c (λ A B e. cc) m
      ends K o p T k Z d of_var h l c = λ m. other l c (λ A B e. cc) m
      ends K o p T k Z d (of_all v w) h l c = λ m. other l c (λ A B e. cc) m
      ends K o p T k Z d (of_rec v) h l c = λ m. other l c (λ A B e. cc) m

  -- 76

  appl2_has : {Γ : Env} {b : Tm} {C D : Ty} → Least R Γ (appl2 b C) D
      → (F : Ty) × (A : Ty) × (B : Ty) × Least R Γ b F × Exposes Γ F (all A B) × Tries R Γ C A
  appl2_has (least_appl2 l x t) = (_, _, _, l, x, t)

  appl2_valid : (L : Listing R) (E byte m n : ℕ) (b : Placed) {Γ : Env} {t : Tm} {S : Ty} → EnvAt (gets L) E Γ
      → gets L n ≡ Some (term_line (appl2' (line_at b) m)) → PlacedAt (gets L) b t → TypeAt (gets L) m S
      → Typing_goal E (appl2_placed byte b m n) Γ (appl2 t S) (term_plan (gets L) E (appl2_placed byte b m n)) L
  appl2_valid L E byte m n b {Γ} {t} {S} g e x y = (
    typed Γ t,
    means_term g x,
    (λ h z. h (_, (appl2_has z.1).3)),
    λ M o p T s i.
        exposure_valid E (appl2_placed byte b m n) Γ t i.0 (Answered R (seek_term E (appl2_placed byte b m n)) (typed Γ (appl2 t S)))
        (Holds R (typed Γ (appl2 t S)) → ⊥) (λ h z. none i.2 h z) M p T (env_on o g) (placed_term (placed_on o x)) i.1 s
        (λ K q r U k Z d w v c. ends K (via o q) r U k Z d w v i.2 c),
  )
    where
      none : {F : Ty} → Least R Γ t F → ((S : Ty) → Exposes Γ F S → ⊥) → (B : Ty) × Least R Γ (appl2 t S) B → ⊥
      none {F} l h (D, z) =
          let (G, A, B, k, x, s) = appl2_has z in
          h (all A B) (subst (λ Z. Exposes Γ Z (all A B)) (least_unique k l) x)

      other : {F Z : Ty} → Least R Γ t F → Exposes Γ F Z → ((A B : Ty) → all A B ≡ Z → ⊥) → (B : Ty) × Least R Γ (appl2 t S) B → ⊥
      other {F} {Z} l x h (D, z) =
          let (G, A, B, k, x', s) = appl2_has z in
          h A B (exposes_unique (subst (λ Z. Exposes Γ Z (all A B)) (least_unique k l) x') x)

      -- the argument is below the bound
      below_bound_of : {F A B : Ty} → Least R Γ t F → Exposes Γ F (all A B) → (D : Ty) × Least R Γ (appl2 t S) D → Tries R Γ S A
      below_bound_of {F} {A} {B} l x (D, z) =
          let (G, A', B', k, x', s) = appl2_has z in
          let same : all A' B' ≡ all A B = exposes_unique (subst (λ Z. Exposes Γ Z (all A' B')) (least_unique k l) x') x in
          let first : A' ≡ A = cc in
          subst (Tries R Γ S) first s

      ends : (K : Listing R) → gets L ⊑ gets K → (p T : ℕ) (k : TypeLine) (Z : Ty) → gets K T ≡ Some (type_line k) → TypeOf (gets K) k Z
          → Has (gets K) p E (line_at b) T → {F : Ty} → Least R Γ t F → Exposes Γ F Z
          → Typing_goal E (appl2_placed byte b m n) Γ (appl2 t S) (exposed_plan E (appl2_placed byte b m n) p T k) K
      ends K o p T k Z d (of_all {A = A} {B = B} v w) h l c = (
        below Γ S A,
        means_sub (env_on o g) (type_on o y) v,
        (λ z r. z ((has_formed K p h (env_on o g) (placed_term (placed_on o x)) (TypeAt.type_at d (of_all v w))).0, below_bound_of l c r)),
        λ P q r u s i. (
          replaced 1 S B,
          means_putting (omega arith) (type_on q w) (type_on (via o q) y),
          (λ z. absurd (z tt)),
          λ N j f D s' i'.
              let w' = via (via o q) j in
              let r' = putted_of R (gets N) (sure N) s' (type_on (via q j) w) (type_on w' y) in (
                okay_has N (Follows.has_appl2 (w' _ _ e) (via q j _ _ d) (has_on (via q j) h) (is_sub_on j s) s') (env_on w' g)
                    (TermAt.term_at (w' _ _ e) (of_appl2 (placed_term (placed_on w' x)) (type_on w' y))) r',
                λ P' j' m' f'.
                    ((h_appl2, p, r, f, f'), (put 1 S B, type_on j' r', least_appl2 l c (sub_tried P chains admitted r s (env_on (via o q) g) (type_on (via o q) y) (type_on q v)))),
              ),
        ),
      )
      ends K o p T k Z d of_top h l c = λ m. other l c (λ A B e. cc) m
      ends K o p T k Z d of_var h l c = λ m. other l c (λ A B e. cc) m
      ends K o p T k Z d (of_arrow v w) h l c = λ m. other l c (λ A B e. cc) m
      ends K o p T k Z d (of_rec v) h l c = λ m. other l c (λ A B e. cc) m

  -- 78

  unfold_has : {Γ : Env} {a : Tm} {D : Ty} → Least R Γ (unfold_term a) D → (F : Ty) × (B : Ty) × Least R Γ a F × Exposes Γ F (rec B)
  unfold_has (least_unfold l x) = (_, _, l, x)

  unfold_valid : (L : Listing R) (E byte n : ℕ) (a : Placed) {Γ : Env} {t : Tm} → EnvAt (gets L) E Γ
      → gets L n ≡ Some (term_line (unfold_term' (line_at a))) → PlacedAt (gets L) a t
      → Typing_goal E (unfold_placed byte a n) Γ (unfold_term t) (term_plan (gets L) E (unfold_placed byte a n)) L
  unfold_valid L E byte n a {Γ} {t} g e x = (
    typed Γ t,
    means_term g x,
    (λ h z. h (_, (unfold_has z.1).2)),
    λ M o p T s i.
        exposure_valid E (unfold_placed byte a n) Γ t i.0 (Answered R (seek_term E (unfold_placed byte a n)) (typed Γ (unfold_term t)))
        (Holds R (typed Γ (unfold_term t)) → ⊥) (λ h z. none i.2 h z) M p T (env_on o g) (placed_term (placed_on o x)) i.1 s
        (λ K q r U k Z d w v c. ends K (via o q) r U k Z d w v i.2 c),
  )
    where
      none : {F : Ty} → Least R Γ t F → ((S : Ty) → Exposes Γ F S → ⊥) → (B : Ty) × Least R Γ (unfold_term t) B → ⊥
      none {F} l h (D, z) =
          let (G, B, k, x) = unfold_has z in
          h (rec B) (subst (λ Z. Exposes Γ Z (rec B)) (least_unique k l) x)

      other : {F Z : Ty} → Least R Γ t F → Exposes Γ F Z → ((B : Ty) → rec B ≡ Z → ⊥) → (B : Ty) × Least R Γ (unfold_term t) B → ⊥
      other {F} {Z} l x h (D, z) =
          let (G, B, k, x') = unfold_has z in
          h B (exposes_unique (subst (λ Z. Exposes Γ Z (rec B)) (least_unique k l) x') x)

      ends : (K : Listing R) → gets L ⊑ gets K → (p T : ℕ) (k : TypeLine) (Z : Ty) → gets K T ≡ Some (type_line k) → TypeOf (gets K) k Z
          → Has (gets K) p E (line_at a) T → {F : Ty} → Least R Γ t F → Exposes Γ F Z
          → Typing_goal E (unfold_placed byte a n) Γ (unfold_term t) (exposed_plan E (unfold_placed byte a n) p T k) K
      ends K o p T k Z d (of_rec {B = B} v) h l c =
          let whole = TypeAt.type_at d (of_rec v) in (
            replaced 1 (rec B) B,
            means_putting (omega arith) v whole,
            (λ z. absurd (z tt)),
            λ N j f D s' i'.
                let w' = via o j in
                let r' = putted_of R (gets N) (sure N) s' (type_on j v) (type_on j whole) in (
                  okay_has N (Follows.has_unfold (w' _ _ e) (j _ _ d) (has_on j h) s') (env_on w' g)
                      (TermAt.term_at (w' _ _ e) (of_unfold (placed_term (placed_on w' x)))) r',
                  λ P' j' m' f'.
                      ((h_unfold, p, f, 0, f'), (put 1 (rec B) B, type_on j' r', least_unfold l c)),
                ),
          )
      ends K o p T k Z d of_top h l c = λ m. other l c (λ B e. cc) m
      ends K o p T k Z d of_var h l c = λ m. other l c (λ B e. cc) m
      ends K o p T k Z d (of_arrow v w) h l c = λ m. other l c (λ B e. cc) m
      ends K o p T k Z d (of_all v w) h l c = λ m. other l c (λ B e. cc) m

  -- 77

  fold_has : {Γ : Env} {a : Tm} {A D : Ty} → Least R Γ (fold_term A a) D
      → (B : Ty) × (C : Ty) × (A ≡ rec B) × Least R Γ a C × Tries R Γ C (put 1 (rec B) B)
  fold_has (least_fold l t) = (_, _, refl, l, t)

  fold_by : (L : Listing R) (E byte m n : ℕ) (a : Placed) {k : TypeLine} {Γ : Env} {A : Ty} {t : Tm} → EnvAt (gets L) E Γ
      → gets L n ≡ Some (term_line (fold_term' m (line_at a))) → gets L m ≡ Some (type_line k) → TypeOf (gets L) k A → PlacedAt (gets L) a t
      → Typing_goal E (fold_placed byte m a n) Γ (fold_term A t) (fold_plan E m a n (Some k)) L
  fold_by L E byte m n a {Γ = Γ} {t = t} g e d (of_rec {B = B} b) y =
      let whole = TypeAt.type_at d (of_rec b) in (
        replaced 1 (rec B) B,
        means_putting (omega arith) b whole,
        (λ z. absurd (z tt)),
        λ M o p C s i.
            let c = putted_of R (gets M) (sure M) s (type_on o b) (type_on o whole) in (
              typed Γ t,
              means_term (env_on o g) (placed_on o y),
              (λ h z. h (_, (fold_has z.1).3)),
              λ P q r D s' l.
                  brought_valid (Answered R (seek_term E (fold_placed byte m a n)) (typed Γ (fold_term (rec B) t))) (Holds R (typed Γ (fold_term (rec B) t)) → ⊥)
                  P E (line_at a) r D C (λ j. pay (close (has_judged h_fold E n m p j 0))) (env_on (via o q) g) (placed_term (placed_on (via o q) y)) l.1 (type_on q c) s'
                  (λ h z. h (unfolded l.2 z)) (λ N j f h' tr.
                  let w = via (via o q) j in (
                    okay_has N (Follows.has_fold (w _ _ e) (w _ _ d) (puts_on (via q j) s) h') (env_on w g)
                        (TermAt.term_at (w _ _ e) (of_fold (type_on w whole) (placed_term (placed_on w y)))) (type_on w whole),
                    λ P' j' m' f'.
                        ((h_fold, p, f, 0, f'), (rec B, type_on (via w j') whole, least_fold l.2 tr)),
                  )),
            ),
      )
    where
      unfolded : {C : Ty} → Least R Γ t C → (D : Ty) × Least R Γ (fold_term (rec B) t) D → Tries R Γ C (put 1 (rec B) B)
      unfolded l (D, z) =
          let (B', C', same, k, s) = fold_has z in
          let body : B' ≡ B = cc in
          subst₂ (Tries R Γ) (least_unique k l) (ap (λ Z. put 1 (rec Z) Z) body) s
  fold_by L E byte m n a g e d of_top y = λ z. let (B, C, same, k, s) = fold_has z.1 in cc
  fold_by L E byte m n a g e d of_var y = λ z. let (B, C, same, k, s) = fold_has z.1 in cc
  fold_by L E byte m n a g e d (of_arrow v w) y = λ z. let (B, C, same, k, s) = fold_has z.1 in cc
  fold_by L E byte m n a g e d (of_all v w) y = λ z. let (B, C, same, k, s) = fold_has z.1 in cc

  fold_valid : (L : Listing R) (E byte m n : ℕ) (a : Placed) {Γ : Env} {A : Ty} {t : Tm} → EnvAt (gets L) E Γ
      → gets L n ≡ Some (term_line (fold_term' m (line_at a))) → TypeAt (gets L) m A → PlacedAt (gets L) a t
      → Typing_goal E (fold_placed byte m a n) Γ (fold_term A t) (term_plan (gets L) E (fold_placed byte m a n)) L
  fold_valid L E byte m n a {Γ} {A} {t} g e (TypeAt.type_at d x) y =
      subst (λ o. Typing_goal E (fold_placed byte m a n) Γ (fold_term A t) (fold_plan E m a n (as_type o)) L) (sym d)
      (fold_by L E byte m n a g e d x y)

  -- 79

  rec_has : {Γ : Env} {A D : Ty} {b : Tm} → Least R Γ (rec_term A b) D → (B : Ty) × Least R (with_term Γ A) b B × Tries R (with_term Γ A) B A
  rec_has (least_rec l t) = (_, l, t)

  rec_valid : (L : Listing R) (E byte m n : ℕ) (b : Placed) {Γ : Env} {A : Ty} {t : Tm} → EnvAt (gets L) E Γ
      → gets L n ≡ Some (term_line (rec_term' m (line_at b))) → TypeAt (gets L) m A → PlacedAt (gets L) b t
      → Typing_goal E (rec_placed byte m b n) Γ (rec_term A t) (term_plan (gets L) E (rec_placed byte m b n)) L
  rec_valid L E byte m n b {Γ} {A} {t} g e x y = (
    okay_env L (of_with_term g x),
    λ M o F f. (
      typed (with_term Γ A) t,
      means_term (EnvAt.env_at f (of_with_term (env_on o g) (type_on o x))) (placed_on o y),
      (λ h z. h (_, (rec_has z.1).1)),
      λ K q p B s i.
          brought_valid (Answered R (seek_term E (rec_placed byte m b n)) (typed Γ (rec_term A t))) (Holds R (typed Γ (rec_term A t)) → ⊥)
          K F (line_at b) p B m (λ j. pay (close (has_judged h_rec E n m j 0 0)))
          (EnvAt.env_at (q _ _ f) (of_with_term (env_on (via o q) g) (type_on (via o q) x))) (placed_term (placed_on (via o q) y)) i.1 (type_on (via o q) x) s
          (λ h z. h (below_stated i.2 z)) (λ N j r h' tr.
          let w = via (via o q) j in (
            okay_has N (Follows.has_rec (w _ _ e) (via q j _ _ f) h') (env_on w g)
                (TermAt.term_at (w _ _ e) (of_rec_term (type_on w x) (placed_term (placed_on w y)))) (type_on w x),
            λ P' j' m' f'.
                ((h_rec, r, 0, 0, f'), (A, type_on (via w j') x, least_rec i.2 tr)),
          )),
    ),
  )
    where
      below_stated : {C : Ty} → Least R (with_term Γ A) t C → (D : Ty) × Least R Γ (rec_term A t) D → Tries R (with_term Γ A) C A
      below_stated l (D, z) =
          let (B, k, s) = rec_has z in
          subst (λ Z. Tries R (with_term Γ A) Z A) (least_unique k l) s

  -- 70 to 79

  pub term_valid : (L : Listing R) (E : ℕ) {p : Placed} {Γ : Env} {t : Tm} → EnvAt (gets L) E Γ → PlacedAt (gets L) p t
      → Typing_goal E p Γ t (term_plan (gets L) E p) L
  term_valid L E g (top_at {byte = byte} e) = top_valid L E byte _ g e
  term_valid L E g (var_at {byte = byte} e) = var_valid L E byte _ _ g e
  term_valid L E g (fun_at {byte = byte} e x y) = fun_valid L E byte _ _ _ g e x y
  term_valid L E g (appl_at e x y) = appl_valid L E _ _ _ _ g e x y
  term_valid L E g (fun2_at {byte = byte} e x y) = fun2_valid L E byte _ _ _ g e x y
  term_valid L E g (appl2_at e x y) = appl2_valid L E _ _ _ _ g e x y
  term_valid L E g (fold_at {byte = byte} e x y) = fold_valid L E byte _ _ _ g e x y
  term_valid L E g (unfold_at e x) = unfold_valid L E _ _ _ g e x
  term_valid L E g (rec_at {byte = byte} e x y) = rec_valid L E byte _ _ _ g e x y

pub subsumed_valid : {R : Rule} (L : Listing R) (E a A B p q : ℕ) {Γ : Env} {t : Tm} {Y : Ty} → EnvAt (gets L) E Γ → TermAt (gets L) a t
    → TypeAt (gets L) B Y → Has (gets L) p E a A → IsSub (gets L) q E A B
    → ValidFor R (seek_subsumed E a B p q) (subsumed Γ t Y) (subsumed_plan E a B p q) L
subsumed_valid L E a A B p q g u y h s =
    (okay_has L (Follows.has_subsumed h s) g u y, λ M o n f. ((h_subsumed, p, q, 0, f), tt))
