-- The plans of 60 to 66 are valid, for every quantifier rule.
use Rattle.std.proofs.Common.{◌≡◌, ℕ, ◌⊎◌, Bool, true, false, cond, Some, refl, ap, sym, ◌∙◌, subst, subst₂, inl, inr}
use Rattle.std.specs.Prelude.{◌==◌}
use Rattle.rules.specs.Follows.{BoundIs, IsSub, BodyBoundIs, Follows}
use Rattle.rules.specs.Meaning.{TypeAt, TypeOf, of_top, of_var, of_arrow, of_all, of_rec, EnvAt, of_with_type}
use Rattle.rules.specs.Quantifiers.{Rule, bounds, bodies_under, body_bound}
use Rattle.rules.specs.Regular.{regular}
use Rattle.rules.specs.Statements.{TypeLine, top', var', all', type_line, s_refl, s_trans, s_var, s_top, s_arrow, s_all, sub_judged, Get}
use Rattle.rules.specs.Syntax.{Ty, top, var, arrow, all, Env, with_type, Bound}
use Rattle.rules.specs.Tries.{Tries, try_top, try_same, try_var, try_arrow, try_all_same, try_all_below}
use Rattle.rules.specs.Variables.{bound_unique}
use Rattle.rules.specs.declared.all_code.BodyBound.{BodyBound}
use Rattle.rules.specs.declared.all_code.BodyBound.TheVariants.{Left, Right}
use Rattle.rules.specs.declared.all_code.Bounds.{Bounds}
use Rattle.rules.specs.declared.all_code.Bounds.TheVariants.{Same, RightBelowLeft}
use Rattle.rules.proofs.Agree.{body_bound_within}
use Rattle.rules.proofs.Formed.{Formed}
use Rattle.rules.proofs.Means.{type_on, type_of_on, env_on, type_one, type_number}
use Rattle.rules.proofs.Says.{bound_in}
use Rattle.rules.proofs.Whole.{is_env_on, is_sub_on}
use Rattle.rules.proofs.Writing.{Listing, gets, via}
use Rattle.judge.specs.Goals.{seek_type, seek_sub, seek_var, ask, pay, close, fail}
use Rattle.judge.specs.Plans.{as_type, body_line, bodies_plan, all_plan, tries_plan, is_top, sub_plan, var_plan}
use Rattle.judge.proofs.Lines.{okay_env, okay_sub}
use Rattle.judge.proofs.Sought.{bound_of, an_env, a_type, below, below_bound, means_bound, means_env, means_type, means_sub, means_var}
use Rattle.judge.proofs.Standing.{ValidFor}
use Rattle.judge.proofs.Types.{sure}
use Rattle.std.proofs.lemmas.Bool.{eqb-true, eqb-false, true≢false, false≢true}

-- the tries where B is not Top and A is not B

abbrev AllBelow : Rule → Env → (A B C D : Ty) → Type 0
AllBelow R E A B C D =
    ((bounds R.own ≡ Same) × (A ≡ C) × Tries R (with_type E (body_bound (bodies_under R.own) A C)) B D)
    ⊎ ((bounds R.own ≡ RightBelowLeft) × Tries R E C A × Tries R (with_type E (body_bound (bodies_under R.own) A C)) B D)

abbrev Tried : Rule → Env → Ty → Ty → Type 0
Tried R E (var k) B = (A : Ty) × Bound E k A × Tries R E A B
Tried R E (arrow A B) (arrow C D) = Tries R E C A × Tries R E B D
Tried R E (all A B) (all C D) = AllBelow R E A B C D
Tried R E other another = ⊥

tries_tried : {R : Rule} {E : Env} {A B : Ty} → Tries R E A B → (B ≡ top → ⊥) → (A ≡ B → ⊥) → Tried R E A B
tries_tried (try_top w) nt ns = absurd (nt refl)
tries_tried (try_same w) nt ns = absurd (ns refl)
tries_tried (try_var b t) nt ns = (_, b, t)
tries_tried (try_arrow s t) nt ns = (s, t)
tries_tried (try_all_same e w t) nt ns = inl (e, refl, t)
tries_tried (try_all_below e s t) nt ns = inr (e, s, t)

-- All types

line_is_same : (b : BodyBound) (a c : ℕ) → a ≡ c → BodyBoundIs b a a (body_line b a c)
line_is_same Left a c e = refl
line_is_same Right a c e = sym e

line_is : (b : BodyBound) (a c : ℕ) → BodyBoundIs b a c (body_line b a c)
line_is Left a c = refl
line_is Right a c = refl

line_at : {R : Rule} (L : Listing R) (b : BodyBound) {a c : ℕ} {X Z : Ty} → TypeAt (gets L) a X → TypeAt (gets L) c Z
    → TypeAt (gets L) (body_line b a c) (body_bound b X Z)
line_at L Left x z = x
line_at L Right x z = z

same_not_below : Same ≡ RightBelowLeft → ⊥
same_not_below e = cc

all_by : {R : Rule} (L : Listing R) (E A B : ℕ) {a b c d : ℕ} {Γ : Env} {X Y Z W : Ty} → EnvAt (gets L) E Γ
    → gets L A ≡ Some (type_line (all' a b)) → TypeAt (gets L) a X → TypeAt (gets L) b Y
    → gets L B ≡ Some (type_line (all' c d)) → TypeAt (gets L) c Z → TypeAt (gets L) d W → (all X Y ≡ all Z W → ⊥)
    → (k : Bounds) → bounds R.own ≡ k → ValidFor R (seek_sub E A B) (below Γ (all X Y) (all Z W)) (all_plan R.own k E A B a b c d) L
all_by {R} L E A B {a} {b} {c} {d} {Γ} {X} {Y} {Z} {W} g e x y f z w ns RightBelowLeft i = (
  below Γ Z X,
  means_sub g z x,
  (λ h t. h (t.0, (parts t.1).0)),
  λ M o p u s l. (
    okay_env M (of_with_type (env_on o g) (line_at M (bodies_under R.own) (type_on o x) (type_on o z))),
    λ K q F v. (
      below (with_type Γ (body_bound (bodies_under R.own) X Z)) Y W,
      means_sub (EnvAt.env_at v (of_with_type (env_on (via o q) g) (line_at K (bodies_under R.own) (type_on (via o q) x) (type_on (via o q) z))))
          (type_on (via o q) y) (type_on (via o q) w),
      (λ h t. h (under t, (parts t.1).1)),
      λ P r n u' s' l'.
          let t = via o (via q r) in (
            okay_sub P R.own_admitted
                (Follows.sub_all_below R.own i (t _ _ e) (t _ _ f) (is_sub_on (via q r) s) (r _ _ v) (line_is (bodies_under R.own) a c) s') (env_on t g)
                (TypeAt.type_at (t _ _ e) (of_all (type_on t x) (type_on t y))) (TypeAt.type_at (t _ _ f) (of_all (type_on t z) (type_on t w))),
            λ P' r' m j. ((s_all R.own, p, n, j), tt),
          ),
    ),
  ),
)
  where
    parts : Tries R Γ (all X Y) (all Z W) → Tries R Γ Z X × Tries R (with_type Γ (body_bound (bodies_under R.own) X Z)) Y W
    parts t = go (tries_tried t (λ k. cc) ns)
      where
        go : AllBelow R Γ X Y Z W → Tries R Γ Z X × Tries R (with_type Γ (body_bound (bodies_under R.own) X Z)) Y W
        go (inl (same, j, t)) = absurd (same_not_below (sym same ∙ i))
        go (inr (lower, s, t)) = (s, t)

    under : Formed Γ × Tries R Γ (all X Y) (all Z W) → Formed (with_type Γ (body_bound (bodies_under R.own) X Z))
    under (h, t) = let v = regular t in (h, body_bound_within (bodies_under R.own) Γ X Z v.0.0 v.1.0)
all_by {R} L E A B {a} {b} {c} {d} {Γ} {X} {Y} {Z} {W} g e x y f z w ns Same i = go (a == c) refl
  where
    parts : Tries R Γ (all X Y) (all Z W) → (X ≡ Z) × Tries R (with_type Γ (body_bound (bodies_under R.own) X Z)) Y W
    parts t = go (tries_tried t (λ k. cc) ns)
      where
        go : AllBelow R Γ X Y Z W → (X ≡ Z) × Tries R (with_type Γ (body_bound (bodies_under R.own) X Z)) Y W
        go (inl (same, j, t)) = (j, t)
        go (inr (lower, s, t)) = absurd (same_not_below (sym i ∙ lower))

    under : Formed Γ × Tries R Γ (all X Y) (all Z W) → Formed (with_type Γ (body_bound (bodies_under R.own) X Z))
    under (h, t) = let v = regular t in (h, body_bound_within (bodies_under R.own) Γ X Z v.0.0 v.1.0)

    go : (k : Bool) → (a == c) ≡ k
        → ValidFor R (seek_sub E A B) (below Γ (all X Y) (all Z W))
        (cond k (bodies_plan R.own E A B (body_line (bodies_under R.own) a c) b d) fail) L
    go true j =
        let same = eqb-true a c j in (
          okay_env L (of_with_type g (line_at L (bodies_under R.own) x z)),
          λ K q F v. (
            below (with_type Γ (body_bound (bodies_under R.own) X Z)) Y W,
            means_sub (EnvAt.env_at v (of_with_type (env_on q g) (line_at K (bodies_under R.own) (type_on q x) (type_on q z)))) (type_on q y) (type_on q w),
            (λ h t. h (under t, (parts t.1).1)),
            λ P r n u' s' l'.
                let t = via q r in
                let f' = t _ _ f ∙ ap (λ m. Some (type_line (all' m d))) (sym same) in (
                  okay_sub P R.own_admitted
                      (Follows.sub_all_same R.own i (t _ _ e) f' (r _ _ v) (line_is_same (bodies_under R.own) a c same) s') (env_on t g)
                      (TypeAt.type_at (t _ _ e) (of_all (type_on t x) (type_on t y))) (TypeAt.type_at (t _ _ f) (of_all (type_on t z) (type_on t w))),
                  λ P' r' m l. ((s_all R.own, n, 0, l), tt),
                ),
          ),
        )
    go false j = λ t. eqb-false a c j (type_number R (gets L) (sure L) x (subst (TypeAt (gets L) c) (sym (parts t.1).0) z))

-- what a line 62 says

abbrev pub VarBelow : {R : Rule} → Listing R → (n E A C : ℕ) → Type 0
VarBelow L n E A C = (x : ℕ) × (y : ℕ) × (gets L n ≡ Some (sub_judged s_var E A C x y))

var_rests : {G : Get} {E A C p q : ℕ} → Follows G (sub_judged s_var E A C p q) → (k : ℕ) × (G A ≡ Some (type_line (var' k))) × BoundIs G q E k C
var_rests (Follows.sub_var e x y) = (_, e, y)

pub var_bound : {R : Rule} (L : Listing R) (n E A C : ℕ) {k : ℕ} {Γ : Env} → VarBelow L n E A C → EnvAt (gets L) E Γ → TypeAt (gets L) A (var k)
    → (Z : Ty) × TypeAt (gets L) C Z × Bound Γ k Z
var_bound {R} L n E A C {k} {Γ} x g a =
    let (i, e, b) = var_rests (sure L _ _ x.2).rests in
    let (Z, c, d) = bound_in R (gets L) (sure L) b g in
    (Z, c, subst (λ j. Bound Γ j Z) (same (type_one (TypeAt.type_at e of_var) a)) d)
  where
    same : {i j : ℕ} → var i ≡ var j → i ≡ j
    same e = cc

pub var_below : {R : Rule} (L : Listing R) (n E A C : ℕ) → VarBelow L n E A C → IsSub (gets L) n E A C
var_below L n E A C x = (s_var, x.0, x.1, x.2)

-- the tries

tries_by : {R : Rule} (L : Listing R) (E A B : ℕ) {s t : TypeLine} {Γ : Env} {X Y : Ty} → EnvAt (gets L) E Γ
    → gets L A ≡ Some (type_line s) → TypeOf (gets L) s X → gets L B ≡ Some (type_line t) → TypeOf (gets L) t Y
    → (Y ≡ top → ⊥) → (X ≡ Y → ⊥) → ValidFor R (seek_sub E A B) (below Γ X Y) (tries_plan R E A B (Some s) (Some t)) L
tries_by {R} L E A B {Γ = Γ} {Y = Y} g e (of_var {k = k}) f y nt ns = (
  below_bound Γ k,
  means_var g (TypeAt.type_at e of_var),
  (λ h z. h (z.0, bounded z.1)),
  λ M o p C s i.
      let (Z, c, b) = var_bound M p E A C s (env_on o g) (TypeAt.type_at (o _ _ e) of_var) in (
        below Γ Z Y,
        means_sub (env_on o g) c (TypeAt.type_at (o _ _ f) (type_of_on o y)),
        (λ h z. h (z.0, through b z.1)),
        λ K q r n s' i'.
            let h = via o q in (
              okay_sub K tt (Follows.sub_trans (is_sub_on q (var_below M p E A C s)) s') (env_on h g) (TypeAt.type_at (h _ _ e) of_var)
                  (TypeAt.type_at (h _ _ f) (type_of_on h y)),
              λ P w m l. ((s_trans, p, r, l), tt),
            ),
      ),
)
  where
    bounded : Tries R Γ (var k) Y → (Z : Ty) × Bound Γ k Z
    bounded t = let (Z, b, u) = tries_tried t nt ns in (Z, b)

    through : {Z : Ty} → Bound Γ k Z → Tries R Γ (var k) Y → Tries R Γ Z Y
    through b t = let (W, c, u) = tries_tried t nt ns in subst (λ V. Tries R Γ V Y) (bound_unique c b) u
tries_by {R} L E A B {Γ = Γ} g e (of_arrow {A = X} {B = Y} x y) f (of_arrow {A = Z} {B = W} z w) nt ns = (
  below Γ Z X,
  means_sub g z x,
  (λ h t. h (t.0, (tries_tried t.1 nt ns).0)),
  λ M o p u s i. (
    below Γ Y W,
    means_sub (env_on o g) (type_on o y) (type_on o w),
    (λ h t. h (t.0, (tries_tried t.1 nt ns).1)),
    λ K q r v s' i'.
        let h = via o q in (
          okay_sub K tt (Follows.sub_arrow (h _ _ e) (h _ _ f) (is_sub_on q s) s') (env_on h g)
              (TypeAt.type_at (h _ _ e) (of_arrow (type_on h x) (type_on h y))) (TypeAt.type_at (h _ _ f) (of_arrow (type_on h z) (type_on h w))),
          λ P w' m l.
              ((s_arrow, p, r, l), tt),
        ),
  ),
)
tries_by {R} L E A B g e (of_all x y) f (of_all z w) nt ns = all_by L E A B g e x y f z w ns (bounds R.own) refl
tries_by L E A B g e of_top f y nt ns = λ h. tries_tried h.1 nt ns
tries_by L E A B g e (of_rec x) f y nt ns = λ h. tries_tried h.1 nt ns
tries_by L E A B g e (of_arrow x y) f of_top nt ns = λ h. tries_tried h.1 nt ns
tries_by L E A B g e (of_arrow x y) f of_var nt ns = λ h. tries_tried h.1 nt ns
tries_by L E A B g e (of_arrow x y) f (of_all z w) nt ns = λ h. tries_tried h.1 nt ns
tries_by L E A B g e (of_arrow x y) f (of_rec z) nt ns = λ h. tries_tried h.1 nt ns
tries_by L E A B g e (of_all x y) f of_top nt ns = λ h. tries_tried h.1 nt ns
tries_by L E A B g e (of_all x y) f of_var nt ns = λ h. tries_tried h.1 nt ns
tries_by L E A B g e (of_all x y) f (of_arrow z w) nt ns = λ h. tries_tried h.1 nt ns
tries_by L E A B g e (of_all x y) f (of_rec z) nt ns = λ h. tries_tried h.1 nt ns

-- 60 to 66

is_top_by : {G : Get} {t : TypeLine} {Y : Ty} → TypeOf G t Y → (is_top (Some t) ≡ true → t ≡ top') × (is_top (Some t) ≡ false → Y ≡ top → ⊥)
is_top_by of_top = (λ e. refl, λ e f. true≢false e)
is_top_by of_var = (λ e. absurd (false≢true e), λ e f. cc)
is_top_by (of_arrow x y) = (λ e. absurd (false≢true e), λ e f. cc)
is_top_by (of_all x y) = (λ e. absurd (false≢true e), λ e f. cc)
is_top_by (of_rec x) = (λ e. absurd (false≢true e), λ e f. cc)

sub_by : {R : Rule} (L : Listing R) (E A B : ℕ) {s t : TypeLine} {Γ : Env} {X Y : Ty} → EnvAt (gets L) E Γ
    → gets L A ≡ Some (type_line s) → TypeOf (gets L) s X → gets L B ≡ Some (type_line t) → TypeOf (gets L) t Y
    → ValidFor R (seek_sub E A B) (below Γ X Y) (sub_plan R E A B (Some s) (Some t)) L
sub_by {R} L E A B {s} {t} {Γ} {X} {Y} g e x f y = go (is_top (Some t)) refl (A == B) refl
  where
    a : TypeAt (gets L) A X
    a = TypeAt.type_at e x

    b : TypeAt (gets L) B Y
    b = TypeAt.type_at f y

    go : (c : Bool) → is_top (Some t) ≡ c → (d : Bool) → (A == B) ≡ d
        → ValidFor R (seek_sub E A B) (below Γ X Y)
        (cond c (ask (seek_type E A) (λ p x. pay (close (sub_judged s_top E A B p 0))))
        (cond d (ask (seek_type E A) (λ p x. pay (close (sub_judged s_refl E A B p 0)))) (tries_plan R E A B (Some s) (Some t)))) L
    go true i d j = (
      a_type Γ X,
      means_type g a,
      (λ h z. h (z.0, (regular z.1).0)),
      λ M o p u q k. (
        okay_sub M tt (Follows.sub_top (o _ _ f ∙ ap (λ v. Some (type_line v)) ((is_top_by y).0 i)) q) (env_on o g) (type_on o a) (type_on o b),
        λ K r n l.
            ((s_top, p, 0, l), tt),
      ),
    )
    go false i true j = (
      a_type Γ X,
      means_type g a,
      (λ h z. h (z.0, (regular z.1).0)),
      λ M o p u q k.
          let same = eqb-true A B j in (
            okay_sub M tt (subst (λ C. Follows (gets M) (sub_judged s_refl E A C p 0)) same (Follows.sub_refl q)) (env_on o g) (type_on o a) (type_on o b),
            λ K r n l.
                ((s_refl, p, 0, l), tt),
          ),
    )
    go false i false j =
        tries_by L E A B g e x f y ((is_top_by y).1 i)
        (λ h. eqb-false A B j (type_number R (gets L) (sure L) a (subst (TypeAt (gets L) B) (sym h) b)))

pub sub_valid : {R : Rule} (L : Listing R) (E A B : ℕ) {Γ : Env} {X Y : Ty} → EnvAt (gets L) E Γ → TypeAt (gets L) A X → TypeAt (gets L) B Y
    → ValidFor R (seek_sub E A B) (below Γ X Y) (sub_plan R E A B (as_type (gets L A)) (as_type (gets L B))) L
sub_valid {R} L E A B {Γ} {X} {Y} g (TypeAt.type_at e x) (TypeAt.type_at f y) =
    subst₂ (λ o u. ValidFor R (seek_sub E A B) (below Γ X Y) (sub_plan R E A B (as_type o) (as_type u)) L) (sym e) (sym f) (sub_by L E A B g e x f y)

-- 62

pub var_valid : {R : Rule} (L : Listing R) (E A : ℕ) {k : ℕ} {Γ : Env} → EnvAt (gets L) E Γ → TypeAt (gets L) A (var k)
    → ValidFor R (seek_var E A) (below_bound Γ k) (var_plan E A (as_type (gets L A))) L
var_valid {R} L E A {k} {Γ} g (TypeAt.type_at e of_var) =
    subst (λ o. ValidFor R (seek_var E A) (below_bound Γ k) (var_plan E A (as_type o)) L) (sym e) (
      an_env Γ,
      means_env g,
      (λ h z. h z.0),
      λ M o p u s i. (
        bound_of Γ k,
        means_bound (env_on o g),
        (λ h z. h z.1),
        λ K q r C t l.
            let h = via o q in
            let (Z, c, b) = bound_in R (gets K) (sure K) t (env_on h g) in
            (okay_sub K tt (Follows.sub_var (h _ _ e) (is_env_on q s) t) (env_on h g) (TypeAt.type_at (h _ _ e) of_var) c, λ P w n f. ((p, r, f), tt)),
      ),
    )
