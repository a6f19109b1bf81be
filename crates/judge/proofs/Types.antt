-- The plans of 40 to 51 are valid.
use Rattle.std.proofs.Common.{◌≡◌, ℕ, zero, suc, pred, ◌<◌, ◌≤◌, Bool, true, false, cond, Some, refl, ap, sym, ◌∙◌, subst, arith}
use Rattle.std.specs.Prelude.{nat_lt, ◌==◌}
use Rattle.rules.specs.Follows.{Follows}
use Rattle.rules.specs.Meaning.{TypeAt, TypeOf, of_top, of_var, of_arrow, of_all, of_rec, EnvAt, EnvOf, of_empty, of_with_term, of_with_type}
use Rattle.rules.specs.Quantifiers.{Rule}
use Rattle.rules.specs.Statements.{TypeLine, var', EnvLine, type_line, env_line, raising, putting}
use Rattle.rules.specs.Syntax.{Ty, top, var, lift, Env, empty, with_term, with_type, Bound, Typing}
use Rattle.rules.specs.Variables.{bound_not_zero, bound_of as some_bound}
use Rattle.rules.proofs.Means.{type_on, env_on}
use Rattle.rules.proofs.Says.{raised_of, putted_of, bound_in, typing_in}
use Rattle.rules.proofs.Whole.{◌⊑◌, WholeSound, whole, raises_on, puts_on, bound_is_on, typing_is_on, is_env_on, is_type_on}
use Rattle.rules.proofs.Writing.{Listing, gets, via}
use Rattle.judge.specs.Goals.{seek_raising, seek_putting, seek_bound, seek_typing, seek_env, seek_type, lay, pay, close}
use Rattle.judge.specs.Plans.{as_type, as_env, raising_plan, putting_plan, bound_plan, typing_plan, env_plan, type_plan}
use Rattle.judge.proofs.Lines.{okay_type, okay_env, okay_raising, okay_putting, okay_bound, okay_typing, okay_is_env, okay_is_type}
use Rattle.judge.proofs.Sought.{raised, replaced, bound_of, typing_of, an_env, a_type, means_raising, means_putting, means_bound, means_typing, means_env, means_type}
use Rattle.judge.proofs.Standing.{ValidFor}
use Rattle.std.proofs.lemmas.Bool.{ltb-true, ltb-false, eqb-true, eqb-false}

abbrev pub sure : {R : Rule} (L : Listing R) → WholeSound R (gets L)
sure {R} L = whole R L.lines L.sound

-- 40

raising_by : {R : Rule} (L : Listing R) (A j : ℕ) {t : TypeLine} {X : Ty} → gets L A ≡ Some (type_line t) → TypeOf (gets L) t X
    → ValidFor R (seek_raising A j) (raised j X) (raising_plan A j (Some t)) L
raising_by L A j e of_top =
    (okay_raising L (Follows.raise_top e) (TypeAt.type_at e of_top) (TypeAt.type_at e of_top), λ M o n f. ((0, 0, f), tt))
raising_by {R} L A j e (of_var {k = k}) = go (nat_lt j k) refl
  where
    go : (b : Bool) → nat_lt j k ≡ b
        → ValidFor R (seek_raising A j) (raised j (var k))
        (cond b (pay (lay (type_line (var' (suc k))) (λ C. close (raising A j C 0 0)))) (pay (close (raising A j A 0 0)))) L
    go true h = (
      okay_type L (omega arith) of_var,
      λ M o C f. (
        okay_raising M (Follows.raise_high (o _ _ e) (ltb-true j k h) f) (TypeAt.type_at (o _ _ e) of_var) (TypeAt.type_at f of_var),
        λ K q n g.
            ((0, 0, g), tt),
      ),
    )
    go false h =
        (okay_raising L (Follows.raise_low e (ltb-false j k h)) (TypeAt.type_at e of_var) (TypeAt.type_at e of_var), λ M o n f. ((0, 0, f), tt))
raising_by {R} L A j e (of_arrow {A = X} {B = Y} x y) = (
  raised j X,
  means_raising x,
  (λ h. h),
  λ M o p c s i. (
    raised j Y,
    means_raising (type_on o y),
    (λ h. h),
    λ K q r d t l.
        let u = raised_of R (gets K) (sure K) (raises_on q s) (type_on (via o q) x) in
        let v = raised_of R (gets K) (sure K) t (type_on (via o q) y) in (
          okay_type K tt (of_arrow u v),
          λ P w C f.
              let e' = via (via o q) w _ _ e in
              let a = TypeAt.type_at e' (of_arrow (type_on (via (via o q) w) x) (type_on (via (via o q) w) y)) in (
                okay_raising P (Follows.raise_arrow e' f (raises_on (via q w) s) (raises_on w t)) a (TypeAt.type_at f (of_arrow (type_on w u) (type_on w v))),
                λ P' w' n g.
                    ((p, r, g), tt),
              ),
        ),
  ),
)
raising_by {R} L A j e (of_all {A = X} {B = Y} x y) = (
  raised j X,
  means_raising x,
  (λ h. h),
  λ M o p c s i. (
    raised (suc j) Y,
    means_raising (type_on o y),
    (λ h. h),
    λ K q r d t l.
        let u = raised_of R (gets K) (sure K) (raises_on q s) (type_on (via o q) x) in
        let v = raised_of R (gets K) (sure K) t (type_on (via o q) y) in (
          okay_type K tt (of_all u v),
          λ P w C f.
              let e' = via (via o q) w _ _ e in
              let a = TypeAt.type_at e' (of_all (type_on (via (via o q) w) x) (type_on (via (via o q) w) y)) in (
                okay_raising P (Follows.raise_all e' f (raises_on (via q w) s) (raises_on w t)) a (TypeAt.type_at f (of_all (type_on w u) (type_on w v))),
                λ P' w' n g.
                    ((p, r, g), tt),
              ),
        ),
  ),
)
raising_by {R} L A j e (of_rec {B = Y} y) = (
  raised (suc j) Y,
  means_raising y,
  (λ h. h),
  λ K q r d t l.
      let v = raised_of R (gets K) (sure K) t (type_on q y) in (
        okay_type K tt (of_rec v),
        λ P w C f.
            let e' = via q w _ _ e in (
              okay_raising P (Follows.raise_rec e' f (raises_on w t)) (TypeAt.type_at e' (of_rec (type_on (via q w) y))) (TypeAt.type_at f (of_rec (type_on w v))),
              λ P' w' n g.
                  ((r, 0, g), tt),
            ),
      ),
)

pub raising_valid : {R : Rule} (L : Listing R) (A j : ℕ) {X : Ty} → TypeAt (gets L) A X
    → ValidFor R (seek_raising A j) (raised j X) (raising_plan A j (as_type (gets L A))) L
raising_valid {R} L A j {X} (TypeAt.type_at e x) =
    subst (λ o. ValidFor R (seek_raising A j) (raised j X) (raising_plan A j (as_type o)) L) (sym e) (raising_by L A j e x)

-- 41

putting_by : {R : Rule} (L : Listing R) (B j A : ℕ) {t : TypeLine} {X Y : Ty} → 1 ≤ j → gets L B ≡ Some (type_line t) → TypeOf (gets L) t Y
    → TypeAt (gets L) A X → ValidFor R (seek_putting B j A) (replaced j X Y) (putting_plan B j A (Some t)) L
putting_by L B j A l e of_top a =
    (okay_putting L (Follows.put_top e) (TypeAt.type_at e of_top) a (TypeAt.type_at e of_top), λ M o n f. ((0, 0, 0, f), tt))
putting_by {R} L B j A {X = X} l e (of_var {k = k}) a = go (k == j) refl (nat_lt j k) refl
  where
    b : (M : Listing R) → gets L ⊑ gets M → TypeAt (gets M) B (var k)
    b M o = TypeAt.type_at (o _ _ e) of_var

    high : (i : ℕ) → k ≡ i → j < k
        → ValidFor R (seek_putting B j A) (replaced j X (var k)) (pay (lay (type_line (var' (pred i))) (λ C. close (putting B j A C 0 0 0)))) L
    high zero h lt = absurd (let z : ⊥ = omega (arith, h, lt) in z)
    high (suc i) h lt = (
      okay_type L (omega (arith, h, lt, l)) of_var,
      λ M o C f.
          let e' = o _ _ e ∙ ap (λ x. Some (type_line (var' x))) h in (
            okay_putting M (Follows.put_high e' (omega (arith, h, lt)) f) (b M o) (type_on o a) (TypeAt.type_at f of_var),
            λ K q n g.
                ((0, 0, 0, g), tt),
          ),
    )

    go : (c : Bool) → (k == j) ≡ c → (d : Bool) → nat_lt j k ≡ d
        → ValidFor R (seek_putting B j A) (replaced j X (var k))
        (cond c (pay (close (putting B j A A 0 0 0)))
        (cond d (pay (lay (type_line (var' (pred k))) (λ C. close (putting B j A C 0 0 0)))) (pay (close (putting B j A B 0 0 0))))) L
    go true h d i =
        let e' = e ∙ ap (λ x. Some (type_line (var' x))) (eqb-true k j h) in
        (okay_putting L (Follows.put_here e') (b L (λ n s f. f)) a a, λ M o n f. ((0, 0, 0, f), tt))
    go false h true i = high k refl (ltb-true j k i)
    go false h false i =
        let lt : k < j = omega (arith, ltb-false j k i, eqb-false k j h) in
        (okay_putting L (Follows.put_low e lt) (b L (λ n s f. f)) a (b L (λ n s f. f)), λ M o n f. ((0, 0, 0, f), tt))
putting_by {R} L B j A {X = X} l e (of_arrow {A = Y} {B = Z} x y) a = (
  replaced j X Y,
  means_putting l x a,
  (λ h. h),
  λ M o p c s i. (
    replaced j X Z,
    means_putting l (type_on o y) (type_on o a),
    (λ h. h),
    λ K q r d t m.
        let u = putted_of R (gets K) (sure K) (puts_on q s) (type_on (via o q) x) (type_on (via o q) a) in
        let v = putted_of R (gets K) (sure K) t (type_on (via o q) y) (type_on (via o q) a) in (
          okay_type K tt (of_arrow u v),
          λ P w C f.
              let e' = via (via o q) w _ _ e in
              let b = TypeAt.type_at e' (of_arrow (type_on (via (via o q) w) x) (type_on (via (via o q) w) y)) in (
                okay_putting P (Follows.put_arrow e' f (puts_on (via q w) s) (puts_on w t)) b (type_on (via (via o q) w) a)
                    (TypeAt.type_at f (of_arrow (type_on w u) (type_on w v))),
                λ P' w' n g.
                    ((p, r, 0, g), tt),
              ),
        ),
  ),
)
putting_by {R} L B j A {X = X} l e (of_all {A = Y} {B = Z} x y) a = (
  replaced j X Y,
  means_putting l x a,
  (λ h. h),
  λ M o p c s i. (
    raised 0 X,
    means_raising (type_on o a),
    (λ h. h),
    λ M₁ o₁ p₁ A₁ s₁ i₁.
        let a₁ = raised_of R (gets M₁) (sure M₁) s₁ (type_on (via o o₁) a) in (
          replaced (suc j) (lift 0 X) Z,
          means_putting (omega arith) (type_on (via o o₁) y) a₁,
          (λ h. h),
          λ K q r d t m.
              let h = via o (via o₁ q) in
              let u = putted_of R (gets K) (sure K) (puts_on (via o₁ q) s) (type_on h x) (type_on h a) in
              let v = putted_of R (gets K) (sure K) t (type_on h y) (type_on q a₁) in (
                okay_type K tt (of_all u v),
                λ P w C f.
                    let e' = via h w _ _ e in
                    let b = TypeAt.type_at e' (of_all (type_on (via h w) x) (type_on (via h w) y)) in (
                      okay_putting P (Follows.put_all e' f (puts_on (via (via o₁ q) w) s) (raises_on (via q w) s₁) (puts_on w t)) b (type_on (via h w) a)
                          (TypeAt.type_at f (of_all (type_on w u) (type_on w v))),
                      λ P' w' n g.
                          ((p, p₁, r, g), tt),
                    ),
              ),
        ),
  ),
)
putting_by {R} L B j A {X = X} l e (of_rec {B = Z} y) a = (
  raised 0 X,
  means_raising a,
  (λ h. h),
  λ M o p A₁ s i.
      let a₁ = raised_of R (gets M) (sure M) s (type_on o a) in (
        replaced (suc j) (lift 0 X) Z,
        means_putting (omega arith) (type_on o y) a₁,
        (λ h. h),
        λ K q r d t m.
            let h = via o q in
            let v = putted_of R (gets K) (sure K) t (type_on h y) (type_on q a₁) in (
              okay_type K tt (of_rec v),
              λ P w C f.
                  let e' = via h w _ _ e in
                  let b = TypeAt.type_at e' (of_rec (type_on (via h w) y)) in (
                    okay_putting P (Follows.put_rec e' f (raises_on (via q w) s) (puts_on w t)) b (type_on (via h w) a)
                        (TypeAt.type_at f (of_rec (type_on w v))),
                    λ P' w' n g.
                        ((p, r, 0, g), tt),
                  ),
            ),
      ),
)

pub putting_valid : {R : Rule} (L : Listing R) (B j A : ℕ) {X Y : Ty} → 1 ≤ j → TypeAt (gets L) B Y → TypeAt (gets L) A X
    → ValidFor R (seek_putting B j A) (replaced j X Y) (putting_plan B j A (as_type (gets L B))) L
putting_valid {R} L B j A {X} {Y} l (TypeAt.type_at e y) a =
    subst (λ o. ValidFor R (seek_putting B j A) (replaced j X Y) (putting_plan B j A (as_type o)) L) (sym e) (putting_by L B j A l e y a)

-- 42

no_bound : {k : ℕ} {A : Ty} → Bound empty k A → ⊥
no_bound b = elim b [ ]

bound_by : {R : Rule} (L : Listing R) (E k : ℕ) {t : EnvLine} {Γ : Env} → gets L E ≡ Some (env_line t) → EnvOf (gets L) t Γ
    → ValidFor R (seek_bound E k) (bound_of Γ k) (bound_plan E k (Some t)) L
bound_by L E k e of_empty = λ h. no_bound h.1
bound_by {R} L E k e (of_with_term {E = Γ} {A = X} g a) = (
  bound_of Γ k,
  means_bound g,
  (λ h x. h (past_term x.1)),
  λ M o p B s i.
      let (Y, b, c) = bound_in R (gets M) (sure M) s (env_on o g) in (
        okay_bound M (Follows.bound_past_term (o _ _ e) s) (EnvAt.env_at (o _ _ e) (of_with_term (env_on o g) (type_on o a))) b,
        λ K q n f.
            ((p, 0, f), tt),
      ),
)
  where
    past_term : {A : Ty} → Bound (with_term Γ X) k A → (B : Ty) × Bound Γ k B
    past_term (Bound.bound_past_term b) = (_, b)
bound_by L E zero e (of_with_type g a) = λ h. bound_not_zero h.1
bound_by {R} L E (suc zero) e (of_with_type {E = Γ} {A = X} g a) = (
  raised 0 X,
  means_raising a,
  (λ h x. h tt),
  λ M o q B s i.
      let b = raised_of R (gets M) (sure M) s (type_on o a) in (
        okay_bound M (Follows.bound_last (o _ _ e) s) (EnvAt.env_at (o _ _ e) (of_with_type (env_on o g) (type_on o a))) b,
        λ K r n f.
            ((0, q, f), tt),
      ),
)
bound_by {R} L E (suc (suc k)) e (of_with_type {E = Γ} {A = X} g a) = (
  bound_of Γ (suc k),
  means_bound g,
  (λ h x. h (past_type x.1)),
  λ M o p C s i.
      let (Y, c, d) = bound_in R (gets M) (sure M) s (env_on o g) in (
        raised 0 Y,
        means_raising c,
        (λ h x. h tt),
        λ K q r B t l.
            let b = raised_of R (gets K) (sure K) t (type_on q c) in
            let h = via o q in (
              okay_bound K (Follows.bound_past_type (h _ _ e) (bound_is_on q s) t) (EnvAt.env_at (h _ _ e) (of_with_type (env_on h g) (type_on h a))) b,
              λ P w n f.
                  ((p, r, f), tt),
            ),
      ),
)
  where
    past_type : {A : Ty} → Bound (with_type Γ X) (suc (suc k)) A → (B : Ty) × Bound Γ (suc k) B
    past_type (Bound.bound_past_type b) = (_, b)

pub bound_valid : {R : Rule} (L : Listing R) (E k : ℕ) {Γ : Env} → EnvAt (gets L) E Γ
    → ValidFor R (seek_bound E k) (bound_of Γ k) (bound_plan E k (as_env (gets L E))) L
bound_valid {R} L E k {Γ} (EnvAt.env_at e x) =
    subst (λ o. ValidFor R (seek_bound E k) (bound_of Γ k) (bound_plan E k (as_env o)) L) (sym e) (bound_by L E k e x)

-- 43

no_typing : {k : ℕ} {A : Ty} → Typing empty k A → ⊥
no_typing t = elim t [ ]

typing_by : {R : Rule} (L : Listing R) (E k : ℕ) {t : EnvLine} {Γ : Env} → gets L E ≡ Some (env_line t) → EnvOf (gets L) t Γ
    → ValidFor R (seek_typing E k) (typing_of Γ k) (typing_plan E k (Some t)) L
typing_by L E k e of_empty = λ h. no_typing h.1
typing_by {R} L E k e (of_with_type {E = Γ} {A = X} g a) = (
  typing_of Γ k,
  means_typing g,
  (λ h x. h (past_type x.1)),
  λ M o p C s i.
      let (Y, c, d) = typing_in R (gets M) (sure M) s (env_on o g) in (
        raised 0 Y,
        means_raising c,
        (λ h x. h tt),
        λ K q r B t l.
            let b = raised_of R (gets K) (sure K) t (type_on q c) in
            let h = via o q in (
              okay_typing K (Follows.typing_past_type (h _ _ e) (typing_is_on q s) t) (EnvAt.env_at (h _ _ e) (of_with_type (env_on h g) (type_on h a))) b,
              λ P w n f.
                  ((p, r, f), tt),
            ),
      ),
)
  where
    past_type : {A : Ty} → Typing (with_type Γ X) k A → (B : Ty) × Typing Γ k B
    past_type (Typing.typing_past_type b) = (_, b)
typing_by L E zero e (of_with_term {E = Γ} {A = X} g a) = λ h. typing_zero h.1
  where
    typing_zero : {A : Ty} → Typing (with_term Γ X) zero A → ⊥
    typing_zero t = elim t [ ]
typing_by {R} L E (suc zero) e (of_with_term {E = Γ} {A = X} g a) =
    (okay_typing L (Follows.typing_last e) (EnvAt.env_at e (of_with_term g a)) a, λ K r n f. ((0, 0, f), tt))
typing_by {R} L E (suc (suc k)) e (of_with_term {E = Γ} {A = X} g a) = (
  typing_of Γ (suc k),
  means_typing g,
  (λ h x. h (past_term x.1)),
  λ M o p B s i.
      let (Y, b, c) = typing_in R (gets M) (sure M) s (env_on o g) in (
        okay_typing M (Follows.typing_past_term (o _ _ e) s) (EnvAt.env_at (o _ _ e) (of_with_term (env_on o g) (type_on o a))) b,
        λ K q n f.
            ((p, 0, f), tt),
      ),
)
  where
    past_term : {A : Ty} → Typing (with_term Γ X) (suc (suc k)) A → (B : Ty) × Typing Γ (suc k) B
    past_term (Typing.typing_past_term b) = (_, b)

pub typing_valid : {R : Rule} (L : Listing R) (E k : ℕ) {Γ : Env} → EnvAt (gets L) E Γ
    → ValidFor R (seek_typing E k) (typing_of Γ k) (typing_plan E k (as_env (gets L E))) L
typing_valid {R} L E k {Γ} (EnvAt.env_at e x) =
    subst (λ o. ValidFor R (seek_typing E k) (typing_of Γ k) (typing_plan E k (as_env o)) L) (sym e) (typing_by L E k e x)

-- 50

env_by : {R : Rule} (L : Listing R) (E : ℕ) {t : EnvLine} {Γ : Env} → gets L E ≡ Some (env_line t) → EnvOf (gets L) t Γ
    → ValidFor R (seek_env E) (an_env Γ) (env_plan E (Some t)) L
env_by L E e of_empty = (okay_is_env L (Follows.env_empty e) (EnvAt.env_at e of_empty), λ M o n f. ((0, f), tt))
env_by L E e (of_with_term {E = Γ} {A = X} g a) = (
  a_type Γ X,
  means_type g a,
  (λ h. h),
  λ M o p x s i.
      (okay_is_env M (Follows.env_term (o _ _ e) s) (EnvAt.env_at (o _ _ e) (of_with_term (env_on o g) (type_on o a))), λ K q n f. ((p, f), tt)),
)
env_by L E e (of_with_type {E = Γ} {A = X} g a) = (
  a_type Γ X,
  means_type g a,
  (λ h. h),
  λ M o p x s i.
      (okay_is_env M (Follows.env_type (o _ _ e) s) (EnvAt.env_at (o _ _ e) (of_with_type (env_on o g) (type_on o a))), λ K q n f. ((p, f), tt)),
)

pub env_valid : {R : Rule} (L : Listing R) (E : ℕ) {Γ : Env} → EnvAt (gets L) E Γ
    → ValidFor R (seek_env E) (an_env Γ) (env_plan E (as_env (gets L E))) L
env_valid {R} L E {Γ} (EnvAt.env_at e x) =
    subst (λ o. ValidFor R (seek_env E) (an_env Γ) (env_plan E (as_env o)) L) (sym e) (env_by L E e x)

-- 51

type_by : {R : Rule} (L : Listing R) (E A : ℕ) {t : TypeLine} {Γ : Env} {X : Ty} → EnvAt (gets L) E Γ → gets L A ≡ Some (type_line t)
    → TypeOf (gets L) t X → ValidFor R (seek_type E A) (a_type Γ X) (type_plan E A (Some t)) L
type_by L E A {Γ = Γ} g e of_top = (
  an_env Γ,
  means_env g,
  (λ h x. h x.0),
  λ M o p x s i.
      (okay_is_type M (Follows.type_top (o _ _ e) s) (env_on o g) (TypeAt.type_at (o _ _ e) of_top), λ K q n f. ((p, 0, f), tt)),
)
type_by L E A {Γ = Γ} g e (of_var {k = k}) = (
  an_env Γ,
  means_env g,
  (λ h x. h x.0),
  λ M o p x s i. (
    bound_of Γ k,
    means_bound (env_on o g),
    (λ h x. h (some_bound Γ k x.1)),
    λ K q r B t l.
        let h = via o q in
        (okay_is_type K (Follows.type_var (h _ _ e) (is_env_on q s) t) (env_on h g) (TypeAt.type_at (h _ _ e) of_var), λ P w n f. ((p, r, f), tt)),
  ),
)
type_by L E A {Γ = Γ} g e (of_arrow {A = X} {B = Y} x y) = (
  a_type Γ X,
  means_type g x,
  (λ h z. h (z.0, z.1.0)),
  λ M o p u s i. (
    a_type Γ Y,
    means_type (env_on o g) (type_on o y),
    (λ h z. h (z.0, z.1.1)),
    λ K q r v t l.
        let h = via o q in (
          okay_is_type K (Follows.type_arrow (h _ _ e) (is_type_on q s) t) (env_on h g) (TypeAt.type_at (h _ _ e) (of_arrow (type_on h x) (type_on h y))),
          λ P w n f.
              ((p, r, f), tt),
        ),
  ),
)
type_by L E A {Γ = Γ} g e (of_all {A = X} {B = Y} x y) = (
  okay_env L (of_with_type g x),
  λ M o F f. (
    a_type (with_type Γ X) Y,
    means_type (EnvAt.env_at f (of_with_type (env_on o g) (type_on o x))) (type_on o y),
    (λ h z. h ((z.0, z.1.0), z.1.1)),
    λ K q p v t l.
        let h = via o q in (
          okay_is_type K (Follows.type_all (h _ _ e) (q _ _ f) t) (env_on h g) (TypeAt.type_at (h _ _ e) (of_all (type_on h x) (type_on h y))),
          λ P w n d.
              ((p, 0, d), tt),
        ),
  ),
)
type_by L E A {Γ = Γ} g e (of_rec {B = Y} y) = (
  okay_type L tt of_top,
  λ T u t d. (
    okay_env T (of_with_type (env_on u g) (TypeAt.type_at d of_top)),
    λ M o F f. (
      a_type (with_type Γ top) Y,
      means_type (EnvAt.env_at f (of_with_type (env_on (via u o) g) (TypeAt.type_at (o _ _ d) of_top))) (type_on (via u o) y),
      (λ h z. h ((z.0, tt), z.1)),
      λ K q p v s l.
          let h = via u (via o q) in (
            okay_is_type K (Follows.type_rec (h _ _ e) (q _ _ f) (via o q _ _ d) s) (env_on h g) (TypeAt.type_at (h _ _ e) (of_rec (type_on h y))),
            λ P w n c.
                ((p, 0, c), tt),
          ),
    ),
  ),
)

pub type_valid : {R : Rule} (L : Listing R) (E A : ℕ) {Γ : Env} {X : Ty} → EnvAt (gets L) E Γ → TypeAt (gets L) A X
    → ValidFor R (seek_type E A) (a_type Γ X) (type_plan E A (as_type (gets L A))) L
type_valid {R} L E A {Γ} {X} g (TypeAt.type_at e x) =
    subst (λ o. ValidFor R (seek_type E A) (a_type Γ X) (type_plan E A (as_type o)) L) (sym e) (type_by L E A g e x)
