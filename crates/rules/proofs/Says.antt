-- What lines 40 to 43 of a sound listing say is so, by their words.
use Rattle.std.proofs.Common.{◌≡◌, ℕ, zero, suc, ◌<◌, Some, refl, subst, ⊎_elim, arith}
use Rattle.rules.specs.Follows.{Raises, Puts, BoundIs, TypingIs, Follows}
use Rattle.rules.specs.Meaning.{TypeAt, of_top, of_var, of_arrow, of_all, of_rec, EnvAt, of_with_term, of_with_type}
use Rattle.rules.specs.Quantifiers.{Rule}
use Rattle.rules.specs.Statements.{arrow', all', rec', with_term', with_type', type_line, env_line, raising, putting, bound_line, typing_line, Get, premise_at}
use Rattle.rules.specs.Syntax.{Ty, top, var, arrow, all, rec, Env, with_term, with_type, lift, put, Bound, bound_here, Typing, typing_here}
use Rattle.rules.proofs.Whole.{NamesEarlier, WholeSound}
use Rattle.rules.proofs.Means.{type_one, env_one, type_named, env_named}
use Rattle.std.proofs.lemmas.Bool.{lt-ltb, le-ltb, eq-eqb, ne_eqb}

-- C is A with every variable above j raised by 1
abbrev pub Raised : Get → (A j C : ℕ) → Type 0
Raised G A j C = (X : Ty) × TypeAt G A X × TypeAt G C (lift j X)

-- C is B with A put for variable j
abbrev pub Putted : Get → (B j A C : ℕ) → Type 0
Putted G B j A C = (X : Ty) → TypeAt G A X → (Y : Ty) × TypeAt G B Y × TypeAt G C (put j X Y)

-- B is the bound of type variable k in E
abbrev pub BoundSaid : Get → (E k B : ℕ) → Type 0
BoundSaid G E k B = (Γ : Env) × (X : Ty) × EnvAt G E Γ × TypeAt G B X × Bound Γ k X

-- A is the type of term variable k in E
abbrev pub TypingSaid : Get → (E k A : ℕ) → Type 0
TypingSaid G E k A = (Γ : Env) × (X : Ty) × EnvAt G E Γ × TypeAt G A X × Typing Γ k X

pub premise_earlier : (G : Get) (n p : ℕ) → 0 < n → NamesEarlier G n (premise_at p) → p < n
premise_earlier G n p h x = ⊎_elim (λ none. omega arith) (λ earlier. earlier.0) x

module _ (R : Rule) (G : Get) (w : WholeSound R G) where
  -- the parts of a line

  pub arrow_parts : {n a b : ℕ} → G n ≡ Some (type_line (arrow' a b)) → ((X : Ty) × TypeAt G a X) × ((Y : Ty) × TypeAt G b Y)
  arrow_parts e = let x = (w _ _ e).named in (type_named R G w x.0, type_named R G w x.1.0)

  pub all_parts : {n a b : ℕ} → G n ≡ Some (type_line (all' a b)) → ((X : Ty) × TypeAt G a X) × ((Y : Ty) × TypeAt G b Y)
  all_parts e = let x = (w _ _ e).named in (type_named R G w x.0, type_named R G w x.1.0)

  pub rec_part : {n b : ℕ} → G n ≡ Some (type_line (rec' b)) → (Y : Ty) × TypeAt G b Y
  rec_part e = type_named R G w (w _ _ e).named.0

  pub with_type_parts : {n E A : ℕ} → G n ≡ Some (env_line (with_type' E A)) → ((Γ : Env) × EnvAt G E Γ) × ((X : Ty) × TypeAt G A X)
  with_type_parts e = let x = (w _ _ e).named in (env_named R G w x.0, type_named R G w x.1.0)

  pub with_term_parts : {n E A : ℕ} → G n ≡ Some (env_line (with_term' E A)) → ((Γ : Env) × EnvAt G E Γ) × ((X : Ty) × TypeAt G A X)
  with_term_parts e = let x = (w _ _ e).named in (env_named R G w x.0, type_named R G w x.1.0)

  -- 40

  abbrev RaisingsBelow : ℕ → Type 0
  RaisingsBelow b = (n A j C : ℕ) → n < b → Raises G n A j C → Raised G A j C

  raised_by : (n : ℕ) {A j C p q : ℕ} → RaisingsBelow n → p < n → q < n → Follows G (raising A j C p q) → Raised G A j C
  raised_by n below h i (Follows.raise_top e) = (top, TypeAt.type_at e of_top, TypeAt.type_at e of_top)
  raised_by n below h i (Follows.raise_low {j = j} {k = k} e l) = (var k, TypeAt.type_at e of_var, rw (le-ltb j k l) (TypeAt.type_at e of_var))
  raised_by n below h i (Follows.raise_high {j = j} {k = k} e l f) = (var k, TypeAt.type_at e of_var, rw (lt-ltb j k l) (TypeAt.type_at f of_var))
  raised_by n below h i (Follows.raise_arrow e f x y) =
      let (X, a, c) = below _ _ _ _ h x in
      let (Y, b, d) = below _ _ _ _ i y in
      (arrow X Y, TypeAt.type_at e (of_arrow a b), TypeAt.type_at f (of_arrow c d))
  raised_by n below h i (Follows.raise_all e f x y) =
      let (X, a, c) = below _ _ _ _ h x in
      let (Y, b, d) = below _ _ _ _ i y in
      (all X Y, TypeAt.type_at e (of_all a b), TypeAt.type_at f (of_all c d))
  raised_by n below h i (Follows.raise_rec e f x) =
      let (Y, b, d) = below _ _ _ _ h x in
      (rec Y, TypeAt.type_at e (of_rec b), TypeAt.type_at f (of_rec d))

  raisings_below : (b : ℕ) → RaisingsBelow b
  raisings_below zero n A j C h x = absurd (let z : ⊥ = omega arith in z)
  raisings_below (suc b) n A j C h x =
      let y = w n (raising A j C x.0 x.1) x.2 in
      raised_by n (λ m B i D l z. raisings_below b m B i D (omega arith) z) (premise_earlier G n x.0 y.number y.named.1.1.1.0)
      (premise_earlier G n x.1 y.number y.named.1.1.1.1.0) y.rests

  -- every line 40 says so
  pub raising_says : {p A j C : ℕ} → Raises G p A j C → Raised G A j C
  raising_says {p} {A} {j} {C} x = raisings_below (suc p) p A j C (omega arith) x

  pub raised_of : {p A j C : ℕ} {X : Ty} → Raises G p A j C → TypeAt G A X → TypeAt G C (lift j X)
  raised_of {j = j} {C = C} x a = let (Y, b, c) = raising_says x in subst (λ Z. TypeAt G C (lift j Z)) (type_one b a) c

  -- 41

  abbrev PuttingsBelow : ℕ → Type 0
  PuttingsBelow b = (n B j A C : ℕ) → n < b → Puts G n B j A C → Putted G B j A C

  putted_by : (n : ℕ) {B j A C p q r : ℕ} → PuttingsBelow n → p < n → q < n → r < n → Follows G (putting B j A C p q r) → Putted G B j A C
  putted_by n below h i k (Follows.put_top e) X a = (top, TypeAt.type_at e of_top, TypeAt.type_at e of_top)
  putted_by n below h i k (Follows.put_low {j = j} {k = v} e l) X a =
      (var v, TypeAt.type_at e of_var, rw (ne_eqb v j (omega arith), le-ltb j v (omega arith)) (TypeAt.type_at e of_var))
  putted_by n below h i k (Follows.put_here {j = j} e) X a = (var j, TypeAt.type_at e of_var, rw (eq-eqb j j refl) a)
  putted_by n below h i k (Follows.put_high {j = j} {k = v} e l f) X a =
      (var (suc v), TypeAt.type_at e of_var, rw (ne_eqb (suc v) j (omega arith), lt-ltb j (suc v) l) (TypeAt.type_at f of_var))
  putted_by n below h i k (Follows.put_arrow e f x y) X a =
      let (Y, b, c) = below _ _ _ _ _ h x X a in
      let (Z, b', c') = below _ _ _ _ _ i y X a in
      (arrow Y Z, TypeAt.type_at e (of_arrow b b'), TypeAt.type_at f (of_arrow c c'))
  putted_by n below h i k (Follows.put_all e f x y z) X a =
      let (Y, b, c) = below _ _ _ _ _ h x X a in
      let (Z, b', c') = below _ _ _ _ _ k z (lift 0 X) (raised_of y a) in
      (all Y Z, TypeAt.type_at e (of_all b b'), TypeAt.type_at f (of_all c c'))
  putted_by n below h i k (Follows.put_rec e f x y) X a =
      let (Y, b, c) = below _ _ _ _ _ i y (lift 0 X) (raised_of x a) in
      (rec Y, TypeAt.type_at e (of_rec b), TypeAt.type_at f (of_rec c))

  puttings_below : (b : ℕ) → PuttingsBelow b
  puttings_below zero n B j A C h x = absurd (let z : ⊥ = omega arith in z)
  puttings_below (suc b) n B j A C h x =
      let y = w n (putting B j A C x.0 x.1 x.2) x.3 in
      putted_by n (λ m D i F H l z. puttings_below b m D i F H (omega arith) z)
      (premise_earlier G n x.0 y.number y.named.1.1.1.1.0) (premise_earlier G n x.1 y.number y.named.1.1.1.1.1.0)
      (premise_earlier G n x.2 y.number y.named.1.1.1.1.1.1.0) y.rests

  -- every line 41 says so
  pub putting_says : {p B j A C : ℕ} → Puts G p B j A C → (Y : Ty) × (X : Ty) × TypeAt G B Y × TypeAt G A X × TypeAt G C (put j X Y)
  putting_says {p} {B} {j} {A} {C} x =
      let (X, a) = type_named R G w (w _ _ x.3).named.1.1.0 in
      let (Y, b, c) = puttings_below (suc p) p B j A C (omega arith) x X a in
      (Y, X, b, a, c)

  pub putted_of : {p B j A C : ℕ} {X Y : Ty} → Puts G p B j A C → TypeAt G B Y → TypeAt G A X → TypeAt G C (put j X Y)
  putted_of {p} {B} {j} {A} {C} {X} x b a =
      let (Z, d, c) = puttings_below (suc p) p B j A C (omega arith) x X a in
      subst (λ Y. TypeAt G C (put j X Y)) (type_one d b) c

  -- 42

  abbrev BoundsBelow : ℕ → Type 0
  BoundsBelow b = (n E k B : ℕ) → n < b → BoundIs G n E k B → BoundSaid G E k B

  bound_by : (n : ℕ) {E k B p q : ℕ} → BoundsBelow n → p < n → Follows G (bound_line E k B p q) → BoundSaid G E k B
  bound_by n below h (Follows.bound_last e x) =
      let ((Γ, g), (X, a)) = with_type_parts e in
      (with_type Γ X, lift 0 X, EnvAt.env_at e (of_with_type g a), raised_of x a, bound_here)
  bound_by n below h (Follows.bound_past_type e x y) =
      let (Γ, Y, g, c, b) = below _ _ _ _ h x in
      let (X, a) = (with_type_parts e).1 in
      (with_type Γ X, lift 0 Y, EnvAt.env_at e (of_with_type g a), raised_of y c, Bound.bound_past_type b)
  bound_by n below h (Follows.bound_past_term e x) =
      let (Γ, Y, g, c, b) = below _ _ _ _ h x in
      let (X, a) = (with_term_parts e).1 in
      (with_term Γ X, Y, EnvAt.env_at e (of_with_term g a), c, Bound.bound_past_term b)

  bounds_below : (b : ℕ) → BoundsBelow b
  bounds_below zero n E k B h x = absurd (let z : ⊥ = omega arith in z)
  bounds_below (suc b) n E k B h x =
      let y = w n (bound_line E k B x.0 x.1) x.2 in
      bound_by n (λ m F i C l z. bounds_below b m F i C (omega arith) z) (premise_earlier G n x.0 y.number y.named.1.1.1.0) y.rests

  -- every line 42 says so
  pub bound_says : {p E k B : ℕ} → BoundIs G p E k B → BoundSaid G E k B
  bound_says {p} {E} {k} {B} x = bounds_below (suc p) p E k B (omega arith) x

  pub bound_in : {p E k B : ℕ} {Γ : Env} → BoundIs G p E k B → EnvAt G E Γ → (X : Ty) × TypeAt G B X × Bound Γ k X
  bound_in {k = k} x g = let (Δ, X, h, b, c) = bound_says x in (X, b, subst (λ Θ. Bound Θ k X) (env_one h g) c)

  -- 43

  abbrev TypingsBelow : ℕ → Type 0
  TypingsBelow b = (n E k A : ℕ) → n < b → TypingIs G n E k A → TypingSaid G E k A

  typing_by : (n : ℕ) {E k A p q : ℕ} → TypingsBelow n → p < n → Follows G (typing_line E k A p q) → TypingSaid G E k A
  typing_by n below h (Follows.typing_last e) =
      let ((Γ, g), (X, a)) = with_term_parts e in
      (with_term Γ X, X, EnvAt.env_at e (of_with_term g a), a, typing_here)
  typing_by n below h (Follows.typing_past_term e x) =
      let (Γ, Y, g, c, b) = below _ _ _ _ h x in
      let (X, a) = (with_term_parts e).1 in
      (with_term Γ X, Y, EnvAt.env_at e (of_with_term g a), c, Typing.typing_past_term b)
  typing_by n below h (Follows.typing_past_type e x y) =
      let (Γ, Y, g, c, b) = below _ _ _ _ h x in
      let (X, a) = (with_type_parts e).1 in
      (with_type Γ X, lift 0 Y, EnvAt.env_at e (of_with_type g a), raised_of y c, Typing.typing_past_type b)

  typings_below : (b : ℕ) → TypingsBelow b
  typings_below zero n E k A h x = absurd (let z : ⊥ = omega arith in z)
  typings_below (suc b) n E k A h x =
      let y = w n (typing_line E k A x.0 x.1) x.2 in
      typing_by n (λ m F i C l z. typings_below b m F i C (omega arith) z) (premise_earlier G n x.0 y.number y.named.1.1.1.0) y.rests

  -- every line 43 says so
  pub typing_says : {p E k A : ℕ} → TypingIs G p E k A → TypingSaid G E k A
  typing_says {p} {E} {k} {A} x = typings_below (suc p) p E k A (omega arith) x

  pub typing_in : {p E k A : ℕ} {Γ : Env} → TypingIs G p E k A → EnvAt G E Γ → (X : Ty) × TypeAt G A X × Typing Γ k X
  typing_in {k = k} x g = let (Δ, X, h, b, c) = typing_says x in (X, b, subst (λ Θ. Typing Θ k X) (env_one h g) c)
