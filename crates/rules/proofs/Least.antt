-- Least types: a term typed by its own rule, as the judge does, has a type below all that the rules give it.
use Rattle.std.proofs.Common.{◌≡◌, ℕ, sym, refl, ap, subst}
use Rattle.rules.specs.Syntax.{Ty, top, var, arrow, all, rec, Tm, top_term, var_term, fun, appl, fun2, appl2, fold_term, unfold_term, rec_term, Env, with_term, with_type, put, Bound, Typing}
use Rattle.rules.specs.Quantifiers.{Rule}
use Rattle.rules.specs.Derivations.{has, Derivable, has_subsumed, has_var, has_top, has_fun, has_appl, has_fun2, has_appl2, has_fold, has_unfold, has_rec, sub_var}
use Rattle.rules.specs.Tries.{Tries, try_same, try_var, try_arrow, try_all_same, try_all_below}
use Rattle.rules.specs.Laws.{Chains, Instances, Bodies, Admitted}
use Rattle.rules.specs.Variables.{bound_unique, typing_unique}
use Rattle.rules.specs.Weaken.{strengthen_term}
use Rattle.rules.proofs.Formed.{Formed, typing_formed}
use Rattle.rules.specs.Transitive.{transitive}
use Rattle.rules.proofs.Agree.{derivable_regular, env_derivable, sub_derivable, tried}

-- B is what A shows: A itself, or its bound's, while it is a variable
pub data Exposes : Env → Ty → Ty → Type 0 where
  exposes_top : {E : Env} → Exposes E top top
  exposes_arrow : {E : Env} {A B : Ty} → Exposes E (arrow A B) (arrow A B)
  exposes_all : {E : Env} {A B : Ty} → Exposes E (all A B) (all A B)
  exposes_rec : {E : Env} {B : Ty} → Exposes E (rec B) (rec B)
  exposes_var : {E : Env} {k : ℕ} {A B : Ty} → Bound E k A → Exposes E A B → Exposes E (var k) B

pub data Least (R : Rule) : Env → Tm → Ty → Type 0 where
  least_var : {E : Env} {k : ℕ} {A : Ty} → Formed E → Typing E k A → Least R E (var_term k) A
  least_top : {E : Env} → Formed E → Least R E top_term top
  least_fun : {E : Env} {A B : Ty} {b : Tm} → Least R (with_term E A) b B → Least R E (fun A b) (arrow A B)
  least_appl : {E : Env} {A B C F : Ty} {a b : Tm} → Least R E b F → Exposes E F (arrow A B) → Least R E a C → Tries R E C A
      → Least R E (appl b a) B
  least_fun2 : {E : Env} {A B : Ty} {b : Tm} → Least R (with_type E A) b B → Least R E (fun2 A b) (all A B)
  least_appl2 : {E : Env} {A B C F : Ty} {b : Tm} → Least R E b F → Exposes E F (all A B) → Tries R E C A
      → Least R E (appl2 b C) (put 1 C B)
  least_fold : {E : Env} {B C : Ty} {a : Tm} → Least R E a C → Tries R E C (put 1 (rec B) B) → Least R E (fold_term (rec B) a) (rec B)
  least_unfold : {E : Env} {B F : Ty} {a : Tm} → Least R E a F → Exposes E F (rec B) → Least R E (unfold_term a) (put 1 (rec B) B)
  least_rec : {E : Env} {A B : Ty} {b : Tm} → Least R (with_term E A) b B → Tries R (with_term E A) B A → Least R E (rec_term A b) A

-- exposure

pub exposes_sound : {R : Rule} {E : Env} {A B : Ty} {a : Tm} → Exposes E A B → Derivable R (has E a A) → Derivable R (has E a B)
exposes_sound exposes_top d = d
exposes_sound exposes_arrow d = d
exposes_sound exposes_all d = d
exposes_sound exposes_rec d = d
exposes_sound {E = E} (exposes_var b x) d =
    exposes_sound x (has_subsumed d (sub_var (env_derivable E (derivable_regular d).0) b))

pub exposes_unique : {E : Env} {A B C : Ty} → Exposes E A B → Exposes E A C → B ≡ C
exposes_unique exposes_top exposes_top = refl
exposes_unique exposes_arrow exposes_arrow = refl
exposes_unique exposes_all exposes_all = refl
exposes_unique exposes_rec exposes_rec = refl
exposes_unique {E} {C = C} (exposes_var a x) (exposes_var b y) =
    exposes_unique x (subst (λ A. Exposes E A C) (bound_unique b a) y)

pub below_arrow : {R : Rule} {E : Env} {F C D : Ty} → Tries R E F (arrow C D)
    → (A : Ty) × (B : Ty) × Exposes E F (arrow A B) × Tries R E C A × Tries R E B D
below_arrow (try_same w) = (_, _, exposes_arrow, try_same w.0, try_same w.1)
below_arrow (try_var b t) = let (A, B, x, s, u) = below_arrow t in (A, B, exposes_var b x, s, u)
below_arrow (try_arrow s t) = (_, _, exposes_arrow, s, t)

pub below_all : {R : Rule} {E : Env} {F C D : Ty} → Tries R E F (all C D)
    → (A : Ty) × (B : Ty) × Exposes E F (all A B) × Tries R E (all A B) (all C D)
below_all (try_same w) = (_, _, exposes_all, try_same w)
below_all (try_var b t) = let (A, B, x, u) = below_all t in (A, B, exposes_var b x, u)
below_all (try_all_same e w t) = (_, _, exposes_all, try_all_same e w t)
below_all (try_all_below e s t) = (_, _, exposes_all, try_all_below e s t)

pub below_rec : {R : Rule} {E : Env} {F D : Ty} → Tries R E F (rec D) → Exposes E F (rec D)
below_rec (try_same w) = exposes_rec
below_rec (try_var b t) = exposes_var b (below_rec t)

-- sound: the least type is a type of the term

brought : {R : Rule} {E : Env} {A B : Ty} {a : Tm} → Derivable R (has E a A) → Tries R E A B → Derivable R (has E a B)
brought {E = E} d t = has_subsumed d (sub_derivable (env_derivable E (derivable_regular d).0) t)

pub least_sound : {R : Rule} {E : Env} {a : Tm} {A : Ty} → Least R E a A → Derivable R (has E a A)
least_sound (least_var {E = E} f t) = has_var (env_derivable E f) t
least_sound (least_top {E = E} f) = has_top (env_derivable E f)
least_sound (least_fun l) = has_fun (least_sound l)
least_sound (least_appl l x m t) = has_appl (exposes_sound x (least_sound l)) (brought (least_sound m) t)
least_sound (least_fun2 l) = has_fun2 (least_sound l)
least_sound (least_appl2 {E = E} l x t) =
    let d = exposes_sound x (least_sound l) in
    has_appl2 d (sub_derivable (env_derivable E (derivable_regular d).0) t)
least_sound (least_fold l t) = has_fold (brought (least_sound l) t)
least_sound (least_unfold l x) = has_unfold (exposes_sound x (least_sound l))
least_sound (least_rec l t) = has_rec (brought (least_sound l) t)

-- unique

abbrev parts : Ty → Ty × Ty
parts top = (top, top)
parts (var k) = (top, top)
parts (arrow A B) = (A, B)
parts (all A B) = (A, B)
parts (rec B) = (B, B)

pub least_unique : {R : Rule} {E : Env} {a : Tm} {A B : Ty} → Least R E a A → Least R E a B → A ≡ B
least_unique (least_var f s) (least_var g t) = typing_unique s t
least_unique (least_top f) (least_top g) = refl
least_unique (least_fun {A = A} l) (least_fun m) = ap (arrow A) (least_unique l m)
least_unique {E = E} (least_appl l x k s) (least_appl {A = A} {B = B} m y n t) =
    ap (λ C. (parts C).1) (exposes_unique x (subst (λ F. Exposes E F (arrow A B)) (sym (least_unique l m)) y))
least_unique (least_fun2 {A = A} l) (least_fun2 m) = ap (all A) (least_unique l m)
least_unique {E = E} (least_appl2 {C = C} l x s) (least_appl2 {A = A} {B = B} m y t) =
    ap (λ D. put 1 C (parts D).1) (exposes_unique x (subst (λ F. Exposes E F (all A B)) (sym (least_unique l m)) y))
least_unique (least_fold l s) (least_fold m t) = refl
least_unique {E = E} (least_unfold l x) (least_unfold {B = B} m y) =
    ap (λ D. put 1 D (parts D).1) (exposes_unique x (subst (λ F. Exposes E F (rec B)) (sym (least_unique l m)) y))
least_unique (least_rec l s) (least_rec m t) = refl

-- least: by the laws, the one use of the law of bodies

module _ {R : Rule} (chains : Chains R) (instances : Instances R) (bodies : Bodies R) (admitted : Admitted R) where
  pub least_below : {E : Env} {a : Tm} {B : Ty} → Derivable R (has E a B) → (A : Ty) × Least R E a A × Tries R E A B
  least_below (has_subsumed d s) =
      let (A, l, t) = least_below d in
      (A, l, transitive chains _ _ _ _ t (tried chains admitted s))
  least_below (has_var d t) =
      let f = derivable_regular d in
      (_, least_var f t, try_same (typing_formed t f))
  least_below (has_top d) = (_, least_top (derivable_regular d), try_same tt)
  least_below (has_fun {A = A} d) =
      let (B, l, t) = least_below d in
      (_, least_fun l, try_arrow (try_same (derivable_regular d).0.1) (strengthen_term t))
  least_below (has_appl d e) =
      let (F, l, t) = least_below d in
      let (C, m, u) = least_below e in
      let (A, B, x, s, v) = below_arrow t in
      (B, least_appl l x m (transitive chains _ _ _ _ u s), v)
  least_below (has_fun2 {E = E} {A = A} {B = D} d) =
      let (B, l, t) = least_below d in
      (all A B, least_fun2 l, bodies E A B D (derivable_regular d).0.1 t)
  least_below (has_appl2 {E = E} {A = C} {B = D} {C = X} d s) =
      let (F, l, t) = least_below d in
      let (A, B, x, u) = below_all t in
      let v = tried chains admitted s in
      let i = instances E A B C D u in
      (put 1 X B, least_appl2 l x (transitive chains _ _ _ _ v i.0), i.1 X v)
  least_below (has_fold {B = B} d) =
      let (C, l, t) = least_below d in
      (_, least_fold l t, try_same (derivable_regular (has_fold {B = B} d)).1)
  least_below (has_unfold {B = B} d) =
      let (F, l, t) = least_below d in
      (_, least_unfold l (below_rec t), try_same (derivable_regular (has_unfold {B = B} d)).1)
  least_below (has_rec d) =
      let (B, l, t) = least_below d in
      (_, least_rec l t, try_same (derivable_regular d).0.1)

  -- the type that the judge gives is below every type that the rules give
  pub least_least : {E : Env} {a : Tm} {A B : Ty} → Least R E a A → Derivable R (has E a B) → Tries R E A B
  least_least {E} {B = B} l d =
      let (A, m, t) = least_below d in
      subst (λ X. Tries R E X B) (sym (least_unique l m)) t
