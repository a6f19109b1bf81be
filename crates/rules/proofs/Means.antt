-- What lines mean: at most one thing, still the same as lines are added, always something in a sound listing,
-- and different things on different lines.
use Rattle.std.proofs.Common.{◌≡◌, ℕ, zero, suc, ◌<◌, ◌≤◌, Some, Option, refl, ap, ◌∙◌, subst, ap₂, arith}
use Rattle.rules.specs.Derivations.{Judgment, is_env, is_type}
use Rattle.rules.specs.Meaning.{TypeAt, TypeOf, of_top, of_var, of_arrow, of_all, of_rec, TermAt, TermOf, of_top_term, of_var_term, of_fun, of_appl, of_fun2, of_appl2, of_fold, of_unfold, of_rec_term, EnvAt, EnvOf, of_empty, of_with_term, of_with_type, States, states_env, states_type, states_sub, states_has}
use Rattle.rules.specs.Quantifiers.{Rule}
use Rattle.rules.specs.Statements.{TypeLine, top', var', arrow', all', rec', TermLine, top_term', var_term', fun', appl', fun2', appl2', fold_term', unfold_term', rec_term', EnvLine, empty', with_term', with_type', SubRule, HasRule, Statement, type_line, term_line, env_line, env_judged, type_judged, sub_judged, has_judged, Get, columns}
use Rattle.rules.specs.Syntax.{Ty, arrow, all, rec, Tm, fun, appl, fun2, appl2, fold_term, unfold_term, rec_term, Env, with_term, with_type}
use Rattle.rules.proofs.Codes.{OfKind, types, terms, environments, of_type_line, of_term_line, of_env_line}
use Rattle.rules.proofs.Whole.{◌⊑◌, Earlier, AllNameEarlier, WholeSound}

-- one type, one term, one environment a line

mutual
  pub type_one : {G : Get} {n : ℕ} {A B : Ty} → TypeAt G n A → TypeAt G n B → A ≡ B
  type_one {G} {B = B} (TypeAt.type_at {t = t} e x) (TypeAt.type_at {t = u} f y) = type_of_one x (subst (λ v. TypeOf G v B) (cc) y)

  pub type_of_one : {G : Get} {t : TypeLine} {A B : Ty} → TypeOf G t A → TypeOf G t B → A ≡ B
  type_of_one of_top of_top = refl
  type_of_one of_var of_var = refl
  type_of_one (of_arrow x y) (of_arrow u v) = ap₂ arrow (type_one x u) (type_one y v)
  type_of_one (of_all x y) (of_all u v) = ap₂ all (type_one x u) (type_one y v)
  type_of_one (of_rec x) (of_rec u) = ap rec (type_one x u)

mutual
  pub term_one : {G : Get} {n : ℕ} {a b : Tm} → TermAt G n a → TermAt G n b → a ≡ b
  term_one {G} {b = b} (TermAt.term_at {t = t} e x) (TermAt.term_at {t = u} f y) = term_of_one x (subst (λ v. TermOf G v b) (cc) y)

  pub term_of_one : {G : Get} {t : TermLine} {a b : Tm} → TermOf G t a → TermOf G t b → a ≡ b
  term_of_one of_top_term of_top_term = refl
  term_of_one of_var_term of_var_term = refl
  term_of_one (of_fun x y) (of_fun u v) = ap₂ fun (type_one x u) (term_one y v)
  term_of_one (of_appl x y) (of_appl u v) = ap₂ appl (term_one x u) (term_one y v)
  term_of_one (of_fun2 x y) (of_fun2 u v) = ap₂ fun2 (type_one x u) (term_one y v)
  term_of_one (of_appl2 x y) (of_appl2 u v) = ap₂ appl2 (term_one x u) (type_one y v)
  term_of_one (of_fold x y) (of_fold u v) = ap₂ fold_term (type_one x u) (term_one y v)
  term_of_one (of_unfold x) (of_unfold u) = ap unfold_term (term_one x u)
  term_of_one (of_rec_term x y) (of_rec_term u v) = ap₂ rec_term (type_one x u) (term_one y v)

mutual
  pub env_one : {G : Get} {n : ℕ} {E F : Env} → EnvAt G n E → EnvAt G n F → E ≡ F
  env_one {G} {F = F} (EnvAt.env_at {e = t} e x) (EnvAt.env_at {e = u} f y) = env_of_one x (subst (λ v. EnvOf G v F) (cc) y)

  pub env_of_one : {G : Get} {e : EnvLine} {E F : Env} → EnvOf G e E → EnvOf G e F → E ≡ F
  env_of_one of_empty of_empty = refl
  env_of_one (of_with_term x y) (of_with_term u v) = ap₂ with_term (env_one x u) (type_one y v)
  env_of_one (of_with_type x y) (of_with_type u v) = ap₂ with_type (env_one x u) (type_one y v)

pub states_one : {G : Get} {s : Statement} {J K : Judgment} → States G s J → States G s K → J ≡ K
states_one (states_env x) (states_env u) = ap is_env (env_one x u)
states_one (states_type x y) (states_type u v) = ap₂ is_type (env_one x u) (type_one y v)
states_one (states_sub x y z) (states_sub u v w) = let a = env_one x u in let b = type_one y v in let c = type_one z w in cc
states_one (states_has x y z) (states_has u v w) = let a = env_one x u in let b = term_one y v in let c = type_one z w in cc

-- meanings stay as lines are added

mutual
  pub type_on : {G H : Get} → G ⊑ H → {n : ℕ} {A : Ty} → TypeAt G n A → TypeAt H n A
  type_on o (TypeAt.type_at e x) = TypeAt.type_at (o _ _ e) (type_of_on o x)

  pub type_of_on : {G H : Get} → G ⊑ H → {t : TypeLine} {A : Ty} → TypeOf G t A → TypeOf H t A
  type_of_on o of_top = of_top
  type_of_on o of_var = of_var
  type_of_on o (of_arrow x y) = of_arrow (type_on o x) (type_on o y)
  type_of_on o (of_all x y) = of_all (type_on o x) (type_on o y)
  type_of_on o (of_rec x) = of_rec (type_on o x)

mutual
  pub term_on : {G H : Get} → G ⊑ H → {n : ℕ} {a : Tm} → TermAt G n a → TermAt H n a
  term_on o (TermAt.term_at e x) = TermAt.term_at (o _ _ e) (term_of_on o x)

  pub term_of_on : {G H : Get} → G ⊑ H → {t : TermLine} {a : Tm} → TermOf G t a → TermOf H t a
  term_of_on o of_top_term = of_top_term
  term_of_on o of_var_term = of_var_term
  term_of_on o (of_fun x y) = of_fun (type_on o x) (term_on o y)
  term_of_on o (of_appl x y) = of_appl (term_on o x) (term_on o y)
  term_of_on o (of_fun2 x y) = of_fun2 (type_on o x) (term_on o y)
  term_of_on o (of_appl2 x y) = of_appl2 (term_on o x) (type_on o y)
  term_of_on o (of_fold x y) = of_fold (type_on o x) (term_on o y)
  term_of_on o (of_unfold x) = of_unfold (term_on o x)
  term_of_on o (of_rec_term x y) = of_rec_term (type_on o x) (term_on o y)

mutual
  pub env_on : {G H : Get} → G ⊑ H → {n : ℕ} {E : Env} → EnvAt G n E → EnvAt H n E
  env_on o (EnvAt.env_at e x) = EnvAt.env_at (o _ _ e) (env_of_on o x)

  pub env_of_on : {G H : Get} → G ⊑ H → {e : EnvLine} {E : Env} → EnvOf G e E → EnvOf H e E
  env_of_on o of_empty = of_empty
  env_of_on o (of_with_term x y) = of_with_term (env_on o x) (type_on o y)
  env_of_on o (of_with_type x y) = of_with_type (env_on o x) (type_on o y)

pub states_on : {G H : Get} → G ⊑ H → {s : Statement} {J : Judgment} → States G s J → States H s J
states_on o (states_env x) = states_env (env_on o x)
states_on o (states_type x y) = states_type (env_on o x) (type_on o y)
states_on o (states_sub x y z) = states_sub (env_on o x) (type_on o y) (type_on o z)
states_on o (states_has x y z) = states_has (env_on o x) (term_on o y) (type_on o z)

-- the parts of a line that is known

pub type_parts : {G : Get} {n : ℕ} {t : TypeLine} {A : Ty} → G n ≡ Some (type_line t) → TypeAt G n A → TypeOf G t A
type_parts {G} {A = A} e (TypeAt.type_at {t = u} f x) = subst (λ v. TypeOf G v A) (cc) x

pub term_parts : {G : Get} {n : ℕ} {t : TermLine} {a : Tm} → G n ≡ Some (term_line t) → TermAt G n a → TermOf G t a
term_parts {G} {a = a} e (TermAt.term_at {t = u} f x) = subst (λ v. TermOf G v a) (cc) x

pub env_parts : {G : Get} {n : ℕ} {e : EnvLine} {E : Env} → G n ≡ Some (env_line e) → EnvAt G n E → EnvOf G e E
env_parts {G} {E = E} e (EnvAt.env_at {e = u} f x) = subst (λ v. EnvOf G v E) (cc) x

-- a line 50 to 79
pub data Judging : Statement → Type 0 where
  judges_env : {E p : ℕ} → Judging (env_judged E p)
  judges_type : {E A p q : ℕ} → Judging (type_judged E A p q)
  judges_sub : {s : SubRule} {E A B p q : ℕ} → Judging (sub_judged s E A B p q)
  judges_has : {h : HasRule} {E a A p q r : ℕ} → Judging (has_judged h E a A p q r)

as_type : {o : Option Statement} {s : Statement} → o ≡ Some s → OfKind types s → (t : TypeLine) × (o ≡ Some (type_line t))
as_type e of_type_line = (_, e)

as_term : {o : Option Statement} {s : Statement} → o ≡ Some s → OfKind terms s → (a : TermLine) × (o ≡ Some (term_line a))
as_term e of_term_line = (_, e)

as_env : {o : Option Statement} {s : Statement} → o ≡ Some s → OfKind environments s → (e : EnvLine) × (o ≡ Some (env_line e))
as_env e of_env_line = (_, e)

module _ (R : Rule) (G : Get) (w : WholeSound R G) where
  -- in a sound listing every line of a type, a term or an environment has a meaning

  abbrev TypesBelow : ℕ → Type 0
  TypesBelow b = (n : ℕ) → n < b → (t : TypeLine) → G n ≡ Some (type_line t) → (A : Ty) × TypeAt G n A

  type_below : (b n k : ℕ) → TypesBelow b → n ≤ b → Earlier G types n k → (A : Ty) × TypeAt G k A
  type_below b n k below h x = let (t, e) = as_type x.1.1 x.1.2 in below k (omega (arith, x.0)) t e

  type_of_below : (b n : ℕ) → TypesBelow b → n ≤ b → (t : TypeLine) → AllNameEarlier G n (columns (type_line t)) → (A : Ty) × TypeOf G t A
  type_of_below b n below h top' x = (_, of_top)
  type_of_below b n below h (var' k) x = (_, of_var)
  type_of_below b n below h (arrow' A B) x = (_, of_arrow (type_below b n A below h x.0).1 (type_below b n B below h x.1.0).1)
  type_of_below b n below h (all' A B) x = (_, of_all (type_below b n A below h x.0).1 (type_below b n B below h x.1.0).1)
  type_of_below b n below h (rec' B) x = (_, of_rec (type_below b n B below h x.0).1)

  types_below : (b : ℕ) → TypesBelow b
  types_below zero n h t e = absurd (let z : ⊥ = omega arith in z)
  types_below (suc b) n h t e =
      let x = type_of_below b n (types_below b) (omega arith) t (w n (type_line t) e).named in
      (x.0, TypeAt.type_at e x.1)

  pub type_exists : (n : ℕ) (t : TypeLine) → G n ≡ Some (type_line t) → (A : Ty) × TypeAt G n A
  type_exists n t e = types_below (suc n) n (omega arith) t e

  pub type_named : {n k : ℕ} → Earlier G types n k → (A : Ty) × TypeAt G k A
  type_named {k = k} x = let (t, e) = as_type x.1.1 x.1.2 in type_exists k t e

  abbrev TermsBelow : ℕ → Type 0
  TermsBelow b = (n : ℕ) → n < b → (t : TermLine) → G n ≡ Some (term_line t) → (a : Tm) × TermAt G n a

  term_below : (b n k : ℕ) → TermsBelow b → n ≤ b → Earlier G terms n k → (a : Tm) × TermAt G k a
  term_below b n k below h x = let (t, e) = as_term x.1.1 x.1.2 in below k (omega (arith, x.0)) t e

  term_of_below : (b n : ℕ) → TermsBelow b → n ≤ b → (t : TermLine) → AllNameEarlier G n (columns (term_line t)) → (a : Tm) × TermOf G t a
  term_of_below b n below h top_term' x = (_, of_top_term)
  term_of_below b n below h (var_term' k) x = (_, of_var_term)
  term_of_below b n below h (fun' A c) x = (_, of_fun (type_named x.0).1 (term_below b n c below h x.1.0).1)
  term_of_below b n below h (appl' c a) x = (_, of_appl (term_below b n c below h x.0).1 (term_below b n a below h x.1.0).1)
  term_of_below b n below h (fun2' A c) x = (_, of_fun2 (type_named x.0).1 (term_below b n c below h x.1.0).1)
  term_of_below b n below h (appl2' c A) x = (_, of_appl2 (term_below b n c below h x.0).1 (type_named x.1.0).1)
  term_of_below b n below h (fold_term' A a) x = (_, of_fold (type_named x.0).1 (term_below b n a below h x.1.0).1)
  term_of_below b n below h (unfold_term' a) x = (_, of_unfold (term_below b n a below h x.0).1)
  term_of_below b n below h (rec_term' A c) x = (_, of_rec_term (type_named x.0).1 (term_below b n c below h x.1.0).1)

  terms_below : (b : ℕ) → TermsBelow b
  terms_below zero n h t e = absurd (let z : ⊥ = omega arith in z)
  terms_below (suc b) n h t e =
      let x = term_of_below b n (terms_below b) (omega arith) t (w n (term_line t) e).named in
      (x.0, TermAt.term_at e x.1)

  pub term_exists : (n : ℕ) (t : TermLine) → G n ≡ Some (term_line t) → (a : Tm) × TermAt G n a
  term_exists n t e = terms_below (suc n) n (omega arith) t e

  pub term_named : {n k : ℕ} → Earlier G terms n k → (a : Tm) × TermAt G k a
  term_named {k = k} x = let (t, e) = as_term x.1.1 x.1.2 in term_exists k t e

  abbrev EnvsBelow : ℕ → Type 0
  EnvsBelow b = (n : ℕ) → n < b → (t : EnvLine) → G n ≡ Some (env_line t) → (E : Env) × EnvAt G n E

  env_below : (b n k : ℕ) → EnvsBelow b → n ≤ b → Earlier G environments n k → (E : Env) × EnvAt G k E
  env_below b n k below h x = let (t, e) = as_env x.1.1 x.1.2 in below k (omega (arith, x.0)) t e

  env_of_below : (b n : ℕ) → EnvsBelow b → n ≤ b → (t : EnvLine) → AllNameEarlier G n (columns (env_line t)) → (E : Env) × EnvOf G t E
  env_of_below b n below h empty' x = (_, of_empty)
  env_of_below b n below h (with_term' E A) x = (_, of_with_term (env_below b n E below h x.0).1 (type_named x.1.0).1)
  env_of_below b n below h (with_type' E A) x = (_, of_with_type (env_below b n E below h x.0).1 (type_named x.1.0).1)

  envs_below : (b : ℕ) → EnvsBelow b
  envs_below zero n h t e = absurd (let z : ⊥ = omega arith in z)
  envs_below (suc b) n h t e =
      let x = env_of_below b n (envs_below b) (omega arith) t (w n (env_line t) e).named in
      (x.0, EnvAt.env_at e x.1)

  pub env_exists : (n : ℕ) (t : EnvLine) → G n ≡ Some (env_line t) → (E : Env) × EnvAt G n E
  env_exists n t e = envs_below (suc n) n (omega arith) t e

  pub env_named : {n k : ℕ} → Earlier G environments n k → (E : Env) × EnvAt G k E
  env_named {k = k} x = let (t, e) = as_env x.1.1 x.1.2 in env_exists k t e

  -- every line 50 to 79 states a judgment
  pub states_exists : (n : ℕ) (s : Statement) → G n ≡ Some s → Judging s → (J : Judgment) × States G s J
  states_exists n s e j = go j (w n s e).named
    where
      go : {u : Statement} → Judging u → AllNameEarlier G n (columns u) → (J : Judgment) × States G u J
      go judges_env x = (_, states_env (env_named x.0).1)
      go judges_type x = (_, states_type (env_named x.0).1 (type_named x.1.0).1)
      go judges_sub x = (_, states_sub (env_named x.0).1 (type_named x.1.0).1 (type_named x.1.1.0).1)
      go judges_has x = (_, states_has (env_named x.0).1 (term_named x.1.0).1 (type_named x.1.1.0).1)

  -- in a sound listing equal types, terms and environments stand on one line

  mutual
    pub type_number : {A : Ty} {m n : ℕ} → TypeAt G m A → TypeAt G n A → m ≡ n
    type_number {m = m} {n} (TypeAt.type_at e x) (TypeAt.type_at f y) =
        (w n _ f).once m (e ∙ ap (λ t. Some (type_line t)) (type_of_number x y))

    type_of_number : {A : Ty} {t u : TypeLine} → TypeOf G t A → TypeOf G u A → t ≡ u
    type_of_number of_top of_top = refl
    type_of_number of_var of_var = refl
    type_of_number (of_arrow x y) (of_arrow u v) = ap₂ arrow' (type_number x u) (type_number y v)
    type_of_number (of_all x y) (of_all u v) = ap₂ all' (type_number x u) (type_number y v)
    type_of_number (of_rec x) (of_rec u) = ap rec' (type_number x u)

  mutual
    pub term_number : {a : Tm} {m n : ℕ} → TermAt G m a → TermAt G n a → m ≡ n
    term_number {m = m} {n} (TermAt.term_at e x) (TermAt.term_at f y) =
        (w n _ f).once m (e ∙ ap (λ t. Some (term_line t)) (term_of_number x y))

    term_of_number : {a : Tm} {t u : TermLine} → TermOf G t a → TermOf G u a → t ≡ u
    term_of_number of_top_term of_top_term = refl
    term_of_number of_var_term of_var_term = refl
    term_of_number (of_fun x y) (of_fun u v) = ap₂ fun' (type_number x u) (term_number y v)
    term_of_number (of_appl x y) (of_appl u v) = ap₂ appl' (term_number x u) (term_number y v)
    term_of_number (of_fun2 x y) (of_fun2 u v) = ap₂ fun2' (type_number x u) (term_number y v)
    term_of_number (of_appl2 x y) (of_appl2 u v) = ap₂ appl2' (term_number x u) (type_number y v)
    term_of_number (of_fold x y) (of_fold u v) = ap₂ fold_term' (type_number x u) (term_number y v)
    term_of_number (of_unfold x) (of_unfold u) = ap unfold_term' (term_number x u)
    term_of_number (of_rec_term x y) (of_rec_term u v) = ap₂ rec_term' (type_number x u) (term_number y v)

  mutual
    pub env_number : {E : Env} {m n : ℕ} → EnvAt G m E → EnvAt G n E → m ≡ n
    env_number {m = m} {n} (EnvAt.env_at e x) (EnvAt.env_at f y) =
        (w n _ f).once m (e ∙ ap (λ t. Some (env_line t)) (env_of_number x y))

    env_of_number : {E : Env} {t u : EnvLine} → EnvOf G t E → EnvOf G u E → t ≡ u
    env_of_number of_empty of_empty = refl
    env_of_number (of_with_term x y) (of_with_term u v) = ap₂ with_term' (env_number x u) (type_number y v)
    env_of_number (of_with_type x y) (of_with_type u v) = ap₂ with_type' (env_number x u) (type_number y v)
