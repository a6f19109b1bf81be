-- What lines mean with the lines they name written out: types, terms, environments, and the judgments of lines 50 to 79. G n is what line n says.
use Rattle.std.specs.Prelude.{◌≡◌, ℕ, Some}
use Rattle.rules.specs.Derivations.{Judgment, is_env, is_type, is_sub, has}
use Rattle.rules.specs.Statements.{TypeLine, top', var', arrow', all', rec', TermLine, top_term', var_term', fun', appl', fun2', appl2', fold_term', unfold_term', rec_term', EnvLine, empty', with_term', with_type', SubRule, HasRule, Statement, type_line, term_line, env_line, env_judged, type_judged, sub_judged, has_judged, Get}
use Rattle.rules.specs.Syntax.{Ty, top, var, arrow, all, rec, Tm, top_term, var_term, fun, appl, fun2, appl2, fold_term, unfold_term, rec_term, Env, empty, with_term, with_type}

mutual
  -- line n is the type A
  pub data TypeAt (G : Get) : ℕ → Ty → Type 0 where
    type_at : {n : ℕ} {t : TypeLine} {A : Ty} → G n ≡ Some (type_line t) → TypeOf G t A → TypeAt G n A

  pub data TypeOf (G : Get) : TypeLine → Ty → Type 0 where
    of_top : TypeOf G top' top
    of_var : {k : ℕ} → TypeOf G (var' k) (var k)
    of_arrow : {a b : ℕ} {A B : Ty} → TypeAt G a A → TypeAt G b B → TypeOf G (arrow' a b) (arrow A B)
    of_all : {a b : ℕ} {A B : Ty} → TypeAt G a A → TypeAt G b B → TypeOf G (all' a b) (all A B)
    of_rec : {b : ℕ} {B : Ty} → TypeAt G b B → TypeOf G (rec' b) (rec B)

mutual
  -- line n is the term a
  pub data TermAt (G : Get) : ℕ → Tm → Type 0 where
    term_at : {n : ℕ} {t : TermLine} {a : Tm} → G n ≡ Some (term_line t) → TermOf G t a → TermAt G n a

  pub data TermOf (G : Get) : TermLine → Tm → Type 0 where
    of_top_term : TermOf G top_term' top_term
    of_var_term : {k : ℕ} → TermOf G (var_term' k) (var_term k)
    of_fun : {m n : ℕ} {A : Ty} {b : Tm} → TypeAt G m A → TermAt G n b → TermOf G (fun' m n) (fun A b)
    of_appl : {m n : ℕ} {b a : Tm} → TermAt G m b → TermAt G n a → TermOf G (appl' m n) (appl b a)
    of_fun2 : {m n : ℕ} {A : Ty} {b : Tm} → TypeAt G m A → TermAt G n b → TermOf G (fun2' m n) (fun2 A b)
    of_appl2 : {m n : ℕ} {b : Tm} {A : Ty} → TermAt G m b → TypeAt G n A → TermOf G (appl2' m n) (appl2 b A)
    of_fold : {m n : ℕ} {A : Ty} {a : Tm} → TypeAt G m A → TermAt G n a → TermOf G (fold_term' m n) (fold_term A a)
    of_unfold : {n : ℕ} {a : Tm} → TermAt G n a → TermOf G (unfold_term' n) (unfold_term a)
    of_rec_term : {m n : ℕ} {A : Ty} {b : Tm} → TypeAt G m A → TermAt G n b → TermOf G (rec_term' m n) (rec_term A b)

mutual
  -- line n is the environment E
  pub data EnvAt (G : Get) : ℕ → Env → Type 0 where
    env_at : {n : ℕ} {e : EnvLine} {E : Env} → G n ≡ Some (env_line e) → EnvOf G e E → EnvAt G n E

  pub data EnvOf (G : Get) : EnvLine → Env → Type 0 where
    of_empty : EnvOf G empty' empty
    of_with_term : {m n : ℕ} {E : Env} {A : Ty} → EnvAt G m E → TypeAt G n A → EnvOf G (with_term' m n) (with_term E A)
    of_with_type : {m n : ℕ} {E : Env} {A : Ty} → EnvAt G m E → TypeAt G n A → EnvOf G (with_type' m n) (with_type E A)

-- the judgment that a line 50 to 79 states
pub data States (G : Get) : Statement → Judgment → Type 0 where
  states_env : {e p : ℕ} {E : Env} → EnvAt G e E → States G (env_judged e p) (is_env E)
  states_type : {e a p q : ℕ} {E : Env} {A : Ty} → EnvAt G e E → TypeAt G a A → States G (type_judged e a p q) (is_type E A)
  states_sub : {s : SubRule} {e a b p q : ℕ} {E : Env} {A B : Ty} → EnvAt G e E → TypeAt G a A → TypeAt G b B
      → States G (sub_judged s e a b p q) (is_sub E A B)
  states_has : {h : HasRule} {e a b p q r : ℕ} {E : Env} {t : Tm} {A : Ty} → EnvAt G e E → TermAt G a t → TypeAt G b A
      → States G (has_judged h e a b p q r) (has E t A)
