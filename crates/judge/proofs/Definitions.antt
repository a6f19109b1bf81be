-- The session environment after a granted phrase.
use Rattle.std.proofs.Common.{◌≡◌, ℕ, zero, suc, ◌<◌, ◌≤◌, List, [], ◌∷◌, ◌++◌, length, Some, sym, ap, ◌∙◌, ⊎_elim, arith}
use Rattle.std.specs.List.{slice_get}
use Rattle.lines.proofs.Numbered.{numbered_past}
use Rattle.lines.specs.Stores.{numbered}
use Rattle.lines.specs.declared.line.Line.{Line}
use Rattle.rules.specs.Derivations.{Judgment}
use Rattle.rules.specs.Follows.{Defines, type_defined, term_defined}
use Rattle.rules.specs.Meaning.{states_env, states_type, states_sub, states_has}
use Rattle.rules.specs.Statements.{Statement, Get, said}
use Rattle.rules.specs.Syntax.{Env}
use Rattle.rules.proofs.Means.{env_on}
use Rattle.rules.proofs.Whole.{defines_on, said_line, line_said}
use Rattle.judge.specs.Judgments.{SessionEnv, Stated_by, Granted_by, by_let_type, by_let_term, by_let_untyped, by_type, by_term, by_judge_env, by_judge_type, by_judge_subtype, by_judge_term, Anew, env_after}
use Rattle.judge.specs.Phrases.{Phrase}
use Rattle.judge.proofs.Valid.{Grown, grown_kept, Grows, grows_on, defines_nothing}
use Rattle.std.proofs.lemmas.Bool.{cases_lt}
use Rattle.std.proofs.lemmas.Option.{none-some}

pub numbered_length : (xs : List Line) (n : ℕ) (l : Line) → numbered xs n ≡ Some l → n ≤ length xs
numbered_length xs n l e = ⊎_elim (λ past. absurd (none-some _ (sym (numbered_past xs n past) ∙ e))) (λ h. h) (cases_lt (length xs) n)

nth_within : (xs more : List Line) (n : ℕ) (l : Line) → n < length xs → slice_get (xs ++ more) n ≡ Some l → slice_get xs n ≡ Some l
nth_within [] more n l h e = absurd (let z : ⊥ = omega (arith, h) in z)
nth_within (x ∷ xs) more zero l h e = e
nth_within (x ∷ xs) more (suc n) l h e = nth_within xs more n l (omega (arith, h)) e

pub said_within : (xs more ys : List Line) → ys ≡ xs ++ more → (n : ℕ) (s : Statement) → n ≤ length xs → said ys n ≡ Some s → said xs n ≡ Some s
said_within xs more ys g zero s h e = absurd (none-some _ e)
said_within xs more ys g (suc n) s h e =
    let (l, f, k) = said_line ys (suc n) s e in
    line_said xs (suc n) l s (nth_within xs more n l (omega (arith, h)) (sym (ap (λ zs. slice_get zs n) g) ∙ f)) k

-- a line that states a judgment defines nothing
pub stated_defines_nothing : {G : Get} {n : ℕ} {J : Judgment} → Stated_by G n J → (E : ℕ) → Defines G n E → ⊥
stated_defines_nothing (s, e, states_env g) = defines_nothing tt e
stated_defines_nothing (s, e, states_type g a) = defines_nothing tt e
stated_defines_nothing (s, e, states_sub g a b) = defines_nothing tt e
stated_defines_nothing (s, e, states_has g a b) = defines_nothing tt e

pub session_kept : (xs ys : List Line) {Γ : Env} → Grows xs ys → SessionEnv (said xs) Γ → SessionEnv (said ys) Γ
session_kept xs ys g (SessionEnv.nothing_defined h) = SessionEnv.nothing_defined (λ d E x. h d E (g.kept d E x))
session_kept xs ys g (SessionEnv.latest_defined x h e) =
    SessionEnv.latest_defined (defines_on (grows_on g) x) (λ m F l y. h m F l (g.kept m F y)) (env_on (grows_on g) e)

module _ (xs ys : List Line) (n : ℕ) (g : Grown xs ys n) where
  defined_within : (m F : ℕ) → Defines (said xs) m F → m ≤ length xs
  defined_within m F (type_defined e) = let (l, f, k) = said_line xs m _ e in numbered_length xs m l f
  defined_within m F (term_defined e) = let (l, f, k) = said_line xs m _ e in numbered_length xs m l f

  old : (F : ℕ) → n ≤ length xs → Defines (said ys) n F → Defines (said xs) n F
  old F h (type_defined e) = type_defined (said_within xs g.more ys g.whole n _ h e)
  old F h (term_defined e) = term_defined (said_within xs g.more ys g.whole n _ h e)

  -- a definition on line n that was none before is the latest
  latest : (E : ℕ) → Defines (said ys) n E → ((F : ℕ) → Defines (said xs) n F → ⊥) → (m F : ℕ) → n < m → Defines (said ys) m F → ⊥
  latest E x new m F lt y =
      ⊎_elim (λ before. new E (old E (omega (arith, lt, defined_within m F before)) x)) (λ last. let z : ⊥ = omega (arith, lt, last) in z)
      (g.kept_or_last m F y)

  kept_by : {Γ : Env} {J : Judgment} → SessionEnv (said xs) Γ → Stated_by (said ys) n J → SessionEnv (said ys) Γ
  kept_by env x = session_kept xs ys (grown_kept g (stated_defines_nothing x)) env

  pub session_after : {Γ : Env} (phrase : Phrase) {J : Judgment} → SessionEnv (said xs) Γ → Granted_by (said ys) Γ phrase n J → Anew (said xs) phrase n
      → SessionEnv (said ys) (env_after Γ phrase J)
  session_after phrase env (by_let_type e f b a p h) new = SessionEnv.latest_defined (type_defined e) (latest _ (type_defined e) new) h
  session_after phrase env (by_let_term e f a b p h) new = SessionEnv.latest_defined (term_defined e) (latest _ (term_defined e) new) h
  session_after phrase env (by_let_untyped e f a b p h) new = SessionEnv.latest_defined (term_defined e) (latest _ (term_defined e) new) h
  session_after phrase env (by_type x) new = kept_by env x
  session_after phrase env (by_term x) new = kept_by env x
  session_after phrase env (by_judge_env x) new = kept_by env x
  session_after phrase env (by_judge_type x) new = kept_by env x
  session_after phrase env (by_judge_subtype x) new = kept_by env x
  session_after phrase env (by_judge_term x) new = kept_by env x
