-- A phrase in which Let names stand for lines, and the same phrase in which they stand for the types of those lines, ask the same judgments.
use Rattle.std.proofs.Common.{◌≡◌, ℕ, suc, List, [], ◌∷◌, ap, ap₂, sym, ◌∙◌, subst}
use Rattle.judge.specs.Judgments.{TypeIs, is_top, is_var, is_line, is_arrow, is_all, is_rec, TermIs, is_top_term, is_var_term, is_fun, is_appl, is_fun2, is_appl2, is_fold, is_unfold, is_rec_term, Extends, no_binding, JudgmentOf, of_let_type, of_let_term, of_let_untyped, of_type_phrase, of_term_phrase, of_judge_env, of_judge_type, of_judge_subtype, of_judge_term}
use Rattle.judge.specs.Judgments as judge
use Rattle.judge.proofs.Laying.{type_is_one, term_is_one, extends_one}
use Rattle.rules.specs.Derivations.{Judgment, is_env, is_type, is_sub, has}
use Rattle.rules.specs.Meaning.{TypeAt}
use Rattle.rules.specs.Statements.{Get}
use Rattle.rules.specs.Syntax.{Ty, Env, with_term, with_type}
use Rattle.runs.specs.Judgments.{type_of, term_of, env_of, Asks}
use Rattle.runs.specs.Trees.{type_judged, term_judged, env_judged, phrase_judged}
use Rattle.scope.specs.Mapped.{map_type, map_term, map_env, map_phrase}
use Rattle.scope.specs.Scoped.{ScopedType, top, var, defined, arrow, all, all_unbounded, rec, ScopedTerm, top_term, term_var, fun, appl, fun2, fun2_unbounded, appl2, fold_term, unfold_term, rec_term, ScopedBinding, type_binding, term_binding, ScopedPhrase, let_type, let_type_unbounded, let_term, let_term_untyped, of_type, of_term, judge_env, judge_type, judge_subtype, judge_term}
use Rattle.scope.specs.Within.{TypeWithin, TermWithin, EnvWithin, PhraseWithin}

alike : {A B C D : Type 0} (f : A → B → C → D) {a a' : A} {b b' : B} {c c' : C} → a ≡ a' → b ≡ b' → c ≡ c' → f a b c ≡ f a' b' c'
alike f {a} {a'} {b} {b'} {c} {c'} p q r = ap (λ x. f x b c) p ∙ ap₂ (f a') q r

module _ (G : Get) where
  -- the line of a type, with the type
  abbrev pub Known : Type 0
  Known = (n : ℕ) × (A : Ty) × TypeAt G n A

  abbrev pub line : Known → ℕ
  line x = x.0

  abbrev pub type : Known → Ty
  type x = x.1

  pub type_is : (a : ScopedType Known) (n : ℕ) → TypeWithin n a → TypeIs G (type_judged (map_type line a)) (type_of (map_type type a))
  type_is top n w = is_top
  type_is (var k) n w = is_var w.0
  type_is (defined x) n w = is_line x.2
  type_is (arrow a b) n w = is_arrow (type_is a n w.0) (type_is b n w.1)
  type_is (all a b) n w = is_all (type_is a n w.0) (type_is b (suc n) w.1)
  type_is (all_unbounded b) n w = is_all is_top (type_is b (suc n) w)
  type_is (rec b) n w = is_rec (type_is b (suc n) w)

  pub term_is : (a : ScopedTerm Known) (n m : ℕ) → TermWithin n m a → TermIs G (term_judged (map_term line a)) (term_of (map_term type a))
  term_is (top_term byte) n m w = is_top_term
  term_is (term_var byte k) n m w = is_var_term w.0
  term_is (fun byte A b) n m w = is_fun (type_is A n w.0) (term_is b n (suc m) w.1)
  term_is (appl byte b a) n m w = is_appl (term_is b n m w.0) (term_is a n m w.1)
  term_is (fun2 byte A b) n m w = is_fun2 (type_is A n w.0) (term_is b (suc n) m w.1)
  term_is (fun2_unbounded byte b) n m w = is_fun2 is_top (term_is b (suc n) m w)
  term_is (appl2 byte b A) n m w = is_appl2 (term_is b n m w.0) (type_is A n w.1)
  term_is (fold_term byte A a) n m w = is_fold (type_is A n w.0) (term_is a n m w.1)
  term_is (unfold_term byte a) n m w = is_unfold (term_is a n m w)
  term_is (rec_term byte A b) n m w = is_rec_term (type_is A n w.0) (term_is b n (suc m) w.1)

  pub env_is : (E : List (ScopedBinding Known)) (n m : ℕ) (Rest : ℕ → ℕ → Type 0) → EnvWithin n m E Rest → (Γ : Env)
      → Extends G Γ (env_judged (map_env line E)) (env_of Γ (map_env type E)) × ((i : ℕ) × (j : ℕ) × Rest i j)
  env_is [] n m Rest w Γ = (no_binding, (n, m, w))
  env_is (type_binding x A ∷ E) n m Rest w Γ =
      let (e, r) = env_is E (suc n) m Rest w.1 (with_type Γ (type_of (map_type type A))) in (judge.type_binding (type_is A n w.0) e, r)
  env_is (term_binding x A ∷ E) n m Rest w Γ =
      let (e, r) = env_is E n (suc m) Rest w.1 (with_term Γ (type_of (map_type type A))) in (judge.term_binding (type_is A n w.0) e, r)

  module _ (Γ : Env) where
    abbrev Of : ScopedPhrase Known → Judgment → Type 0
    Of q J = JudgmentOf G Γ (phrase_judged (map_phrase line q)) J

    -- what the phrase of types asks, that of lines asks
    pub asked_of_lines : (q : ScopedPhrase Known) (m : ℕ) → PhraseWithin 0 m q → (J : Judgment) → Asks Γ (map_phrase type q) J → Of q J
    asked_of_lines (let_type x B A) m w J e = subst (Of (let_type x B A)) (sym e) (of_let_type (type_is B 0 w.0) (type_is A 0 w.1))
    asked_of_lines (let_type_unbounded x A) m w J e = subst (Of (let_type_unbounded x A)) (sym e) (of_let_type is_top (type_is A 0 w))
    asked_of_lines (let_term x A b) m w J e = subst (Of (let_term x A b)) (sym e) (of_let_term (type_is A 0 w.0) (term_is b 0 m w.1))
    asked_of_lines (let_term_untyped x b) m w J (A, e) = subst (Of (let_term_untyped x b)) (sym e) (of_let_untyped (term_is b 0 m w))
    asked_of_lines (of_type A) m w J e = subst (Of (of_type A)) (sym e) (of_type_phrase (type_is A 0 w))
    asked_of_lines (of_term b) m w J (A, e) = subst (Of (of_term b)) (sym e) (of_term_phrase (term_is b 0 m w))
    asked_of_lines (judge_env E) m w J e = let (x, r) = env_is E 0 m _ w Γ in subst (Of (judge_env E)) (sym e) (of_judge_env x)
    asked_of_lines (judge_type E A) m w J e =
        let (x, (i, j, r)) = env_is E 0 m _ w Γ in subst (Of (judge_type E A)) (sym e) (of_judge_type x (type_is A i r))
    asked_of_lines (judge_subtype E A B) m w J e =
        let (x, (i, j, r)) = env_is E 0 m _ w Γ in subst (Of (judge_subtype E A B)) (sym e) (of_judge_subtype x (type_is A i r.0) (type_is B i r.1))
    asked_of_lines (judge_term E a A) m w J e =
        let (x, (i, j, r)) = env_is E 0 m _ w Γ in subst (Of (judge_term E a A)) (sym e) (of_judge_term x (term_is a i j r.0) (type_is A i r.1))

    -- and the other way around
    pub asked_of_types : (q : ScopedPhrase Known) (m : ℕ) → PhraseWithin 0 m q → (J : Judgment) → Of q J → Asks Γ (map_phrase type q) J
    asked_of_types (let_type x B A) m w J (of_let_type b a) =
        ap₂ (is_sub Γ) (type_is_one a (type_is A 0 w.1)) (type_is_one b (type_is B 0 w.0))
    asked_of_types (let_type_unbounded x A) m w J (of_let_type b a) = ap₂ (is_sub Γ) (type_is_one a (type_is A 0 w)) (type_is_one b is_top)
    asked_of_types (let_term x A b) m w J (of_let_term a t) = ap₂ (has Γ) (term_is_one t (term_is b 0 m w.1)) (type_is_one a (type_is A 0 w.0))
    asked_of_types (let_term_untyped x b) m w J (of_let_untyped {A = A} t) = (A, ap (λ u. has Γ u A) (term_is_one t (term_is b 0 m w)))
    asked_of_types (of_type A) m w J (of_type_phrase a) = ap (is_type Γ) (type_is_one a (type_is A 0 w))
    asked_of_types (of_term b) m w J (of_term_phrase {A = A} t) = (A, ap (λ u. has Γ u A) (term_is_one t (term_is b 0 m w)))
    asked_of_types (judge_env E) m w J (of_judge_env x) = let (y, r) = env_is E 0 m _ w Γ in ap is_env (extends_one x y)
    asked_of_types (judge_type E A) m w J (of_judge_type x a) =
        let (y, (i, j, r)) = env_is E 0 m _ w Γ in ap₂ is_type (extends_one x y) (type_is_one a (type_is A i r))
    asked_of_types (judge_subtype E A B) m w J (of_judge_subtype x a b) =
        let (y, (i, j, r)) = env_is E 0 m _ w Γ in
        alike is_sub (extends_one x y) (type_is_one a (type_is A i r.0)) (type_is_one b (type_is B i r.1))
    asked_of_types (judge_term E b A) m w J (of_judge_term x t a) =
        let (y, (i, j, r)) = env_is E 0 m _ w Γ in
        alike has (extends_one x y) (term_is_one t (term_is b i j r.0)) (type_is_one a (type_is A i r.1))
