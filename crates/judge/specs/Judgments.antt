-- What a phrase asks to be judged, from its tree, the session environment and the lines that Let names stand for, and when a line grants it.
use Rattle.std.specs.Prelude.{◌≡◌, ℕ, ◌<◌, ◌≤◌, T, List, [], ◌∷◌, length, Some}
use Rattle.rules.specs.Derivations.{Judgment, is_env, is_type, is_sub, has, Derivable}
use Rattle.rules.specs.Follows.{Defines}
use Rattle.rules.specs.Meaning.{TypeAt, TermAt, EnvAt, States}
use Rattle.rules.specs.Names.{is_name}
use Rattle.rules.specs.Quantifiers.{Rule}
use Rattle.rules.specs.Statements.{Statement, let_type, let_term, Get}
use Rattle.rules.specs.Syntax.{Ty, top, var, arrow, all, rec, Tm, top_term, var_term, fun, appl, fun2, appl2, fold_term, unfold_term, rec_term, Env, empty, with_term, with_type}
use Rattle.judge.specs.Phrases.{ScopedType, scoped_top, scoped_var, scoped_line, scoped_arrow, scoped_all, scoped_rec, ScopedTerm, scoped_top_term, scoped_var_term, scoped_fun, scoped_appl, scoped_fun2, scoped_appl2, scoped_fold, scoped_unfold, scoped_rec_term, Binding, of_term, of_type, Phrase, let_type_phrase, let_term_phrase, let_untyped_phrase, type_phrase, term_phrase, judge_env, judge_type, judge_subtype, judge_term, name_statement}

-- what a tree is, with the types of lines written out

pub data TypeIs (G : Get) : ScopedType → Ty → Type 0 where
  is_top : TypeIs G scoped_top top
  is_var : {k : ℕ} → 1 ≤ k → TypeIs G (scoped_var k) (var k)
  is_line : {n : ℕ} {A : Ty} → TypeAt G n A → TypeIs G (scoped_line n) A
  is_arrow : {a b : ScopedType} {A B : Ty} → TypeIs G a A → TypeIs G b B → TypeIs G (scoped_arrow a b) (arrow A B)
  is_all : {a b : ScopedType} {A B : Ty} → TypeIs G a A → TypeIs G b B → TypeIs G (scoped_all a b) (all A B)
  is_rec : {b : ScopedType} {B : Ty} → TypeIs G b B → TypeIs G (scoped_rec b) (rec B)

pub data TermIs (G : Get) : ScopedTerm → Tm → Type 0 where
  is_top_term : {byte : ℕ} → TermIs G (scoped_top_term byte) top_term
  is_var_term : {byte k : ℕ} → 1 ≤ k → TermIs G (scoped_var_term byte k) (var_term k)
  is_fun : {byte : ℕ} {a : ScopedType} {b : ScopedTerm} {A : Ty} {t : Tm} → TypeIs G a A → TermIs G b t → TermIs G (scoped_fun byte a b) (fun A t)
  is_appl : {byte : ℕ} {b a : ScopedTerm} {t u : Tm} → TermIs G b t → TermIs G a u → TermIs G (scoped_appl byte b a) (appl t u)
  is_fun2 : {byte : ℕ} {a : ScopedType} {b : ScopedTerm} {A : Ty} {t : Tm} → TypeIs G a A → TermIs G b t → TermIs G (scoped_fun2 byte a b) (fun2 A t)
  is_appl2 : {byte : ℕ} {b : ScopedTerm} {a : ScopedType} {t : Tm} {A : Ty} → TermIs G b t → TypeIs G a A → TermIs G (scoped_appl2 byte b a) (appl2 t A)
  is_fold : {byte : ℕ} {a : ScopedType} {b : ScopedTerm} {A : Ty} {t : Tm} → TypeIs G a A → TermIs G b t
      → TermIs G (scoped_fold byte a b) (fold_term A t)
  is_unfold : {byte : ℕ} {b : ScopedTerm} {t : Tm} → TermIs G b t → TermIs G (scoped_unfold byte b) (unfold_term t)
  is_rec_term : {byte : ℕ} {a : ScopedType} {b : ScopedTerm} {A : Ty} {t : Tm} → TypeIs G a A → TermIs G b t
      → TermIs G (scoped_rec_term byte a b) (rec_term A t)

-- Δ is Γ with the bindings after it
pub data Extends (G : Get) : Env → List Binding → Env → Type 0 where
  no_binding : {Γ : Env} → Extends G Γ [] Γ
  term_binding : {Γ Δ : Env} {a : ScopedType} {bindings : List Binding} {A : Ty} → TypeIs G a A → Extends G (with_term Γ A) bindings Δ
      → Extends G Γ (of_term a ∷ bindings) Δ
  type_binding : {Γ Δ : Env} {a : ScopedType} {bindings : List Binding} {A : Ty} → TypeIs G a A → Extends G (with_type Γ A) bindings Δ
      → Extends G Γ (of_type a ∷ bindings) Δ

-- J is a judgment of the phrase in the session environment Γ: of a term, or a let without a type, there is one for each type
pub data JudgmentOf (G : Get) (Γ : Env) : Phrase → Judgment → Type 0 where
  of_let_type : {name : List ℕ} {b a : ScopedType} {A B : Ty} → TypeIs G b B → TypeIs G a A → JudgmentOf G Γ (let_type_phrase name b a) (is_sub Γ A B)
  of_let_term : {name : List ℕ} {a : ScopedType} {b : ScopedTerm} {A : Ty} {t : Tm} → TypeIs G a A → TermIs G b t
      → JudgmentOf G Γ (let_term_phrase name a b) (has Γ t A)
  of_let_untyped : {name : List ℕ} {b : ScopedTerm} {A : Ty} {t : Tm} → TermIs G b t → JudgmentOf G Γ (let_untyped_phrase name b) (has Γ t A)
  of_type_phrase : {a : ScopedType} {A : Ty} → TypeIs G a A → JudgmentOf G Γ (type_phrase a) (is_type Γ A)
  of_term_phrase : {b : ScopedTerm} {A : Ty} {t : Tm} → TermIs G b t → JudgmentOf G Γ (term_phrase b) (has Γ t A)
  of_judge_env : {bindings : List Binding} {Δ : Env} → Extends G Γ bindings Δ → JudgmentOf G Γ (judge_env bindings) (is_env Δ)
  of_judge_type : {bindings : List Binding} {a : ScopedType} {Δ : Env} {A : Ty} → Extends G Γ bindings Δ → TypeIs G a A
      → JudgmentOf G Γ (judge_type bindings a) (is_type Δ A)
  of_judge_subtype : {bindings : List Binding} {a b : ScopedType} {Δ : Env} {A B : Ty} → Extends G Γ bindings Δ → TypeIs G a A → TypeIs G b B
      → JudgmentOf G Γ (judge_subtype bindings a b) (is_sub Δ A B)
  of_judge_term : {bindings : List Binding} {b : ScopedTerm} {a : ScopedType} {Δ : Env} {A : Ty} {t : Tm} → Extends G Γ bindings Δ → TermIs G b t
      → TypeIs G a A → JudgmentOf G Γ (judge_term bindings b a) (has Δ t A)

-- the session environment: the latest definition's, or the empty one
pub data SessionEnv (G : Get) : Env → Type 0 where
  nothing_defined : ((d E : ℕ) → Defines G d E → ⊥) → SessionEnv G empty
  latest_defined : {d E : ℕ} {Γ : Env} → Defines G d E → ((m F : ℕ) → d < m → Defines G m F → ⊥) → EnvAt G E Γ → SessionEnv G Γ

-- a name as a line holds it
abbrev pub Spelled : List ℕ → Type 0
Spelled name = (length name ≡ 14) × T (is_name name)

abbrev pub WellNamed : Phrase → Type 0
WellNamed (let_type_phrase name b a) = Spelled name
WellNamed (let_term_phrase name a b) = Spelled name
WellNamed (let_untyped_phrase name b) = Spelled name
WellNamed other = Unit {0}

abbrev pub Stated_by : Get → ℕ → Judgment → Type 0
Stated_by G n J = (s : Statement) × (G n ≡ Some s) × States G s J

-- Line n grants the phrase with the judgment J in the session environment Γ: it states J, or it is the definition and names a line that does.
-- A definition holds the phrase's name, its types and term, and the session environment after it.
pub data Granted_by (G : Get) (Γ : Env) : Phrase → ℕ → Judgment → Type 0 where
  by_let_type : {name : List ℕ} {β α : ScopedType} {n x b a p e d : ℕ} {A B : Ty} → G n ≡ Some (let_type x b a p e d)
      → G x ≡ Some (name_statement name) → TypeAt G b B → TypeAt G a A → Stated_by G p (is_sub Γ A B) → EnvAt G e Γ
      → Granted_by G Γ (let_type_phrase name β α) n (is_sub Γ A B)
  by_let_term : {name : List ℕ} {α : ScopedType} {β : ScopedTerm} {n x a b p e d : ℕ} {A : Ty} {t : Tm} → G n ≡ Some (let_term x a b p e d)
      → G x ≡ Some (name_statement name) → TypeAt G a A → TermAt G b t → Stated_by G p (has Γ t A) → EnvAt G e (with_term Γ A)
      → Granted_by G Γ (let_term_phrase name α β) n (has Γ t A)
  by_let_untyped : {name : List ℕ} {β : ScopedTerm} {n x a b p e d : ℕ} {A : Ty} {t : Tm} → G n ≡ Some (let_term x a b p e d)
      → G x ≡ Some (name_statement name) → TypeAt G a A → TermAt G b t → Stated_by G p (has Γ t A) → EnvAt G e (with_term Γ A)
      → Granted_by G Γ (let_untyped_phrase name β) n (has Γ t A)
  by_type : {α : ScopedType} {n : ℕ} {J : Judgment} → Stated_by G n J → Granted_by G Γ (type_phrase α) n J
  by_term : {β : ScopedTerm} {n : ℕ} {J : Judgment} → Stated_by G n J → Granted_by G Γ (term_phrase β) n J
  by_judge_env : {bindings : List Binding} {n : ℕ} {J : Judgment} → Stated_by G n J → Granted_by G Γ (judge_env bindings) n J
  by_judge_type : {bindings : List Binding} {α : ScopedType} {n : ℕ} {J : Judgment} → Stated_by G n J
      → Granted_by G Γ (judge_type bindings α) n J
  by_judge_subtype : {bindings : List Binding} {α β : ScopedType} {n : ℕ} {J : Judgment} → Stated_by G n J
      → Granted_by G Γ (judge_subtype bindings α β) n J
  by_judge_term : {bindings : List Binding} {β : ScopedTerm} {α : ScopedType} {n : ℕ} {J : Judgment} → Stated_by G n J
      → Granted_by G Γ (judge_term bindings β α) n J

-- the type that J gives is below the one that K gives
abbrev pub Lower : Rule → Judgment → Judgment → Type 0
Lower R (has Γ a A) (has Δ b B) = Derivable R (is_sub Γ A B)
Lower R other another = Unit {0}

-- a definition is granted by a line that was none of the definitions before
abbrev pub Anew : Get → Phrase → ℕ → Type 0
Anew G (let_type_phrase name b a) n = (F : ℕ) → Defines G n F → ⊥
Anew G (let_term_phrase name a b) n = (F : ℕ) → Defines G n F → ⊥
Anew G (let_untyped_phrase name b) n = (F : ℕ) → Defines G n F → ⊥
Anew G other n = Unit {0}

-- no judgment of the phrase can be derived
abbrev pub Underivable : Rule → Get → Env → Phrase → Type 0
Underivable R G Γ phrase = (J : Judgment) → JudgmentOf G Γ phrase J → Derivable R J → ⊥

-- Line n of H grants the phrase, which was read where lines said G: by a judgment of it whose type is below those of all that can be derived.
abbrev pub Grants : Rule → Get → Env → Phrase → Get → ℕ → Type 0
Grants R G Γ phrase H n =
    (J : Judgment) × JudgmentOf G Γ phrase J × Granted_by H Γ phrase n J × Anew G phrase n
    × ((K : Judgment) → JudgmentOf G Γ phrase K → Derivable R K → Lower R J K)

-- the session environment after a phrase that was granted with J: a let adds its name's type
abbrev pub env_after : Env → Phrase → Judgment → Env
env_after Γ (let_term_phrase name a b) (has Δ t A) = with_term Γ A
env_after Γ (let_untyped_phrase name b) (has Δ t A) = with_term Γ A
env_after Γ other J = Γ
