-- When a line follows from the lines before it: a constructor a rule, in the order of the codes. G n is what line n says.
use Rattle.std.specs.Prelude.{◌≡◌, ℕ, suc, ◌<◌, ◌≤◌, T, [], ◌∷◌, Some}
use Rattle.rules.specs.Names.{is_name, two_bytes}
use Rattle.rules.specs.Quantifiers.{bounds, bodies_under}
use Rattle.rules.specs.Statements.{TypeLine, top', var', arrow', all', rec', TermLine, top_term', var_term', fun', appl', fun2', appl2', fold_term', unfold_term', rec_term', EnvLine, empty', with_term', with_type', SubRule, s_refl, s_trans, s_var, s_top, s_arrow, s_all, HasRule, h_subsumed, h_var, h_top, h_fun, h_appl, h_fun2, h_appl2, h_fold, h_unfold, h_rec, Statement, type_line, term_line, env_line, raising, putting, bound_line, typing_line, env_judged, type_judged, sub_judged, has_judged, name_line, let_type, let_term, Get}
use Rattle.rules.specs.declared.all_code.AllCode.{AllCode}
use Rattle.rules.specs.declared.all_code.BodyBound.{BodyBound}
use Rattle.rules.specs.declared.all_code.BodyBound.TheVariants.{Left, Right}
use Rattle.rules.specs.declared.all_code.Bounds.TheVariants.{Same, RightBelowLeft}

-- Premises: line p says so, whatever its own premises are.
abbrev pub Raises : Get → (p A j C : ℕ) → Type 0
Raises G p A j C = (x : ℕ) × (y : ℕ) × (G p ≡ Some (raising A j C x y))

abbrev pub Puts : Get → (p B j A C : ℕ) → Type 0
Puts G p B j A C = (x : ℕ) × (y : ℕ) × (z : ℕ) × (G p ≡ Some (putting B j A C x y z))

abbrev pub BoundIs : Get → (p E k B : ℕ) → Type 0
BoundIs G p E k B = (x : ℕ) × (y : ℕ) × (G p ≡ Some (bound_line E k B x y))

abbrev pub TypingIs : Get → (p E k A : ℕ) → Type 0
TypingIs G p E k A = (x : ℕ) × (y : ℕ) × (G p ≡ Some (typing_line E k A x y))

abbrev pub IsEnv : Get → (p E : ℕ) → Type 0
IsEnv G p E = (x : ℕ) × (G p ≡ Some (env_judged E x))

abbrev pub IsType : Get → (p E A : ℕ) → Type 0
IsType G p E A = (x : ℕ) × (y : ℕ) × (G p ≡ Some (type_judged E A x y))

abbrev pub IsSub : Get → (p E A B : ℕ) → Type 0
IsSub G p E A B = (s : SubRule) × (x : ℕ) × (y : ℕ) × (G p ≡ Some (sub_judged s E A B x y))

abbrev pub Has : Get → (p E a A : ℕ) → Type 0
Has G p E a A = (h : HasRule) × (x : ℕ) × (y : ℕ) × (z : ℕ) × (G p ≡ Some (has_judged h E a A x y z))

-- line t is the bound for the bodies of All(X<:a).. <: All(X<:c)..
abbrev pub BodyBoundIs : BodyBound → (a c t : ℕ) → Type 0
BodyBoundIs Left a c t = t ≡ a
BodyBoundIs Right a c t = t ≡ c

-- a variable's number is not 0
abbrev pub TypeNumbered : TypeLine → Type 0
TypeNumbered top' = Unit {0}
TypeNumbered (var' k) = 1 ≤ k
TypeNumbered (arrow' A B) = Unit {0}
TypeNumbered (all' A B) = Unit {0}
TypeNumbered (rec' B) = Unit {0}

abbrev pub TermNumbered : TermLine → Type 0
TermNumbered top_term' = Unit {0}
TermNumbered (var_term' k) = 1 ≤ k
TermNumbered (fun' A b) = Unit {0}
TermNumbered (appl' b a) = Unit {0}
TermNumbered (fun2' A b) = Unit {0}
TermNumbered (appl2' b A) = Unit {0}
TermNumbered (fold_term' A a) = Unit {0}
TermNumbered (unfold_term' a) = Unit {0}
TermNumbered (rec_term' A b) = Unit {0}

-- line d is a definition that leaves the session environment E
pub data Defines (G : Get) : (d E : ℕ) → Type 0 where
  type_defined : {d E name B A p previous : ℕ} → G d ≡ Some (let_type name B A p E previous) → Defines G d E
  term_defined : {d E name A b p previous : ℕ} → G d ≡ Some (let_term name A b p E previous) → Defines G d E

-- d is the latest definition and E the session environment; where nothing is defined, 0 and the line of the empty environment
pub data Session (G : Get) : (d E : ℕ) → Type 0 where
  nothing_defined : {E : ℕ} → ((m F : ℕ) → Defines G m F → ⊥) → G E ≡ Some (env_line empty') → Session G 0 E
  latest_defined : {d E : ℕ} → Defines G d E → ((m F : ℕ) → d < m → Defines G m F → ⊥) → Session G d E

pub data Follows (G : Get) : Statement → Type 0 where
  -- types, terms, environments
  a_type : {t : TypeLine} → TypeNumbered t → Follows G (type_line t)
  a_term : {a : TermLine} → TermNumbered a → Follows G (term_line a)
  an_env : {e : EnvLine} → Follows G (env_line e)
  -- 40
  raise_top : {A j : ℕ} → G A ≡ Some (type_line top') → Follows G (raising A j A 0 0)
  raise_low : {A j k : ℕ} → G A ≡ Some (type_line (var' k)) → k ≤ j → Follows G (raising A j A 0 0)
  raise_high : {A j k C : ℕ} → G A ≡ Some (type_line (var' k)) → j < k → G C ≡ Some (type_line (var' (suc k))) → Follows G (raising A j C 0 0)
  raise_arrow : {A j C a b c d p q : ℕ} → G A ≡ Some (type_line (arrow' a b)) → G C ≡ Some (type_line (arrow' c d))
      → Raises G p a j c → Raises G q b j d → Follows G (raising A j C p q)
  raise_all : {A j C a b c d p q : ℕ} → G A ≡ Some (type_line (all' a b)) → G C ≡ Some (type_line (all' c d))
      → Raises G p a j c → Raises G q b (suc j) d → Follows G (raising A j C p q)
  raise_rec : {A j C b d p : ℕ} → G A ≡ Some (type_line (rec' b)) → G C ≡ Some (type_line (rec' d))
      → Raises G p b (suc j) d → Follows G (raising A j C p 0)
  -- 41
  put_top : {B j A : ℕ} → G B ≡ Some (type_line top') → Follows G (putting B j A B 0 0 0)
  put_low : {B j A k : ℕ} → G B ≡ Some (type_line (var' k)) → k < j → Follows G (putting B j A B 0 0 0)
  put_here : {B j A : ℕ} → G B ≡ Some (type_line (var' j)) → Follows G (putting B j A A 0 0 0)
  put_high : {B j A k C : ℕ} → G B ≡ Some (type_line (var' (suc k))) → j < suc k → G C ≡ Some (type_line (var' k)) → Follows G (putting B j A C 0 0 0)
  put_arrow : {B j A C a b c d p q : ℕ} → G B ≡ Some (type_line (arrow' a b)) → G C ≡ Some (type_line (arrow' c d))
      → Puts G p a j A c → Puts G q b j A d → Follows G (putting B j A C p q 0)
  put_all : {B j A C a b c d A₁ p q r : ℕ} → G B ≡ Some (type_line (all' a b)) → G C ≡ Some (type_line (all' c d))
      → Puts G p a j A c → Raises G q A 0 A₁ → Puts G r b (suc j) A₁ d → Follows G (putting B j A C p q r)
  put_rec : {B j A C b d A₁ p q : ℕ} → G B ≡ Some (type_line (rec' b)) → G C ≡ Some (type_line (rec' d))
      → Raises G p A 0 A₁ → Puts G q b (suc j) A₁ d → Follows G (putting B j A C p q 0)
  -- 42
  bound_last : {E B F A q : ℕ} → G E ≡ Some (env_line (with_type' F A)) → Raises G q A 0 B → Follows G (bound_line E 1 B 0 q)
  bound_past_type : {E k B F A C p q : ℕ} → G E ≡ Some (env_line (with_type' F A)) → BoundIs G p F k C → Raises G q C 0 B
      → Follows G (bound_line E (suc k) B p q)
  bound_past_term : {E k B F A p : ℕ} → G E ≡ Some (env_line (with_term' F A)) → BoundIs G p F k B → Follows G (bound_line E k B p 0)
  -- 43
  typing_last : {E F A : ℕ} → G E ≡ Some (env_line (with_term' F A)) → Follows G (typing_line E 1 A 0 0)
  typing_past_term : {E k A F B p : ℕ} → G E ≡ Some (env_line (with_term' F B)) → TypingIs G p F k A → Follows G (typing_line E (suc k) A p 0)
  typing_past_type : {E k A F B C p q : ℕ} → G E ≡ Some (env_line (with_type' F B)) → TypingIs G p F k C → Raises G q C 0 A
      → Follows G (typing_line E k A p q)
  -- 50
  env_empty : {E : ℕ} → G E ≡ Some (env_line empty') → Follows G (env_judged E 0)
  env_term : {E F A p : ℕ} → G E ≡ Some (env_line (with_term' F A)) → IsType G p F A → Follows G (env_judged E p)
  env_type : {E F A p : ℕ} → G E ≡ Some (env_line (with_type' F A)) → IsType G p F A → Follows G (env_judged E p)
  -- 51
  type_top : {E A p : ℕ} → G A ≡ Some (type_line top') → IsEnv G p E → Follows G (type_judged E A p 0)
  type_var : {E A k B p q : ℕ} → G A ≡ Some (type_line (var' k)) → IsEnv G p E → BoundIs G q E k B → Follows G (type_judged E A p q)
  type_arrow : {E A a b p q : ℕ} → G A ≡ Some (type_line (arrow' a b)) → IsType G p E a → IsType G q E b → Follows G (type_judged E A p q)
  type_all : {E A a b F p : ℕ} → G A ≡ Some (type_line (all' a b)) → G F ≡ Some (env_line (with_type' E a)) → IsType G p F b
      → Follows G (type_judged E A p 0)
  type_rec : {E A b F t p : ℕ} → G A ≡ Some (type_line (rec' b)) → G F ≡ Some (env_line (with_type' E t)) → G t ≡ Some (type_line top')
      → IsType G p F b → Follows G (type_judged E A p 0)
  -- 60 to 66
  sub_refl : {E A p : ℕ} → IsType G p E A → Follows G (sub_judged s_refl E A A p 0)
  sub_trans : {E A B C p q : ℕ} → IsSub G p E A B → IsSub G q E B C → Follows G (sub_judged s_trans E A C p q)
  sub_var : {E A B k p q : ℕ} → G A ≡ Some (type_line (var' k)) → IsEnv G p E → BoundIs G q E k B → Follows G (sub_judged s_var E A B p q)
  sub_top : {E A B p : ℕ} → G B ≡ Some (type_line top') → IsType G p E A → Follows G (sub_judged s_top E A B p 0)
  sub_arrow : {E A B a b c d p q : ℕ} → G A ≡ Some (type_line (arrow' a b)) → G B ≡ Some (type_line (arrow' c d))
      → IsSub G p E c a → IsSub G q E b d → Follows G (sub_judged s_arrow E A B p q)
  sub_all_same : {E A B a b d F t p : ℕ} (c : AllCode) → bounds c ≡ Same
      → G A ≡ Some (type_line (all' a b)) → G B ≡ Some (type_line (all' a d))
      → G F ≡ Some (env_line (with_type' E t)) → BodyBoundIs (bodies_under c) a a t → IsSub G p F b d → Follows G (sub_judged (s_all c) E A B p 0)
  sub_all_below : {E A B a b c d F t p q : ℕ} (r : AllCode) → bounds r ≡ RightBelowLeft
      → G A ≡ Some (type_line (all' a b)) → G B ≡ Some (type_line (all' c d)) → IsSub G p E c a
      → G F ≡ Some (env_line (with_type' E t)) → BodyBoundIs (bodies_under r) a c t → IsSub G q F b d → Follows G (sub_judged (s_all r) E A B p q)
  -- 70 to 79
  has_subsumed : {E a A B p q : ℕ} → Has G p E a A → IsSub G q E A B → Follows G (has_judged h_subsumed E a B p q 0)
  has_var : {E a k A p q : ℕ} → G a ≡ Some (term_line (var_term' k)) → IsEnv G p E → TypingIs G q E k A → Follows G (has_judged h_var E a A p q 0)
  has_top : {E a A p : ℕ} → G a ≡ Some (term_line top_term') → G A ≡ Some (type_line top') → IsEnv G p E → Follows G (has_judged h_top E a A p 0 0)
  has_fun : {E a A b B C F p : ℕ} → G a ≡ Some (term_line (fun' A b)) → G C ≡ Some (type_line (arrow' A B))
      → G F ≡ Some (env_line (with_term' E A)) → Has G p F b B → Follows G (has_judged h_fun E a C p 0 0)
  has_appl : {E a b c A B C p q : ℕ} → G a ≡ Some (term_line (appl' b c)) → G C ≡ Some (type_line (arrow' A B))
      → Has G p E b C → Has G q E c A → Follows G (has_judged h_appl E a B p q 0)
  has_fun2 : {E a A b B C F p : ℕ} → G a ≡ Some (term_line (fun2' A b)) → G C ≡ Some (type_line (all' A B))
      → G F ≡ Some (env_line (with_type' E A)) → Has G p F b B → Follows G (has_judged h_fun2 E a C p 0 0)
  has_appl2 : {E a b A B C D S p q r : ℕ} → G a ≡ Some (term_line (appl2' b S)) → G C ≡ Some (type_line (all' A B))
      → Has G p E b C → IsSub G q E S A → Puts G r B 1 S D → Follows G (has_judged h_appl2 E a D p q r)
  has_fold : {E a c A B C p q : ℕ} → G a ≡ Some (term_line (fold_term' A c)) → G A ≡ Some (type_line (rec' B))
      → Puts G p B 1 A C → Has G q E c C → Follows G (has_judged h_fold E a A p q 0)
  has_unfold : {E a c A B C p q : ℕ} → G a ≡ Some (term_line (unfold_term' c)) → G A ≡ Some (type_line (rec' B))
      → Has G p E c A → Puts G q B 1 A C → Follows G (has_judged h_unfold E a C p q 0)
  has_rec : {E a A b F p : ℕ} → G a ≡ Some (term_line (rec_term' A b)) → G F ≡ Some (env_line (with_term' E A)) → Has G p F b A
      → Follows G (has_judged h_rec E a A p 0 0)
  -- 90 to 92
  a_name : {n₁ n₂ n₃ n₄ n₅ n₆ n₇ : ℕ} → T (is_name (two_bytes (n₁ ∷ n₂ ∷ n₃ ∷ n₄ ∷ n₅ ∷ n₆ ∷ n₇ ∷ [])))
      → Follows G (name_line n₁ n₂ n₃ n₄ n₅ n₆ n₇)
  define_type : {name B A p E d : ℕ} → Session G d E → IsSub G p E A B → Follows G (let_type name B A p E d)
  define_term : {name A b p E F d : ℕ} → Session G d E → G F ≡ Some (env_line (with_term' E A)) → Has G p E b A
      → Follows G (let_term name A b p F d)
