-- What goals mean, when what they mean holds, and what an established goal answers.
use Rattle.std.proofs.Common.{◌≡◌, ℕ, ◌≤◌, Some}
use Rattle.rules.specs.Follows.{Raises, Puts, BoundIs, TypingIs, IsEnv, IsType, IsSub, Has}
use Rattle.rules.specs.Meaning.{TypeAt, TermAt, of_top_term, of_var_term, of_fun, of_appl, of_fun2, of_appl2, of_fold, of_unfold, of_rec_term, EnvAt}
use Rattle.rules.specs.Quantifiers.{Rule}
use Rattle.rules.specs.Statements.{top_term', var_term', fun', appl', fun2', appl2', fold_term', unfold_term', rec_term', s_var, term_line, sub_judged, Get}
use Rattle.rules.specs.Syntax.{Ty, Tm, top_term, var_term, fun, appl, fun2, appl2, fold_term, unfold_term, rec_term, Env, Bound, Typing, Within}
use Rattle.rules.specs.Tries.{Tries}
use Rattle.rules.proofs.Formed.{Formed}
use Rattle.rules.proofs.Least.{Least}
use Rattle.rules.proofs.Means.{type_on}
use Rattle.rules.proofs.Whole.{◌⊑◌}
use Rattle.judge.specs.Goals.{Placed, top_placed, var_placed, fun_placed, appl_placed, fun2_placed, appl2_placed, fold_placed, unfold_placed, rec_placed, line_at, Goal, seek_raising, seek_putting, seek_bound, seek_typing, seek_env, seek_type, seek_sub, seek_var, seek_term, seek_subsumed, exposing}

-- each part of a placed term stands on its line
pub data PlacedAt (G : Get) : Placed → Tm → Type 0 where
  top_at : {byte n : ℕ} → G n ≡ Some (term_line top_term') → PlacedAt G (top_placed byte n) top_term
  var_at : {byte k n : ℕ} → G n ≡ Some (term_line (var_term' k)) → PlacedAt G (var_placed byte k n) (var_term k)
  fun_at : {byte m n : ℕ} {b : Placed} {A : Ty} {t : Tm} → G n ≡ Some (term_line (fun' m (line_at b))) → TypeAt G m A → PlacedAt G b t
      → PlacedAt G (fun_placed byte m b n) (fun A t)
  appl_at : {byte n : ℕ} {b a : Placed} {t u : Tm} → G n ≡ Some (term_line (appl' (line_at b) (line_at a))) → PlacedAt G b t → PlacedAt G a u
      → PlacedAt G (appl_placed byte b a n) (appl t u)
  fun2_at : {byte m n : ℕ} {b : Placed} {A : Ty} {t : Tm} → G n ≡ Some (term_line (fun2' m (line_at b))) → TypeAt G m A → PlacedAt G b t
      → PlacedAt G (fun2_placed byte m b n) (fun2 A t)
  appl2_at : {byte m n : ℕ} {b : Placed} {A : Ty} {t : Tm} → G n ≡ Some (term_line (appl2' (line_at b) m)) → PlacedAt G b t → TypeAt G m A
      → PlacedAt G (appl2_placed byte b m n) (appl2 t A)
  fold_at : {byte m n : ℕ} {a : Placed} {A : Ty} {t : Tm} → G n ≡ Some (term_line (fold_term' m (line_at a))) → TypeAt G m A → PlacedAt G a t
      → PlacedAt G (fold_placed byte m a n) (fold_term A t)
  unfold_at : {byte n : ℕ} {a : Placed} {t : Tm} → G n ≡ Some (term_line (unfold_term' (line_at a))) → PlacedAt G a t
      → PlacedAt G (unfold_placed byte a n) (unfold_term t)
  rec_at : {byte m n : ℕ} {b : Placed} {A : Ty} {t : Tm} → G n ≡ Some (term_line (rec_term' m (line_at b))) → TypeAt G m A → PlacedAt G b t
      → PlacedAt G (rec_placed byte m b n) (rec_term A t)

pub placed_term : {G : Get} {p : Placed} {a : Tm} → PlacedAt G p a → TermAt G (line_at p) a
placed_term (top_at e) = TermAt.term_at e of_top_term
placed_term (var_at e) = TermAt.term_at e of_var_term
placed_term (fun_at e x y) = TermAt.term_at e (of_fun x (placed_term y))
placed_term (appl_at e x y) = TermAt.term_at e (of_appl (placed_term x) (placed_term y))
placed_term (fun2_at e x y) = TermAt.term_at e (of_fun2 x (placed_term y))
placed_term (appl2_at e x y) = TermAt.term_at e (of_appl2 (placed_term x) y)
placed_term (fold_at e x y) = TermAt.term_at e (of_fold x (placed_term y))
placed_term (unfold_at e x) = TermAt.term_at e (of_unfold (placed_term x))
placed_term (rec_at e x y) = TermAt.term_at e (of_rec_term x (placed_term y))

pub placed_on : {G H : Get} → G ⊑ H → {p : Placed} {a : Tm} → PlacedAt G p a → PlacedAt H p a
placed_on o (top_at e) = top_at (o _ _ e)
placed_on o (var_at e) = var_at (o _ _ e)
placed_on o (fun_at e x y) = fun_at (o _ _ e) (type_on o x) (placed_on o y)
placed_on o (appl_at e x y) = appl_at (o _ _ e) (placed_on o x) (placed_on o y)
placed_on o (fun2_at e x y) = fun2_at (o _ _ e) (type_on o x) (placed_on o y)
placed_on o (appl2_at e x y) = appl2_at (o _ _ e) (placed_on o x) (type_on o y)
placed_on o (fold_at e x y) = fold_at (o _ _ e) (type_on o x) (placed_on o y)
placed_on o (unfold_at e x) = unfold_at (o _ _ e) (placed_on o x)
placed_on o (rec_at e x y) = rec_at (o _ _ e) (type_on o x) (placed_on o y)

-- a goal with its lines written out
pub data Sought : Type 0 where
  -- X raised above j
  raised : ℕ → Ty → Sought
  -- Y with X put for j
  replaced : ℕ → (X Y : Ty) → Sought
  bound_of : Env → ℕ → Sought
  typing_of : Env → ℕ → Sought
  an_env : Env → Sought
  a_type : Env → Ty → Sought
  below : Env → Ty → Ty → Sought
  below_bound : Env → ℕ → Sought
  typed : Env → Tm → Sought
  subsumed : Env → Tm → Ty → Sought

pub data Means (G : Get) : Goal → Sought → Type 0 where
  means_raising : {A j : ℕ} {X : Ty} → TypeAt G A X → Means G (seek_raising A j) (raised j X)
  means_putting : {B j A : ℕ} {X Y : Ty} → 1 ≤ j → TypeAt G B Y → TypeAt G A X → Means G (seek_putting B j A) (replaced j X Y)
  means_bound : {E k : ℕ} {Γ : Env} → EnvAt G E Γ → Means G (seek_bound E k) (bound_of Γ k)
  means_typing : {E k : ℕ} {Γ : Env} → EnvAt G E Γ → Means G (seek_typing E k) (typing_of Γ k)
  means_env : {E : ℕ} {Γ : Env} → EnvAt G E Γ → Means G (seek_env E) (an_env Γ)
  means_type : {E A : ℕ} {Γ : Env} {X : Ty} → EnvAt G E Γ → TypeAt G A X → Means G (seek_type E A) (a_type Γ X)
  means_sub : {E A B : ℕ} {Γ : Env} {X Y : Ty} → EnvAt G E Γ → TypeAt G A X → TypeAt G B Y → Means G (seek_sub E A B) (below Γ X Y)
  means_var : {E A k : ℕ} {Γ : Env} → EnvAt G E Γ → TypeAt G A (Ty.var k) → Means G (seek_var E A) (below_bound Γ k)
  means_term : {E : ℕ} {p : Placed} {Γ : Env} {a : Tm} → EnvAt G E Γ → PlacedAt G p a → Means G (seek_term E p) (typed Γ a)
  means_subsumed : {E a A B p q : ℕ} {Γ : Env} {t : Tm} {Y : Ty} → EnvAt G E Γ → TermAt G a t → TypeAt G B Y → Has G p E a A → IsSub G q E A B
      → Means G (seek_subsumed E a B p q) (subsumed Γ t Y)

-- when it can be established: what is raised, put or subsumed always, the rest as the tries have it, a term where it has a least type
abbrev pub Holds : Rule → Sought → Type 0
Holds R (raised j X) = Unit {0}
Holds R (replaced j X Y) = Unit {0}
Holds R (bound_of Γ k) = (A : Ty) × Bound Γ k A
Holds R (typing_of Γ k) = (A : Ty) × Typing Γ k A
Holds R (an_env Γ) = Formed Γ
Holds R (a_type Γ X) = Formed Γ × Within Γ X
Holds R (below Γ X Y) = Formed Γ × Tries R Γ X Y
Holds R (below_bound Γ k) = Formed Γ × ((A : Ty) × Bound Γ k A)
Holds R (typed Γ a) = (A : Ty) × Least R Γ a A
Holds R (subsumed Γ t Y) = Unit {0}

-- line n says what is sought, with the result r
abbrev pub Answers : Get → Goal → (n r : ℕ) → Type 0
Answers G (seek_raising A j) n r = Raises G n A j r
Answers G (seek_putting B j A) n r = Puts G n B j A r
Answers G (seek_bound E k) n r = BoundIs G n E k r
Answers G (seek_typing E k) n r = TypingIs G n E k r
Answers G (seek_env E) n r = IsEnv G n E
Answers G (seek_type E A) n r = IsType G n E A
Answers G (seek_sub E A B) n r = IsSub G n E A B
Answers G (seek_var E A) n r = (x : ℕ) × (y : ℕ) × (G n ≡ Some (sub_judged s_var E A r x y))
Answers G (seek_term E p) n r = Has G n E (line_at p) r
Answers G (seek_subsumed E a B p q) n r = Has G n E a B
Answers G (exposing most E a p T) n r = ⊥

-- and what the line cannot say: that a term's type is its least
abbrev pub Knows : Rule → Get → Sought → (r : ℕ) → Type 0
Knows R G (typed Γ a) r = (A : Ty) × TypeAt G r A × Least R Γ a A
Knows R G other r = Unit {0}
