-- A line that follows from the lines before it passes the test of cause 5.
use Rattle.std.proofs.Common.{◌≡◌, ℕ, suc, Bool, true, false, T, eqb, Some, sym, refl, ap, ◌∙◌, add-one, arith}
use Rattle.checker.proofs.Reading.{reading}
use Rattle.checker.proofs.Sessions.{Tracked}
use Rattle.checker.specs.Decide.{At, in_range, follows}
use Rattle.lines.specs.declared.line.Line.{Line}
use Rattle.rules.proofs.Codes.{sub_code, has_code, line_of, says, reads}
use Rattle.rules.specs.Follows.{TypeNumbered, TermNumbered, Follows}
use Rattle.rules.specs.Statements.{TypeLine, top', var', arrow', all', rec', TermLine, top_term', var_term', fun', appl', fun2', appl2', fold_term', unfold_term', rec_term', EnvLine, empty', with_term', with_type', SubRule, s_refl, s_trans, s_var, s_top, s_arrow, s_all, HasRule, h_subsumed, h_var, h_top, h_fun, h_appl, h_fun2, h_appl2, h_fold, h_unfold, h_rec, Statement, type_line, term_line, env_line, statement}
use Rattle.rules.specs.declared.all_code.AllCode.TheVariants.{Equal, Least}
use Rattle.std.proofs.lemmas.Bool.{eq-eqb, ne_eqb, le-leb, lt-leb, lt-ltb, le-ltb}
use Rattle.std.proofs.lemmas.Option.{none-some}

sub_in : (s : SubRule) → in_range 60 66 (sub_code s) ≡ true
sub_in s_refl = refl
sub_in s_trans = refl
sub_in s_var = refl
sub_in s_top = refl
sub_in s_arrow = refl
sub_in (s_all Equal) = refl
sub_in (s_all Least) = refl

has_in : (h : HasRule) → in_range 70 79 (has_code h) ≡ true
has_in h_subsumed = refl
has_in h_var = refl
has_in h_top = refl
has_in h_fun = refl
has_in h_appl = refl
has_in h_fun2 = refl
has_in h_appl2 = refl
has_in h_fold = refl
has_in h_unfold = refl
has_in h_rec = refl

from-T : (b : Bool) → T b → b ≡ true
from-T true t = refl
from-T false t = absurd t

itself : (n : ℕ) → eqb n n ≡ true
itself n = eq-eqb n n refl

module _ (L : At) (none_at_0 : (L 0).code ≡ 0) (d E : ℕ) (kept : Tracked (reading L) d E) where
  known : {n : ℕ} {s : Statement} → statement (L n) ≡ Some s → (r : Line) × (L n ≡ line_of s r)
  known {n} {s} e = (L n, reads (L n) s e)

  nonzero_line : (n : ℕ) {s : Statement} → statement (L n) ≡ Some s → eqb n 0 ≡ false
  nonzero_line n e =
      ne_eqb n 0 (λ z. none-some _ (sym (says (L n) 0 (ap (λ k. (L k).code) z ∙ none_at_0)) ∙ e))

  type_passes : (t : TypeLine) (l : Line) → TypeNumbered t → follows L d E (line_of (type_line t) l) ≡ true
  type_passes top' l h = refl
  type_passes (var' k) l h = rw (ne_eqb k 0 (omega arith)) refl
  type_passes (arrow' A B) l h = refl
  type_passes (all' A B) l h = refl
  type_passes (rec' B) l h = refl

  term_passes : (a : TermLine) (l : Line) → TermNumbered a → follows L d E (line_of (term_line a) l) ≡ true
  term_passes top_term' l h = refl
  term_passes (var_term' k) l h = rw (ne_eqb k 0 (omega arith)) refl
  term_passes (fun' A b) l h = refl
  term_passes (appl' b a) l h = refl
  term_passes (fun2' A b) l h = refl
  term_passes (appl2' b A) l h = refl
  term_passes (fold_term' A a) l h = refl
  term_passes (unfold_term' a) l h = refl
  term_passes (rec_term' A b) l h = refl

  env_passes : (e : EnvLine) (l : Line) → follows L d E (line_of (env_line e) l) ≡ true
  env_passes empty' l = refl
  env_passes (with_term' F A) l = refl
  env_passes (with_type' F A) l = refl

  pub passes : (s : Statement) (l : Line) → Follows (reading L) s → follows L d E (line_of s l) ≡ true
  passes s l (Follows.a_type {t = t} h) = type_passes t l h
  passes s l (Follows.a_term {a = a} h) = term_passes a l h
  passes s l (Follows.an_env {e = e}) = env_passes e l
  passes s l (Follows.raise_top e) = simp ((known e).1, itself)
  passes s l (Follows.raise_low {j = j} {k = k} e h) = simp ((known e).1, le-leb k j h, itself)
  passes s l (Follows.raise_high {j = j} {k = k} e h f) = simp ((known e).1, (known f).1, lt-leb k j h, add-one, itself)
  passes s l (Follows.raise_arrow e f x y) = simp ((known e).1, (known f).1, (known x.2).1, (known y.2).1, itself)
  passes s l (Follows.raise_all e f x y) = simp ((known e).1, (known f).1, (known x.2).1, (known y.2).1, add-one, itself)
  passes s l (Follows.raise_rec e f x) = simp ((known e).1, (known f).1, (known x.2).1, add-one, itself)
  passes s l (Follows.put_top e) = simp ((known e).1, itself)
  passes s l (Follows.put_low {j = j} {k = k} e h) = simp ((known e).1, lt-ltb k j h, itself)
  passes s l (Follows.put_here {j = j} e) = simp ((known e).1, le-ltb j j (omega arith), itself)
  passes s l (Follows.put_high {j = j} {k = k} e h f) =
      simp ((known e).1, (known f).1, le-ltb (suc k) j (omega arith), ne_eqb (suc k) j (omega arith), add-one, itself)
  passes s l (Follows.put_arrow e f x y) = simp ((known e).1, (known f).1, (known x.3).1, (known y.3).1, itself)
  passes s l (Follows.put_all e f x y z) = simp ((known e).1, (known f).1, (known x.3).1, (known y.2).1, (known z.3).1, add-one, itself)
  passes s l (Follows.put_rec e f x y) = simp ((known e).1, (known f).1, (known x.2).1, (known y.3).1, add-one, itself)
  passes s l (Follows.bound_last e x) = simp ((known e).1, (known x.2).1, itself)
  passes s l (Follows.bound_past_type e x y) = simp ((known e).1, nonzero_line _ x.2, (known x.2).1, (known y.2).1, add-one, itself)
  passes s l (Follows.bound_past_term e x) = simp ((known e).1, (known x.2).1, itself)
  passes s l (Follows.typing_last e) = simp ((known e).1, itself)
  passes s l (Follows.typing_past_term e x) = simp ((known e).1, nonzero_line _ x.2, (known x.2).1, add-one, itself)
  passes s l (Follows.typing_past_type e x y) = simp ((known e).1, (known x.2).1, (known y.2).1, itself)
  passes s l (Follows.env_empty e) = simp (known e).1
  passes s l (Follows.env_term e x) = simp ((known e).1, (known x.2).1, itself)
  passes s l (Follows.env_type e x) = simp ((known e).1, (known x.2).1, itself)
  passes s l (Follows.type_top e x) = simp ((known e).1, (known x.1).1, itself)
  passes s l (Follows.type_var e x y) = simp ((known e).1, (known x.1).1, (known y.2).1, itself)
  passes s l (Follows.type_arrow e x y) = simp ((known e).1, (known x.2).1, (known y.2).1, itself)
  passes s l (Follows.type_all e f x) = simp ((known e).1, (known f).1, (known x.2).1, itself)
  passes s l (Follows.type_rec e f g x) = simp ((known e).1, (known f).1, (known g).1, (known x.2).1, itself)
  passes s l (Follows.sub_refl x) = simp ((known x.2).1, itself)
  passes s l (Follows.sub_trans x y) = simp ((known x.3).1, (known y.3).1, sub_in x.0, sub_in y.0, itself)
  passes s l (Follows.sub_var e x y) = simp ((known e).1, (known x.1).1, (known y.2).1, itself)
  passes s l (Follows.sub_top e x) = simp ((known e).1, (known x.2).1, itself)
  passes s l (Follows.sub_arrow e f x y) = simp ((known e).1, (known f).1, (known x.3).1, (known y.3).1, sub_in x.0, sub_in y.0, itself)
  passes s l (Follows.sub_all_same Equal b e f g t x) =
      simp ((known e).1, (known f).1, (known g).1, t, (known x.3).1, sub_in x.0, itself)
  passes s l (Follows.sub_all_same Least b e f g t x) = absurd (let z : ◌≡◌ {A = ℕ} 0 1 = cc in omega arith)
  passes s l (Follows.sub_all_below Equal b e f x g t y) = absurd (let z : ◌≡◌ {A = ℕ} 0 1 = cc in omega arith)
  passes s l (Follows.sub_all_below Least b e f x g t y) =
      simp ((known e).1, (known f).1, (known g).1, t, (known x.3).1, (known y.3).1, sub_in x.0, sub_in y.0, itself)
  passes s l (Follows.has_subsumed x y) = simp ((known x.4).1, (known y.3).1, has_in x.0, sub_in y.0, itself)
  passes s l (Follows.has_var e x y) = simp ((known e).1, (known x.1).1, (known y.2).1, itself)
  passes s l (Follows.has_top e f x) = simp ((known e).1, (known f).1, (known x.1).1, itself)
  passes s l (Follows.has_fun e f g x) = simp ((known e).1, (known f).1, (known g).1, (known x.4).1, has_in x.0, itself)
  passes s l (Follows.has_appl e f x y) = simp ((known e).1, (known f).1, (known x.4).1, (known y.4).1, has_in x.0, has_in y.0, itself)
  passes s l (Follows.has_fun2 e f g x) = simp ((known e).1, (known f).1, (known g).1, (known x.4).1, has_in x.0, itself)
  passes s l (Follows.has_appl2 e f x y z) =
      simp ((known e).1, (known f).1, (known x.4).1, (known y.3).1, (known z.3).1, has_in x.0, sub_in y.0, itself)
  passes s l (Follows.has_fold e f x y) = simp ((known e).1, (known f).1, (known x.3).1, (known y.4).1, has_in y.0, itself)
  passes s l (Follows.has_unfold e f x y) = simp ((known e).1, (known f).1, (known x.4).1, (known y.3).1, has_in x.0, itself)
  passes s l (Follows.has_rec e f x) = simp ((known e).1, (known f).1, (known x.4).1, has_in x.0, itself)
  passes s l (Follows.a_name t) = from-T _ t
  passes s l (Follows.define_type {E = F} {d = b} S x) =
      simp ((kept.only b F S).0, (kept.only b F S).1, ne_eqb E 0 (kept.begun b F S), (known x.3).1, sub_in x.0, itself)
  passes s l (Follows.define_term {E = F} {d = b} S f x) =
      simp ((kept.only b F S).0, (kept.only b F S).1, ne_eqb E 0 (kept.begun b F S), (known f).1, (known x.4).1, has_in x.0, itself)
