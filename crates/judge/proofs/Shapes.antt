-- How plans go: premises first, then the step, and the goal's line last; never more than three actions to the next answer of a goal, and never
-- more than five answers in all.
use Rattle.std.proofs.Common.{◌≡◌, ℕ, zero, suc, pred, Bool, true, false, cond, T, Some, None, Option, refl}
use Rattle.std.specs.Prelude.{not, nat_lt, ◌==◌}
use Rattle.rules.specs.Quantifiers.{Rule, bounds, bodies_under}
use Rattle.rules.specs.Statements.{TypeLine, top', var', arrow', all', rec', EnvLine, empty', with_term', with_type', type_line, raising, putting, sub_judged, s_top, s_refl, has_judged, h_appl, h_fold, h_rec, Statement, Get}
use Rattle.rules.specs.declared.all_code.Bounds.{Bounds}
use Rattle.rules.specs.declared.all_code.Bounds.TheVariants.{Same, RightBelowLeft}
use Rattle.judge.specs.Goals.{Placed, top_placed, var_placed, fun_placed, appl_placed, fun2_placed, appl2_placed, fold_placed, unfold_placed, rec_placed, byte_of, line_at, Goal, seek_raising, seek_putting, seek_bound, seek_typing, seek_env, seek_type, seek_sub, seek_var, seek_term, seek_subsumed, exposing, Plan, ask, lay, see, pay, close, fail}
use Rattle.judge.specs.Plans.{as_type, as_env, raising_plan, putting_plan, bound_plan, typing_plan, env_plan, type_plan, bodies_plan, body_line, all_plan, tries_plan, is_top, sub_plan, var_plan, brought, exposed_plan, exposing_plan, fold_plan, term_plan, plan}
use Rattle.judge.specs.Seeking.{byte_at}

-- A plan with so many actions at most to the next answer of a goal, or to its own line, and so many answers at most until it is done or becomes
-- another goal, which is placed by the same byte; premises may be asked as long as the step is not counted.
abbrev pub Shape : (byte : Option ℕ) → (unpaid : Bool) → (actions answers : ℕ) → Plan → Type 0
Shape byte unpaid (suc actions) (suc answers) (ask g k) = T unpaid × ((n r : ℕ) → Shape byte true 3 answers (k n r))
Shape byte unpaid (suc actions) (suc answers) (lay u k) = (n : ℕ) → Shape byte unpaid actions answers (k n)
Shape byte unpaid (suc actions) (suc answers) (pay p) = T unpaid × Shape byte false actions answers p
Shape byte unpaid (suc actions) answers (see g n k) = (byte_at g ≡ byte) × ((o : Option Statement) → Shape byte unpaid actions 5 (k o))
Shape byte unpaid actions answers (close u) = T (not unpaid)
Shape byte unpaid actions answers fail = Unit {0}
Shape byte unpaid actions answers other = ⊥

abbrev pub Whole : Option ℕ → Plan → Type 0
Whole byte p = Shape byte true 3 5 p

whole_if : (byte : Option ℕ) (b : Bool) (p q : Plan) → Whole byte p → Whole byte q → Whole byte (cond b p q)
whole_if byte true p q x y = x
whole_if byte false p q x y = y

raising_shape : (A j : ℕ) (o : Option TypeLine) → Whole None (raising_plan A j o)
raising_shape A j None = tt
raising_shape A j (Some top') = (tt, tt)
raising_shape A j (Some (var' k)) =
    whole_if None (nat_lt j k) (pay (lay (type_line (var' (suc k))) (λ C. close (raising A j C 0 0)))) (pay (close (raising A j A 0 0))) (tt, λ C. tt) (tt, tt)
raising_shape A j (Some (arrow' a b)) = (tt, λ p c. (tt, λ q d. (tt, λ C. tt)))
raising_shape A j (Some (all' a b)) = (tt, λ p c. (tt, λ q d. (tt, λ C. tt)))
raising_shape A j (Some (rec' b)) = (tt, λ p d. (tt, λ C. tt))

putting_shape : (B j A : ℕ) (o : Option TypeLine) → Whole None (putting_plan B j A o)
putting_shape B j A None = tt
putting_shape B j A (Some top') = (tt, tt)
putting_shape B j A (Some (var' k)) =
    whole_if None (k == j) (pay (close (putting B j A A 0 0 0)))
    (cond (nat_lt j k) (pay (lay (type_line (var' (pred k))) (λ C. close (putting B j A C 0 0 0)))) (pay (close (putting B j A B 0 0 0)))) (tt, tt)
    (whole_if None (nat_lt j k) (pay (lay (type_line (var' (pred k))) (λ C. close (putting B j A C 0 0 0)))) (pay (close (putting B j A B 0 0 0)))
    (tt, λ C. tt) (tt, tt))
putting_shape B j A (Some (arrow' a b)) = (tt, λ p c. (tt, λ q d. (tt, λ C. tt)))
putting_shape B j A (Some (all' a b)) = (tt, λ p c. (tt, λ q R. (tt, λ r d. (tt, λ C. tt))))
putting_shape B j A (Some (rec' b)) = (tt, λ p R. (tt, λ q d. (tt, λ C. tt)))

bound_shape : (E k : ℕ) (o : Option EnvLine) → Whole None (bound_plan E k o)
bound_shape E k None = tt
bound_shape E k (Some empty') = tt
bound_shape E k (Some (with_term' F A)) = (tt, λ p B. (tt, tt))
bound_shape E zero (Some (with_type' F A)) = tt
bound_shape E (suc zero) (Some (with_type' F A)) = (tt, λ q B. (tt, tt))
bound_shape E (suc (suc k)) (Some (with_type' F A)) = (tt, λ p C. (tt, λ q B. (tt, tt)))

typing_shape : (E k : ℕ) (o : Option EnvLine) → Whole None (typing_plan E k o)
typing_shape E k None = tt
typing_shape E k (Some empty') = tt
typing_shape E k (Some (with_type' F A)) = (tt, λ p C. (tt, λ q B. (tt, tt)))
typing_shape E zero (Some (with_term' F A)) = tt
typing_shape E (suc zero) (Some (with_term' F A)) = (tt, tt)
typing_shape E (suc (suc k)) (Some (with_term' F A)) = (tt, λ p A. (tt, tt))

env_shape : (E : ℕ) (o : Option EnvLine) → Whole None (env_plan E o)
env_shape E None = tt
env_shape E (Some empty') = (tt, tt)
env_shape E (Some (with_term' F A)) = (tt, λ p x. (tt, tt))
env_shape E (Some (with_type' F A)) = (tt, λ p x. (tt, tt))

type_shape : (E A : ℕ) (o : Option TypeLine) → Whole None (type_plan E A o)
type_shape E A None = tt
type_shape E A (Some top') = (tt, λ p x. (tt, tt))
type_shape E A (Some (var' k)) = (tt, λ p x. (tt, λ q B. (tt, tt)))
type_shape E A (Some (arrow' a b)) = (tt, λ p x. (tt, λ q y. (tt, tt)))
type_shape E A (Some (all' a b)) = λ F. (tt, λ p x. (tt, tt))
type_shape E A (Some (rec' b)) = λ t F. (tt, λ p x. (tt, tt))

all_shape : (R : Rule) (k : Bounds) (E A B a b c d : ℕ) → Whole None (all_plan R.own k E A B a b c d)
all_shape R Same E A B a b c d =
    whole_if None (a == c) (bodies_plan R.own E A B (body_line (bodies_under R.own) a c) b d) fail (λ F. (tt, λ p x. (tt, tt))) tt
all_shape R RightBelowLeft E A B a b c d = (tt, λ p x F. (tt, λ q y. (tt, tt)))

tries_shape : (R : Rule) (E A B : ℕ) (o u : Option TypeLine) → Whole None (tries_plan R E A B o u)
tries_shape R E A B (Some (var' k)) u = (tt, λ p C. (tt, λ q x. (tt, tt)))
tries_shape R E A B (Some (arrow' a b)) (Some (arrow' c d)) = (tt, λ p x. (tt, λ q y. (tt, tt)))
tries_shape R E A B (Some (all' a b)) (Some (all' c d)) = all_shape R (bounds R.own) E A B a b c d
tries_shape R E A B o u = tt

sub_shape : (R : Rule) (E A B : ℕ) (o u : Option TypeLine) → Whole None (sub_plan R E A B o u)
sub_shape R E A B o u =
    whole_if None (is_top u) (ask (seek_type E A) (λ p x. pay (close (sub_judged s_top E A B p 0))))
    (cond (A == B) (ask (seek_type E A) (λ p x. pay (close (sub_judged s_refl E A B p 0)))) (tries_plan R E A B o u)) (tt, λ p x. (tt, tt))
    (whole_if None (A == B) (ask (seek_type E A) (λ p x. pay (close (sub_judged s_refl E A B p 0)))) (tries_plan R E A B o u) (tt, λ p x. (tt, tt))
    (tries_shape R E A B o u))

var_shape : (E A : ℕ) (o : Option TypeLine) → Whole None (var_plan E A o)
var_shape E A (Some (var' k)) = (tt, λ p x. (tt, λ q B. (tt, tt)))
var_shape E A o = tt

-- a term that is brought to a type, which is at most two more premises
brought_shape : (byte : Option ℕ) (answers : ℕ) (E a p A B : ℕ) (k : ℕ → Plan) → ((q : ℕ) → Shape byte true 3 answers (k q))
    → ((q : ℕ) → Shape byte true 3 (suc (suc answers)) (k q)) → Shape byte true 3 (suc (suc answers)) (brought E a p A B k)
brought_shape byte answers E a p A B k few many = go (A == B)
  where
    go : (b : Bool) → Shape byte true 3 (suc (suc answers)) (cond b (k p) (ask (seek_sub E A B) (λ q x. ask (seek_subsumed E a B p q) (λ n y. k n))))
    go true = many p
    go false = (tt, λ q x. (tt, λ n y. few n))

-- what is left of a term's plan once a type is exposed, whatever came before it
exposed_shape : (actions E : ℕ) (w : Placed) (p T : ℕ) (t : TypeLine) → Shape (Some (byte_of w)) true (suc actions) 5 (exposed_plan E w p T t)
exposed_shape d E (appl_placed byte b a n) p T (arrow' A B) =
    (tt, λ q C. brought_shape (Some byte) 2 E (line_at a) q C A (λ r. pay (close (has_judged h_appl E n B p r 0))) (λ r. (tt, tt)) (λ r. (tt, tt)))
exposed_shape d E (appl2_placed byte b S n) p T (all' A B) = (tt, λ q x. (tt, λ r D. (tt, tt)))
exposed_shape d E (unfold_placed byte a n) p T (rec' B) = (tt, λ q C. (tt, tt))
exposed_shape d E w p T t = tt

exposing_shape : (actions most E : ℕ) (w : Placed) (p T : ℕ) (o : Option TypeLine)
    → Shape (Some (byte_of w)) true (suc actions) 5 (exposing_plan most E w p T o)
exposing_shape d most E w p T None = tt
exposing_shape d most E w p T (Some top') = exposed_shape d E w p T top'
exposing_shape d most E w p T (Some (arrow' A B)) = exposed_shape d E w p T (arrow' A B)
exposing_shape d most E w p T (Some (all' A B)) = exposed_shape d E w p T (all' A B)
exposing_shape d most E w p T (Some (rec' B)) = exposed_shape d E w p T (rec' B)
exposing_shape d zero E w p T (Some (var' k)) = tt
exposing_shape d (suc most) E w p T (Some (var' k)) = (tt, λ q U. (tt, λ r x. (refl, λ o. exposing_shape 1 most E w r U (as_type o))))

fold_shape : (E A byte : ℕ) (a : Placed) (n : ℕ) (o : Option TypeLine) → Whole (Some byte) (fold_plan E A a n o)
fold_shape E A byte a n (Some (rec' B)) =
    (tt, λ p C. (tt, λ q D. brought_shape (Some byte) 1 E (line_at a) q D C (λ r. pay (close (has_judged h_fold E n A p r 0))) (λ r. (tt, tt)) (λ r. (tt, tt))))
fold_shape E A byte a n o = tt

term_shape : (G : Get) (E : ℕ) (w : Placed) → Whole (Some (byte_of w)) (term_plan G E w)
term_shape G E (top_placed byte n) = (tt, λ p x. (tt, λ A. tt))
term_shape G E (var_placed byte k n) = (tt, λ p x. (tt, λ q A. (tt, tt)))
term_shape G E (fun_placed byte A b n) = λ F. (tt, λ p B. (tt, λ C. tt))
term_shape G E (appl_placed byte b a n) = (tt, λ p T. (refl, λ o. exposing_shape 1 (suc E) E (appl_placed byte b a n) p T (as_type o)))
term_shape G E (fun2_placed byte A b n) = λ F. (tt, λ p B. (tt, λ C. tt))
term_shape G E (appl2_placed byte b S n) = (tt, λ p T. (refl, λ o. exposing_shape 1 (suc E) E (appl2_placed byte b S n) p T (as_type o)))
term_shape G E (fold_placed byte A a n) = fold_shape E A byte a n (as_type (G A))
term_shape G E (unfold_placed byte a n) = (tt, λ p T. (refl, λ o. exposing_shape 1 (suc E) E (unfold_placed byte a n) p T (as_type o)))
term_shape G E (rec_placed byte A b n) =
    λ F. (tt, λ p B. brought_shape (Some byte) 1 F (line_at b) p B A (λ q. pay (close (has_judged h_rec E n A q 0 0))) (λ r. (tt, tt)) (λ r. (tt, tt)))

-- every plan
pub plan_shape : (R : Rule) (G : Get) (g : Goal) → Whole (byte_at g) (plan R G g)
plan_shape R G (seek_raising A j) = raising_shape A j (as_type (G A))
plan_shape R G (seek_putting B j A) = putting_shape B j A (as_type (G B))
plan_shape R G (seek_bound E k) = bound_shape E k (as_env (G E))
plan_shape R G (seek_typing E k) = typing_shape E k (as_env (G E))
plan_shape R G (seek_env E) = env_shape E (as_env (G E))
plan_shape R G (seek_type E A) = type_shape E A (as_type (G A))
plan_shape R G (seek_sub E A B) = sub_shape R E A B (as_type (G A)) (as_type (G B))
plan_shape R G (seek_var E A) = var_shape E A (as_type (G A))
plan_shape R G (seek_term E w) = term_shape G E w
plan_shape R G (seek_subsumed E a B p q) = (tt, tt)
plan_shape R G (exposing most E w p T) = exposing_shape 2 most E w p T (as_type (G T))
