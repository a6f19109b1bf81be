-- The work for each goal, in the order of the codes: premises in column order, then the step, then the type that results, then the line.
use Rattle.std.specs.Prelude.{ℕ, zero, suc, pred, Bool, true, false, if◌then◌else◌, ◌==◌, nat_lt, Some, None, Option}
use Rattle.rules.specs.Quantifiers.{Rule, bounds, bodies_under}
use Rattle.rules.specs.Statements.{TypeLine, top', var', arrow', all', rec', EnvLine, empty', with_term', with_type', s_refl, s_trans, s_var, s_top, s_arrow, s_all, h_subsumed, h_var, h_top, h_fun, h_appl, h_fun2, h_appl2, h_fold, h_unfold, h_rec, Statement, type_line, env_line, raising, putting, bound_line, typing_line, env_judged, type_judged, sub_judged, has_judged, Get}
use Rattle.rules.specs.declared.all_code.AllCode.{AllCode}
use Rattle.rules.specs.declared.all_code.BodyBound.{BodyBound}
use Rattle.rules.specs.declared.all_code.BodyBound.TheVariants.{Left, Right}
use Rattle.rules.specs.declared.all_code.Bounds.{Bounds}
use Rattle.rules.specs.declared.all_code.Bounds.TheVariants.{Same, RightBelowLeft}
use Rattle.judge.specs.Goals.{Placed, top_placed, var_placed, fun_placed, appl_placed, fun2_placed, appl2_placed, fold_placed, unfold_placed, rec_placed, line_at, Goal, seek_raising, seek_putting, seek_bound, seek_typing, seek_env, seek_type, seek_sub, seek_var, seek_term, seek_subsumed, exposing, Plan, ask, lay, see, pay, close, fail}

-- the type or the environment that a line says, if it says one
abbrev pub as_type : Option Statement → Option TypeLine
as_type (Some (type_line t)) = Some t
as_type other = None

abbrev pub as_env : Option Statement → Option EnvLine
as_env (Some (env_line e)) = Some e
as_env other = None

-- 40: the variables of A above j are raised
abbrev pub raising_plan : (A j : ℕ) → Option TypeLine → Plan
raising_plan A j (Some top') = pay (close (raising A j A 0 0))
raising_plan A j (Some (var' k)) =
    if nat_lt j k then pay (lay (type_line (var' (suc k))) (λ C. close (raising A j C 0 0))) else pay (close (raising A j A 0 0))
raising_plan A j (Some (arrow' a b)) =
    ask (seek_raising a j) (λ p c. ask (seek_raising b j) (λ q d.
    pay (lay (type_line (arrow' c d)) (λ C. close (raising A j C p q)))))
raising_plan A j (Some (all' a b)) =
    ask (seek_raising a j) (λ p c. ask (seek_raising b (suc j)) (λ q d.
    pay (lay (type_line (all' c d)) (λ C. close (raising A j C p q)))))
raising_plan A j (Some (rec' b)) =
    ask (seek_raising b (suc j)) (λ p d.
    pay (lay (type_line (rec' d)) (λ C. close (raising A j C p 0))))
raising_plan A j None = fail

-- 41: A is put for variable j of B; under a binder A is raised before the part
abbrev pub putting_plan : (B j A : ℕ) → Option TypeLine → Plan
putting_plan B j A (Some top') = pay (close (putting B j A B 0 0 0))
putting_plan B j A (Some (var' k)) =
    if k == j then pay (close (putting B j A A 0 0 0))
    else if nat_lt j k then pay (lay (type_line (var' (pred k))) (λ C. close (putting B j A C 0 0 0)))
    else pay (close (putting B j A B 0 0 0))
putting_plan B j A (Some (arrow' a b)) =
    ask (seek_putting a j A) (λ p c. ask (seek_putting b j A) (λ q d.
    pay (lay (type_line (arrow' c d)) (λ C. close (putting B j A C p q 0)))))
putting_plan B j A (Some (all' a b)) =
    ask (seek_putting a j A) (λ p c. ask (seek_raising A 0) (λ q R. ask (seek_putting b (suc j) R) (λ r d.
    pay (lay (type_line (all' c d)) (λ C. close (putting B j A C p q r))))))
putting_plan B j A (Some (rec' b)) =
    ask (seek_raising A 0) (λ p R. ask (seek_putting b (suc j) R) (λ q d.
    pay (lay (type_line (rec' d)) (λ C. close (putting B j A C p q 0)))))
putting_plan B j A None = fail

-- 42: the bound of variable k, which a type binding in front of it raises
abbrev pub bound_plan : (E k : ℕ) → Option EnvLine → Plan
bound_plan E k (Some (with_term' F A)) = ask (seek_bound F k) (λ p B. pay (close (bound_line E k B p 0)))
bound_plan E zero (Some (with_type' F A)) = fail
bound_plan E (suc zero) (Some (with_type' F A)) = ask (seek_raising A 0) (λ q B. pay (close (bound_line E 1 B 0 q)))
bound_plan E (suc (suc k)) (Some (with_type' F A)) =
    ask (seek_bound F (suc k)) (λ p C. ask (seek_raising C 0) (λ q B. pay (close (bound_line E (suc (suc k)) B p q))))
bound_plan E k (Some empty') = fail
bound_plan E k None = fail

-- 43: the type of variable k, which a type binding in front of it raises
abbrev pub typing_plan : (E k : ℕ) → Option EnvLine → Plan
typing_plan E k (Some (with_type' F B)) =
    ask (seek_typing F k) (λ p C. ask (seek_raising C 0) (λ q A. pay (close (typing_line E k A p q))))
typing_plan E zero (Some (with_term' F A)) = fail
typing_plan E (suc zero) (Some (with_term' F A)) = pay (close (typing_line E 1 A 0 0))
typing_plan E (suc (suc k)) (Some (with_term' F B)) = ask (seek_typing F (suc k)) (λ p A. pay (close (typing_line E (suc (suc k)) A p 0)))
typing_plan E k (Some empty') = fail
typing_plan E k None = fail

-- 50: the last binding's 51
abbrev pub env_plan : (E : ℕ) → Option EnvLine → Plan
env_plan E (Some empty') = pay (close (env_judged E 0))
env_plan E (Some (with_term' F A)) = ask (seek_type F A) (λ p x. pay (close (env_judged E p)))
env_plan E (Some (with_type' F A)) = ask (seek_type F A) (λ p x. pay (close (env_judged E p)))
env_plan E None = fail

-- 51: the environment of a statement is put before the statement is sought, and Top before that where it is the bound
abbrev pub type_plan : (E A : ℕ) → Option TypeLine → Plan
type_plan E A (Some top') = ask (seek_env E) (λ p x. pay (close (type_judged E A p 0)))
type_plan E A (Some (var' k)) = ask (seek_env E) (λ p x. ask (seek_bound E k) (λ q B. pay (close (type_judged E A p q))))
type_plan E A (Some (arrow' a b)) = ask (seek_type E a) (λ p x. ask (seek_type E b) (λ q y. pay (close (type_judged E A p q))))
type_plan E A (Some (all' a b)) = lay (env_line (with_type' E a)) (λ F. ask (seek_type F b) (λ p x. pay (close (type_judged E A p 0))))
type_plan E A (Some (rec' b)) =
    lay (type_line top') (λ t. lay (env_line (with_type' E t)) (λ F. ask (seek_type F b) (λ p x. pay (close (type_judged E A p 0)))))
type_plan E A None = fail

-- the bound under which the bodies of All(X<:a).. and All(X<:c).. are compared
abbrev pub body_line : BodyBound → (a c : ℕ) → ℕ
body_line Left a c = a
body_line Right a c = c

-- the bodies b and d under the bound on line t, and the line of A below B by them alone
abbrev pub bodies_plan : AllCode → (E A B t b d : ℕ) → Plan
bodies_plan o E A B t b d =
    lay (env_line (with_type' E t)) (λ F. ask (seek_sub F b d) (λ p x. pay (close (sub_judged (s_all o) E A B p 0))))

-- A, All(X<:a)b, below B, All(X<:c)d, by the code's condition on the bounds
abbrev pub all_plan : AllCode → Bounds → (E A B a b c d : ℕ) → Plan
all_plan o Same E A B a b c d = if a == c then bodies_plan o E A B (body_line (bodies_under o) a c) b d else fail
all_plan o RightBelowLeft E A B a b c d =
    ask (seek_sub E c a) (λ p x. lay (env_line (with_type' E (body_line (bodies_under o) a c))) (λ F.
    ask (seek_sub F b d) (λ q y. pay (close (sub_judged (s_all o) E A B p q)))))

-- the tries where B is not Top and A is not B
abbrev pub tries_plan : Rule → (E A B : ℕ) → Option TypeLine → Option TypeLine → Plan
tries_plan R E A B (Some (var' k)) b =
    ask (seek_var E A) (λ p C. ask (seek_sub E C B) (λ q x. pay (close (sub_judged s_trans E A B p q))))
tries_plan R E A B (Some (arrow' a b)) (Some (arrow' c d)) =
    ask (seek_sub E c a) (λ p x. ask (seek_sub E b d) (λ q y. pay (close (sub_judged s_arrow E A B p q))))
tries_plan R E A B (Some (all' a b)) (Some (all' c d)) = all_plan R.own (bounds R.own) E A B a b c d
tries_plan R E A B other another = fail

abbrev pub is_top : Option TypeLine → Bool
is_top (Some top') = true
is_top other = false

-- 60 to 66: B is Top; A is B; and so on
abbrev pub sub_plan : Rule → (E A B : ℕ) → Option TypeLine → Option TypeLine → Plan
sub_plan R E A B a b =
    if is_top b then ask (seek_type E A) (λ p x. pay (close (sub_judged s_top E A B p 0)))
    else if A == B then ask (seek_type E A) (λ p x. pay (close (sub_judged s_refl E A B p 0)))
    else tries_plan R E A B a b

-- 62
abbrev pub var_plan : (E A : ℕ) → Option TypeLine → Plan
var_plan E A (Some (var' k)) = ask (seek_env E) (λ p x. ask (seek_bound E k) (λ q B. pay (close (sub_judged s_var E A B p q))))
var_plan E A other = fail

-- The term on line a has the type A by line p, and B is wanted: where it is another, a subtype line and a 70 bring it there.
abbrev pub brought : (E a p A B : ℕ) → (ℕ → Plan) → Plan
brought E a p A B k = if A == B then k p else ask (seek_sub E A B) (λ q x. ask (seek_subsumed E a B p q) (λ n y. k n))

-- 70
abbrev pub subsumed_plan : (E a B p q : ℕ) → Plan
subsumed_plan E a B p q = pay (close (has_judged h_subsumed E a B p q 0))

-- 74, 76 and 78, from where the type T of the function or the argument is exposed, and line p gives it
abbrev pub exposed_plan : (E : ℕ) → Placed → (p T : ℕ) → TypeLine → Plan
exposed_plan E (appl_placed byte b a n) p T (arrow' A B) =
    ask (seek_term E a) (λ q C. brought E (line_at a) q C A (λ r. pay (close (has_judged h_appl E n B p r 0))))
exposed_plan E (appl2_placed byte b S n) p T (all' A B) =
    ask (seek_sub E S A) (λ q x. ask (seek_putting B 1 S) (λ r D. pay (close (has_judged h_appl2 E n D p q r))))
exposed_plan E (unfold_placed byte a n) p T (rec' B) = ask (seek_putting B 1 T) (λ q C. pay (close (has_judged h_unfold E n C p q 0)))
exposed_plan E other p T shown = fail

-- the line of the function or argument whose type is exposed
abbrev pub exposed_line : Placed → ℕ
exposed_line (appl_placed byte b a n) = line_at b
exposed_line (appl2_placed byte b A n) = line_at b
exposed_line (unfold_placed byte a n) = line_at a
exposed_line other = 0

-- While T is a variable, its 62 and a 70 are added. An environment's bindings are fewer than its line's number, and the bound of
-- a variable is none or one further out, so `most` is enough where it begins with the number after the environment's.
abbrev pub exposing_plan : (most E : ℕ) → Placed → (p T : ℕ) → Option TypeLine → Plan
exposing_plan most E a p T None = fail
exposing_plan most E a p T (Some top') = exposed_plan E a p T top'
exposing_plan most E a p T (Some (arrow' A B)) = exposed_plan E a p T (arrow' A B)
exposing_plan most E a p T (Some (all' A B)) = exposed_plan E a p T (all' A B)
exposing_plan most E a p T (Some (rec' B)) = exposed_plan E a p T (rec' B)
exposing_plan zero E a p T (Some (var' k)) = fail
exposing_plan (suc most) E a p T (Some (var' k)) =
    ask (seek_var E T) (λ q U. ask (seek_subsumed E (exposed_line a) U p q) (λ r x.
    see (exposing most E a r U) U (λ s. exposing_plan most E a r U (as_type s))))

abbrev pub exposure : (E : ℕ) → Placed → (p T : ℕ) → Plan
exposure E a p T = see (exposing (suc E) E a p T) T (λ s. exposing_plan (suc E) E a p T (as_type s))

abbrev pub fold_plan : (E A : ℕ) → Placed → (n : ℕ) → Option TypeLine → Plan
fold_plan E A a n (Some (rec' B)) =
    ask (seek_putting B 1 A) (λ p C. ask (seek_term E a) (λ q D. brought E (line_at a) q D C (λ r. pay (close (has_judged h_fold E n A p r 0)))))
fold_plan E A a n other = fail

-- 71 to 79
abbrev pub term_plan : Get → (E : ℕ) → Placed → Plan
term_plan G E (var_placed byte k n) = ask (seek_env E) (λ p x. ask (seek_typing E k) (λ q A. pay (close (has_judged h_var E n A p q 0))))
term_plan G E (top_placed byte n) = ask (seek_env E) (λ p x. pay (lay (type_line top') (λ A. close (has_judged h_top E n A p 0 0))))
term_plan G E (fun_placed byte A b n) =
    lay (env_line (with_term' E A)) (λ F. ask (seek_term F b) (λ p B.
    pay (lay (type_line (arrow' A B)) (λ C. close (has_judged h_fun E n C p 0 0)))))
term_plan G E (appl_placed byte b a n) = ask (seek_term E b) (λ p T. exposure E (appl_placed byte b a n) p T)
term_plan G E (fun2_placed byte A b n) =
    lay (env_line (with_type' E A)) (λ F. ask (seek_term F b) (λ p B.
    pay (lay (type_line (all' A B)) (λ C. close (has_judged h_fun2 E n C p 0 0)))))
term_plan G E (appl2_placed byte b S n) = ask (seek_term E b) (λ p T. exposure E (appl2_placed byte b S n) p T)
term_plan G E (fold_placed byte A a n) = fold_plan E A a n (as_type (G A))
term_plan G E (unfold_placed byte a n) = ask (seek_term E a) (λ p T. exposure E (unfold_placed byte a n) p T)
term_plan G E (rec_placed byte A b n) =
    lay (env_line (with_term' E A)) (λ F. ask (seek_term F b) (λ p B. brought F (line_at b) p B A (λ q.
    pay (close (has_judged h_rec E n A q 0 0)))))

-- the work for a goal where line n says G n
abbrev pub plan : Rule → Get → Goal → Plan
plan R G (seek_raising A j) = raising_plan A j (as_type (G A))
plan R G (seek_putting B j A) = putting_plan B j A (as_type (G B))
plan R G (seek_bound E k) = bound_plan E k (as_env (G E))
plan R G (seek_typing E k) = typing_plan E k (as_env (G E))
plan R G (seek_env E) = env_plan E (as_env (G E))
plan R G (seek_type E A) = type_plan E A (as_type (G A))
plan R G (seek_sub E A B) = sub_plan R E A B (as_type (G A)) (as_type (G B))
plan R G (seek_var E A) = var_plan E A (as_type (G A))
plan R G (seek_term E a) = term_plan G E a
plan R G (seek_subsumed E a B p q) = subsumed_plan E a B p q
plan R G (exposing most E a p T) = exposing_plan most E a p T (as_type (G T))
