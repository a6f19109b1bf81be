-- The test of a line's numbers is the test of what the line says.
use Rattle.std.proofs.Common.{◌≡◌, ℕ, zero, suc, ◌+◌, ◌-◌, ◌≤◌, Bool, true, false, cond, ◌&&◌, eqb, Some, None, Option, refl, ap, sym, ◌∙◌, arith}
use Rattle.std.proofs.lemmas.Bool.{and_parts, eqb-true, eqb-false, leb-true, false≢true}
use Rattle.lines.specs.declared.line.Line.{Line}
use Rattle.rules.specs.Statements.{Statement, raising, putting, bound_line, typing_line, env_judged, type_judged, SubRule, sub_judged, s_refl, s_trans, s_var, s_top, s_arrow, s_all, statement, table, coded}
use Rattle.rules.specs.declared.all_code.AllCode.TheVariants.{Equal, Least}
use Rattle.rules.proofs.Codes.{says, code_read, code_of}
use Rattle.judge.specs.Goals as judge
use Rattle.judge.specs.Seeking.{serves, result_of, used_again}
use Rattle.actions.specs.Actions.{Terms, sought}
use Rattle.actions.specs.Reuse.{in_codes, line_answer}
use Rattle.actions.specs.declared.goal.Goal.{Goal}

abbrev pub Answer : judge.Goal → Option Statement → Option ℕ
Answer g o = cond (serves g o) (Some (result_of o)) None

-- a line with another code says nothing that serves, and one with the code says this
by_code : (g : judge.Goal) (l : Line) (c : ℕ) (s : Statement) → coded c (table l) ≡ Some s → (x : Bool) (r : ℕ) → used_again g s ≡ x → r ≡ result_of (Some s)
    → ((t : Statement) → (used_again g t ≡ true) → code_of t ≡ c) → cond (eqb l.code c && x) (Some r) None ≡ Answer g (statement l)
by_code g l c s at x r used is only = go (eqb l.code c) refl
  where
    rest : (o : Option Statement) → statement l ≡ o → (l.code ≡ c → ⊥) → None ≡ Answer g o
    rest None e n = refl
    rest (Some t) e n = here (used_again g t) refl
      where
        here : (b : Bool) → used_again g t ≡ b → None ≡ cond b (Some (result_of (Some t))) None
        here true u = absurd (n (code_read l t e ∙ only t u))
        here false u = refl

    go : (b : Bool) → eqb l.code c ≡ b → cond (b && x) (Some r) None ≡ Answer g (statement l)
    go true e =
        ap (λ k. cond x (Some k) None) is ∙ ap (λ b. cond b (Some (result_of (Some s))) None) (sym used)
        ∙ ap (Answer g) (sym (says l c (eqb-true l.code c e) ∙ at))
    go false e = rest (statement l) refl (eqb-false l.code c e)

no_line : (t : ℕ) (c : ℕ) → false ≡ true → t ≡ c
no_line t c e = absurd (false≢true e)

only_raising : (A j : ℕ) (t : Statement) → used_again (judge.seek_raising A j) t ≡ true → code_of t ≡ 40
only_raising A j (raising B i C p q) e = refl
only_raising A j t e = no_line (code_of t) 40 e

only_putting : (B j A : ℕ) (t : Statement) → used_again (judge.seek_putting B j A) t ≡ true → code_of t ≡ 41
only_putting B j A (putting C i D E p q r) e = refl
only_putting B j A t e = no_line (code_of t) 41 e

only_bound : (E k : ℕ) (t : Statement) → used_again (judge.seek_bound E k) t ≡ true → code_of t ≡ 42
only_bound E k (bound_line F i B p q) e = refl
only_bound E k t e = no_line (code_of t) 42 e

only_typing : (E k : ℕ) (t : Statement) → used_again (judge.seek_typing E k) t ≡ true → code_of t ≡ 43
only_typing E k (typing_line F i A p q) e = refl
only_typing E k t e = no_line (code_of t) 43 e

only_env : (E : ℕ) (t : Statement) → used_again (judge.seek_env E) t ≡ true → code_of t ≡ 50
only_env E (env_judged F p) e = refl
only_env E t e = no_line (code_of t) 50 e

only_type : (E A : ℕ) (t : Statement) → used_again (judge.seek_type E A) t ≡ true → code_of t ≡ 51
only_type E A (type_judged F B p q) e = refl
only_type E A t e = no_line (code_of t) 51 e

only_var : (E A : ℕ) (t : Statement) → used_again (judge.seek_var E A) t ≡ true → code_of t ≡ 62
only_var E A (sub_judged s_var F C D p q) e = refl
only_var E A t e = no_line (code_of t) 62 e

-- a line 60 to 66
abbrev SaysSub : Line → Type 0
SaysSub l = (s : SubRule) × (statement l ≡ Some (sub_judged s l.c1 l.c2 l.c3 l.c4 l.c5))

sub_said : (l : Line) → 60 ≤ l.code → l.code ≤ 66 → SaysSub l
sub_said l h k = go (l.code - 60) (omega arith) (omega arith)
  where
    go : (i : ℕ) → l.code ≡ 60 + i → i ≤ 6 → SaysSub l
    go zero e h = (s_refl, says l 60 e)
    go (suc zero) e h = (s_trans, says l 61 e)
    go (suc (suc zero)) e h = (s_var, says l 62 e)
    go (suc (suc (suc zero))) e h = (s_top, says l 63 e)
    go (suc (suc (suc (suc zero)))) e h = (s_arrow, says l 64 e)
    go (suc (suc (suc (suc (suc zero))))) e h = (s_all Equal, says l 65 e)
    go (suc (suc (suc (suc (suc (suc zero)))))) e h = (s_all Least, says l 66 e)
    go (suc (suc (suc (suc (suc (suc (suc i))))))) e h = absurd (let z : ⊥ = omega (arith, h) in z)

only_sub : (E A B : ℕ) (t : Statement) → used_again (judge.seek_sub E A B) t ≡ true → in_codes 60 66 (code_of t) ≡ true
only_sub E A B (sub_judged s_refl F C D p q) e = refl
only_sub E A B (sub_judged s_trans F C D p q) e = refl
only_sub E A B (sub_judged s_var F C D p q) e = refl
only_sub E A B (sub_judged s_top F C D p q) e = refl
only_sub E A B (sub_judged s_arrow F C D p q) e = refl
only_sub E A B (sub_judged (s_all Equal) F C D p q) e = refl
only_sub E A B (sub_judged (s_all Least) F C D p q) e = refl
only_sub E A B t e = absurd (false≢true e)

sub_answer : (E A B : ℕ) (l : Line)
    → cond (in_codes 60 66 l.code && (eqb E l.c1 && eqb A l.c2 && eqb B l.c3)) (Some l.c3) None ≡ Answer (judge.seek_sub E A B) (statement l)
sub_answer E A B l = go (in_codes 60 66 l.code) refl
  where
    g : judge.Goal
    g = judge.seek_sub E A B

    rest : (o : Option Statement) → statement l ≡ o → in_codes 60 66 l.code ≡ false → None ≡ Answer g o
    rest None e n = refl
    rest (Some t) e n = here (used_again g t) refl
      where
        here : (b : Bool) → used_again g t ≡ b → None ≡ cond b (Some (result_of (Some t))) None
        here true u = absurd (false≢true (sym n ∙ ap (in_codes 60 66) (code_read l t e) ∙ only_sub E A B t u))
        here false u = refl

    found : SaysSub l → cond (eqb E l.c1 && eqb A l.c2 && eqb B l.c3) (Some l.c3) None ≡ Answer g (statement l)
    found (s, e) = ap (Answer g) (sym e)

    go : (b : Bool) → in_codes 60 66 l.code ≡ b
        → cond (b && (eqb E l.c1 && eqb A l.c2 && eqb B l.c3)) (Some l.c3) None ≡ Answer g (statement l)
    go true e = let (h, k) = and_parts _ _ e in found (sub_said l (leb-true 60 l.code h) (leb-true l.code 66 k))
    go false e = rest (statement l) refl e

-- a goal for which no line is looked for
none_answers : (g : judge.Goal) → ((t : Statement) → used_again g t ≡ false) → (o : Option Statement) → None ≡ Answer g o
none_answers g h None = refl
none_answers g h (Some t) = sym (ap (λ b. cond b (Some (result_of (Some t))) None) (h t))

pub answers_line : (t : Terms) (g : Goal) (l : Line) → line_answer g l ≡ Answer (sought t g) (statement l)
answers_line t (Goal.Raising A j) l = by_code (judge.seek_raising A j) l 40 (raising l.c1 l.c2 l.c3 l.c4 l.c5) refl _ l.c3 refl refl (only_raising A j)
answers_line t (Goal.Putting B j A) l =
    by_code (judge.seek_putting B j A) l 41 (putting l.c1 l.c2 l.c3 l.c4 l.c5 l.c6 l.c7) refl _ l.c4 refl refl (only_putting B j A)
answers_line t (Goal.Bound E k) l = by_code (judge.seek_bound E k) l 42 (bound_line l.c1 l.c2 l.c3 l.c4 l.c5) refl _ l.c3 refl refl (only_bound E k)
answers_line t (Goal.Typing E k) l = by_code (judge.seek_typing E k) l 43 (typing_line l.c1 l.c2 l.c3 l.c4 l.c5) refl _ l.c3 refl refl (only_typing E k)
answers_line t (Goal.Env E) l = by_code (judge.seek_env E) l 50 (env_judged l.c1 l.c2) refl _ 0 refl refl (only_env E)
answers_line t (Goal.«Type» E A) l = by_code (judge.seek_type E A) l 51 (type_judged l.c1 l.c2 l.c3 l.c4) refl _ 0 refl refl (only_type E A)
answers_line t (Goal.Sub E A B) l = sub_answer E A B l
answers_line t (Goal.Var E A) l = by_code (judge.seek_var E A) l 62 (sub_judged s_var l.c1 l.c2 l.c3 l.c4 l.c5) refl _ l.c3 refl refl (only_var E A)
answers_line t (Goal.Term E n) l = none_answers (judge.seek_term E (t n)) (λ s. refl) (statement l)
answers_line t (Goal.Subsumed E a B p q) l = none_answers (judge.seek_subsumed E a B p q) (λ s. refl) (statement l)
answers_line t (Goal.Exposing x) l = none_answers (judge.exposing x.most x.env (t x.node) x.p x.t) (λ s. refl) (statement l)
