-- What the names of some sources mean, as docs/SYNTAX.md says it.
use Rattle.std.specs.Prelude.{◌≡◌, ℕ, List, [], ◌∷◌, ◌++◌, take, map, replicate, Ok, Err, Result, codes}
use Rattle.lexer.specs.declared.name.Name.{Name}
use Rattle.lines.specs.declared.line.Line.{Line}
use Rattle.scope.specs.Definitions.{Definition, let_type, let_term, let_unnamed, definitions}
use Rattle.scope.specs.Scope.{scope}
use Rattle.scope.specs.Scoped.{ScopedPhrase}
use Rattle.scope.specs.Scoped as scoped
use Rattle.syntax.specs.Named.{NamedPhrase, top, name, arrow, all, all_unbounded, rec, term_name, fun, appl, fun2_unbounded, appl2, type_binding, term_binding, let_term_untyped, of_type, of_term, judge_env, judge_subtype, judge_term}

abbrev word : List ℕ → Name
word bytes = record { bytes = take 14 (bytes ++ replicate 14 0) }

abbrev X : Name
X = word (codes "X")

abbrev Y : Name
Y = word (codes "Y")

abbrev T : Name
T = word (codes "T")

abbrev a : Name
a = word (codes "a")

abbrev b : Name
b = word (codes "b")

abbrev x : Name
x = word (codes "x")

abbrev y : Name
y = word (codes "y")

abbrev z : Name
z = word (codes "z")

abbrev line : (code c1 c2 c3 c4 c5 c6 : ℕ) → Line
line code c1 c2 c3 c4 c5 c6 = record { code = code; c1 = c1; c2 = c2; c3 = c3; c4 = c4; c5 = c5; c6 = c6; c7 = 0 }

-- line 9 says Let T<:Top = Top->Top
abbrev listing : List Line
listing =
    line 30 0 0 0 0 0 0 ∷ line 10 0 0 0 0 0 0 ∷ line 12 2 2 0 0 0 0 ∷ line 50 1 0 0 0 0 0 ∷ line 51 1 2 4 0 0 0
    ∷ line 51 1 3 5 5 0 0 ∷ line 63 1 3 2 6 0 0 ∷ line 90 21504 0 0 0 0 0 ∷ line 91 8 2 3 7 1 0 ∷ []

-- let a = top; let b = top; let a = b;
abbrev lets : List (Definition ℕ)
lets = let_term a ∷ let_term b ∷ let_term a ∷ []

pub record Example : Type 0 where
  pub after : List (Definition ℕ)
  pub phrase : NamedPhrase
  pub answer : Result (ScopedPhrase ℕ) ℕ

abbrev example : List (Definition ℕ) → NamedPhrase → Result (ScopedPhrase ℕ) ℕ → Example
example ds p r = record { after = ds; phrase = p; answer = r }

abbrev pub examples : List Example
examples =
    -- :T;
    example (definitions listing) (of_type (name 1 T)) (Ok (scoped.of_type (scoped.defined 3)))
    -- :All(X)X->T;
    ∷ example (definitions listing) (of_type (all_unbounded X (arrow (name 7 X) (name 10 T)))) (Ok (scoped.of_type (scoped.all_unbounded (scoped.arrow (scoped.var 1) (scoped.defined 3)))))
    -- :All(T)T;
    ∷ example (definitions listing) (of_type (all_unbounded T (name 7 T))) (Ok (scoped.of_type (scoped.all_unbounded (scoped.var 1))))
    -- :All(X<:T)Rec(Y)X->Y;
    ∷ example (definitions listing) (of_type (all X (name 8 T) (rec Y (arrow (name 16 X) (name 19 Y))))) (Ok (scoped.of_type (scoped.all (scoped.defined 3) (scoped.rec (scoped.arrow (scoped.var 2) (scoped.var 1))))))
    -- T;
    ∷ example (definitions listing) (of_term (term_name 0 T)) (Err 0)
    -- a;
    ∷ example lets (of_term (term_name 0 a)) (Ok (scoped.of_term (scoped.term_var 0 1)))
    -- b;
    ∷ example lets (of_term (term_name 0 b)) (Ok (scoped.of_term (scoped.term_var 0 2)))
    -- fun(x:Top)fun(X)b(x);
    ∷ example lets (of_term (fun 0 x top (fun2_unbounded 10 X (appl 17 (term_name 16 b) (term_name 18 x)))))
    (Ok (scoped.of_term (scoped.fun 0 scoped.top (scoped.fun2_unbounded 10 (scoped.appl 17 (scoped.term_var 16 3) (scoped.term_var 18 1))))))
    -- let b = b;
    ∷ example lets (let_term_untyped b (term_name 8 b)) (Ok (scoped.let_term_untyped b (scoped.term_var 8 2)))
    -- :a;
    ∷ example lets (of_type (name 1 a)) (Err 1)
    -- judge term X<:Top y:X b:X |- fun(z:X)a(b)(y) : X;
    ∷ example lets
    (judge_term (type_binding X top ∷ term_binding y (name 20 X) ∷ term_binding b (name 24 X) ∷ []) (fun 29 z (name 35 X) (appl 41 (appl 38 (term_name 37 a) (term_name 39 b)) (term_name 42 y))) (name 47 X))
    (Ok (scoped.judge_term (scoped.type_binding X scoped.top ∷ scoped.term_binding y (scoped.var 1) ∷ scoped.term_binding b (scoped.var 1) ∷ []) (scoped.fun 29 (scoped.var 1) (scoped.appl 41 (scoped.appl 38 (scoped.term_var 37 4) (scoped.term_var 39 2)) (scoped.term_var 42 3))) (scoped.var 1)))
    -- judge subtype X<:Top |- X <: All(Y)Y->X;
    ∷ example [] (judge_subtype (type_binding X top ∷ []) (name 24 X) (all_unbounded Y (arrow (name 35 Y) (name 38 X))))
    (Ok (scoped.judge_subtype (scoped.type_binding X scoped.top ∷ []) (scoped.var 1) (scoped.all_unbounded (scoped.arrow (scoped.var 1) (scoped.var 2)))))
    -- a binding is not in scope in its own bound, but the same name in front of it is: judge env X<:X; and judge env X<:Top X<:X x:X;
    ∷ example [] (judge_env (type_binding X (name 13 X) ∷ [])) (Err 13)
    ∷ example [] (judge_env (type_binding X top ∷ type_binding X (name 20 X) ∷ term_binding x (name 24 X) ∷ []))
    (Ok (scoped.judge_env (scoped.type_binding X scoped.top ∷ scoped.type_binding X (scoped.var 1) ∷ scoped.term_binding x (scoped.var 1) ∷ [])))
    -- a binder is not in scope in its own bound: :All(X<:X)X;
    ∷ example [] (of_type (all X (name 8 X) (name 10 X))) (Err 8)
    -- of several names that are not bound, the first is told: x(:Y)(y);
    ∷ example [] (of_term (appl 5 (appl2 1 (term_name 0 x) (name 3 Y)) (term_name 6 y))) (Err 0)
    ∷ example (let_term x ∷ []) (of_term (appl 5 (appl2 1 (term_name 0 x) (name 3 Y)) (term_name 6 y))) (Err 3)
    -- types' names and terms' apart, and the latest definition first: x(:x);
    ∷ example (let_type x 4 ∷ let_term x ∷ let_type x 7 ∷ let_unnamed ∷ []) (of_term (appl2 1 (term_name 0 x) (name 3 x)))
    (Ok (scoped.of_term (scoped.appl2 1 (scoped.term_var 0 2) (scoped.defined 7))))
    ∷ []

abbrev pub ExamplesAnswered : Type 0
ExamplesAnswered = map (λ (e : Example). scope e.after e.phrase) examples ≡ map (λ (e : Example). e.answer) examples
