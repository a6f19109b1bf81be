-- The table of codes: what a line says by its code, and backwards the code of a statement and the line that says it.
use Rattle.std.proofs.Common.{◌≡◌, ℕ, zero, suc, ◌≤◌, Bool, true, false, cond, ◌&&◌, eqb, leb, List, [], ◌∷◌, map, length, get_or, drop, Some, refl, ap, ◌∙◌, subst, arith}
use Rattle.lines.specs.declared.line.Line.{Line}
use Rattle.rules.specs.Faults.{numbers, AllZero}
use Rattle.rules.specs.Statements.{TypeLine, top', var', arrow', all', rec', TermLine, top_term', var_term', fun', appl', fun2', appl2', fold_term', unfold_term', rec_term', EnvLine, empty', with_term', with_type', SubRule, s_refl, s_trans, s_var, s_top, s_arrow, s_all, HasRule, h_subsumed, h_var, h_top, h_fun, h_appl, h_fun2, h_appl2, h_fold, h_unfold, h_rec, Statement, type_line, term_line, env_line, raising, putting, bound_line, typing_line, env_judged, type_judged, sub_judged, has_judged, name_line, let_type, let_term, table, coded, statement, columns}
pub use Rattle.rules.specs.Codes.{type_code, term_code, env_code, sub_code, has_code, code_of, number_in, held, line_of, line, blank}
use Rattle.rules.specs.declared.all_code.AllCode.TheVariants.{Equal, Least}
use Rattle.std.proofs.lemmas.Bool.{and_parts, eqb-true, leb-true, le-leb, lt-leb}

-- l with another code
abbrev pub with_code : ℕ → Line → Line
with_code c l = record { code = c; c1 = l.c1; c2 = l.c2; c3 = l.c3; c4 = l.c4; c5 = l.c5; c6 = l.c6; c7 = l.c7 }

-- at a numeral the right side is what a line of that code says
pub says : (l : Line) (c : ℕ) → l.code ≡ c → statement l ≡ coded c (table l)
unfolding statement
says l c e = ap (λ k. coded k (table l)) e

row_found : {X : Type 0} (f g : ℕ × Statement → X) (c : ℕ) (s : Statement) (rows : List (ℕ × Statement)) → map f rows ≡ map g rows
    → coded c rows ≡ Some s → f (c, s) ≡ g (c, s)
row_found f g c s [] e r = absurd (let z : ◌≡◌ {A = ℕ} 0 1 = cc in omega arith)
row_found f g c s ((k, t) ∷ rows) e r = go (eqb c k) refl r (row_found f g c s rows (cc))
  where
    go : (b : Bool) → eqb c k ≡ b → cond b (Some t) (coded c rows) ≡ Some s → (coded c rows ≡ Some s → f (c, s) ≡ g (c, s)) → f (c, s) ≡ g (c, s)
    go true same q again = let h : t ≡ s = cc in let i = eqb-true c k same in let here : f (k, t) ≡ g (k, t) = cc in rw (i, ← h) here
    go false apart q again = again q

-- two functions of a code and a statement that are equal at each row of the table are equal at what a line says
pub at_rows : {X : Type 0} (f g : ℕ × Statement → X) (l : Line) (s : Statement) → map f (table l) ≡ map g (table l) → statement l ≡ Some s
    → f (l.code, s) ≡ g (l.code, s)
unfolding statement
at_rows f g l s same e = row_found f g l.code s (table l) same e

pub code_read : (l : Line) (s : Statement) → statement l ≡ Some s → l.code ≡ code_of s
code_read l s e = at_rows (λ r. r.0) (λ r. code_of r.1) l s refl e

pub reads : (l : Line) (s : Statement) → statement l ≡ Some s → l ≡ line_of s l
reads l s e = at_rows (λ r. with_code r.0 l) (λ r. line_of r.1 l) l s refl e

zero_at : (ns : List ℕ) (k i : ℕ) → AllZero (drop k ns) → k ≤ i → get_or ns i 0 ≡ 0
zero_at [] k i z h = refl
zero_at (n ∷ ns) zero zero z h = z.0
zero_at (n ∷ ns) zero (suc i) z h = zero_at ns zero i z.1 (omega arith)
zero_at (n ∷ ns) (suc k) zero z h = absurd (let y : ⊥ = omega arith in y)
zero_at (n ∷ ns) (suc k) (suc i) z h = zero_at ns k i z (omega arith)

get_or_zero : (ns : List ℕ) (i d : ℕ) → (length ns ≤ i → d ≡ 0) → get_or ns i d ≡ get_or ns i 0
get_or_zero [] i d h = h (omega arith)
get_or_zero (n ∷ ns) zero d h = refl
get_or_zero (n ∷ ns) (suc i) d h = get_or_zero ns i d (λ k. h (omega arith))

length-map : {X Y : Type 0} (f : X → Y) (xs : List X) → length (map f xs) ≡ length xs
length-map f [] = refl
length-map f (x ∷ xs) = ap suc (length-map f xs)

-- a line that holds 0 past its columns is the line that says what it says
pub line_says : (l : Line) (s : Statement) → statement l ≡ Some s → AllZero (drop (length (columns s)) (numbers l)) → l ≡ line s
line_says l s e z = reads l s e ∙ same
  where
    at : (i : ℕ) → get_or (held s) i (get_or (numbers l) i 0) ≡ get_or (held s) i 0
    at i = get_or_zero (held s) i _ (λ k. zero_at (numbers l) (length (columns s)) i z (omega (arith, length-map number_in (columns s))))

    same : line_of s l ≡ line s
    same = λ i. record { code = code_of s; c1 = at 0 i; c2 = at 1 i; c3 = at 2 i; c4 = at 3 i; c5 = at 4 i; c6 = at 5 i; c7 = at 6 i }

pub says_line : (s : Statement) → statement (line s) ≡ Some s
unfolding statement
says_line (type_line top') = refl
says_line (type_line (var' k)) = refl
says_line (type_line (arrow' A B)) = refl
says_line (type_line (all' A B)) = refl
says_line (type_line (rec' B)) = refl
says_line (term_line top_term') = refl
says_line (term_line (var_term' k)) = refl
says_line (term_line (fun' A b)) = refl
says_line (term_line (appl' b a)) = refl
says_line (term_line (fun2' A b)) = refl
says_line (term_line (appl2' b A)) = refl
says_line (term_line (fold_term' A a)) = refl
says_line (term_line (unfold_term' a)) = refl
says_line (term_line (rec_term' A b)) = refl
says_line (env_line empty') = refl
says_line (env_line (with_term' E A)) = refl
says_line (env_line (with_type' E A)) = refl
says_line (raising A j C p q) = refl
says_line (putting B j A C p q r) = refl
says_line (bound_line E k B p q) = refl
says_line (typing_line E k A p q) = refl
says_line (env_judged E p) = refl
says_line (type_judged E A p q) = refl
says_line (sub_judged s_refl E A B p q) = refl
says_line (sub_judged s_trans E A B p q) = refl
says_line (sub_judged s_var E A B p q) = refl
says_line (sub_judged s_top E A B p q) = refl
says_line (sub_judged s_arrow E A B p q) = refl
says_line (sub_judged (s_all Equal) E A B p q) = refl
says_line (sub_judged (s_all Least) E A B p q) = refl
says_line (has_judged h_subsumed E a A p q r) = refl
says_line (has_judged h_var E a A p q r) = refl
says_line (has_judged h_top E a A p q r) = refl
says_line (has_judged h_fun E a A p q r) = refl
says_line (has_judged h_appl E a A p q r) = refl
says_line (has_judged h_fun2 E a A p q r) = refl
says_line (has_judged h_appl2 E a A p q r) = refl
says_line (has_judged h_fold E a A p q r) = refl
says_line (has_judged h_unfold E a A p q r) = refl
says_line (has_judged h_rec E a A p q r) = refl
says_line (name_line n₁ n₂ n₃ n₄ n₅ n₆ n₇) = refl
says_line (let_type name B A p E previous) = refl
says_line (let_term name A b p E previous) = refl

past : (ns : List ℕ)
    → AllZero (drop (length ns) (get_or ns 0 0 ∷ get_or ns 1 0 ∷ get_or ns 2 0 ∷ get_or ns 3 0 ∷ get_or ns 4 0 ∷ get_or ns 5 0 ∷ get_or ns 6 0 ∷ []))
past [] = (refl, (refl, (refl, (refl, (refl, (refl, (refl, tt)))))))
past (a ∷ []) = (refl, (refl, (refl, (refl, (refl, (refl, tt))))))
past (a ∷ b ∷ []) = (refl, (refl, (refl, (refl, (refl, tt)))))
past (a ∷ b ∷ c ∷ []) = (refl, (refl, (refl, (refl, tt))))
past (a ∷ b ∷ c ∷ d ∷ []) = (refl, (refl, (refl, tt)))
past (a ∷ b ∷ c ∷ d ∷ e ∷ []) = (refl, (refl, tt))
past (a ∷ b ∷ c ∷ d ∷ e ∷ f ∷ []) = (refl, tt)
past (a ∷ b ∷ c ∷ d ∷ e ∷ f ∷ g ∷ []) = tt
past (a ∷ b ∷ c ∷ d ∷ e ∷ f ∷ g ∷ h ∷ ns) = tt

pub line_past : (s : Statement) → AllZero (drop (length (columns s)) (numbers (line s)))
line_past s = subst (λ n. AllZero (drop n (numbers (line s)))) (length-map number_in (columns s)) (past (held s))

-- of which kind a line is

pub data Kind : Type 0 where
  types terms environments premises names definitions : Kind

pub data OfKind : Kind → Statement → Type 0 where
  of_type_line : {t : TypeLine} → OfKind types (type_line t)
  of_term_line : {a : TermLine} → OfKind terms (term_line a)
  of_env_line : {e : EnvLine} → OfKind environments (env_line e)
  of_raising : {A j C p q : ℕ} → OfKind premises (raising A j C p q)
  of_putting : {B j A C p q r : ℕ} → OfKind premises (putting B j A C p q r)
  of_bound : {E k B p q : ℕ} → OfKind premises (bound_line E k B p q)
  of_typing : {E k A p q : ℕ} → OfKind premises (typing_line E k A p q)
  of_env_judged : {E p : ℕ} → OfKind premises (env_judged E p)
  of_type_judged : {E A p q : ℕ} → OfKind premises (type_judged E A p q)
  of_sub_judged : {s : SubRule} {E A B p q : ℕ} → OfKind premises (sub_judged s E A B p q)
  of_has_judged : {h : HasRule} {E a A p q r : ℕ} → OfKind premises (has_judged h E a A p q r)
  of_name : {n₁ n₂ n₃ n₄ n₅ n₆ n₇ : ℕ} → OfKind names (name_line n₁ n₂ n₃ n₄ n₅ n₆ n₇)
  of_let_type : {name B A p E previous : ℕ} → OfKind definitions (let_type name B A p E previous)
  of_let_term : {name A b p E previous : ℕ} → OfKind definitions (let_term name A b p E previous)

abbrev kind : Statement → Kind
kind (type_line t) = types
kind (term_line a) = terms
kind (env_line e) = environments
kind (raising A j C p q) = premises
kind (putting B j A C p q r) = premises
kind (bound_line E k B p q) = premises
kind (typing_line E k A p q) = premises
kind (env_judged E p) = premises
kind (type_judged E A p q) = premises
kind (sub_judged s E A B p q) = premises
kind (has_judged h E a A p q r) = premises
kind (name_line n₁ n₂ n₃ n₄ n₅ n₆ n₇) = names
kind (let_type name B A p E previous) = definitions
kind (let_term name A b p E previous) = definitions

of_kind : (s : Statement) → OfKind (kind s) s
of_kind (type_line t) = of_type_line
of_kind (term_line a) = of_term_line
of_kind (env_line e) = of_env_line
of_kind (raising A j C p q) = of_raising
of_kind (putting B j A C p q r) = of_putting
of_kind (bound_line E k B p q) = of_bound
of_kind (typing_line E k A p q) = of_typing
of_kind (env_judged E p) = of_env_judged
of_kind (type_judged E A p q) = of_type_judged
of_kind (sub_judged s E A B p q) = of_sub_judged
of_kind (has_judged h E a A p q r) = of_has_judged
of_kind (name_line n₁ n₂ n₃ n₄ n₅ n₆ n₇) = of_name
of_kind (let_type name B A p E previous) = of_let_type
of_kind (let_term name A b p E previous) = of_let_term

-- the codes of a kind are those from the first to the last
abbrev pub first_code : Kind → ℕ
first_code types = 10
first_code terms = 20
first_code environments = 30
first_code premises = 40
first_code names = 90
first_code definitions = 91

abbrev pub last_code : Kind → ℕ
last_code types = 14
last_code terms = 28
last_code environments = 32
last_code premises = 79
last_code names = 90
last_code definitions = 92

abbrev kind_at : ℕ → Kind
kind_at c =
    cond (leb c 14) types (cond (leb c 28) terms (cond (leb c 32) environments (cond (leb c 79) premises (cond (leb c 90) names definitions))))

kind_between : (k : Kind) (c : ℕ) → first_code k ≤ c → c ≤ last_code k → kind_at c ≡ k
kind_between types c h i = rw (le-leb c 14 i)
kind_between terms c h i = rw (lt-leb c 14 (omega arith), le-leb c 28 i)
kind_between environments c h i = rw (lt-leb c 14 (omega arith), lt-leb c 28 (omega arith), le-leb c 32 i)
kind_between premises c h i = rw (lt-leb c 14 (omega arith), lt-leb c 28 (omega arith), lt-leb c 32 (omega arith), le-leb c 79 i)
kind_between names c h i =
    rw (lt-leb c 14 (omega arith), lt-leb c 28 (omega arith), lt-leb c 32 (omega arith), lt-leb c 79 (omega arith), le-leb c 90 i)
kind_between definitions c h i =
    rw (lt-leb c 14 (omega arith), lt-leb c 28 (omega arith), lt-leb c 32 (omega arith), lt-leb c 79 (omega arith), lt-leb c 90 (omega arith))

-- a line with such a code says a statement of the kind
pub kind_said : (k : Kind) (l : Line) (s : Statement) → statement l ≡ Some s → first_code k ≤ l.code → l.code ≤ last_code k → OfKind k s
kind_said k l s e h i =
    let f : kind s ≡ kind_at l.code = at_rows (λ r. kind r.1) (λ r. kind_at r.0) l s refl e in
    subst (λ c. OfKind c s) (f ∙ kind_between k l.code h i) (of_kind s)

kind_is : {k : Kind} {s : Statement} → OfKind k s → kind s ≡ k
kind_is of_type_line = refl
kind_is of_term_line = refl
kind_is of_env_line = refl
kind_is of_raising = refl
kind_is of_putting = refl
kind_is of_bound = refl
kind_is of_typing = refl
kind_is of_env_judged = refl
kind_is of_type_judged = refl
kind_is of_sub_judged = refl
kind_is of_has_judged = refl
kind_is of_name = refl
kind_is of_let_type = refl
kind_is of_let_term = refl

-- and back
pub kind_code : {k : Kind} {s : Statement} → OfKind k s → (first_code k ≤ code_of s) × (code_of s ≤ last_code k)
kind_code {k} {s} o =
    let among : (leb (first_code (kind s)) (code_of s) && leb (code_of s) (last_code (kind s))) ≡ true =
    at_rows (λ r. leb (first_code (kind r.1)) r.0 && leb r.0 (last_code (kind r.1))) (λ r. true) (line s) s refl (says_line s) in
    let (h, i) = and_parts _ _ (rw (kind_is o) at among) in
    (leb-true _ _ h, leb-true _ _ i)
