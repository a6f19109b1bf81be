-- Writing more lines on a sound listing: a line is put unless an equal one stands.
use Rattle.std.proofs.Common.{◌≡◌, ℕ, zero, suc, T, ◌⊎◌, List, [], ◌∷◌, ◌++◌, length, get_or, Some, refl, ap, inl, inr, arith}
use mathlib.Core.List.{List-discrete}
use native.Mathlib.Decide.{ℕ_discrete}
use Rattle.lines.specs.Stores.{numbered}
use Rattle.lines.specs.declared.answer.Cause.{Cause}
use Rattle.lines.specs.declared.answer.Cause.TheVariants.{Code, Column as PastColumn, Reference, Repeated, Unfounded}
use Rattle.lines.specs.declared.line.Line.{Line}
use Rattle.rules.specs.Faults.{admitted, numbers, Stands, Names, AllName, Right, Sound}
use Rattle.rules.specs.Follows.{TypeNumbered, TermNumbered, Follows, a_type, a_term, an_env}
use Rattle.rules.specs.Meaning.{TypeAt, TypeOf, of_top, of_var, of_arrow, of_all, of_rec, TermAt, TermOf, of_top_term, of_var_term, of_fun, of_appl, of_fun2, of_appl2, of_fold, of_unfold, of_rec_term, EnvAt, EnvOf, of_empty, of_with_term, of_with_type}
use Rattle.rules.specs.Quantifiers.{Rule}
use Rattle.rules.specs.Statements.{TypeLine, TermLine, EnvLine, Statement, type_line, term_line, env_line, Get, said, Column, columns}
use Rattle.rules.specs.Syntax.{Ty, Tm, Env}
use Rattle.rules.proofs.Codes.{code_read, line, says_line, line_past, Kind, premises, OfKind, of_type_line, of_term_line, of_env_line, first_code, last_code, kind_code}
use Rattle.rules.proofs.Grow.{added_sound, said_added, said_last}
use Rattle.rules.proofs.Means.{type_of_on, term_of_on, env_of_on}
use Rattle.rules.proofs.Whole.{◌⊑◌, said_line, line_said}
use Rattle.std.proofs.lemmas.Option.{none-some}

pub record Listing (R : Rule) : Type 0 where
  pub lines : List Line
  pub sound : Sound R lines

abbrev pub gets : {R : Rule} → Listing R → Get
gets L = said L.lines

-- L with more lines, of which P holds
pub record Written (R : Rule) (L : Listing R) (P : Get → Type 0) : Type 0 where
  pub more : Listing R
  pub grows : gets L ⊑ gets more
  pub holds : P (gets more)

pub done : {R : Rule} {L : Listing R} {P : Get → Type 0} → P (gets L) → Written R L P
done {L = L} x = record { more = L; grows = λ n s e. e; holds = x }

pub then : {R : Rule} {L : Listing R} {P Q : Get → Type 0} → Written R L P
    → ((M : Listing R) → gets L ⊑ gets M → P (gets M) → Written R M Q) → Written R L Q
then x f =
    let y = f x.more x.grows x.holds in
    record { more = y.more; grows = λ n s e. y.grows n s (x.grows n s e); holds = y.holds }

-- from a listing to one with more lines, and on to one with yet more
pub via : {G H K : Get} → G ⊑ H → H ⊑ K → G ⊑ K
via o q n s e = q n s (o n s e)

-- whether an equal line stands

same_line : (l m : Line) → l.code ∷ numbers l ≡ m.code ∷ numbers m → l ≡ m
same_line l m e =
    λ i. record { code = get_or (e i) 0 0; c1 = get_or (e i) 1 0; c2 = get_or (e i) 2 0; c3 = get_or (e i) 3 0; c4 = get_or (e i) 4 0; c5 = get_or (e i) 5 0; c6 = get_or (e i) 6 0; c7 = get_or (e i) 7 0 }

line_discrete : (l m : Line) → (l ≡ m) ⊎ (l ≡ m → ⊥)
line_discrete l m =
    elim (List-discrete ℕ_discrete (l.code ∷ numbers l) (m.code ∷ numbers m)) [
      | yes e ↦ inl (same_line l m e)
      | no n ↦ inr (λ e. n (ap (λ k. k.code ∷ numbers k) e))
    ]

abbrev Found : List Line → Line → Type 0
Found lines l = ((n : ℕ) × (numbered lines n ≡ Some l)) ⊎ ((n : ℕ) → numbered lines n ≡ Some l → ⊥)

find : (lines : List Line) (l : Line) → Found lines l
find [] l = inr none
  where
    none : (n : ℕ) → numbered [] n ≡ Some l → ⊥
    none zero e = none-some _ e
    none (suc n) e = none-some _ e
find (m ∷ lines) l = go (line_discrete m l) (find lines l)
  where
    later : ((n : ℕ) × (numbered lines n ≡ Some l)) → Found (m ∷ lines) l
    later (zero, e) = absurd (none-some _ e)
    later (suc n, e) = inl (suc (suc n), e)

    none : (m ≡ l → ⊥) → ((n : ℕ) → numbered lines n ≡ Some l → ⊥) → (n : ℕ) → numbered (m ∷ lines) n ≡ Some l → ⊥
    none h k zero e = none-some _ e
    none h k (suc zero) e = h (cc)
    none h k (suc (suc n)) e = k (suc n) e

    go : (m ≡ l) ⊎ (m ≡ l → ⊥) → Found lines l → Found (m ∷ lines) l
    go (inl e) x = inl (1, ap Some e)
    go (inr h) (inl x) = later x
    go (inr h) (inr k) = inr (none h k)

-- a statement that follows, on a line of its own or on the one that stands
pub put_line : {R : Rule} (L : Listing R) (s : Statement) → T (admitted R s) → AllName L.lines (columns s) → Follows (gets L) s
    → Written R L (λ G. (n : ℕ) × (G n ≡ Some s))
put_line {R} L s admits named follows = go (find L.lines (line s))
  where
    right : ((n : ℕ) → numbered L.lines n ≡ Some (line s) → ⊥) → (c : Cause) → Right R L.lines (line s) s c
    right fresh Code = admits
    right fresh PastColumn = line_past s
    right fresh Reference = named
    right fresh Repeated = fresh
    right fresh Unfounded = follows

    go : Found L.lines (line s) → Written R L (λ G. (n : ℕ) × (G n ≡ Some s))
    go (inl x) = done (x.0, line_said L.lines x.0 (line s) s x.1 (says_line s))
    go (inr fresh) =
        record {
          more =
              record {
                lines = L.lines ++ line s ∷ [];
                sound = added_sound R L.lines L.sound (line s) (s, says_line s, right fresh);
              };
          grows = said_added L.lines (line s);
          holds = (suc (length L.lines), said_last L.lines (line s) s (says_line s));
        }

-- what a column names

pub stands : (lines : List Line) (n : ℕ) {k : Kind} {s : Statement} → said lines n ≡ Some s → OfKind k s → Stands lines (first_code k) (last_code k) n
stands lines n {s = s} e o =
    let (l, f, g) = said_line lines n s e in
    let c = code_read l s g in
    let (h, i) = kind_code o in
    (l, f, omega arith, omega arith)

pub type_name : (lines : List Line) {n : ℕ} {A : Ty} → TypeAt (said lines) n A → Names lines (Column.type_at n)
type_name lines {n} (TypeAt.type_at e x) = stands lines n e of_type_line

pub term_name : (lines : List Line) {n : ℕ} {a : Tm} → TermAt (said lines) n a → Names lines (Column.term_at n)
term_name lines {n} (TermAt.term_at e x) = stands lines n e of_term_line

pub env_name : (lines : List Line) {n : ℕ} {E : Env} → EnvAt (said lines) n E → Names lines (Column.env_at n)
env_name lines {n} (EnvAt.env_at e x) = stands lines n e of_env_line

pub premise_name : (lines : List Line) (n : ℕ) {s : Statement} → said lines n ≡ Some s → OfKind premises s → Names lines (Column.premise_at n)
premise_name lines n e o = inr (stands lines n e o)

pub no_premise : (lines : List Line) → Names lines (Column.premise_at 0)
no_premise lines = inl refl

-- the line of a type, a term or an environment whose parts stand

pub type_names : (lines : List Line) {t : TypeLine} {A : Ty} → TypeOf (said lines) t A → AllName lines (columns (type_line t))
type_names lines of_top = tt
type_names lines of_var = (tt, tt)
type_names lines (of_arrow x y) = (type_name lines x, (type_name lines y, tt))
type_names lines (of_all x y) = (type_name lines x, (type_name lines y, tt))
type_names lines (of_rec x) = (type_name lines x, tt)

pub term_names : (lines : List Line) {t : TermLine} {a : Tm} → TermOf (said lines) t a → AllName lines (columns (term_line t))
term_names lines of_top_term = tt
term_names lines of_var_term = (tt, tt)
term_names lines (of_fun x y) = (type_name lines x, (term_name lines y, tt))
term_names lines (of_appl x y) = (term_name lines x, (term_name lines y, tt))
term_names lines (of_fun2 x y) = (type_name lines x, (term_name lines y, tt))
term_names lines (of_appl2 x y) = (term_name lines x, (type_name lines y, tt))
term_names lines (of_fold x y) = (type_name lines x, (term_name lines y, tt))
term_names lines (of_unfold x) = (term_name lines x, tt)
term_names lines (of_rec_term x y) = (type_name lines x, (term_name lines y, tt))

pub env_names : (lines : List Line) {t : EnvLine} {E : Env} → EnvOf (said lines) t E → AllName lines (columns (env_line t))
env_names lines of_empty = tt
env_names lines (of_with_term x y) = (env_name lines x, (type_name lines y, tt))
env_names lines (of_with_type x y) = (env_name lines x, (type_name lines y, tt))

pub put_type : {R : Rule} (L : Listing R) (t : TypeLine) {A : Ty} → TypeNumbered t → TypeOf (gets L) t A
    → Written R L (λ G. (n : ℕ) × (G n ≡ Some (type_line t)) × TypeAt G n A)
put_type L t numbered x =
    then (put_line L (type_line t) tt (type_names L.lines x) (a_type numbered))
    (λ M o y. done (y.0, y.1, TypeAt.type_at y.1 (type_of_on o x)))

pub put_term : {R : Rule} (L : Listing R) (t : TermLine) {a : Tm} → TermNumbered t → TermOf (gets L) t a
    → Written R L (λ G. (n : ℕ) × (G n ≡ Some (term_line t)) × TermAt G n a)
put_term L t numbered x =
    then (put_line L (term_line t) tt (term_names L.lines x) (a_term numbered))
    (λ M o y. done (y.0, y.1, TermAt.term_at y.1 (term_of_on o x)))

pub put_env : {R : Rule} (L : Listing R) (t : EnvLine) {E : Env} → EnvOf (gets L) t E
    → Written R L (λ G. (n : ℕ) × (G n ≡ Some (env_line t)) × EnvAt G n E)
put_env L t x =
    then (put_line L (env_line t) tt (env_names L.lines x) an_env)
    (λ M o y. done (y.0, y.1, EnvAt.env_at y.1 (env_of_on o x)))
