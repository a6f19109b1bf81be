-- Writing out types, and lines 40 to 43: a type raised, a type put for a variable, the bound or type of a variable.
use Rattle.std.proofs.Common.{ℕ, zero, suc, ◌≤◌, List, Some, ap, ◌∙◌, inl, inr, arith}
use Rattle.lines.specs.declared.line.Line.{Line}
use Rattle.rules.specs.Faults.{Names}
use Rattle.rules.specs.Follows.{Raises, Puts, BoundIs, TypingIs, Follows}
use Rattle.rules.specs.Meaning.{TypeAt, of_top, of_var, of_arrow, of_all, of_rec, EnvAt, of_with_term, of_with_type}
use Rattle.rules.specs.Quantifiers.{Rule}
use Rattle.rules.specs.Statements.{top', var', arrow', all', rec', type_line, raising, putting, bound_line, typing_line, Get, said, Column}
use Rattle.rules.specs.Syntax.{Ty, top, var, arrow, all, rec, Env, lift, put, Bound, bound_here, Typing, typing_here, Scoped}
use Rattle.rules.proofs.Codes.{of_raising, of_putting, of_bound, of_typing}
use Rattle.rules.proofs.Means.{type_on, env_on}
use Rattle.rules.proofs.Whole.{raises_on, puts_on, bound_is_on, typing_is_on}
use Rattle.rules.proofs.Writing.{Listing, gets, Written, done, then, put_line, via, type_name, env_name, premise_name, no_premise, put_type}
use Rattle.std.proofs.lemmas.Bool.{lt-ltb, le-ltb, eq-eqb, ne_eqb, cases_lt, cases_order}

-- a type, from its leaves
pub write_type : (A : Ty) (k : ℕ) → Scoped k A → {R : Rule} (L : Listing R) → Written R L (λ G. (n : ℕ) × TypeAt G n A)
write_type top k w L = then (put_type L top' tt of_top) (λ M o x. done (x.0, x.2))
write_type (var i) k w L = then (put_type L (var' i) w.0 of_var) (λ M o x. done (x.0, x.2))
write_type (arrow A B) k w L =
    then (write_type A k w.0 L) (λ M o a.
    then (write_type B k w.1 M) (λ N q b.
    then (put_type N (arrow' a.0 b.0) tt (of_arrow (type_on q a.1) b.1)) (λ K r x. done (x.0, x.2))))
write_type (all A B) k w L =
    then (write_type A k w.0 L) (λ M o a.
    then (write_type B (suc k) w.1 M) (λ N q b.
    then (put_type N (all' a.0 b.0) tt (of_all (type_on q a.1) b.1)) (λ K r x. done (x.0, x.2))))
write_type (rec B) k w L =
    then (write_type B (suc k) w L) (λ M o b.
    then (put_type M (rec' b.0) tt (of_rec b.1)) (λ N q x. done (x.0, x.2)))

-- 40

pub raises_name : (lines : List Line) {p A j C : ℕ} → Raises (said lines) p A j C → Names lines (Column.premise_at p)
raises_name lines {p} x = premise_name lines p x.2 of_raising

pub raising_premises : (lines : List Line) {A j C p q : ℕ} → Follows (said lines) (raising A j C p q)
    → Names lines (Column.premise_at p) × Names lines (Column.premise_at q)
raising_premises lines (Follows.raise_top e) = (no_premise lines, no_premise lines)
raising_premises lines (Follows.raise_low e h) = (no_premise lines, no_premise lines)
raising_premises lines (Follows.raise_high e h f) = (no_premise lines, no_premise lines)
raising_premises lines (Follows.raise_arrow e f x y) = (raises_name lines x, raises_name lines y)
raising_premises lines (Follows.raise_all e f x y) = (raises_name lines x, raises_name lines y)
raising_premises lines (Follows.raise_rec e f x) = (raises_name lines x, no_premise lines)

-- X stands on line a, and a line 40 says that some line is X raised above j
abbrev pub RaisedIn : (j a : ℕ) → Ty → Get → Type 0
RaisedIn j a X G = (c : ℕ) × (p : ℕ) × TypeAt G c (lift j X) × Raises G p a j c

put_raising : {R : Rule} (L : Listing R) {a j c p q : ℕ} (X : Ty) → Follows (gets L) (raising a j c p q) → TypeAt (gets L) a X
    → TypeAt (gets L) c (lift j X) → Written R L (RaisedIn j a X)
put_raising L {a} {j} {c} {p} {q} X f x z =
    let (h, i) = raising_premises L.lines f in
    then (put_line L (raising a j c p q) tt (type_name L.lines x, (tt, (type_name L.lines z, (h, (i, tt))))) f)
    (λ M o y. done (c, y.0, type_on o z, (p, q, y.1)))

pub write_raising : (X : Ty) (j : ℕ) {R : Rule} (L : Listing R) {a : ℕ} → TypeAt (gets L) a X → Written R L (RaisedIn j a X)
write_raising top j L (TypeAt.type_at e of_top) = put_raising L top (Follows.raise_top e) (TypeAt.type_at e of_top) (TypeAt.type_at e of_top)
write_raising (var k) j L (TypeAt.type_at e of_var) =
    let x = TypeAt.type_at e of_var in
    elim (cases_lt j k) [
      | inl high ↦
          then (put_type L (var' (suc k)) (omega arith) of_var) (λ M o y.
          put_raising M (var k) (Follows.raise_high (o _ _ e) high y.1) (type_on o x) (rw (lt-ltb j k high) y.2))
      | inr low ↦ put_raising L (var k) (Follows.raise_low e low) x (rw (le-ltb j k low) x)
    ]
write_raising (arrow X Y) j L (TypeAt.type_at e (of_arrow x y)) =
    then (write_raising X j L x) (λ M o u.
    then (write_raising Y j M (type_on o y)) (λ N q v.
    then (put_type N (arrow' u.0 v.0) tt (of_arrow (type_on q u.2) v.2)) (λ K r z.
    let a = via o (via q r) in
    put_raising K (arrow X Y) (Follows.raise_arrow (a _ _ e) z.1 (raises_on (via q r) u.3) (raises_on r v.3))
    (type_on a (TypeAt.type_at e (of_arrow x y))) z.2)))
write_raising (all X Y) j L (TypeAt.type_at e (of_all x y)) =
    then (write_raising X j L x) (λ M o u.
    then (write_raising Y (suc j) M (type_on o y)) (λ N q v.
    then (put_type N (all' u.0 v.0) tt (of_all (type_on q u.2) v.2)) (λ K r z.
    let a = via o (via q r) in
    put_raising K (all X Y) (Follows.raise_all (a _ _ e) z.1 (raises_on (via q r) u.3) (raises_on r v.3))
    (type_on a (TypeAt.type_at e (of_all x y))) z.2)))
write_raising (rec Y) j L (TypeAt.type_at e (of_rec y)) =
    then (write_raising Y (suc j) L y) (λ M o v.
    then (put_type M (rec' v.0) tt (of_rec v.2)) (λ N q z.
    put_raising N (rec Y) (Follows.raise_rec (via o q _ _ e) z.1 (raises_on q v.3))
    (type_on (via o q) (TypeAt.type_at e (of_rec y))) z.2))

-- 41

pub puts_name : (lines : List Line) {p B j A C : ℕ} → Puts (said lines) p B j A C → Names lines (Column.premise_at p)
puts_name lines {p} x = premise_name lines p x.3 of_putting

pub putting_premises : (lines : List Line) {B j A C p q r : ℕ} → Follows (said lines) (putting B j A C p q r)
    → Names lines (Column.premise_at p) × Names lines (Column.premise_at q) × Names lines (Column.premise_at r)
putting_premises lines (Follows.put_top e) = (no_premise lines, no_premise lines, no_premise lines)
putting_premises lines (Follows.put_low e h) = (no_premise lines, no_premise lines, no_premise lines)
putting_premises lines (Follows.put_here e) = (no_premise lines, no_premise lines, no_premise lines)
putting_premises lines (Follows.put_high e h f) = (no_premise lines, no_premise lines, no_premise lines)
putting_premises lines (Follows.put_arrow e f x y) = (puts_name lines x, puts_name lines y, no_premise lines)
putting_premises lines (Follows.put_all e f x y z) = (puts_name lines x, raises_name lines y, puts_name lines z)
putting_premises lines (Follows.put_rec e f x y) = (raises_name lines x, puts_name lines y, no_premise lines)

-- Y stands on line b and X on line a, and a line 41 says that some line is Y with X put for variable j
abbrev pub PuttedIn : (j b a : ℕ) → (Y X : Ty) → Get → Type 0
PuttedIn j b a Y X G = (c : ℕ) × (p : ℕ) × TypeAt G c (put j X Y) × Puts G p b j a c

put_putting : {R : Rule} (L : Listing R) {b j a c p q r : ℕ} (Y X : Ty) → Follows (gets L) (putting b j a c p q r)
    → TypeAt (gets L) b Y → TypeAt (gets L) a X → TypeAt (gets L) c (put j X Y) → Written R L (PuttedIn j b a Y X)
put_putting L {b} {j} {a} {c} {p} {q} {r} Y X f y x z =
    let (h, i, k) = putting_premises L.lines f in
    let m = L.lines in
    then (put_line L (putting b j a c p q r) tt (type_name m y, (tt, (type_name m x, (type_name m z, (h, (i, (k, tt))))))) f)
    (λ M o v. done (c, v.0, type_on o z, (p, q, r, v.1)))

pub write_putting : (Y : Ty) (j : ℕ) → 1 ≤ j → (X : Ty) {R : Rule} (L : Listing R) {b a : ℕ} → TypeAt (gets L) b Y → TypeAt (gets L) a X
    → Written R L (PuttedIn j b a Y X)
write_putting top j l X L (TypeAt.type_at e of_top) x =
    put_putting L top X (Follows.put_top e) (TypeAt.type_at e of_top) x (TypeAt.type_at e of_top)
write_putting (var zero) j l X L (TypeAt.type_at e of_var) x =
    let y = TypeAt.type_at e of_var in
    put_putting L (var zero) X (Follows.put_low e l) y x (rw (ne_eqb zero j (omega arith), le-ltb j zero (omega arith)) y)
write_putting (var (suc k)) j l X L (TypeAt.type_at e of_var) x =
    let y = TypeAt.type_at e of_var in
    elim (cases_order (suc k) j) [
      | inl same ↦
          let here = Follows.put_here (e ∙ ap (λ i. Some (type_line (var' i))) same) in
          put_putting L (var (suc k)) X here y x (rw (eq-eqb (suc k) j same) x)
      | inr (inl low) ↦
          put_putting L (var (suc k)) X (Follows.put_low e low) y x (rw (ne_eqb (suc k) j (omega arith), le-ltb j (suc k) (omega arith)) y)
      | inr (inr high) ↦
          then (put_type L (var' k) (omega arith) of_var) (λ M o z.
          put_putting M (var (suc k)) X (Follows.put_high (o _ _ e) high z.1) (type_on o y) (type_on o x)
          (rw (ne_eqb (suc k) j (omega arith), lt-ltb j (suc k) high) z.2))
    ]
write_putting (arrow Y Z) j l X L (TypeAt.type_at e (of_arrow y z)) x =
    then (write_putting Y j l X L y x) (λ M o u.
    then (write_putting Z j l X M (type_on o z) (type_on o x)) (λ N q v.
    then (put_type N (arrow' u.0 v.0) tt (of_arrow (type_on q u.2) v.2)) (λ K r w.
    let a = via o (via q r) in
    put_putting K (arrow Y Z) X (Follows.put_arrow (a _ _ e) w.1 (puts_on (via q r) u.3) (puts_on r v.3))
    (type_on a (TypeAt.type_at e (of_arrow y z))) (type_on a x) w.2)))
write_putting (all Y Z) j l X L (TypeAt.type_at e (of_all y z)) x =
    then (write_putting Y j l X L y x) (λ M o u.
    then (write_raising X 0 M (type_on o x)) (λ N q t.
    then (write_putting Z (suc j) (omega arith) (lift 0 X) N (type_on (via o q) z) t.2) (λ P i v.
    then (put_type P (all' u.0 v.0) tt (of_all (type_on (via q i) u.2) v.2)) (λ K r w.
    let a = via o (via q (via i r)) in
    put_putting K (all Y Z) X
    (Follows.put_all (a _ _ e) w.1 (puts_on (via q (via i r)) u.3) (raises_on (via i r) t.3) (puts_on r v.3))
    (type_on a (TypeAt.type_at e (of_all y z))) (type_on a x) w.2))))
write_putting (rec Z) j l X L (TypeAt.type_at e (of_rec z)) x =
    then (write_raising X 0 L x) (λ M o t.
    then (write_putting Z (suc j) (omega arith) (lift 0 X) M (type_on o z) t.2) (λ N q v.
    then (put_type N (rec' v.0) tt (of_rec v.2)) (λ K r w.
    let a = via o (via q r) in
    put_putting K (rec Z) X (Follows.put_rec (a _ _ e) w.1 (raises_on (via q r) t.3) (puts_on r v.3))
    (type_on a (TypeAt.type_at e (of_rec z))) (type_on a x) w.2)))

-- 42

pub bound_is_name : (lines : List Line) {p E k B : ℕ} → BoundIs (said lines) p E k B → Names lines (Column.premise_at p)
bound_is_name lines {p} x = premise_name lines p x.2 of_bound

pub bound_premises : (lines : List Line) {E k B p q : ℕ} → Follows (said lines) (bound_line E k B p q)
    → Names lines (Column.premise_at p) × Names lines (Column.premise_at q)
bound_premises lines (Follows.bound_last e x) = (no_premise lines, raises_name lines x)
bound_premises lines (Follows.bound_past_type e x y) = (bound_is_name lines x, raises_name lines y)
bound_premises lines (Follows.bound_past_term e x) = (bound_is_name lines x, no_premise lines)

-- the bound X of variable k of the environment on line e stands, and a line 42 says so
abbrev pub BoundIn : (e k : ℕ) → Ty → Get → Type 0
BoundIn e k X G = (b : ℕ) × (p : ℕ) × TypeAt G b X × BoundIs G p e k b

put_bound : {R : Rule} (L : Listing R) {e k b p q : ℕ} {Γ : Env} {X : Ty} → EnvAt (gets L) e Γ → TypeAt (gets L) b X
    → Follows (gets L) (bound_line e k b p q) → Written R L (BoundIn e k X)
put_bound L {e} {k} {b} {p} {q} g x f =
    let (h, i) = bound_premises L.lines f in
    then (put_line L (bound_line e k b p q) tt (env_name L.lines g, (tt, (type_name L.lines x, (h, (i, tt))))) f)
    (λ M o y. done (b, y.0, type_on o x, (p, q, y.1)))

pub write_bound : {Γ : Env} {k : ℕ} {X : Ty} → Bound Γ k X → {R : Rule} (L : Listing R) {e : ℕ} → EnvAt (gets L) e Γ → Written R L (BoundIn e k X)
write_bound (bound_here {A = A}) L (EnvAt.env_at e (of_with_type g a)) =
    then (write_raising A 0 L a) (λ M o u.
    put_bound M (EnvAt.env_at (o _ _ e) (of_with_type (env_on o g) (type_on o a))) u.2 (Follows.bound_last (o _ _ e) u.3))
write_bound (Bound.bound_past_type {B = B} b) L (EnvAt.env_at e (of_with_type g a)) =
    then (write_bound b L g) (λ M o u.
    then (write_raising B 0 M u.2) (λ N q v.
    let r = via o q in
    put_bound N (EnvAt.env_at (r _ _ e) (of_with_type (env_on r g) (type_on r a))) v.2
    (Follows.bound_past_type (r _ _ e) (bound_is_on q u.3) v.3)))
write_bound (Bound.bound_past_term b) L (EnvAt.env_at e (of_with_term g a)) =
    then (write_bound b L g) (λ M o u.
    put_bound M (EnvAt.env_at (o _ _ e) (of_with_term (env_on o g) (type_on o a))) u.2 (Follows.bound_past_term (o _ _ e) u.3))

-- 43

pub typing_is_name : (lines : List Line) {p E k A : ℕ} → TypingIs (said lines) p E k A → Names lines (Column.premise_at p)
typing_is_name lines {p} x = premise_name lines p x.2 of_typing

pub typing_premises : (lines : List Line) {E k A p q : ℕ} → Follows (said lines) (typing_line E k A p q)
    → Names lines (Column.premise_at p) × Names lines (Column.premise_at q)
typing_premises lines (Follows.typing_last e) = (no_premise lines, no_premise lines)
typing_premises lines (Follows.typing_past_term e x) = (typing_is_name lines x, no_premise lines)
typing_premises lines (Follows.typing_past_type e x y) = (typing_is_name lines x, raises_name lines y)

-- the type X of variable k of the environment on line e stands, and a line 43 says so
abbrev pub TypingIn : (e k : ℕ) → Ty → Get → Type 0
TypingIn e k X G = (b : ℕ) × (p : ℕ) × TypeAt G b X × TypingIs G p e k b

put_typing : {R : Rule} (L : Listing R) {e k b p q : ℕ} {Γ : Env} {X : Ty} → EnvAt (gets L) e Γ → TypeAt (gets L) b X
    → Follows (gets L) (typing_line e k b p q) → Written R L (TypingIn e k X)
put_typing L {e} {k} {b} {p} {q} g x f =
    let (h, i) = typing_premises L.lines f in
    then (put_line L (typing_line e k b p q) tt (env_name L.lines g, (tt, (type_name L.lines x, (h, (i, tt))))) f)
    (λ M o y. done (b, y.0, type_on o x, (p, q, y.1)))

pub write_typing : {Γ : Env} {k : ℕ} {X : Ty} → Typing Γ k X → {R : Rule} (L : Listing R) {e : ℕ} → EnvAt (gets L) e Γ → Written R L (TypingIn e k X)
write_typing typing_here L (EnvAt.env_at e (of_with_term g a)) =
    put_typing L (EnvAt.env_at e (of_with_term g a)) a (Follows.typing_last e)
write_typing (Typing.typing_past_term b) L (EnvAt.env_at e (of_with_term g a)) =
    then (write_typing b L g) (λ M o u.
    put_typing M (EnvAt.env_at (o _ _ e) (of_with_term (env_on o g) (type_on o a))) u.2 (Follows.typing_past_term (o _ _ e) u.3))
write_typing (Typing.typing_past_type {A = A} b) L (EnvAt.env_at e (of_with_type g a)) =
    then (write_typing b L g) (λ M o u.
    then (write_raising A 0 M u.2) (λ N q v.
    let r = via o q in
    put_typing N (EnvAt.env_at (r _ _ e) (of_with_type (env_on r g) (type_on r a))) v.2
    (Follows.typing_past_type (r _ _ e) (typing_is_on q u.3) v.3)))
