-- What a phrase puts before judging: the lines of its types, terms and bindings, which are what its tree says.
use Rattle.std.proofs.Common.{◌≡◌, ℕ, List, [], ◌∷◌, refl, ap₂, ap, subst}
use Rattle.rules.specs.Meaning.{TypeAt, of_top, of_var, of_arrow, of_all, of_rec, of_top_term, of_var_term, of_fun, of_appl, of_fun2, of_appl2, of_fold, of_unfold, of_rec_term, EnvAt, of_with_term, of_with_type}
use Rattle.rules.specs.Quantifiers.{Rule}
use Rattle.rules.specs.Statements.{arrow', all', rec', fun', appl', fun2', appl2', fold_term', unfold_term', rec_term', with_term', with_type', type_line, term_line, env_line, Get}
use Rattle.rules.specs.Syntax.{Ty, arrow, all, rec, Tm, fun, appl, fun2, appl2, fold_term, unfold_term, rec_term, Env, with_term, with_type}
use Rattle.rules.proofs.Means.{type_on, env_on, type_one}
use Rattle.rules.proofs.Whole.{◌⊑◌}
use Rattle.rules.proofs.Writing.{Listing, gets}
use Rattle.judge.specs.Goals.{Placed, top_placed, var_placed, fun_placed, appl_placed, fun2_placed, appl2_placed, fold_placed, unfold_placed, rec_placed, line_at, Plan, lay}
use Rattle.judge.specs.Judgments.{TypeIs, is_top, is_var, is_line, is_arrow, is_all, is_rec, TermIs, is_top_term, is_var_term, is_fun, is_appl, is_fun2, is_appl2, is_fold, is_unfold, is_rec_term, Extends, no_binding, term_binding, type_binding}
use Rattle.judge.specs.Phrases.{ScopedType, scoped_top, scoped_var, scoped_line, scoped_arrow, scoped_all, scoped_rec, ScopedTerm, scoped_top_term, scoped_var_term, scoped_fun, scoped_appl, scoped_fun2, scoped_appl2, scoped_fold, scoped_unfold, scoped_rec_term, Binding, of_term, of_type, type_laid, term_laid, bindings_laid}
use Rattle.judge.proofs.Lines.{okay_type, okay_term, okay_env}
use Rattle.judge.proofs.Sessions.{Later, later_same, later_via}
use Rattle.judge.proofs.Sought.{PlacedAt, top_at, var_at, fun_at, appl_at, fun2_at, appl2_at, fold_at, unfold_at, rec_at, placed_term, placed_on}
use Rattle.judge.proofs.Valid.{Valid_on}

-- what a tree is stays so, and is one thing

pub type_is_on : {G H : Get} → G ⊑ H → {a : ScopedType} {A : Ty} → TypeIs G a A → TypeIs H a A
type_is_on o is_top = is_top
type_is_on o (is_var l) = is_var l
type_is_on o (is_line x) = is_line (type_on o x)
type_is_on o (is_arrow x y) = is_arrow (type_is_on o x) (type_is_on o y)
type_is_on o (is_all x y) = is_all (type_is_on o x) (type_is_on o y)
type_is_on o (is_rec x) = is_rec (type_is_on o x)

pub term_is_on : {G H : Get} → G ⊑ H → {b : ScopedTerm} {t : Tm} → TermIs G b t → TermIs H b t
term_is_on o is_top_term = is_top_term
term_is_on o (is_var_term l) = is_var_term l
term_is_on o (is_fun x y) = is_fun (type_is_on o x) (term_is_on o y)
term_is_on o (is_appl x y) = is_appl (term_is_on o x) (term_is_on o y)
term_is_on o (is_fun2 x y) = is_fun2 (type_is_on o x) (term_is_on o y)
term_is_on o (is_appl2 x y) = is_appl2 (term_is_on o x) (type_is_on o y)
term_is_on o (is_fold x y) = is_fold (type_is_on o x) (term_is_on o y)
term_is_on o (is_unfold x) = is_unfold (term_is_on o x)
term_is_on o (is_rec_term x y) = is_rec_term (type_is_on o x) (term_is_on o y)

pub extends_on : {G H : Get} → G ⊑ H → {bindings : List Binding} {Γ Δ : Env} → Extends G Γ bindings Δ → Extends H Γ bindings Δ
extends_on o no_binding = no_binding
extends_on o (term_binding x y) = term_binding (type_is_on o x) (extends_on o y)
extends_on o (type_binding x y) = type_binding (type_is_on o x) (extends_on o y)

pub type_is_one : {G : Get} {a : ScopedType} {A B : Ty} → TypeIs G a A → TypeIs G a B → A ≡ B
type_is_one is_top is_top = refl
type_is_one (is_var l) (is_var m) = refl
type_is_one (is_line x) (is_line y) = type_one x y
type_is_one (is_arrow x y) (is_arrow u v) = ap₂ arrow (type_is_one x u) (type_is_one y v)
type_is_one (is_all x y) (is_all u v) = ap₂ all (type_is_one x u) (type_is_one y v)
type_is_one (is_rec x) (is_rec u) = ap rec (type_is_one x u)

pub term_is_one : {G : Get} {b : ScopedTerm} {t u : Tm} → TermIs G b t → TermIs G b u → t ≡ u
term_is_one is_top_term is_top_term = refl
term_is_one (is_var_term l) (is_var_term m) = refl
term_is_one (is_fun x y) (is_fun u v) = ap₂ fun (type_is_one x u) (term_is_one y v)
term_is_one (is_appl x y) (is_appl u v) = ap₂ appl (term_is_one x u) (term_is_one y v)
term_is_one (is_fun2 x y) (is_fun2 u v) = ap₂ fun2 (type_is_one x u) (term_is_one y v)
term_is_one (is_appl2 x y) (is_appl2 u v) = ap₂ appl2 (term_is_one x u) (type_is_one y v)
term_is_one (is_fold x y) (is_fold u v) = ap₂ fold_term (type_is_one x u) (term_is_one y v)
term_is_one (is_unfold x) (is_unfold u) = ap unfold_term (term_is_one x u)
term_is_one (is_rec_term x y) (is_rec_term u v) = ap₂ rec_term (type_is_one x u) (term_is_one y v)

pub extends_one : {G : Get} {bindings : List Binding} {Γ Δ Θ : Env} → Extends G Γ bindings Δ → Extends G Γ bindings Θ → Δ ≡ Θ
extends_one no_binding no_binding = refl
extends_one {G} {Θ = Θ} (term_binding {Γ = Γ} {bindings = bindings} x y) (term_binding u v) =
    extends_one y (subst (λ A. Extends G (with_term Γ A) bindings Θ) (type_is_one u x) v)
extends_one {G} {Θ = Θ} (type_binding {Γ = Γ} {bindings = bindings} x y) (type_binding u v) =
    extends_one y (subst (λ A. Extends G (with_type Γ A) bindings Θ) (type_is_one u x) v)

module _ {R : Rule} (Q : Listing R → ℕ → ℕ → Type 0) (N : Type 0) where
  abbrev pub Good : Plan → Listing R → Type 0
  Good = Valid_on R (λ L M. Later L M) Q N

  pub type_laid_good : (a : ScopedType) (L : Listing R) (k : ℕ → Plan) {A : Ty} → TypeIs (gets L) a A
      → ((M : Listing R) → Later L M → (n : ℕ) → TypeAt (gets M) n A → Good (k n) M) → Good (type_laid a k) L
  type_laid_good scoped_top L k is_top next = (okay_type L tt of_top, λ M o n e. next M o n (TypeAt.type_at e of_top))
  type_laid_good (scoped_var i) L k (is_var l) next = (okay_type L l of_var, λ M o n e. next M o n (TypeAt.type_at e of_var))
  type_laid_good (scoped_line n) L k (is_line x) next = next L (later_same L) n x
  type_laid_good (scoped_arrow a b) L k (is_arrow x y) next =
      type_laid_good a L (λ m. type_laid b (λ n. lay (type_line (arrow' m n)) k)) x (λ M o m u.
      type_laid_good b M (λ n. lay (type_line (arrow' m n)) k) (type_is_on o.on y) (λ K q n v.
      let u' = type_on q.on u in
      (okay_type K tt (of_arrow u' v), λ P r i e. next P (later_via o (later_via q r)) i (TypeAt.type_at e (of_arrow (type_on r.on u') (type_on r.on v))))))
  type_laid_good (scoped_all a b) L k (is_all x y) next =
      type_laid_good a L (λ m. type_laid b (λ n. lay (type_line (all' m n)) k)) x (λ M o m u.
      type_laid_good b M (λ n. lay (type_line (all' m n)) k) (type_is_on o.on y) (λ K q n v.
      let u' = type_on q.on u in
      (okay_type K tt (of_all u' v), λ P r i e. next P (later_via o (later_via q r)) i (TypeAt.type_at e (of_all (type_on r.on u') (type_on r.on v))))))
  type_laid_good (scoped_rec b) L k (is_rec y) next =
      type_laid_good b L (λ n. lay (type_line (rec' n)) k) y (λ K q n v.
      (okay_type K tt (of_rec v), λ P r i e. next P (later_via q r) i (TypeAt.type_at e (of_rec (type_on r.on v)))))

  pub term_laid_good : (b : ScopedTerm) (L : Listing R) (k : Placed → Plan) {t : Tm} → TermIs (gets L) b t
      → ((M : Listing R) → Later L M → (p : Placed) → PlacedAt (gets M) p t → Good (k p) M) → Good (term_laid b k) L
  term_laid_good (scoped_top_term byte) L k is_top_term next = (okay_term L tt of_top_term, λ M o n e. next M o (top_placed byte n) (top_at e))
  term_laid_good (scoped_var_term byte i) L k (is_var_term l) next = (okay_term L l of_var_term, λ M o n e. next M o (var_placed byte i n) (var_at e))
  term_laid_good (scoped_fun byte a b) L k (is_fun x y) next =
      type_laid_good a L (λ m. term_laid b (λ p. lay (term_line (fun' m (line_at p))) (λ n. k (fun_placed byte m p n)))) x (λ M o m u.
      term_laid_good b M (λ p. lay (term_line (fun' m (line_at p))) (λ n. k (fun_placed byte m p n))) (term_is_on o.on y) (λ K q p v.
      let u' = type_on q.on u in (
        okay_term K tt (of_fun u' (placed_term v)),
        λ P r n e.
            next P (later_via o (later_via q r)) (fun_placed byte m p n) (fun_at e (type_on r.on u') (placed_on r.on v)),
      )))
  term_laid_good (scoped_appl byte b a) L k (is_appl x y) next =
      term_laid_good b L (λ p. term_laid a (λ s. lay (term_line (appl' (line_at p) (line_at s))) (λ n. k (appl_placed byte p s n)))) x (λ M o p u.
      term_laid_good a M (λ s. lay (term_line (appl' (line_at p) (line_at s))) (λ n. k (appl_placed byte p s n))) (term_is_on o.on y) (λ K q s v.
      let u' = placed_on q.on u in (
        okay_term K tt (of_appl (placed_term u') (placed_term v)),
        λ P r n e.
            next P (later_via o (later_via q r)) (appl_placed byte p s n) (appl_at e (placed_on r.on u') (placed_on r.on v)),
      )))
  term_laid_good (scoped_fun2 byte a b) L k (is_fun2 x y) next =
      type_laid_good a L (λ m. term_laid b (λ p. lay (term_line (fun2' m (line_at p))) (λ n. k (fun2_placed byte m p n)))) x (λ M o m u.
      term_laid_good b M (λ p. lay (term_line (fun2' m (line_at p))) (λ n. k (fun2_placed byte m p n))) (term_is_on o.on y) (λ K q p v.
      let u' = type_on q.on u in (
        okay_term K tt (of_fun2 u' (placed_term v)),
        λ P r n e.
            next P (later_via o (later_via q r)) (fun2_placed byte m p n) (fun2_at e (type_on r.on u') (placed_on r.on v)),
      )))
  term_laid_good (scoped_appl2 byte b a) L k (is_appl2 x y) next =
      term_laid_good b L (λ p. type_laid a (λ m. lay (term_line (appl2' (line_at p) m)) (λ n. k (appl2_placed byte p m n)))) x (λ M o p u.
      type_laid_good a M (λ m. lay (term_line (appl2' (line_at p) m)) (λ n. k (appl2_placed byte p m n))) (type_is_on o.on y) (λ K q m v.
      let u' = placed_on q.on u in (
        okay_term K tt (of_appl2 (placed_term u') v),
        λ P r n e.
            next P (later_via o (later_via q r)) (appl2_placed byte p m n) (appl2_at e (placed_on r.on u') (type_on r.on v)),
      )))
  term_laid_good (scoped_fold byte a b) L k (is_fold x y) next =
      type_laid_good a L (λ m. term_laid b (λ p. lay (term_line (fold_term' m (line_at p))) (λ n. k (fold_placed byte m p n)))) x (λ M o m u.
      term_laid_good b M (λ p. lay (term_line (fold_term' m (line_at p))) (λ n. k (fold_placed byte m p n))) (term_is_on o.on y) (λ K q p v.
      let u' = type_on q.on u in (
        okay_term K tt (of_fold u' (placed_term v)),
        λ P r n e.
            next P (later_via o (later_via q r)) (fold_placed byte m p n) (fold_at e (type_on r.on u') (placed_on r.on v)),
      )))
  term_laid_good (scoped_unfold byte b) L k (is_unfold y) next =
      term_laid_good b L (λ p. lay (term_line (unfold_term' (line_at p))) (λ n. k (unfold_placed byte p n))) y (λ K q p v.
      (okay_term K tt (of_unfold (placed_term v)), λ P r n e. next P (later_via q r) (unfold_placed byte p n) (unfold_at e (placed_on r.on v))))
  term_laid_good (scoped_rec_term byte a b) L k (is_rec_term x y) next =
      type_laid_good a L (λ m. term_laid b (λ p. lay (term_line (rec_term' m (line_at p))) (λ n. k (rec_placed byte m p n)))) x (λ M o m u.
      term_laid_good b M (λ p. lay (term_line (rec_term' m (line_at p))) (λ n. k (rec_placed byte m p n))) (term_is_on o.on y) (λ K q p v.
      let u' = type_on q.on u in (
        okay_term K tt (of_rec_term u' (placed_term v)),
        λ P r n e.
            next P (later_via o (later_via q r)) (rec_placed byte m p n) (rec_at e (type_on r.on u') (placed_on r.on v)),
      )))

  pub bindings_laid_good : (bindings : List Binding) (L : Listing R) (E : ℕ) (k : ℕ → Plan) {Γ Δ : Env} → EnvAt (gets L) E Γ
      → Extends (gets L) Γ bindings Δ → ((M : Listing R) → Later L M → (F : ℕ) → EnvAt (gets M) F Δ → Good (k F) M)
      → Good (bindings_laid bindings E k) L
  bindings_laid_good [] L E k g no_binding next = next L (later_same L) E g
  bindings_laid_good (of_term a ∷ bindings) L E k g (term_binding x y) next =
      type_laid_good a L (λ m. lay (env_line (with_term' E m)) (λ F. bindings_laid bindings F k)) x (λ M o m u. (
        okay_env M (of_with_term (env_on o.on g) u),
        λ K q F e.
            bindings_laid_good bindings K F k (EnvAt.env_at e (of_with_term (env_on q.on (env_on o.on g)) (type_on q.on u)))
            (extends_on q.on (extends_on o.on y)) (λ P r i h. next P (later_via o (later_via q r)) i h),
      ))
  bindings_laid_good (of_type a ∷ bindings) L E k g (type_binding x y) next =
      type_laid_good a L (λ m. lay (env_line (with_type' E m)) (λ F. bindings_laid bindings F k)) x (λ M o m u. (
        okay_env M (of_with_type (env_on o.on g) u),
        λ K q F e.
            bindings_laid_good bindings K F k (EnvAt.env_at e (of_with_type (env_on q.on (env_on o.on g)) (type_on q.on u)))
            (extends_on q.on (extends_on o.on y)) (λ P r i h. next P (later_via o (later_via q r)) i h),
      ))
