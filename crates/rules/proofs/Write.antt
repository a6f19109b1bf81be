-- Writing out derivations: every derivable judgment is what the last line of some sound listing states.
use Rattle.std.proofs.Common.{◌≡◌, ℕ, suc, ◌≤◌, T, ◌↔◌, List, [], length, take, Some, sym, refl, ap, ◌∙◌, subst, subst₂, ⊎_elim, arith}
use mathlib.Core.Path.{subst₃}
use Rattle.lines.proofs.Numbered.{numbered_past}
use Rattle.lines.specs.Stores.{numbered}
use Rattle.lines.specs.declared.line.Line.{Line}
use Rattle.rules.specs.Derivations.{Judgment, is_env, is_type, is_sub, has, Derivable}
use Rattle.rules.specs.Faults.{admitted, Names, Sound}
use Rattle.rules.specs.Follows.{IsEnv, IsType, IsSub, Has, BodyBoundIs, Follows}
use Rattle.rules.specs.Meaning.{TypeAt, of_top, of_var, of_arrow, of_all, of_rec, TermAt, of_top_term, of_var_term, of_fun, of_appl, of_fun2, of_appl2, of_fold, of_unfold, of_rec_term, EnvAt, of_empty, of_with_term, of_with_type, States, states_env, states_type, states_sub, states_has}
use Rattle.rules.specs.Quantifiers.{Rule, bounds, bodies_under, body_bound}
use Rattle.rules.specs.Statements.{top', var', arrow', all', rec', top_term', var_term', fun', appl', fun2', appl2', fold_term', unfold_term', rec_term', empty', with_term', with_type', SubRule, HasRule, Statement, env_line, env_judged, type_judged, sub_judged, has_judged, Get, said, Column}
use Rattle.rules.specs.Syntax.{Ty, top, var, arrow, all, rec, Tm, top_term, var_term, fun, appl, fun2, appl2, fold_term, unfold_term, rec_term, Env, empty, with_term, with_type, put, Bound, Typing, typing_here, typing_past_term, typing_past_type, depth, Scoped}
use Rattle.rules.specs.declared.all_code.AllCode.{AllCode}
use Rattle.rules.specs.declared.all_code.BodyBound.{BodyBound}
use Rattle.rules.specs.declared.all_code.BodyBound.TheVariants.{Left, Right}
use Rattle.rules.specs.declared.all_code.Bounds.TheVariants.{Same, RightBelowLeft}
use Rattle.rules.proofs.Accepted.{accepted_means_derivable}
use Rattle.rules.proofs.Agree.{derivable_regular}
use Rattle.rules.proofs.Codes.{of_env_judged, of_type_judged, of_sub_judged, of_has_judged}
use Rattle.rules.proofs.Grow.{cut_sound}
use Rattle.rules.proofs.Means.{type_on, term_on, env_on, states_on, states_one, Judging, judges_env, judges_type, judges_sub, judges_has, type_number, env_number, states_exists}
use Rattle.rules.specs.Scopes.{unscoped_put}
use Rattle.rules.specs.Variables.{bound_within, body_bound_same}
use Rattle.rules.proofs.Whole.{◌⊑◌, said_line, said_take, said_within, is_env_on, is_type_on, is_sub_on, has_on, bound_is_on, typing_is_on, puts_on, whole}
use Rattle.rules.proofs.WriteParts.{write_type, write_putting, write_bound, write_typing, puts_name, bound_is_name, typing_is_name}
use Rattle.rules.proofs.Writing.{Listing, gets, Written, done, then, via, put_line, type_name, term_name, env_name, premise_name, no_premise, put_type, put_term, put_env}
use Rattle.std.proofs.lemmas.List.{length-take-le}
use Rattle.std.proofs.lemmas.Bool.{cases_lt}
use Rattle.std.proofs.lemmas.Option.{none-some}

-- some line states J
pub data Stated (G : Get) : Judgment → Type 0 where
  env_stated : {e p : ℕ} {E : Env} → EnvAt G e E → IsEnv G p e → Stated G (is_env E)
  type_stated : {e a p : ℕ} {E : Env} {A : Ty} → EnvAt G e E → TypeAt G a A → IsType G p e a → Stated G (is_type E A)
  sub_stated : {e a b p : ℕ} {E : Env} {A B : Ty} → EnvAt G e E → TypeAt G a A → TypeAt G b B → IsSub G p e a b → Stated G (is_sub E A B)
  has_stated : {e a b p : ℕ} {E : Env} {t : Tm} {A : Ty} → EnvAt G e E → TermAt G a t → TypeAt G b A → Has G p e a b → Stated G (has E t A)

pub stated_on : {G H : Get} {J : Judgment} → G ⊑ H → Stated G J → Stated H J
stated_on o (env_stated g x) = env_stated (env_on o g) (is_env_on o x)
stated_on o (type_stated g a x) = type_stated (env_on o g) (type_on o a) (is_type_on o x)
stated_on o (sub_stated g a b x) = sub_stated (env_on o g) (type_on o a) (type_on o b) (is_sub_on o x)
stated_on o (has_stated g a b x) = has_stated (env_on o g) (term_on o a) (type_on o b) (has_on o x)

pub stated_line : {G : Get} {J : Judgment} → Stated G J → (n : ℕ) × (s : Statement) × (G n ≡ Some s) × Judging s × States G s J
stated_line (env_stated {p = p} g x) = (p, _, x.1, judges_env, states_env g)
stated_line (type_stated {p = p} g a x) = (p, _, x.2, judges_type, states_type g a)
stated_line (sub_stated {p = p} g a b x) = (p, _, x.3, judges_sub, states_sub g a b)
stated_line (has_stated {p = p} g a b x) = (p, _, x.4, judges_has, states_has g a b)

-- the same premise by other numbers

module _ (G : Get) where
  type_moved : {p m n a b : ℕ} → m ≡ n → a ≡ b → IsType G p m a → IsType G p n b
  type_moved {p} e f x = subst₂ (λ k c. IsType G p k c) e f x

  sub_moved : {p m n a b c d : ℕ} → m ≡ n → a ≡ b → c ≡ d → IsSub G p m a c → IsSub G p n b d
  sub_moved {p} e f g x = subst₃ (λ k i j. IsSub G p k i j) e f g x

  has_moved : {p m n a b c d : ℕ} → m ≡ n → a ≡ b → c ≡ d → Has G p m a c → Has G p n b d
  has_moved {p} e f g x = subst₃ (λ k i j. Has G p k i j) e f g x

module _ {R : Rule} (L : Listing R) where
  same_type : {A : Ty} {m n : ℕ} → TypeAt (gets L) m A → TypeAt (gets L) n A → m ≡ n
  same_type x y = type_number R (gets L) (whole R L.lines L.sound) x y

  same_env : {E : Env} {m n : ℕ} → EnvAt (gets L) m E → EnvAt (gets L) n E → m ≡ n
  same_env x y = env_number R (gets L) (whole R L.lines L.sound) x y

-- what the premises of lines 50 to 79 name

module _ (lines : List Line) where
  pub is_env_name : {p E : ℕ} → IsEnv (said lines) p E → Names lines (Column.premise_at p)
  is_env_name {p} x = premise_name lines p x.1 of_env_judged

  pub is_type_name : {p E A : ℕ} → IsType (said lines) p E A → Names lines (Column.premise_at p)
  is_type_name {p} x = premise_name lines p x.2 of_type_judged

  pub is_sub_name : {p E A B : ℕ} → IsSub (said lines) p E A B → Names lines (Column.premise_at p)
  is_sub_name {p} x = premise_name lines p x.3 of_sub_judged

  pub has_name : {p E a A : ℕ} → Has (said lines) p E a A → Names lines (Column.premise_at p)
  has_name {p} x = premise_name lines p x.4 of_has_judged

  pub env_premises : {E p : ℕ} → Follows (said lines) (env_judged E p) → Names lines (Column.premise_at p)
  env_premises (Follows.env_empty e) = no_premise lines
  env_premises (Follows.env_term e x) = is_type_name x
  env_premises (Follows.env_type e x) = is_type_name x

  pub type_premises : {E A p q : ℕ} → Follows (said lines) (type_judged E A p q) → Names lines (Column.premise_at p) × Names lines (Column.premise_at q)
  type_premises (Follows.type_top e x) = (is_env_name x, no_premise lines)
  type_premises (Follows.type_var e x y) = (is_env_name x, bound_is_name lines y)
  type_premises (Follows.type_arrow e x y) = (is_type_name x, is_type_name y)
  type_premises (Follows.type_all e f x) = (is_type_name x, no_premise lines)
  type_premises (Follows.type_rec e f g x) = (is_type_name x, no_premise lines)

  pub sub_premises : {s : SubRule} {E A B p q : ℕ} → Follows (said lines) (sub_judged s E A B p q)
      → Names lines (Column.premise_at p) × Names lines (Column.premise_at q)
  sub_premises (Follows.sub_refl x) = (is_type_name x, no_premise lines)
  sub_premises (Follows.sub_trans x y) = (is_sub_name x, is_sub_name y)
  sub_premises (Follows.sub_var e x y) = (is_env_name x, bound_is_name lines y)
  sub_premises (Follows.sub_top e x) = (is_type_name x, no_premise lines)
  sub_premises (Follows.sub_arrow e f x y) = (is_sub_name x, is_sub_name y)
  sub_premises (Follows.sub_all_same c b e f g t x) = (is_sub_name x, no_premise lines)
  sub_premises (Follows.sub_all_below c b e f x g t y) = (is_sub_name x, is_sub_name y)

  pub has_premises : {h : HasRule} {E a A p q r : ℕ} → Follows (said lines) (has_judged h E a A p q r)
      → Names lines (Column.premise_at p) × Names lines (Column.premise_at q) × Names lines (Column.premise_at r)
  has_premises (Follows.has_subsumed x y) = (has_name x, is_sub_name y, no_premise lines)
  has_premises (Follows.has_var e x y) = (is_env_name x, typing_is_name lines y, no_premise lines)
  has_premises (Follows.has_top e f x) = (is_env_name x, no_premise lines, no_premise lines)
  has_premises (Follows.has_fun e f g x) = (has_name x, no_premise lines, no_premise lines)
  has_premises (Follows.has_appl e f x y) = (has_name x, has_name y, no_premise lines)
  has_premises (Follows.has_fun2 e f g x) = (has_name x, no_premise lines, no_premise lines)
  has_premises (Follows.has_appl2 e f x y z) = (has_name x, is_sub_name y, puts_name lines z)
  has_premises (Follows.has_fold e f x y) = (puts_name lines x, has_name y, no_premise lines)
  has_premises (Follows.has_unfold e f x y) = (has_name x, puts_name lines y, no_premise lines)
  has_premises (Follows.has_rec e f x) = (has_name x, no_premise lines, no_premise lines)

-- the line of a judgment whose parts stand

abbrev pub Writes : {R : Rule} → Listing R → Judgment → Type 0
Writes {R} L J = Written R L (λ G. Stated G J)

module _ {R : Rule} (L : Listing R) where
  put_env_judged : {e p : ℕ} {Γ : Env} → Follows (gets L) (env_judged e p) → EnvAt (gets L) e Γ → Writes L (is_env Γ)
  put_env_judged {e} {p} f g =
      let m = L.lines in
      then (put_line L (env_judged e p) tt (env_name m g, (env_premises m f, tt)) f) (λ M o y. done (env_stated {p = y.0} (env_on o g) (p, y.1)))

  put_type_judged : {e a p q : ℕ} {Γ : Env} {A : Ty} → Follows (gets L) (type_judged e a p q) → EnvAt (gets L) e Γ → TypeAt (gets L) a A
      → Writes L (is_type Γ A)
  put_type_judged {e} {a} {p} {q} f g x =
      let m = L.lines in
      let (h, i) = type_premises m f in
      then (put_line L (type_judged e a p q) tt (env_name m g, (type_name m x, (h, (i, tt)))) f)
      (λ M o y. done (type_stated {p = y.0} (env_on o g) (type_on o x) (p, q, y.1)))

  put_sub_judged : {s : SubRule} {e a b p q : ℕ} {Γ : Env} {A B : Ty} → T (admitted R (sub_judged s e a b p q))
      → Follows (gets L) (sub_judged s e a b p q) → EnvAt (gets L) e Γ → TypeAt (gets L) a A → TypeAt (gets L) b B → Writes L (is_sub Γ A B)
  put_sub_judged {s} {e} {a} {b} {p} {q} t f g x y =
      let m = L.lines in
      let (h, i) = sub_premises m f in
      then (put_line L (sub_judged s e a b p q) t (env_name m g, (type_name m x, (type_name m y, (h, (i, tt))))) f)
      (λ M o z. done (sub_stated {p = z.0} (env_on o g) (type_on o x) (type_on o y) (s, p, q, z.1)))

  put_has_judged : {r : HasRule} {e a b p q k : ℕ} {Γ : Env} {t : Tm} {A : Ty} → Follows (gets L) (has_judged r e a b p q k)
      → EnvAt (gets L) e Γ → TermAt (gets L) a t → TypeAt (gets L) b A → Writes L (has Γ t A)
  put_has_judged {r} {e} {a} {b} {p} {q} {k} f g x y =
      let m = L.lines in
      let (h, i, j) = has_premises m f in
      then (put_line L (has_judged r e a b p q k) tt (env_name m g, (term_name m x, (type_name m y, (h, (i, (j, tt)))))) f)
      (λ M o z. done (has_stated {p = z.0} (env_on o g) (term_on o x) (type_on o y) (r, p, q, k, z.1)))

-- a rule's line, where its premises are stated

pub typing_positive : {E : Env} {k : ℕ} {A : Ty} → Typing E k A → 1 ≤ k
typing_positive typing_here = omega arith
typing_positive (typing_past_term t) = omega arith
typing_positive (typing_past_type t) = typing_positive t

body_same : (b : BodyBound) (n : ℕ) → BodyBoundIs b n n n
body_same Left n = refl
body_same Right n = refl

module _ {R : Rule} (L : Listing R) where
  write_env_empty : Writes L (is_env empty)
  write_env_empty = then (put_env L empty' of_empty) (λ M o x. put_env_judged M (Follows.env_empty x.1) x.2)

  write_env_term : {E : Env} {A : Ty} → Stated (gets L) (is_type E A) → Writes L (is_env (with_term E A))
  write_env_term (type_stated g a x) =
      then (put_env L (with_term' _ _) (of_with_term g a)) (λ M o y. put_env_judged M (Follows.env_term y.1 (is_type_on o x)) y.2)

  write_env_type : {E : Env} {A : Ty} → Stated (gets L) (is_type E A) → Writes L (is_env (with_type E A))
  write_env_type (type_stated g a x) =
      then (put_env L (with_type' _ _) (of_with_type g a)) (λ M o y. put_env_judged M (Follows.env_type y.1 (is_type_on o x)) y.2)

  write_type_top : {E : Env} → Stated (gets L) (is_env E) → Writes L (is_type E top)
  write_type_top (env_stated g x) =
      then (put_type L top' tt of_top) (λ M o y. put_type_judged M (Follows.type_top y.1 (is_env_on o x)) (env_on o g) y.2)

  write_type_var : {E : Env} {k : ℕ} {B : Ty} → Bound E k B → Stated (gets L) (is_env E) → Writes L (is_type E (var k))
  write_type_var {k = k} b (env_stated g x) =
      then (write_bound b L g) (λ M o u.
      then (put_type M (var' k) (bound_within b).0 of_var) (λ N q y.
      let r = via o q in
      put_type_judged N (Follows.type_var y.1 (is_env_on r x) (bound_is_on q u.3)) (env_on r g) y.2))

  write_type_arrow : {E : Env} {A B : Ty} → Stated (gets L) (is_type E A) → Stated (gets L) (is_type E B) → Writes L (is_type E (arrow A B))
  write_type_arrow (type_stated g a x) (type_stated h b y) =
      let z = type_moved (gets L) (same_env L h g) refl y in
      then (put_type L (arrow' _ _) tt (of_arrow a b)) (λ M o u.
      put_type_judged M (Follows.type_arrow u.1 (is_type_on o x) (is_type_on o z)) (env_on o g) u.2)

  write_type_all : {E : Env} {A B : Ty} → Stated (gets L) (is_type (with_type E A) B) → Writes L (is_type E (all A B))
  write_type_all (type_stated (EnvAt.env_at f (of_with_type g a)) b x) =
      then (put_type L (all' _ _) tt (of_all a b)) (λ M o u.
      put_type_judged M (Follows.type_all u.1 (o _ _ f) (is_type_on o x)) (env_on o g) u.2)

  write_type_rec : {E : Env} {B : Ty} → Stated (gets L) (is_type (with_type E top) B) → Writes L (is_type E (rec B))
  write_type_rec (type_stated (EnvAt.env_at f (of_with_type g (TypeAt.type_at t of_top))) b x) =
      then (put_type L (rec' _) tt (of_rec b)) (λ M o u.
      put_type_judged M (Follows.type_rec u.1 (o _ _ f) (o _ _ t) (is_type_on o x)) (env_on o g) u.2)

  write_sub_refl : {E : Env} {A : Ty} → Stated (gets L) (is_type E A) → Writes L (is_sub E A A)
  write_sub_refl (type_stated g a x) = put_sub_judged L tt (Follows.sub_refl x) g a a

  write_sub_trans : {E : Env} {A B C : Ty} → Stated (gets L) (is_sub E A B) → Stated (gets L) (is_sub E B C) → Writes L (is_sub E A C)
  write_sub_trans (sub_stated g a b x) (sub_stated h d c y) =
      put_sub_judged L tt (Follows.sub_trans x (sub_moved (gets L) (same_env L h g) (same_type L d b) refl y)) g a c

  write_sub_var : {E : Env} {k : ℕ} {B : Ty} → Bound E k B → Stated (gets L) (is_env E) → Writes L (is_sub E (var k) B)
  write_sub_var {k = k} b (env_stated g x) =
      then (write_bound b L g) (λ M o u.
      then (put_type M (var' k) (bound_within b).0 of_var) (λ N q y.
      let r = via o q in
      put_sub_judged N tt (Follows.sub_var y.1 (is_env_on r x) (bound_is_on q u.3)) (env_on r g) y.2 (type_on q u.2)))

  write_sub_top : {E : Env} {A : Ty} → Stated (gets L) (is_type E A) → Writes L (is_sub E A top)
  write_sub_top (type_stated g a x) =
      then (put_type L top' tt of_top) (λ M o u. put_sub_judged M tt (Follows.sub_top u.1 (is_type_on o x)) (env_on o g) (type_on o a) u.2)

  write_sub_arrow : {E : Env} {A B C D : Ty} → Stated (gets L) (is_sub E C A) → Stated (gets L) (is_sub E B D)
      → Writes L (is_sub E (arrow A B) (arrow C D))
  write_sub_arrow (sub_stated g c a x) (sub_stated h b d y) =
      let z = sub_moved (gets L) (same_env L h g) refl refl y in
      then (put_type L (arrow' _ _) tt (of_arrow a b)) (λ M o u.
      then (put_type M (arrow' _ _) tt (of_arrow (type_on o c) (type_on o d))) (λ N q v.
      let r = via o q in
      put_sub_judged N tt (Follows.sub_arrow (q _ _ u.1) v.1 (is_sub_on r x) (is_sub_on r z)) (env_on r g) (type_on q u.2) v.2))

  write_sub_all_same : {E : Env} {A B D : Ty} (c : AllCode) → T (R.admits c) → bounds c ≡ Same
      → Stated (gets L) (is_sub (with_type E (body_bound (bodies_under c) A A)) B D) → Writes L (is_sub E (all A B) (all A D))
  write_sub_all_same {A = A} c t s (sub_stated (EnvAt.env_at f (of_with_type {n = n} g w)) b d x) =
      let a = subst (TypeAt (gets L) n) (body_bound_same (bodies_under c) A) w in
      then (put_type L (all' n _) tt (of_all a b)) (λ M o u.
      then (put_type M (all' n _) tt (of_all (type_on o a) (type_on o d))) (λ N q v.
      let r = via o q in
      put_sub_judged N t (Follows.sub_all_same c s (q _ _ u.1) v.1 (r _ _ f) (body_same (bodies_under c) n) (is_sub_on r x)) (env_on r g)
      (type_on q u.2) v.2))

  body_number : (b : BodyBound) {A C : Ty} {m n k : ℕ} → TypeAt (gets L) m A → TypeAt (gets L) n C → TypeAt (gets L) k (body_bound b A C)
      → BodyBoundIs b m n k
  body_number Left a c w = same_type L w a
  body_number Right a c w = same_type L w c

  write_sub_all_below : {E : Env} {A B C D : Ty} (c : AllCode) → T (R.admits c) → bounds c ≡ RightBelowLeft → Stated (gets L) (is_sub E C A)
      → Stated (gets L) (is_sub (with_type E (body_bound (bodies_under c) A C)) B D) → Writes L (is_sub E (all A B) (all C D))
  write_sub_all_below k t s (sub_stated g c a x) (sub_stated (EnvAt.env_at f (of_with_type {n = n} h w)) b d y) =
      let f' = f ∙ ap (λ i. Some (env_line (with_type' i n))) (same_env L h g) in
      let i = body_number (bodies_under k) a c w in
      then (put_type L (all' _ _) tt (of_all a b)) (λ M o u.
      then (put_type M (all' _ _) tt (of_all (type_on o c) (type_on o d))) (λ N q v.
      let r = via o q in
      put_sub_judged N t (Follows.sub_all_below k s (q _ _ u.1) v.1 (is_sub_on r x) (r _ _ f') i (is_sub_on r y)) (env_on r g)
      (type_on q u.2) v.2))

  write_has_subsumed : {E : Env} {a : Tm} {A B : Ty} → Stated (gets L) (has E a A) → Stated (gets L) (is_sub E A B) → Writes L (has E a B)
  write_has_subsumed (has_stated g t a x) (sub_stated h d b y) =
      put_has_judged L (Follows.has_subsumed x (sub_moved (gets L) (same_env L h g) (same_type L d a) refl y)) g t b

  write_has_var : {E : Env} {k : ℕ} {A : Ty} → Typing E k A → Stated (gets L) (is_env E) → Writes L (has E (var_term k) A)
  write_has_var {k = k} t (env_stated g x) =
      then (write_typing t L g) (λ M o u.
      then (put_term M (var_term' k) (typing_positive t) of_var_term) (λ N q y.
      let r = via o q in
      put_has_judged N (Follows.has_var y.1 (is_env_on r x) (typing_is_on q u.3)) (env_on r g) y.2 (type_on q u.2)))

  write_has_top : {E : Env} → Stated (gets L) (is_env E) → Writes L (has E top_term top)
  write_has_top (env_stated g x) =
      then (put_term L top_term' tt of_top_term) (λ M o u.
      then (put_type M top' tt of_top) (λ N q v.
      let r = via o q in
      put_has_judged N (Follows.has_top (q _ _ u.1) v.1 (is_env_on r x)) (env_on r g) (term_on q u.2) v.2))

  write_has_fun : {E : Env} {A B : Ty} {b : Tm} → Stated (gets L) (has (with_term E A) b B) → Writes L (has E (fun A b) (arrow A B))
  write_has_fun (has_stated (EnvAt.env_at f (of_with_term g a)) t b x) =
      then (put_term L (fun' _ _) tt (of_fun a t)) (λ M o u.
      then (put_type M (arrow' _ _) tt (of_arrow (type_on o a) (type_on o b))) (λ N q v.
      let r = via o q in
      put_has_judged N (Follows.has_fun (q _ _ u.1) v.1 (r _ _ f) (has_on r x)) (env_on r g) (term_on q u.2) v.2))

  write_has_appl : {E : Env} {A B : Ty} {a b : Tm} → Stated (gets L) (has E b (arrow A B)) → Stated (gets L) (has E a A) → Writes L (has E (appl b a) B)
  write_has_appl (has_stated g t (TypeAt.type_at e (of_arrow a b)) x) (has_stated h s c y) =
      let z = has_moved (gets L) (same_env L h g) refl (same_type L c a) y in
      then (put_term L (appl' _ _) tt (of_appl t s)) (λ M o u.
      put_has_judged M (Follows.has_appl u.1 (o _ _ e) (has_on o x) (has_on o z)) (env_on o g) u.2 (type_on o b))

  write_has_fun2 : {E : Env} {A B : Ty} {b : Tm} → Stated (gets L) (has (with_type E A) b B) → Writes L (has E (fun2 A b) (all A B))
  write_has_fun2 (has_stated (EnvAt.env_at f (of_with_type g a)) t b x) =
      then (put_term L (fun2' _ _) tt (of_fun2 a t)) (λ M o u.
      then (put_type M (all' _ _) tt (of_all (type_on o a) (type_on o b))) (λ N q v.
      let r = via o q in
      put_has_judged N (Follows.has_fun2 (q _ _ u.1) v.1 (r _ _ f) (has_on r x)) (env_on r g) (term_on q u.2) v.2))

  write_has_appl2 : {E : Env} {A B C : Ty} {b : Tm} → Stated (gets L) (has E b (all A B)) → Stated (gets L) (is_sub E C A)
      → Writes L (has E (appl2 b C) (put 1 C B))
  write_has_appl2 {B = B} {C = C} (has_stated g t (TypeAt.type_at e (of_all a b)) x) (sub_stated h c d y) =
      let z = sub_moved (gets L) (same_env L h g) refl (same_type L d a) y in
      then (write_putting B 1 (omega arith) C L b c) (λ M o u.
      then (put_term M (appl2' _ _) tt (of_appl2 (term_on o t) (type_on o c))) (λ N q v.
      let r = via o q in
      put_has_judged N (Follows.has_appl2 v.1 (r _ _ e) (has_on r x) (is_sub_on r z) (puts_on q u.3)) (env_on r g) v.2 (type_on q u.2)))

  write_has_fold : {E : Env} {B : Ty} {a : Tm} (k : ℕ) → Scoped k B → Stated (gets L) (has E a (put 1 (rec B) B))
      → Writes L (has E (fold_term (rec B) a) (rec B))
  write_has_fold {B = B} k w (has_stated g t c x) =
      then (write_type B k w L) (λ M o b.
      then (put_type M (rec' b.0) tt (of_rec b.1)) (λ N q a.
      then (write_putting B 1 (omega arith) (rec B) N (type_on q b.1) a.2) (λ P i u.
      let l = via o (via q i) in
      let z = has_moved (gets P) refl refl (same_type P (type_on l c) u.2) (has_on l x) in
      then (put_term P (fold_term' _ _) tt (of_fold (type_on i a.2) (term_on l t))) (λ K j v.
      let r = via l j in
      put_has_judged K (Follows.has_fold v.1 (via i j _ _ a.1) (puts_on j u.3) (has_on j z)) (env_on r g) v.2 (type_on (via i j) a.2)))))

  write_has_unfold : {E : Env} {B : Ty} {a : Tm} → Stated (gets L) (has E a (rec B)) → Writes L (has E (unfold_term a) (put 1 (rec B) B))
  write_has_unfold {B = B} (has_stated g t (TypeAt.type_at e (of_rec b)) x) =
      then (write_putting B 1 (omega arith) (rec B) L b (TypeAt.type_at e (of_rec b))) (λ M o u.
      then (put_term M (unfold_term' _) tt (of_unfold (term_on o t))) (λ N q v.
      let r = via o q in
      put_has_judged N (Follows.has_unfold v.1 (r _ _ e) (has_on r x) (puts_on q u.3)) (env_on r g) v.2 (type_on q u.2)))

  write_has_rec : {E : Env} {A : Ty} {b : Tm} → Stated (gets L) (has (with_term E A) b A) → Writes L (has E (rec_term A b) A)
  write_has_rec (has_stated (EnvAt.env_at f (of_with_term g a)) t b x) =
      let z = has_moved (gets L) refl refl (same_type L b a) x in
      then (put_term L (rec_term' _ _) tt (of_rec_term a t)) (λ M o u.
      put_has_judged M (Follows.has_rec u.1 (o _ _ f) (has_on o z)) (env_on o g) u.2 (type_on o a))

-- a derivation is written out, premises first
pub write : {R : Rule} {J : Judgment} → Derivable R J → (L : Listing R) → Writes L J
write Derivable.env_empty L = write_env_empty L
write (Derivable.env_term d) L = then (write d L) (λ M o x. write_env_term M x)
write (Derivable.env_type d) L = then (write d L) (λ M o x. write_env_type M x)
write (Derivable.type_top d) L = then (write d L) (λ M o x. write_type_top M x)
write (Derivable.type_var d b) L = then (write d L) (λ M o x. write_type_var M b x)
write (Derivable.type_arrow d e) L = then (write d L) (λ M o x. then (write e M) (λ N q y. write_type_arrow N (stated_on q x) y))
write (Derivable.type_all d) L = then (write d L) (λ M o x. write_type_all M x)
write (Derivable.type_rec d) L = then (write d L) (λ M o x. write_type_rec M x)
write (Derivable.sub_refl d) L = then (write d L) (λ M o x. write_sub_refl M x)
write (Derivable.sub_trans d e) L = then (write d L) (λ M o x. then (write e M) (λ N q y. write_sub_trans N (stated_on q x) y))
write (Derivable.sub_var d b) L = then (write d L) (λ M o x. write_sub_var M b x)
write (Derivable.sub_top d) L = then (write d L) (λ M o x. write_sub_top M x)
write (Derivable.sub_arrow d e) L = then (write d L) (λ M o x. then (write e M) (λ N q y. write_sub_arrow N (stated_on q x) y))
write (Derivable.sub_all_same c t s d) L = then (write d L) (λ M o x. write_sub_all_same M c t s x)
write (Derivable.sub_all_below c t s d e) L =
    then (write d L) (λ M o x. then (write e M) (λ N q y. write_sub_all_below N c t s (stated_on q x) y))
write (Derivable.has_subsumed d e) L = then (write d L) (λ M o x. then (write e M) (λ N q y. write_has_subsumed N (stated_on q x) y))
write (Derivable.has_var d t) L = then (write d L) (λ M o x. write_has_var M t x)
write (Derivable.has_top d) L = then (write d L) (λ M o x. write_has_top M x)
write (Derivable.has_fun d) L = then (write d L) (λ M o x. write_has_fun M x)
write (Derivable.has_appl d e) L = then (write d L) (λ M o x. then (write e M) (λ N q y. write_has_appl N (stated_on q x) y))
write (Derivable.has_fun2 d) L = then (write d L) (λ M o x. write_has_fun2 M x)
write (Derivable.has_appl2 d e) L = then (write d L) (λ M o x. then (write e M) (λ N q y. write_has_appl2 N (stated_on q x) y))
write (Derivable.has_fold {E = E} {B = B} d) L =
    then (write d L) (λ M o x. write_has_fold M (suc (depth E)) (unscoped_put (depth E) (rec B) B (derivable_regular d).1) x)
write (Derivable.has_unfold d) L = then (write d L) (λ M o x. write_has_unfold M x)
write (Derivable.has_rec d) L = then (write d L) (λ M o x. write_has_rec M x)

-- cut to its last line

pub no_lines : (R : Rule) → Listing R
no_lines R = record { lines = []; sound = λ n l e. absurd (none-some _ e) }

numbered_length : {X : Type 0} (xs : List X) (n : ℕ) (x : X) → numbered xs n ≡ Some x → n ≤ length xs
numbered_length xs n x e = ⊎_elim (λ past. absurd (none-some _ (sym (numbered_past xs n past) ∙ e))) (λ h. h) (cases_lt (length xs) n)

-- what a line states, it states as the last line of the lines up to it
pub states_last : (R : Rule) (lines : List Line) → Sound R lines → (n : ℕ) (s : Statement) (J : Judgment) → said lines n ≡ Some s → Judging s
    → States (said lines) s J → (length (take n lines) ≡ n) × (said (take n lines) n ≡ Some s) × States (said (take n lines)) s J
states_last R lines sound n s J e j x =
    let (l, f, g) = said_line lines n s e in
    let here = said_within lines n n s (omega arith) e in
    let (K, y) = states_exists R (said (take n lines)) (whole R (take n lines) (cut_sound R lines sound n)) n s here j in
    let same : K ≡ J = states_one (states_on (said_take lines n) y) x in
    (length-take-le n lines (numbered_length lines n l f), here, subst (States (said (take n lines)) s) same y)

-- every derivable judgment is what the last line of a sound listing states
pub derivable_ends_a_sound_listing : (R : Rule) (J : Judgment) → Derivable R J
    → (lines : List Line) × Sound R lines × ((s : Statement) × (said lines (length lines) ≡ Some s) × States (said lines) s J)
derivable_ends_a_sound_listing R J d =
    let w = write d (no_lines R) in
    let (n, s, e, j, x) = stated_line w.holds in
    let all = w.more.lines in
    let (h, f, y) = states_last R all w.more.sound n s J e j x in
    (take n all, cut_sound R all w.more.sound n, (s, subst (λ k. said (take n all) k ≡ Some s) (sym h) f, y))

-- so the derivable judgments are those that sound listings end with
pub derivable_listed : (R : Rule) (J : Judgment)
    → Derivable R J ↔ ((lines : List Line) × Sound R lines × ((s : Statement) × (said lines (length lines) ≡ Some s) × States (said lines) s J))
derivable_listed R J =
    (derivable_ends_a_sound_listing R J, λ x. accepted_means_derivable R x.0 x.1 (length x.0) x.2.0 x.2.1 J x.2.2)
