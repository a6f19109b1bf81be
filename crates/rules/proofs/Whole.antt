-- Sound listings seen whole: what a sound listing says of each line, with the lines it names looked up among all lines.
use Rattle.std.proofs.Common.{◌≡◌, ℕ, zero, suc, ◌<◌, ◌≤◌, T, ◌⊎◌, List, [], ◌∷◌, take, Some, None, sym, refl, ap, ◌∙◌, inl, inr, ⊎_elim, arith, length-take}
use Rattle.lines.proofs.Numbered.{nth_take}
use Rattle.lines.proofs.Numbered.{numbered_past}
use Rattle.lines.specs.Stores.{numbered}
use Rattle.lines.specs.declared.answer.Cause.{Cause}
use Rattle.lines.specs.declared.answer.Cause.TheVariants.{Code, Column as PastColumn, Reference, Repeated, Unfounded}
use Rattle.lines.specs.declared.line.Line.{Line}
use Rattle.rules.specs.Faults.{admitted, Stands, Names, AllName, Right, Fine, Sound}
use Rattle.rules.specs.Follows.{Raises, Puts, BoundIs, TypingIs, IsEnv, IsType, IsSub, Has, Defines, type_defined, term_defined, Session, nothing_defined, latest_defined, Follows, a_type, a_term, an_env, raise_top, raise_low, raise_high, raise_arrow, raise_all, raise_rec, put_top, put_low, put_here, put_high, put_arrow, put_all, put_rec, bound_last, bound_past_type, bound_past_term, typing_last, typing_past_term, typing_past_type, env_empty, env_term, env_type, type_top, type_var, type_arrow, type_all, type_rec, sub_refl, sub_trans, sub_var, sub_top, sub_arrow, sub_all_same, sub_all_below, has_subsumed, has_var, has_top, has_fun, has_appl, has_fun2, has_appl2, has_fold, has_unfold, has_rec, a_name, define_type, define_term}
use Rattle.rules.specs.Quantifiers.{Rule}
use Rattle.rules.specs.Statements.{empty', with_term', Statement, type_line, term_line, env_line, raising, putting, bound_line, typing_line, env_judged, type_judged, sub_judged, has_judged, name_line, let_type, let_term, statement, Get, said, Column, plain, type_at, term_at, env_at, name_at, premise_at, definition_at, columns}
use Rattle.rules.proofs.Codes.{line, line_says, Kind, types, terms, environments, premises, names, definitions, OfKind, first_code, last_code, kind_said}
use Rattle.std.proofs.lemmas.Bool.{cases_lt, cases_order}
use Rattle.std.proofs.lemmas.Option.{none-some}

infix 40 ◌⊑◌
-- H says what G says
abbrev pub ◌⊑◌ : Get → Get → Type 0
G ⊑ H = (n : ℕ) (s : Statement) → G n ≡ Some s → H n ≡ Some s

-- the first n lines

pub numbered_within : {X : Type 0} (xs : List X) (n m : ℕ) → m ≤ n → numbered (take n xs) m ≡ numbered xs m
numbered_within xs n zero h = refl
numbered_within xs n (suc m) h = nth_take n m xs h

pub numbered_beyond : {X : Type 0} (xs : List X) (n m : ℕ) → n < m → numbered (take n xs) m ≡ None
numbered_beyond xs n m h = numbered_past (take n xs) m (omega (arith, length-take n xs))

pub numbered_front : {X : Type 0} (xs : List X) (n m : ℕ) (x : X) → numbered (take n xs) m ≡ Some x → (m ≤ n) × (numbered xs m ≡ Some x)
numbered_front xs n m x e =
    ⊎_elim (λ past. absurd (none-some _ (sym (numbered_beyond xs n m past) ∙ e)))
    (λ h. (h, sym (numbered_within xs n m h) ∙ e)) (cases_lt n m)

pub said_line : (lines : List Line) (n : ℕ) (s : Statement) → said lines n ≡ Some s
    → (l : Line) × (numbered lines n ≡ Some l) × (statement l ≡ Some s)
said_line lines zero s e = absurd (none-some _ e)
said_line [] (suc n) s e = absurd (none-some _ e)
said_line (l ∷ lines) (suc zero) s e = (l, refl, e)
said_line (l ∷ lines) (suc (suc n)) s e = said_line lines (suc n) s e

pub line_said : (lines : List Line) (n : ℕ) (l : Line) (s : Statement) → numbered lines n ≡ Some l → statement l ≡ Some s → said lines n ≡ Some s
line_said lines n l s e f = rw e f

pub said_front : (lines : List Line) (n m : ℕ) (s : Statement) → said (take n lines) m ≡ Some s → (m ≤ n) × (said lines m ≡ Some s)
said_front lines n m s e =
    let (l, f, g) = said_line (take n lines) m s e in
    let (h, i) = numbered_front lines n m l f in
    (h, line_said lines m l s i g)

pub said_take : (lines : List Line) (n : ℕ) → said (take n lines) ⊑ said lines
said_take lines n m s e = (said_front lines n m s e).1

pub said_within : (lines : List Line) (n m : ℕ) (s : Statement) → m ≤ n → said lines m ≡ Some s → said (take n lines) m ≡ Some s
said_within lines n m s h e =
    let (l, f, g) = said_line lines m s e in
    line_said (take n lines) m l s (numbered_within lines n m h ∙ f) g

-- line k stands before line n and is of this kind
abbrev pub Earlier : Get → Kind → (n k : ℕ) → Type 0
Earlier G c n k = (k < n) × ((s : Statement) × (G k ≡ Some s) × OfKind c s)

-- a column of line n names a line that stands before it and is of its kind
abbrev pub NamesEarlier : Get → ℕ → Column → Type 0
NamesEarlier G n (plain k) = Unit {0}
NamesEarlier G n (type_at k) = Earlier G types n k
NamesEarlier G n (term_at k) = Earlier G terms n k
NamesEarlier G n (env_at k) = Earlier G environments n k
NamesEarlier G n (name_at k) = Earlier G names n k
NamesEarlier G n (premise_at k) = (k ≡ 0) ⊎ Earlier G premises n k
NamesEarlier G n (definition_at k) = (k ≡ 0) ⊎ Earlier G definitions n k

abbrev pub AllNameEarlier : Get → ℕ → List Column → Type 0
AllNameEarlier G n [] = Unit {0}
AllNameEarlier G n (c ∷ cs) = NamesEarlier G n c × AllNameEarlier G n cs

-- line d leaves the session environment E: a definition, or none and the empty environment
abbrev pub Leaves : Get → (d E : ℕ) → Type 0
Leaves G d E = ((d ≡ 0) × (G E ≡ Some (env_line empty'))) ⊎ Defines G d E

-- what a line rests on, whatever lines come after it: it follows; of a definition, all but that its previous one was the latest
abbrev pub Rests : Get → Statement → Type 0
Rests G (type_line t) = Follows G (type_line t)
Rests G (term_line a) = Follows G (term_line a)
Rests G (env_line e) = Follows G (env_line e)
Rests G (raising A j C p q) = Follows G (raising A j C p q)
Rests G (putting B j A C p q r) = Follows G (putting B j A C p q r)
Rests G (bound_line E k B p q) = Follows G (bound_line E k B p q)
Rests G (typing_line E k A p q) = Follows G (typing_line E k A p q)
Rests G (env_judged E p) = Follows G (env_judged E p)
Rests G (type_judged E A p q) = Follows G (type_judged E A p q)
Rests G (sub_judged s E A B p q) = Follows G (sub_judged s E A B p q)
Rests G (has_judged h E a A p q r) = Follows G (has_judged h E a A p q r)
Rests G (name_line n₁ n₂ n₃ n₄ n₅ n₆ n₇) = Follows G (name_line n₁ n₂ n₃ n₄ n₅ n₆ n₇)
Rests G (let_type name B A p E d) = Leaves G d E × IsSub G p E A B
Rests G (let_term name A b p F d) = (E : ℕ) × Leaves G d E × (G F ≡ Some (env_line (with_term' E A))) × Has G p E b A

-- line n, which says s, among all lines
pub record Standing (R : Rule) (G : Get) (n : ℕ) (s : Statement) : Type 0 where
  pub number : 0 < n
  pub admits : T (admitted R s)
  pub named : AllNameEarlier G n (columns s)
  pub once : (m : ℕ) → G m ≡ Some s → m ≡ n
  pub rests : Rests G s

abbrev pub WholeSound : Rule → Get → Type 0
WholeSound R G = (n : ℕ) (s : Statement) → G n ≡ Some s → Standing R G n s

-- what follows goes on following as lines are added

module _ {G H : Get} (o : G ⊑ H) where
  pub raises_on : {p A j C : ℕ} → Raises G p A j C → Raises H p A j C
  raises_on x = (x.0, x.1, o _ _ x.2)

  pub puts_on : {p B j A C : ℕ} → Puts G p B j A C → Puts H p B j A C
  puts_on x = (x.0, x.1, x.2, o _ _ x.3)

  pub bound_is_on : {p E k B : ℕ} → BoundIs G p E k B → BoundIs H p E k B
  bound_is_on x = (x.0, x.1, o _ _ x.2)

  pub typing_is_on : {p E k A : ℕ} → TypingIs G p E k A → TypingIs H p E k A
  typing_is_on x = (x.0, x.1, o _ _ x.2)

  pub is_env_on : {p E : ℕ} → IsEnv G p E → IsEnv H p E
  is_env_on x = (x.0, o _ _ x.1)

  pub is_type_on : {p E A : ℕ} → IsType G p E A → IsType H p E A
  is_type_on x = (x.0, x.1, o _ _ x.2)

  pub is_sub_on : {p E A B : ℕ} → IsSub G p E A B → IsSub H p E A B
  is_sub_on x = (x.0, x.1, x.2, o _ _ x.3)

  pub has_on : {p E a A : ℕ} → Has G p E a A → Has H p E a A
  has_on x = (x.0, x.1, x.2, x.3, o _ _ x.4)

  pub defines_on : {d E : ℕ} → Defines G d E → Defines H d E
  defines_on (type_defined e) = type_defined (o _ _ e)
  defines_on (term_defined e) = term_defined (o _ _ e)

  pub leaves : {d E : ℕ} → Session G d E → Leaves H d E
  leaves (nothing_defined n e) = inl (refl, o _ _ e)
  leaves (latest_defined x n) = inr (defines_on x)

  pub follows_rests : {s : Statement} → Follows G s → Rests H s
  follows_rests (a_type n) = a_type n
  follows_rests (a_term n) = a_term n
  follows_rests an_env = an_env
  follows_rests (raise_top e) = raise_top (o _ _ e)
  follows_rests (raise_low e h) = raise_low (o _ _ e) h
  follows_rests (raise_high e h f) = raise_high (o _ _ e) h (o _ _ f)
  follows_rests (raise_arrow e f x y) = raise_arrow (o _ _ e) (o _ _ f) (raises_on x) (raises_on y)
  follows_rests (raise_all e f x y) = raise_all (o _ _ e) (o _ _ f) (raises_on x) (raises_on y)
  follows_rests (raise_rec e f x) = raise_rec (o _ _ e) (o _ _ f) (raises_on x)
  follows_rests (put_top e) = put_top (o _ _ e)
  follows_rests (put_low e h) = put_low (o _ _ e) h
  follows_rests (put_here e) = put_here (o _ _ e)
  follows_rests (put_high e h f) = put_high (o _ _ e) h (o _ _ f)
  follows_rests (put_arrow e f x y) = put_arrow (o _ _ e) (o _ _ f) (puts_on x) (puts_on y)
  follows_rests (put_all e f x y z) = put_all (o _ _ e) (o _ _ f) (puts_on x) (raises_on y) (puts_on z)
  follows_rests (put_rec e f x y) = put_rec (o _ _ e) (o _ _ f) (raises_on x) (puts_on y)
  follows_rests (bound_last e x) = bound_last (o _ _ e) (raises_on x)
  follows_rests (bound_past_type e x y) = bound_past_type (o _ _ e) (bound_is_on x) (raises_on y)
  follows_rests (bound_past_term e x) = bound_past_term (o _ _ e) (bound_is_on x)
  follows_rests (typing_last e) = typing_last (o _ _ e)
  follows_rests (typing_past_term e x) = typing_past_term (o _ _ e) (typing_is_on x)
  follows_rests (typing_past_type e x y) = typing_past_type (o _ _ e) (typing_is_on x) (raises_on y)
  follows_rests (env_empty e) = env_empty (o _ _ e)
  follows_rests (env_term e x) = env_term (o _ _ e) (is_type_on x)
  follows_rests (env_type e x) = env_type (o _ _ e) (is_type_on x)
  follows_rests (type_top e x) = type_top (o _ _ e) (is_env_on x)
  follows_rests (type_var e x y) = type_var (o _ _ e) (is_env_on x) (bound_is_on y)
  follows_rests (type_arrow e x y) = type_arrow (o _ _ e) (is_type_on x) (is_type_on y)
  follows_rests (type_all e f x) = type_all (o _ _ e) (o _ _ f) (is_type_on x)
  follows_rests (type_rec e f g x) = type_rec (o _ _ e) (o _ _ f) (o _ _ g) (is_type_on x)
  follows_rests (sub_refl x) = sub_refl (is_type_on x)
  follows_rests (sub_trans x y) = sub_trans (is_sub_on x) (is_sub_on y)
  follows_rests (sub_var e x y) = sub_var (o _ _ e) (is_env_on x) (bound_is_on y)
  follows_rests (sub_top e x) = sub_top (o _ _ e) (is_type_on x)
  follows_rests (sub_arrow e f x y) = sub_arrow (o _ _ e) (o _ _ f) (is_sub_on x) (is_sub_on y)
  follows_rests (sub_all_same c b e f g t x) = sub_all_same c b (o _ _ e) (o _ _ f) (o _ _ g) t (is_sub_on x)
  follows_rests (sub_all_below c b e f x g t y) = sub_all_below c b (o _ _ e) (o _ _ f) (is_sub_on x) (o _ _ g) t (is_sub_on y)
  follows_rests (has_subsumed x y) = has_subsumed (has_on x) (is_sub_on y)
  follows_rests (has_var e x y) = has_var (o _ _ e) (is_env_on x) (typing_is_on y)
  follows_rests (has_top e f x) = has_top (o _ _ e) (o _ _ f) (is_env_on x)
  follows_rests (has_fun e f g x) = has_fun (o _ _ e) (o _ _ f) (o _ _ g) (has_on x)
  follows_rests (has_appl e f x y) = has_appl (o _ _ e) (o _ _ f) (has_on x) (has_on y)
  follows_rests (has_fun2 e f g x) = has_fun2 (o _ _ e) (o _ _ f) (o _ _ g) (has_on x)
  follows_rests (has_appl2 e f x y z) = has_appl2 (o _ _ e) (o _ _ f) (has_on x) (is_sub_on y) (puts_on z)
  follows_rests (has_fold e f x y) = has_fold (o _ _ e) (o _ _ f) (puts_on x) (has_on y)
  follows_rests (has_unfold e f x y) = has_unfold (o _ _ e) (o _ _ f) (has_on x) (puts_on y)
  follows_rests (has_rec e f x) = has_rec (o _ _ e) (o _ _ f) (has_on x)
  follows_rests (a_name t) = a_name t
  follows_rests (define_type x y) = (leaves x, is_sub_on y)
  follows_rests (define_term x e y) = (_, leaves x, o _ _ e, has_on y)

pub fine_right : (R : Rule) (before : List Line) (l : Line) (s : Statement) → Fine R before l → statement l ≡ Some s → (c : Cause) → Right R before l s c
fine_right R before l s fine e c = let same : fine.0 ≡ s = cc in rw same at (fine.2 c)

-- from a sound listing to the view over all its lines

module _ (R : Rule) (lines : List Line) (sound : Sound R lines) where
  -- the line that says s, and what it has over the lines before it
  pub right : (n : ℕ) (s : Statement) → said lines (suc n) ≡ Some s
      → (l : Line) × (numbered lines (suc n) ≡ Some l) × (l ≡ line s) × ((c : Cause) → Right R (take n lines) l s c)
  right n s e =
      let (l, f, g) = said_line lines (suc n) s e in
      let x = fine_right R (take n lines) l s (sound n l f) g in
      (l, f, line_says l s g (x PastColumn), x)

  repeated : (m n : ℕ) (s : Statement) → m < n → said lines m ≡ Some s → said lines n ≡ Some s → ⊥
  repeated zero n s h e f = none-some _ e
  repeated (suc m) zero s h e f = none-some _ f
  repeated (suc m) (suc n) s h e f =
      let (k, u, v, w) = right m s e in
      let (l, x, y, z) = right n s f in
      z Repeated (suc m) (numbered_within lines n (suc m) (omega arith) ∙ u ∙ ap Some (v ∙ sym y))

  pub said_once : (m n : ℕ) (s : Statement) → said lines m ≡ Some s → said lines n ≡ Some s → m ≡ n
  said_once m n s e f =
      ⊎_elim (λ same. same)
      (λ apart. absurd (⊎_elim (λ below. repeated m n s below e f) (λ above. repeated n m s above f e) apart)) (cases_order m n)

  stands_earlier : (c : Kind) (m k : ℕ) → Stands (take m lines) (first_code c) (last_code c) k → Earlier (said lines) c (suc m) k
  stands_earlier c m zero x = absurd (none-some _ x.1)
  stands_earlier c m (suc k) x =
      let (h, f) = numbered_front lines m (suc k) x.0 x.1 in
      let (s, g, r) = sound k x.0 f in
      (omega arith, (s, line_said lines (suc k) x.0 s f g, kind_said c x.0 s g x.2 x.3))

  names_earlier : (m : ℕ) (c : Column) → Names (take m lines) c → NamesEarlier (said lines) (suc m) c
  names_earlier m (plain k) x = tt
  names_earlier m (type_at k) x = stands_earlier types m k x
  names_earlier m (term_at k) x = stands_earlier terms m k x
  names_earlier m (env_at k) x = stands_earlier environments m k x
  names_earlier m (name_at k) x = stands_earlier names m k x
  names_earlier m (premise_at k) x = ⊎_elim inl (λ y. inr (stands_earlier premises m k y)) x
  names_earlier m (definition_at k) x = ⊎_elim inl (λ y. inr (stands_earlier definitions m k y)) x

  all_name_earlier : (m : ℕ) (cs : List Column) → AllName (take m lines) cs → AllNameEarlier (said lines) (suc m) cs
  all_name_earlier m [] x = tt
  all_name_earlier m (c ∷ cs) x = (names_earlier m c x.0, all_name_earlier m cs x.1)

  pub whole : WholeSound R (said lines)
  whole zero s e = absurd (none-some _ e)
  whole (suc n) s e =
      let (l, f, g, r) = right n s e in
      record {
        number = omega arith;
        admits = r Code;
        named = all_name_earlier n (columns s) (r Reference);
        once = λ m h. said_once m (suc n) s h e;
        rests = follows_rests (said_take lines n) (r Unfounded);
      }
