-- Phrases: a granted one's line says its judgment, one that fails has no judgment that can be derived, and the type that a term is given is
-- below all that the rules give it.
use Rattle.std.proofs.Common.{◌≡◌, ℕ, List, Some, refl, sym, subst, subst₂, inl, inr, ⊎_elim}
use mathlib.Core.Path.{subst₃}
use Rattle.lines.specs.declared.line.Line.{Line}
use Rattle.rules.specs.Derivations.{Judgment, is_env, is_type, is_sub, has, Derivable}
use Rattle.rules.specs.Faults.{Names}
use Rattle.rules.specs.Follows.{IsSub, Has, Session as SessionIn, nothing_defined, latest_defined, type_defined, term_defined, define_type, define_term, Defines}
use Rattle.rules.specs.Laws.{Chains, Instances, Bodies, Admitted}
use Rattle.rules.specs.Meaning.{TypeAt, TermAt, EnvAt, of_empty, of_with_term, states_env, states_type, states_sub, states_has}
use Rattle.rules.specs.Quantifiers.{Rule}
use Rattle.rules.specs.Statements.{with_term', env_line, let_type, let_term, env_judged, type_judged, sub_judged, has_judged, Get, said, Column}
use Rattle.rules.specs.Syntax.{Ty, Tm, Env, with_term}
use Rattle.rules.specs.Tries.{Tries, try_same}
use Rattle.rules.proofs.Agree.{derivable_regular, env_derivable, sub_derivable}
use Rattle.rules.proofs.Codes.{of_name, of_let_type, of_let_term}
use Rattle.rules.proofs.Least.{Least, least_least}
use Rattle.rules.proofs.Means.{type_on, term_on, env_on}
use Rattle.rules.proofs.Whole.{◌⊑◌, is_sub_on, has_on, defines_on, NamesEarlier}
use Rattle.rules.proofs.Write.{is_sub_name, has_name}
use Rattle.rules.proofs.Writing.{Listing, gets, via, stands, type_name, term_name, env_name}
use Rattle.judge.specs.Goals.{Placed, line_at, seek_env, seek_type, seek_sub, seek_term, Plan, ask, lay, close, give}
use Rattle.judge.specs.Judgments.{TypeIs, TermIs, Extends, JudgmentOf, of_let_type, of_let_term, of_let_untyped, of_type_phrase, of_term_phrase, of_judge_env, of_judge_type, of_judge_subtype, of_judge_term, SessionEnv, Spelled, WellNamed, Stated_by, by_let_type, by_let_term, by_let_untyped, by_type, by_term, by_judge_env, by_judge_type, by_judge_subtype, by_judge_term, Lower, Underivable, Grants}
use Rattle.judge.specs.Phrases.{ScopedType, ScopedTerm, Binding, type_laid, term_laid, Phrase, let_type_phrase, let_term_phrase, let_untyped_phrase, type_phrase, term_phrase, judge_env, judge_type, judge_subtype, judge_term, name_statement, Session, term_defined as definition_plan, judging, session, phrase_plan, judged}
use Rattle.judge.specs.Plans.{brought}
use Rattle.judge.specs.Seeking.{Limits, seek}
use Rattle.judge.proofs.Judged.{seeks_soundly, env_holds, type_holds, sub_holds, term_holds}
use Rattle.judge.proofs.Laying.{type_is_on, term_is_on, extends_on, type_is_one, term_is_one, extends_one, Good, type_laid_good, term_laid_good, bindings_laid_good}
use Rattle.judge.proofs.Lines.{okay_env}
use Rattle.judge.proofs.Names.{name_follows}
use Rattle.judge.proofs.Sessions.{Later, later_same, later, later_via, session_on, session_found, session_env}
use Rattle.judge.proofs.Sought.{PlacedAt, placed_term, placed_on, an_env, a_type, below, typed, means_env, means_type, means_sub, means_term, Holds}
use Rattle.judge.proofs.Terms.{brought_good}
use Rattle.judge.proofs.Types.{sure}
use Rattle.std.proofs.lemmas.Option.{none-some}
use Rattle.judge.proofs.Valid.{Okay, Layable, PostOf, runs}

-- a name's line and the definitions' lines

okay_name : {R : Rule} (L : Listing R) (name : List ℕ) → Spelled name → Layable R L (name_statement name)
okay_name L name x =
    record {
      okay = record { admits = tt; named = (tt, (tt, (tt, (tt, (tt, (tt, (tt, tt))))))); follows = name_follows (gets L) name x };
      nothing = tt;
    }

previous_name : {R : Rule} (L : Listing R) {d E : ℕ} → SessionIn (gets L) d E → Names L.lines (Column.definition_at d)
previous_name L (nothing_defined h e) = inl refl
previous_name L {d} (latest_defined (type_defined e) h) = inr (stands L.lines d e of_let_type)
previous_name L {d} (latest_defined (term_defined e) h) = inr (stands L.lines d e of_let_term)

-- a line that names the latest definition as the previous one is none of the definitions

zero_defines : (lines : List Line) {E : ℕ} → Defines (said lines) 0 E → ⊥
zero_defines lines (type_defined e) = none-some _ e
zero_defines lines (term_defined e) = none-some _ e

anew : {R : Rule} (L M : Listing R) {d E n F : ℕ} → SessionIn (gets L) d E → NamesEarlier (gets M) n (Column.definition_at d)
    → Defines (gets L) n F → ⊥
anew L M (nothing_defined h e) x y = h _ _ y
anew L M {E = E} {n} {F} (latest_defined z h) x y =
    ⊎_elim (λ none. zero_defines L.lines (subst (λ i. Defines (gets L) i E) none z)) (λ earlier. h n F earlier.0 y) x

module _ {R : Rule} (L : Listing R) where
  okay_let_type : (name : List ℕ) (x B A p E d : ℕ) {Γ : Env} {X Y : Ty} → gets L x ≡ Some (name_statement name) → TypeAt (gets L) B Y
      → TypeAt (gets L) A X → IsSub (gets L) p E A B → EnvAt (gets L) E Γ → SessionIn (gets L) d E → Okay R L (let_type x B A p E d)
  okay_let_type name x B A p E d e b a s g ses =
      record {
        admits = tt;
        named =
            (stands L.lines x e of_name, (type_name L.lines b, (type_name L.lines a, (is_sub_name L.lines s, (env_name L.lines g, (previous_name L ses, tt))))));
        follows = define_type ses s;
      }

  okay_let_term : (name : List ℕ) (x A b p E F d : ℕ) {Γ : Env} {X : Ty} {t : Tm} → gets L x ≡ Some (name_statement name) → TypeAt (gets L) A X
      → TermAt (gets L) b t → Has (gets L) p E b A → EnvAt (gets L) E Γ → gets L F ≡ Some (env_line (with_term' E A)) → SessionIn (gets L) d E
      → Okay R L (let_term x A b p F d)
  okay_let_term name x A b p E F d e a u h g f ses =
      record {
        admits = tt;
        named =
            (stands L.lines x e of_name, (type_name L.lines a, (term_name L.lines u, (has_name L.lines h, (env_name L.lines (EnvAt.env_at f (of_with_term g a)), (previous_name L ses, tt))))));
        follows = define_term ses f h;
      }

module _ {R : Rule} (chains : Chains R) (instances : Instances R) (bodies : Bodies R) (admitted : Admitted R) (G : Get) (Γ : Env) where
  abbrev Fails : Phrase → Type 0
  Fails phrase = Underivable R G Γ phrase

  abbrev Ends : Phrase → Listing R → (n r : ℕ) → Type 0
  Ends phrase M n r = Grants R G Γ phrase (gets M) n

  abbrev Valid_phrase : Phrase → Plan → Listing R → Type 0
  Valid_phrase phrase p L = Good (Ends phrase) (Fails phrase) p L

  -- types below one another, and terms

  lower_by : {Δ : Env} {t u : Tm} {X Y : Ty} → Least R Δ t X → u ≡ t → Derivable R (has Δ u Y) → Derivable R (is_sub Δ X Y)
  lower_by {Δ} {t} {Y = Y} l e d =
      let d' = subst (λ v. Derivable R (has Δ v Y)) e d in
      sub_derivable (env_derivable Δ (derivable_regular d').0) (least_least chains instances bodies admitted l d')

  lower_same : {Δ : Env} {u : Tm} {X Y : Ty} → X ≡ Y → Derivable R (has Δ u Y) → Derivable R (is_sub Δ X Y)
  lower_same {Δ} {Y = Y} e d =
      let (f, w) = derivable_regular d in
      sub_derivable (env_derivable Δ f) (subst (λ Z. Tries R Δ Z Y) (sym e) (try_same w))

  -- a term, by its own type

  term_none : {b : ScopedTerm} {t : Tm} → TermIs G b t → (Holds R (typed Γ t) → ⊥) → {u : Tm} {X : Ty} → TermIs G b u → Derivable R (has Γ u X) → ⊥
  term_none x h {X = X} y d =
      h (term_holds chains instances bodies admitted (subst (λ v. Derivable R (has Γ v X)) (term_is_one y x) d))

  -- each phrase

  type_good : (a : ScopedType) {X : Ty} → TypeIs G a X → (s : Session) (L : Listing R) → G ⊑ gets L → EnvAt (gets L) s.env Γ
      → Valid_phrase (type_phrase a) (judging s (type_phrase a)) L
  type_good a {X} x s L o g =
      type_laid_good (Ends (type_phrase a)) (Fails (type_phrase a)) a L (λ m. ask (seek_type s.env m) (λ p x. give p x)) (type_is_on o x) (λ M q m u. (
        a_type Γ X,
        means_type (env_on q.on g) u,
        (λ h J j d. none h J j d),
        λ K r p v t i.
            (is_type Γ X, of_type_phrase x, by_type (type_judged s.env m t.0 t.1, t.2, states_type (env_on (later_via q r).on g) (type_on r.on u)), tt, λ J j d. tt),
      ))
    where
      none : (Holds R (a_type Γ X) → ⊥) → Fails (type_phrase a)
      none h J (of_type_phrase y) d = h (type_holds (subst (λ Z. Derivable R (is_type Γ Z)) (type_is_one y x) d))

  term_good : (b : ScopedTerm) {t : Tm} → TermIs G b t → (s : Session) (L : Listing R) → G ⊑ gets L → EnvAt (gets L) s.env Γ
      → Valid_phrase (term_phrase b) (judging s (term_phrase b)) L
  term_good b {t} x s L o g =
      term_laid_good (Ends (term_phrase b)) (Fails (term_phrase b)) b L (λ w. ask (seek_term s.env w) (λ p A. give p A)) (term_is_on o x) (λ M q w u. (
        typed Γ t,
        means_term (env_on q.on g) u,
        (λ h J j d. none h J j d),
        λ K r p A v i. (
          has Γ t i.0,
          of_term_phrase x,
          by_term (has_judged v.0 s.env (line_at w) A v.1 v.2 v.3, v.4, states_has (env_on (later_via q r).on g) (placed_term (placed_on r.on u)) i.1),
          tt,
          λ J j d. low i.2 J j d,
        ),
      ))
    where
      none : (Holds R (typed Γ t) → ⊥) → Fails (term_phrase b)
      none h J (of_term_phrase y) d = term_none x h y d

      low : {X : Ty} → Least R Γ t X → (J : Judgment) → JudgmentOf G Γ (term_phrase b) J → Derivable R J → Lower R (has Γ t X) J
      low l J (of_term_phrase y) d = lower_by l (term_is_one y x) d

  env_good : (bindings : List Binding) {Δ : Env} → Extends G Γ bindings Δ → (s : Session) (L : Listing R) → G ⊑ gets L → EnvAt (gets L) s.env Γ
      → Valid_phrase (judge_env bindings) (judging s (judge_env bindings)) L
  env_good bindings {Δ} z s L o g =
      bindings_laid_good (Ends (judge_env bindings)) (Fails (judge_env bindings)) bindings L s.env (λ E. ask (seek_env E) (λ p x. give p x)) g
      (extends_on o z) (λ M q E e. (
        an_env Δ,
        means_env e,
        (λ h J j d. none h J j d),
        λ K r p v t i.
            (is_env Δ, of_judge_env z, by_judge_env (env_judged E t.0, t.1, states_env (env_on r.on e)), tt, λ J j d. tt),
      ))
    where
      none : (Holds R (an_env Δ) → ⊥) → Fails (judge_env bindings)
      none h J (of_judge_env y) d = h (env_holds (subst (λ Θ. Derivable R (is_env Θ)) (extends_one y z) d))

  judge_type_good : (bindings : List Binding) (a : ScopedType) {Δ : Env} {X : Ty} → Extends G Γ bindings Δ → TypeIs G a X → (s : Session) (L : Listing R)
      → G ⊑ gets L → EnvAt (gets L) s.env Γ → Valid_phrase (judge_type bindings a) (judging s (judge_type bindings a)) L
  judge_type_good bindings a {Δ} {X} z x s L o g =
      bindings_laid_good (Ends (judge_type bindings a)) (Fails (judge_type bindings a)) bindings L s.env
      (λ E. type_laid a (λ m. ask (seek_type E m) (λ p x. give p x))) g (extends_on o z) (λ M q E e.
      type_laid_good (Ends (judge_type bindings a)) (Fails (judge_type bindings a)) a M (λ m. ask (seek_type E m) (λ p x. give p x))
      (type_is_on (via o q.on) x) (λ P w m u. (
        a_type Δ X,
        means_type (env_on w.on e) u,
        (λ h J j d. none h J j d),
        λ K r p v t i.
            (is_type Δ X, of_judge_type z x, by_judge_type (type_judged E m t.0 t.1, t.2, states_type (env_on (later_via w r).on e) (type_on r.on u)), tt, λ J j d. tt),
      )))
    where
      none : (Holds R (a_type Δ X) → ⊥) → Fails (judge_type bindings a)
      none h J (of_judge_type y v) d =
          h (type_holds (subst₂ (λ Θ Z. Derivable R (is_type Θ Z)) (extends_one y z) (type_is_one v x) d))

  judge_subtype_good : (bindings : List Binding) (a b : ScopedType) {Δ : Env} {X Y : Ty} → Extends G Γ bindings Δ → TypeIs G a X → TypeIs G b Y
      → (s : Session) (L : Listing R) → G ⊑ gets L → EnvAt (gets L) s.env Γ
      → Valid_phrase (judge_subtype bindings a b) (judging s (judge_subtype bindings a b)) L
  judge_subtype_good bindings a b {Δ} {X} {Y} z x y s L o g =
      bindings_laid_good (Ends (judge_subtype bindings a b)) (Fails (judge_subtype bindings a b)) bindings L s.env
      (λ E. type_laid a (λ m. type_laid b (λ n. ask (seek_sub E m n) (λ p x. give p x)))) g (extends_on o z) (λ M q E e.
      type_laid_good (Ends (judge_subtype bindings a b)) (Fails (judge_subtype bindings a b)) a M
      (λ m. type_laid b (λ n. ask (seek_sub E m n) (λ p x. give p x))) (type_is_on (via o q.on) x) (λ P w m u.
      type_laid_good (Ends (judge_subtype bindings a b)) (Fails (judge_subtype bindings a b)) b P (λ n. ask (seek_sub E m n) (λ p x. give p x))
      (type_is_on (via o (via q.on w.on)) y) (λ S i n v. (
        below Δ X Y,
        means_sub (env_on (via w.on i.on) e) (type_on i.on u) v,
        (λ h J j d. none h J j d),
        λ K r p k t l. (
          is_sub Δ X Y,
          of_judge_subtype z x y,
          by_judge_subtype (sub_judged t.0 E m n t.1 t.2, t.3, states_sub (env_on (via w.on (via i.on r.on)) e) (type_on (via i.on r.on) u) (type_on r.on v)),
          tt,
          λ J j d. tt,
        ),
      ))))
    where
      none : (Holds R (below Δ X Y) → ⊥) → Fails (judge_subtype bindings a b)
      none h J (of_judge_subtype f v w) d =
          h (sub_holds chains admitted (subst₃ (λ Θ Z W. Derivable R (is_sub Θ Z W)) (extends_one f z) (type_is_one v x) (type_is_one w y) d))

  -- a term that is brought to a stated type

  stated_good : (phrase : Phrase) (E : ℕ) (w : Placed) (m : ℕ) (k : ℕ → Plan) {Δ : Env} {t : Tm} {Y : Ty} (L : Listing R) → EnvAt (gets L) E Δ
      → PlacedAt (gets L) w t → TypeAt (gets L) m Y → ((Derivable R (has Δ t Y) → ⊥) → Fails phrase)
      → ((M : Listing R) → Later L M → (q : ℕ) → Has (gets M) q E (line_at w) m → Valid_phrase phrase (k q) M)
      → Valid_phrase phrase (ask (seek_term E w) (λ p A. brought E (line_at w) p A m k)) L
  stated_good phrase E w m k {Δ} {t} {Y} L g u y never next = (
    typed Δ t,
    means_term g u,
    (λ h. never (λ d. h (term_holds chains instances bodies admitted d))),
    λ M o p A h i.
        brought_good chains admitted (λ L M. Later L M) later_same (λ L M K o q. later_via o q) (λ L M o. o.on) (Ends phrase) (Fails phrase) M E (line_at w) p A m k
        (env_on o.on g) (placed_term (placed_on o.on u)) i.1 (type_on o.on y) h
        (λ z. never (λ d. z (least_least chains instances bodies admitted i.2 d))) (λ K q n h' s. next K (later_via o q) n h'),
  )

  judge_term_good : (bindings : List Binding) (b : ScopedTerm) (a : ScopedType) {Δ : Env} {t : Tm} {Y : Ty} → Extends G Γ bindings Δ → TermIs G b t
      → TypeIs G a Y → (s : Session) (L : Listing R) → G ⊑ gets L → EnvAt (gets L) s.env Γ
      → Valid_phrase (judge_term bindings b a) (judging s (judge_term bindings b a)) L
  judge_term_good bindings b a {Δ} {t} {Y} z x y s L o g =
      bindings_laid_good (Ends (judge_term bindings b a)) (Fails (judge_term bindings b a)) bindings L s.env
      (λ E. term_laid b (λ w. type_laid a (λ m. ask (seek_term E w) (λ p A. brought E (line_at w) p A m (λ q. give q m))))) g (extends_on o z) (λ M q E e.
      term_laid_good (Ends (judge_term bindings b a)) (Fails (judge_term bindings b a)) b M
      (λ w. type_laid a (λ m. ask (seek_term E w) (λ p A. brought E (line_at w) p A m (λ q. give q m)))) (term_is_on (via o q.on) x) (λ P r w u.
      type_laid_good (Ends (judge_term bindings b a)) (Fails (judge_term bindings b a)) a P (λ m. ask (seek_term E w) (λ p A. brought E (line_at w) p A m (λ q. give q m)))
      (type_is_on (via o (via q.on r.on)) y) (λ S i m v.
      let e' = env_on (via r.on i.on) e in
      stated_good (judge_term bindings b a) E w m (λ q. give q m) S e' (placed_on i.on u) v never (λ K j n h. (
        has Δ t Y,
        of_judge_term z x y,
        by_judge_term (has_judged h.0 E (line_at w) m h.1 h.2 h.3, h.4, states_has (env_on j.on e') (placed_term (placed_on (via i.on j.on) u)) (type_on j.on v)),
        tt,
        λ J f d. low J f d,
      )))))
    where
      never : (Derivable R (has Δ t Y) → ⊥) → Fails (judge_term bindings b a)
      never h J (of_judge_term f v w) d =
          h (subst₃ (λ Θ u Z. Derivable R (has Θ u Z)) (extends_one f z) (term_is_one v x) (type_is_one w y) d)

      low : (J : Judgment) → JudgmentOf G Γ (judge_term bindings b a) J → Derivable R J → Lower R (has Δ t Y) J
      low J (of_judge_term {A = Z} {t = u} f v w) d =
          lower_same (type_is_one y w) (subst (λ Θ. Derivable R (has Θ u Z)) (extends_one f z) d)

  -- definitions

  let_type_good : (name : List ℕ) (b a : ScopedType) {X Y : Ty} → Spelled name → TypeIs G b Y → TypeIs G a X → (s : Session) (L : Listing R)
      → G ⊑ gets L → EnvAt (gets L) s.env Γ → SessionIn (gets L) s.latest s.env
      → Valid_phrase (let_type_phrase name b a) (judging s (let_type_phrase name b a)) L
  let_type_good name b a {X} {Y} spelled y x s L o g ses =
      type_laid_good (Ends (let_type_phrase name b a)) (Fails (let_type_phrase name b a)) b L (λ n. type_laid a (λ m. after_it m n)) (type_is_on o y) (λ M q n v.
      type_laid_good (Ends (let_type_phrase name b a)) (Fails (let_type_phrase name b a)) a M (λ m. after_it m n) (type_is_on (via o q.on) x) (λ P r m u.
      let l = later_via q r in (
        below Γ X Y,
        means_sub (env_on l.on g) u (type_on r.on v),
        (λ h J j d. none h J j d),
        λ K i p k t h.
            let l' = later_via l i in (
              okay_name K name spelled,
              λ S j c e.
                  let w = later_via l' j in
                  let t' = is_sub_on j.on t in
                  let u' = type_on (via i.on j.on) u in
                  let v' = type_on (via r.on (via i.on j.on)) v in (
                    okay_let_type S name c n m p s.env s.latest e v' u' t' (env_on w.on g) (session_on w ses),
                    λ Z o' n' d. (
                      is_sub Γ X Y,
                      of_let_type y x,
                      by_let_type d (o' _ _ e) (type_on o' v') (type_on o' u')
                          (sub_judged t'.0 s.env m n t'.1 t'.2, o' _ _ t'.3, states_sub (env_on (via w.on o') g) (type_on o' u') (type_on o' v'))
                          (env_on (via w.on o') g),
                      (λ F x. anew S Z (session_on w ses) (sure Z n' _ d).named.1.1.1.1.1.0 (defines_on (via o w.on) x)),
                      λ J j d. tt,
                    ),
                  ),
            ),
      )))
    where
      after_it : (m n : ℕ) → Plan
      after_it m n = ask (seek_sub s.env m n) (λ p x. lay (name_statement name) (λ c. close (let_type c n m p s.env s.latest)))

      none : (Holds R (below Γ X Y) → ⊥) → Fails (let_type_phrase name b a)
      none h J (of_let_type v w) d =
          h (sub_holds chains admitted (subst₂ (λ Z W. Derivable R (is_sub Γ Z W)) (type_is_one w x) (type_is_one v y) d))

  -- line n defines the term, and the line that it names states its type
  abbrev Let_by : Get → List ℕ → ℕ → Tm → Ty → Type 0
  Let_by H name n t X =
      (x : ℕ) × (a : ℕ) × (b : ℕ) × (p : ℕ) × (e : ℕ) × (d : ℕ) × (H n ≡ Some (let_term x a b p e d)) × (H x ≡ Some (name_statement name))
      × TypeAt H a X × TermAt H b t × Stated_by H p (has Γ t X) × EnvAt H e (with_term Γ X)

  defined_good : (phrase : Phrase) (name : List ℕ) (s : Session) (A b p : ℕ) {t : Tm} {X : Ty} (L : Listing R) → Spelled name
      → EnvAt (gets L) s.env Γ → SessionIn (gets L) s.latest s.env → TypeAt (gets L) A X → TermAt (gets L) b t → Has (gets L) p s.env b A
      → ((M : Listing R) → (n r : ℕ) → Let_by (gets M) name n t X → ((F : ℕ) → Defines (gets L) n F → ⊥) → Ends phrase M n r)
      → Valid_phrase phrase (definition_plan name s A b p) L
  defined_good phrase name s A b p {t} {X} L spelled g ses a u h end = (
    okay_name L name spelled,
    λ M o c e. (
      okay_env M (of_with_term (env_on o.on g) (type_on o.on a)),
      λ K q F f.
          let l = later_via o q in
          let h' = has_on l.on h in (
            okay_let_term K name c A b p s.env F s.latest (q.on _ _ e) (type_on l.on a) (term_on l.on u) h' (env_on l.on g) f (session_on l ses),
            λ P r n d.
                let o' = via l.on r in
                end P n 0 (
                  c,
                  A,
                  b,
                  p,
                  F,
                  s.latest,
                  d,
                  via q.on r _ _ e,
                  type_on o' a,
                  term_on o' u,
                  (has_judged h'.0 s.env b A h'.1 h'.2 h'.3, r _ _ h'.4, states_has (env_on o' g) (term_on o' u) (type_on o' a)),
                  EnvAt.env_at (r _ _ f) (of_with_term (env_on o' g) (type_on o' a)),
                ) (λ F x. anew K P (session_on l ses) (sure P n _ d).named.1.1.1.1.1.0 (defines_on l.on x)),
          ),
    ),
  )

  let_term_good : (name : List ℕ) (a : ScopedType) (b : ScopedTerm) {t : Tm} {Y : Ty} → Spelled name → TypeIs G a Y → TermIs G b t → (s : Session)
      (L : Listing R) → G ⊑ gets L → EnvAt (gets L) s.env Γ → SessionIn (gets L) s.latest s.env
      → Valid_phrase (let_term_phrase name a b) (judging s (let_term_phrase name a b)) L
  let_term_good name a b {t} {Y} spelled y x s L o g ses =
      type_laid_good (Ends (let_term_phrase name a b)) (Fails (let_term_phrase name a b)) a L
      (λ m. term_laid b (λ w. ask (seek_term s.env w) (λ p B. brought s.env (line_at w) p B m (λ q. definition_plan name s m (line_at w) q))))
      (type_is_on o y) (λ M q m v.
      term_laid_good (Ends (let_term_phrase name a b)) (Fails (let_term_phrase name a b)) b M
      (λ w. ask (seek_term s.env w) (λ p B. brought s.env (line_at w) p B m (λ q. definition_plan name s m (line_at w) q)))
      (term_is_on (via o q.on) x) (λ P r w u.
      let l = later_via q r in
      stated_good (let_term_phrase name a b) s.env w m (λ q. definition_plan name s m (line_at w) q) P (env_on l.on g) u (type_on r.on v) never (λ K i n h.
      let l' = later_via l i in
      defined_good (let_term_phrase name a b) name s m (line_at w) n K spelled (env_on l'.on g) (session_on l' ses) (type_on (via r.on i.on) v)
      (placed_term (placed_on i.on u)) h (λ N j k z new. (has Γ t Y, of_let_term y x, by_let_term z.6 z.7 z.8 z.9 z.10 z.11, (λ F v. new F (defines_on (via o l'.on) v)), λ J f d. low J f d)))))
    where
      never : (Derivable R (has Γ t Y) → ⊥) → Fails (let_term_phrase name a b)
      never h J (of_let_term w v) d = h (subst₂ (λ u Z. Derivable R (has Γ u Z)) (term_is_one v x) (type_is_one w y) d)

      low : (J : Judgment) → JudgmentOf G Γ (let_term_phrase name a b) J → Derivable R J → Lower R (has Γ t Y) J
      low J (of_let_term w v) d = lower_same (type_is_one y w) d

  let_untyped_good : (name : List ℕ) (b : ScopedTerm) {t : Tm} → Spelled name → TermIs G b t → (s : Session) (L : Listing R) → G ⊑ gets L
      → EnvAt (gets L) s.env Γ → SessionIn (gets L) s.latest s.env
      → Valid_phrase (let_untyped_phrase name b) (judging s (let_untyped_phrase name b)) L
  let_untyped_good name b {t} spelled x s L o g ses =
      term_laid_good (Ends (let_untyped_phrase name b)) (Fails (let_untyped_phrase name b)) b L
      (λ w. ask (seek_term s.env w) (λ p A. definition_plan name s A (line_at w) p)) (term_is_on o x) (λ M q w u. (
        typed Γ t,
        means_term (env_on q.on g) u,
        (λ h J j d. none h J j d),
        λ K i p A h k.
            let l = later_via q i in
            defined_good (let_untyped_phrase name b) name s A (line_at w) p K spelled (env_on l.on g) (session_on l ses) k.1 (placed_term (placed_on i.on u)) h
            (λ N j r z new. (has Γ t k.0, of_let_untyped x, by_let_untyped z.6 z.7 z.8 z.9 z.10 z.11, (λ F v. new F (defines_on (via o l.on) v)), λ J f d. low k.2 J f d)),
      ))
    where
      none : (Holds R (typed Γ t) → ⊥) → Fails (let_untyped_phrase name b)
      none h J (of_let_untyped y) d = term_none x h y d

      low : {X : Ty} → Least R Γ t X → (J : Judgment) → JudgmentOf G Γ (let_untyped_phrase name b) J → Derivable R J → Lower R (has Γ t X) J
      low l J (of_let_untyped y) d = lower_by l (term_is_one y x) d

  -- every phrase that has a judgment

  pub phrase_good : (phrase : Phrase) (J : Judgment) → JudgmentOf G Γ phrase J → WellNamed phrase → (s : Session) (L : Listing R) → G ⊑ gets L
      → EnvAt (gets L) s.env Γ → SessionIn (gets L) s.latest s.env → Valid_phrase phrase (judging s phrase) L
  phrase_good (let_type_phrase name b a) J (of_let_type y x) n s L o g ses = let_type_good name b a n y x s L o g ses
  phrase_good (let_term_phrase name a b) J (of_let_term y x) n s L o g ses = let_term_good name a b n y x s L o g ses
  phrase_good (let_untyped_phrase name b) J (of_let_untyped x) n s L o g ses = let_untyped_good name b n x s L o g ses
  phrase_good (type_phrase a) J (of_type_phrase x) n s L o g ses = type_good a x s L o g
  phrase_good (term_phrase b) J (of_term_phrase x) n s L o g ses = term_good b x s L o g
  phrase_good (judge_env bindings) J (of_judge_env z) n s L o g ses = env_good bindings z s L o g
  phrase_good (judge_type bindings a) J (of_judge_type z x) n s L o g ses = judge_type_good bindings a z x s L o g
  phrase_good (judge_subtype bindings a b) J (of_judge_subtype z x y) n s L o g ses = judge_subtype_good bindings a b z x y s L o g
  phrase_good (judge_term bindings b a) J (of_judge_term z x y) n s L o g ses = judge_term_good bindings b a z x y s L o g

pub phrase_plan_good : {R : Rule} → Chains R → Instances R → Bodies R → Admitted R → (L : Listing R) (Γ : Env) → SessionEnv (gets L) Γ
    → (phrase : Phrase) (J : Judgment) → JudgmentOf (gets L) Γ phrase J → WellNamed phrase
    → Good (λ M n r. Grants R (gets L) Γ phrase (gets M) n) (Underivable R (gets L) Γ phrase) (phrase_plan L.lines phrase) L
phrase_plan_good chains instances bodies admitted L Γ env phrase J j named = (
  okay_env L of_empty,
  λ M o E e.
      phrase_good chains instances bodies admitted (gets L) Γ phrase J j named (session 1 (record { latest = 0; env = E }) L.lines) M o.on
      (session_env L M o E e env) (session_found L M o E e),
)

-- A phrase judged on a sound listing: it stays sound and grows at its end, where only the line answered can be a definition; the line grants the
-- phrase; and where it fails, no judgment of the phrase can be derived.
pub judged_post : {R : Rule} → Chains R → Instances R → Bodies R → Admitted R → (L : Listing R) (Γ : Env) → SessionEnv (gets L) Γ
    → (phrase : Phrase) (J : Judgment) → JudgmentOf (gets L) Γ phrase J → WellNamed phrase → (l : Limits) (places : ℕ)
    → PostOf R (λ M n r. Grants R (gets L) Γ phrase (gets M) n) (Underivable R (gets L) Γ phrase) L.lines (judged R l places L.lines phrase)
judged_post {R} chains instances bodies admitted L Γ env phrase J j named l places =
    runs R l (λ s g. seek R l places s g) (seeks_soundly chains admitted l places) (λ L M. Later L M) later
    (λ M n r. Grants R (gets L) Γ phrase (gets M) n) (Underivable R (gets L) Γ phrase) (phrase_plan L.lines phrase) L 0
    (phrase_plan_good chains instances bodies admitted L Γ env phrase J j named)
