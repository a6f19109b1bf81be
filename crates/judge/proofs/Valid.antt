-- Plans that keep a listing sound: one condition on plans, and what a run of a plan with it does, whatever the codes.
use Rattle.std.proofs.Common.{◌≡◌, ℕ, zero, suc, ◌+◌, Bool, true, false, cond, T, List, [], ◌∷◌, ◌++◌, length, Some, None, Option, ◌⊎◌, refl, ap, sym, ◌∙◌, subst, inl, inr, ⊎_elim, arith}
use Rattle.std.specs.List.{slice_get}
use Rattle.std.specs.Prelude.{nat_lt}
use Rattle.lines.specs.Stores.{numbered}
use Rattle.lines.specs.declared.answer.Cause.{Cause}
use Rattle.lines.specs.declared.answer.Cause.TheVariants.{Code, Column as PastColumn, Reference, Repeated, Unfounded}
use Rattle.lines.specs.declared.line.Line.{Line}
use Rattle.rules.specs.Codes.{line, held}
use Rattle.rules.specs.Faults.{admitted, AllName, Right, Sound}
use Rattle.rules.specs.Follows.{Defines, type_defined, term_defined, Follows}
use Rattle.rules.specs.Quantifiers.{Rule}
use Rattle.rules.specs.Statements.{Statement, let_type, let_term, Get, said, columns}
use Rattle.rules.proofs.Codes.{line_past, says_line}
use Rattle.rules.proofs.Grow.{added_sound, said_last}
use Rattle.rules.proofs.Whole.{◌⊑◌, said_line, line_said}
use Rattle.rules.proofs.Writing.{Listing, gets}
use Rattle.judge.specs.Goals.{Goal, seek_raising, seek_putting, seek_bound, seek_typing, seek_env, seek_type, seek_sub, seek_var, seek_term, seek_subsumed, exposing, Plan, ask, lay, see, pay, close, give, fail}
use Rattle.judge.specs.Plans.{plan}
use Rattle.judge.specs.Seeking.{Limits, State, Refusal, Outcome, established, fails, refused, steps_spent, store_full, number_passed, same_line, equal_at, all_fit, paid, put_unless, laid, and_then, result, run, placed_at}
use Rattle.judge.proofs.Sought.{Sought, Means, Holds, Answers, Knows}
use Rattle.std.proofs.lemmas.Bool.{and_parts, eqb-true, eq-eqb, true≢false}
use Rattle.std.proofs.lemmas.Option.{none-some, same_Some}

-- definitions of ys are definitions of xs
abbrev pub Defines_kept : List Line → List Line → Type 0
Defines_kept xs ys = (d E : ℕ) → Defines (said ys) d E → Defines (said xs) d E

-- lines added at the end, none of them a definition
pub record Grows (xs ys : List Line) : Type 0 where
  pub more : List Line
  pub whole : ys ≡ xs ++ more
  pub kept : Defines_kept xs ys

-- lines added at the end, of which only line n can be a definition
pub record Grown (xs ys : List Line) (n : ℕ) : Type 0 where
  pub more : List Line
  pub whole : ys ≡ xs ++ more
  pub kept_or_last : (d E : ℕ) → Defines (said ys) d E → Defines (said xs) d E ⊎ (d ≡ n)

++-nil : (xs : List Line) → xs ≡ xs ++ []
++-nil [] = refl
++-nil (x ∷ xs) = ap (λ ys. x ∷ ys) (++-nil xs)

++-assoc : (xs ys zs : List Line) → (xs ++ ys) ++ zs ≡ xs ++ (ys ++ zs)
++-assoc [] ys zs = refl
++-assoc (x ∷ xs) ys zs = ap (λ ws. x ∷ ws) (++-assoc xs ys zs)

pub grows_same : (xs : List Line) → Grows xs xs
grows_same xs = record { more = []; whole = ++-nil xs; kept = λ d E x. x }

pub grown_same : (xs : List Line) (n : ℕ) → Grown xs xs n
grown_same xs n = record { more = []; whole = ++-nil xs; kept_or_last = λ d E x. inl x }

pub grown_more : {xs ys zs : List Line} {n : ℕ} → Grows xs ys → Grown ys zs n → Grown xs zs n
grown_more {xs} g h =
    record {
      more = g.more ++ h.more;
      whole = h.whole ∙ ap (λ ws. ws ++ h.more) g.whole ∙ ++-assoc xs g.more h.more;
      kept_or_last = λ d E x. ⊎_elim (λ y. inl (g.kept d E y)) inr (h.kept_or_last d E x);
    }

-- where line n is no definition
pub grown_kept : {xs ys : List Line} {n : ℕ} → Grown xs ys n → ((E : ℕ) → Defines (said ys) n E → ⊥) → Grows xs ys
grown_kept {ys = ys} h none =
    record {
      more = h.more;
      whole = h.whole;
      kept = λ d E x. ⊎_elim (λ y. y) (λ last. absurd (none E (subst (λ m. Defines (said ys) m E) last x))) (h.kept_or_last d E x);
    }

nth_on : (xs more : List Line) (n : ℕ) (l : Line) → slice_get xs n ≡ Some l → slice_get (xs ++ more) n ≡ Some l
nth_on [] more n l e = absurd (none-some _ e)
nth_on (x ∷ xs) more zero l e = e
nth_on (x ∷ xs) more (suc n) l e = nth_on xs more n l e

pub starts_on : (xs ys more : List Line) → ys ≡ xs ++ more → said xs ⊑ said ys
starts_on xs ys more g zero s e = absurd (none-some _ e)
starts_on xs ys more g (suc n) s e =
    let (l, f, h) = said_line xs (suc n) s e in
    line_said ys (suc n) l s (ap (λ zs. slice_get zs n) g ∙ nth_on xs more n l f) h

pub grows_on : {xs ys : List Line} → Grows xs ys → said xs ⊑ said ys
grows_on {xs} {ys} g = starts_on xs ys g.more g.whole

pub grown_on : {xs ys : List Line} {n : ℕ} → Grown xs ys n → said xs ⊑ said ys
grown_on {xs} {ys} g = starts_on xs ys g.more g.whole

-- a statement that defines nothing
abbrev pub Defines_nothing : Statement → Type 0
Defines_nothing (let_type name B A p E previous) = ⊥
Defines_nothing (let_term name A b p E previous) = ⊥
Defines_nothing other = Unit {0}

pub defines_nothing : {G : Get} {n : ℕ} {s : Statement} → Defines_nothing s → G n ≡ Some s → (E : ℕ) → Defines G n E → ⊥
defines_nothing {s = s} q e E (type_defined f) = subst Defines_nothing (same_Some _ _ (sym e ∙ f)) q
defines_nothing {s = s} q e E (term_defined f) = subst Defines_nothing (same_Some _ _ (sym e ∙ f)) q

-- line d of a list to which a line was added is one of the list's, or the last
nth_or_last : (xs : List Line) (l m : Line) (n : ℕ) → slice_get (xs ++ l ∷ []) n ≡ Some m → (slice_get xs n ≡ Some m) ⊎ (n ≡ length xs)
nth_or_last [] l m zero e = inr refl
nth_or_last [] l m (suc n) e = absurd (none-some _ e)
nth_or_last (x ∷ xs) l m zero e = inl e
nth_or_last (x ∷ xs) l m (suc n) e = ⊎_elim inl (λ last. inr (ap suc last)) (nth_or_last xs l m n e)

said_or_last : (xs : List Line) (l : Line) (d : ℕ) (s : Statement) → said (xs ++ l ∷ []) d ≡ Some s → (said xs d ≡ Some s) ⊎ (d ≡ suc (length xs))
said_or_last xs l zero s e = absurd (none-some _ e)
said_or_last xs l (suc d) s e =
    let (m, f, g) = said_line (xs ++ l ∷ []) (suc d) s e in
    ⊎_elim (λ h. inl (line_said xs (suc d) m s h g)) (λ last. inr (ap suc last)) (nth_or_last xs l m d f)

pub defined_or_last : (xs : List Line) (l : Line) (d E : ℕ) → Defines (said (xs ++ l ∷ [])) d E → Defines (said xs) d E ⊎ (d ≡ suc (length xs))
defined_or_last xs l d E (type_defined f) = ⊎_elim (λ g. inl (type_defined g)) inr (said_or_last xs l d _ f)
defined_or_last xs l d E (term_defined f) = ⊎_elim (λ g. inl (term_defined g)) inr (said_or_last xs l d _ f)

-- that a line may be put
pub record Okay (R : Rule) (L : Listing R) (s : Statement) : Type 0 where
  pub admits : T (admitted R s)
  pub named : AllName L.lines (columns s)
  pub follows : Follows (gets L) s

-- that a line may be put, and is no definition
pub record Layable (R : Rule) (L : Listing R) (s : Statement) : Type 0 where
  pub okay : Okay R L s
  pub nothing : Defines_nothing s

abbrev pub state_of : {R : Rule} → Listing R → ℕ → State
state_of L k = record { lines = L.lines; steps = k }

-- the line that is looked for

same_lines : (l m : Line) → same_line l m ≡ true → m ≡ l
same_lines l m e =
    let (e1, k) = and_parts _ _ e in
    let (e2, h) = and_parts _ _ e1 in
    let (e3, g) = and_parts _ _ e2 in
    let (e4, f) = and_parts _ _ e3 in
    let (e5, d) = and_parts _ _ e4 in
    let (e6, c) = and_parts _ _ e5 in
    let (a, b) = and_parts _ _ e6 in
    let code = sym (eqb-true _ _ a) in let c1 = sym (eqb-true _ _ b) in let c2 = sym (eqb-true _ _ c) in let c3 = sym (eqb-true _ _ d) in
    let c4 = sym (eqb-true _ _ f) in let c5 = sym (eqb-true _ _ g) in let c6 = sym (eqb-true _ _ h) in let c7 = sym (eqb-true _ _ k) in
    λ i. record { code = code i; c1 = c1 i; c2 = c2 i; c3 = c3 i; c4 = c4 i; c5 = c5 i; c6 = c6 i; c7 = c7 i }

line_same : (l : Line) → same_line l l ≡ true
line_same l =
    rw (eq-eqb l.code l.code refl, eq-eqb l.c1 l.c1 refl, eq-eqb l.c2 l.c2 refl, eq-eqb l.c3 l.c3 refl, eq-eqb l.c4 l.c4 refl, eq-eqb l.c5 l.c5 refl, eq-eqb l.c6 l.c6 refl, eq-eqb l.c7 l.c7 refl)

-- the line that stands is equal, and where none does no line is
abbrev EqualAt : Line → ℕ → List Line → Option ℕ → Type 0
EqualAt l n lines (Some k) = (i : ℕ) × (k ≡ n + i) × (slice_get lines i ≡ Some l)
EqualAt l n lines None = (i : ℕ) → slice_get lines i ≡ Some l → ⊥

equal_found : (l : Line) (n : ℕ) (lines : List Line) → EqualAt l n lines (equal_at l n lines)
equal_found l n [] = λ i e. none-some _ e
equal_found l n (m ∷ lines) = go (same_line l m) refl (equal_found l (suc n) lines)
  where
    later : (o : Option ℕ) → (same_line l m ≡ false) → EqualAt l (suc n) lines o → EqualAt l n (m ∷ lines) o
    later (Some k) e (i, f, g) = (suc i, omega (arith, f), g)
    later None e h = λ i f. none e h i f
      where
        none : same_line l m ≡ false → ((i : ℕ) → slice_get lines i ≡ Some l → ⊥) → (i : ℕ) → slice_get (m ∷ lines) i ≡ Some l → ⊥
        none e h zero f = let same : m ≡ l = cc in true≢false (sym (line_same l) ∙ ap (λ k. same_line l k) (sym same) ∙ e)
        none e h (suc i) f = h i f

    go : (b : Bool) → same_line l m ≡ b → EqualAt l (suc n) lines (equal_at l (suc n) lines)
        → EqualAt l n (m ∷ lines) (cond b (Some n) (equal_at l (suc n) lines))
    go true e h = (0, omega arith, ap Some (same_lines l m e))
    go false e h = later (equal_at l (suc n) lines) e h

-- the listing with a line added that may be put and does not stand

abbrev pub Not_standing : {R : Rule} → Listing R → Statement → Type 0
Not_standing L u = (i : ℕ) → slice_get L.lines i ≡ Some (line u) → ⊥

module _ {R : Rule} (L : Listing R) (u : Statement) (okay : Okay R L u) where
  fresh : Not_standing L u → (n : ℕ) → numbered L.lines n ≡ Some (line u) → ⊥
  fresh none zero e = none-some _ e
  fresh none (suc i) e = none i e

  pub right : Not_standing L u → (c : Cause) → Right R L.lines (line u) u c
  right none Code = okay.admits
  right none PastColumn = line_past u
  right none Reference = okay.named
  right none Repeated = λ n. fresh none n
  right none Unfounded = okay.follows

  abbrev pub added : Not_standing L u → Listing R
  added none =
      record {
        lines = L.lines ++ line u ∷ [];
        sound = added_sound R L.lines L.sound (line u) (u, says_line u, right none);
      }

  pub added_says : (none : Not_standing L u) → gets (added none) (suc (length L.lines)) ≡ Some u
  added_says none = said_last L.lines (line u) u (says_line u)

  pub added_grown : (none : Not_standing L u) → Grown L.lines (added none).lines (suc (length L.lines))
  added_grown none = record { more = line u ∷ []; whole = refl; kept_or_last = defined_or_last L.lines (line u) }

  pub added_grows : (none : Not_standing L u) → Defines_nothing u → Grows L.lines (added none).lines
  added_grows none q = grown_kept (added_grown none) (defines_nothing q (added_says none))

-- a line that is laid stands or is put at the end, or the search ends
pub laid_cases : {R : Rule} (l : Limits) (L : Listing R) (steps : ℕ) (u : Statement) (k : ℕ → State → Outcome) (okay : Okay R L u)
    (P : Outcome → Type 0) → ((n : ℕ) → gets L n ≡ Some u → P (k n (state_of L steps)))
    → ((none : Not_standing L u) → P (k (suc (length L.lines)) (state_of (added L u okay none) steps)))
    → ((why : Refusal) → P (refused why None steps)) → P (laid l (state_of L steps) u k)
laid_cases l L steps u k okay P found put refuses = go (equal_at (line u) 1 L.lines) (equal_found (line u) 1 L.lines)
  where
    go : (o : Option ℕ) → EqualAt (line u) 1 L.lines o → P (put_unless l (state_of L steps) u k o)
    go (Some n) (i, e, f) =
        let at : suc i ≡ n = omega (arith, e) in
        found n (subst (λ m. said L.lines m ≡ Some u) at (line_said L.lines (suc i) (line u) u f (says_line u)))
    go None none = test (all_fit (held u)) (nat_lt (length L.lines) l.room)
      where
        test : (b c : Bool)
            → P (cond b (cond c (k (suc (length L.lines)) (record { lines = L.lines ++ line u ∷ []; steps = steps }))
            (refused (store_full (length L.lines)) None steps)) (refused number_passed None steps))
        test true true = put none
        test true false = refuses (store_full (length L.lines))
        test false c = refuses number_passed

-- A listing stays sound and grows at its end, where only the line that ends the plan can be a definition, and Q holds; or N.
abbrev pub PostOf : (R : Rule) → (Listing R → ℕ → ℕ → Type 0) → Type 0 → List Line → Outcome → Type 0
PostOf R Q N xs (established n r s) = (sound : Sound R s.lines) × Grown xs s.lines n × Q (record { lines = s.lines; sound = sound }) n r
PostOf R Q N xs (fails byte steps) = N
PostOf R Q N xs (refused why byte steps) = Unit {0}

-- What a plan has to have, with Q of the line and the result that it ends with and N where it fails: premises mean something, and where one
-- cannot hold, N; what is laid may be put; and what is left has it on every listing that is further on, whatever line answers.
module _ (R : Rule) (On : Listing R → Listing R → Type 0) (Q : Listing R → ℕ → ℕ → Type 0) (N : Type 0) where
  abbrev pub Valid_on : Plan → Listing R → Type 0
  Valid_on (ask g k) L =
      (w : Sought) × Means (gets L) g w × ((Holds R w → ⊥) → N)
      × ((M : Listing R) → On L M → (n r : ℕ) → Answers (gets M) g n r → Knows R (gets M) w r → Valid_on (k n r) M)
  Valid_on (lay u k) L = Layable R L u × ((M : Listing R) → On L M → (n : ℕ) → gets M n ≡ Some u → Valid_on (k n) M)
  Valid_on (see g n k) L = ((M : Listing R) → gets L ⊑ gets M → plan R (gets M) g ≡ k (gets L n)) × Valid_on (k (gets L n)) L
  Valid_on (pay p) L = Valid_on p L
  Valid_on (close u) L = Okay R L u × ((M : Listing R) → gets L ⊑ gets M → (n : ℕ) → gets M n ≡ Some u → Q M n (result u))
  Valid_on (give n r) L = Q L n r
  Valid_on fail L = N

module _ (R : Rule) (Q : Listing R → ℕ → ℕ → Type 0) (N : Type 0) where
  -- for plans of goals: further on is with more lines
  abbrev pub Valid : Plan → Listing R → Type 0
  Valid = Valid_on R (λ L M. gets L ⊑ gets M) Q N

  abbrev pub Post : List Line → Outcome → Type 0
  Post = PostOf R Q N

  pub post_more : {xs ys : List Line} → Grows xs ys → (o : Outcome) → Post ys o → Post xs o
  post_more g (established n r s) x = (x.0, grown_more g x.1, x.2)
  post_more g (fails byte steps) x = x
  post_more g (refused why byte steps) x = tt

  pub post_placed : (byte : Option ℕ) (xs : List Line) (o : Outcome) → Post xs o → Post xs (placed_at byte o)
  post_placed None xs o x = x
  post_placed (Some byte) xs (established n r s) x = x
  post_placed (Some byte) xs (fails inner steps) x = x
  post_placed (Some byte) xs (refused why inner steps) x = tt

  pub post_paid : (l : Limits) (L : Listing R) (steps : ℕ) (k : State → Outcome) → ((more : ℕ) → Post L.lines (k (state_of L more)))
      → Post L.lines (paid l (state_of L steps) k)
  post_paid l L steps k h = go (nat_lt steps l.steps)
    where
      go : (b : Bool) → Post L.lines (cond b (k (state_of L (suc steps))) (refused steps_spent None steps))
      go true = h (suc steps)
      go false = tt

  pub post_laid : (l : Limits) (L : Listing R) (steps : ℕ) (u : Statement) (k : ℕ → State → Outcome) (okay : Okay R L u)
      → ((n : ℕ) → gets L n ≡ Some u → Post L.lines (k n (state_of L steps)))
      → ((none : Not_standing L u) → Post L.lines (k (suc (length L.lines)) (state_of (added L u okay none) steps)))
      → Post L.lines (laid l (state_of L steps) u k)
  post_laid l L steps u k okay found put = laid_cases l L steps u k okay (Post L.lines) found put (λ why. tt)

  pub post_then : (P : Listing R → ℕ → ℕ → Type 0) (C : Type 0) (xs : List Line) (o : Outcome) → PostOf R P C xs o
      → (k : ℕ → ℕ → State → Outcome) → (C → N)
      → ((M : Listing R) → (n r steps : ℕ) → Grown xs M.lines n → P M n r → Post xs (k n r (state_of M steps))) → Post xs (and_then o k)
  post_then P C xs (established n r s) (sound, g, p) k never h = h (record { lines = s.lines; sound = sound }) n r s.steps g p
  post_then P C xs (fails byte steps) x k never h = never x
  post_then P C xs (refused why byte steps) x k never h = tt

-- a goal of this meaning is answered, or cannot hold
abbrev pub Answered : (R : Rule) → Goal → Sought → Listing R → (n r : ℕ) → Type 0
Answered R g w L n r = Answers (gets L) g n r × Knows R (gets L) w r

abbrev pub Sound_seeking : Rule → (State → Goal → Outcome) → Type 0
Sound_seeking R seeks =
    (g : Goal) (w : Sought) (L : Listing R) (steps : ℕ) → Means (gets L) g w
    → Post R (Answered R g w) (Holds R w → ⊥) L.lines (seeks (state_of L steps) g)

-- a line that answers is no definition
pub answer_defines_nothing : (G : Get) (g : Goal) (n r : ℕ) → Answers G g n r → (E : ℕ) → Defines G n E → ⊥
answer_defines_nothing G (seek_raising A j) n r x = defines_nothing tt x.2
answer_defines_nothing G (seek_putting B j A) n r x = defines_nothing tt x.3
answer_defines_nothing G (seek_bound E k) n r x = defines_nothing tt x.2
answer_defines_nothing G (seek_typing E k) n r x = defines_nothing tt x.2
answer_defines_nothing G (seek_env E) n r x = defines_nothing tt x.1
answer_defines_nothing G (seek_type E A) n r x = defines_nothing tt x.2
answer_defines_nothing G (seek_sub E A B) n r x = defines_nothing tt x.3
answer_defines_nothing G (seek_var E A) n r x = defines_nothing tt x.2
answer_defines_nothing G (seek_term E p) n r x = defines_nothing tt x.4
answer_defines_nothing G (seek_subsumed E a B p q) n r x = defines_nothing tt x.4
answer_defines_nothing G (exposing most E a p T) n r x = absurd x

module _ (R : Rule) (l : Limits) (seeks : State → Goal → Outcome) (sound : Sound_seeking R seeks) (On : Listing R → Listing R → Type 0)
    (on : (L M : Listing R) → Grows L.lines M.lines → On L M) (Q : Listing R → ℕ → ℕ → Type 0) (N : Type 0) where
  pub runs : (p : Plan) (L : Listing R) (steps : ℕ) → Valid_on R On Q N p L → Post R Q N L.lines (run l seeks p (state_of L steps))
  runs (ask g k) L steps (w, m, never, next) =
      post_then R Q N (Answered R g w) (Holds R w → ⊥) L.lines (seeks (state_of L steps) g) (sound g w L steps m) (λ n r t. run l seeks (k n r) t) never
      (λ M n r s h x.
      let grows = grown_kept h (answer_defines_nothing (gets M) g n r x.0) in
      post_more R Q N grows _ (runs (k n r) M s (next M (on L M grows) n r x.0 x.1)))
  runs (lay u k) L steps (may, next) =
      post_laid R Q N l L steps u (λ n t. run l seeks (k n) t) may.okay
      (λ n e. runs (k n) L steps (next L (on L L (grows_same L.lines)) n e))
      (λ none.
      let M = added L u may.okay none in
      let grows = added_grows L u may.okay none may.nothing in
      let n = suc (length L.lines) in
      post_more R Q N grows _ (runs (k n) M steps (next M (on L M grows) n (added_says L u may.okay none))))
  runs (see g n k) L steps v = runs (k (gets L n)) L steps v.1
  runs (pay p) L steps v = post_paid R Q N l L steps (λ t. run l seeks p t) (λ more. runs p L more v)
  runs (close u) L steps (okay, next) =
      post_laid R Q N l L steps u (λ n t. established n (result u) t) okay
      (λ n e. (L.sound, grown_same L.lines n, next L (λ m s f. f) n e))
      (λ none.
      let grown = added_grown L u okay none in
      ((added L u okay none).sound, grown, next (added L u okay none) (grown_on grown) (suc (length L.lines)) (added_says L u okay none)))
  runs (give n r) L steps q = (L.sound, grown_same L.lines n, q)
  runs fail L steps never = never
