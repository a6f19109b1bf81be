-- The latest definition and the session environment, kept from line to line.
use Rattle.std.proofs.Common.{◌≡◌, ℕ, zero, suc, ◌<◌, ◌≤◌, List, take, Some, None, sym, ap, ◌∙◌, ⊎_elim, arith}
use Rattle.checker.proofs.Dispatch.{outside}
use Rattle.checker.specs.Decide.{latest_after, env_after}
use Rattle.lines.specs.Stores.{numbered}
use Rattle.lines.specs.declared.answer.Cause.TheVariants.{Column, Reference, Repeated, Unfounded}
use Rattle.lines.specs.declared.answer.Cause.{Cause}
use Rattle.lines.specs.declared.line.Line.{Line}
use Rattle.rules.proofs.Codes.{says, code_read, line_says}
use Rattle.rules.proofs.Whole.{numbered_within, numbered_beyond, defines_on, fine_right, right}
use Rattle.rules.specs.Faults.{Right, Fine, Sound}
use Rattle.rules.specs.Follows.{Defines, type_defined, term_defined, Session, nothing_defined, latest_defined, Follows, define_type, define_term}
use Rattle.rules.specs.Quantifiers.{Rule}
use Rattle.rules.specs.Statements.{Statement, env_line, empty', let_type, let_term, statement, said, Get}
use Rattle.std.proofs.lemmas.Bool.{cases_order, cases_eq, cases_lt, ne_eqb}
use Rattle.std.proofs.lemmas.Option.{none-some}

-- d is the latest definition and E the session environment; E is 0 where there is no session yet
pub record Tracked (G : Get) (d E : ℕ) : Type 0 where
  pub only : (d' E' : ℕ) → Session G d' E' → (d' ≡ d) × (E' ≡ E)
  pub there : (E ≡ 0 → ⊥) → Session G d E
  pub begun : (d' E' : ℕ) → Session G d' E' → E ≡ 0 → ⊥
  -- where there is a definition, the empty environment stands
  pub rooted : (m F : ℕ) → Defines G m F → (n : ℕ) × (G n ≡ Some (env_line empty'))
  pub fresh : E ≡ 0 → d ≡ 0

silent : (G : Get) (m F : ℕ) → G m ≡ None → Defines G m F → ⊥
silent G m F e (type_defined f) = none-some _ (sym e ∙ f)
silent G m F e (term_defined f) = none-some _ (sym e ∙ f)

not_a_definition : (G : Get) (m F : ℕ) → G m ≡ Some (env_line empty') → Defines G m F → ⊥
not_a_definition G m F e (type_defined f) = let z : ◌≡◌ {A = ℕ} 0 1 = cc in omega arith
not_a_definition G m F e (term_defined f) = let z : ◌≡◌ {A = ℕ} 0 1 = cc in omega arith

carried : (G H : Get) (m F : ℕ) → G m ≡ H m → Defines G m F → Defines H m F
carried G H m F e (type_defined f) = type_defined (sym e ∙ f)
carried G H m F e (term_defined f) = term_defined (sym e ∙ f)

one_env : (G : Get) (m E F : ℕ) → Defines G m E → Defines G m F → E ≡ F
one_env G m E F (type_defined e) (type_defined f) = cc
one_env G m E F (type_defined e) (term_defined f) = cc
one_env G m E F (term_defined e) (type_defined f) = cc
one_env G m E F (term_defined e) (term_defined f) = cc

session_rooted : (G : Get) (d E : ℕ) → ((m F : ℕ) → Defines G m F → (n : ℕ) × (G n ≡ Some (env_line empty'))) → Session G d E
    → (n : ℕ) × (G n ≡ Some (env_line empty'))
session_rooted G d E rooted (nothing_defined none e) = (E, e)
session_rooted G d E rooted (latest_defined by newest) = rooted d E by

-- H is G with one line more, number n
module _ (G H : Get) (n : ℕ) (below : (m : ℕ) → m < n → G m ≡ H m) (G-ends : (m : ℕ) → n ≤ m → G m ≡ None) (H-ends : (m : ℕ) → n < m → H m ≡ None) where
  say_forth : (m : ℕ) (s : Statement) → G m ≡ Some s → H m ≡ Some s
  say_forth m s e = ⊎_elim (λ k. sym (below m k) ∙ e) (λ k. let f = G-ends m k in cc) (cases_lt m n)

  forth : (m F : ℕ) → Defines G m F → Defines H m F
  forth m F h = defines_on say_forth h

  back : (m F : ℕ) → (m ≡ n → ⊥) → Defines H m F → Defines G m F
  back m F apart h =
      ⊎_elim (λ k. carried H G m F (sym (below m k)) h) (λ k. absurd (silent H m F (H-ends m (omega arith)) h)) (cases_lt m n)

  say_back : (m : ℕ) (s : Statement) → (m ≡ n → ⊥) → H m ≡ Some s → G m ≡ Some s
  say_back m s apart e = ⊎_elim (λ k. below m k ∙ e) (λ k. let f = H-ends m (omega arith) in cc) (cases_lt m n)

  module _ (d E : ℕ) (kept : Tracked G d E) where
    rooted_forth : (m F : ℕ) → Defines G m F → (k : ℕ) × (H k ≡ Some (env_line empty'))
    rooted_forth m F h = let r = kept.rooted m F h in (r.0, say_forth r.0 _ r.1)

    -- a line that is neither a definition nor the empty environment
    module _ (undefined : (F : ℕ) → Defines H n F → ⊥) (filled : H n ≡ Some (env_line empty') → ⊥) where
      back_other : (m F : ℕ) → Defines H m F → Defines G m F
      back_other m F h = back m F (λ e. undefined F (rw e at h)) h

      session_forth : (d' E' : ℕ) → Session G d' E' → Session H d' E'
      session_forth d' E' (nothing_defined none e) = nothing_defined (λ m F h. none m F (back_other m F h)) (say_forth E' _ e)
      session_forth d' E' (latest_defined h newest) = latest_defined (forth d' E' h) (λ m F k g. newest m F k (back_other m F g))

      session_back : (d' E' : ℕ) → Session H d' E' → Session G d' E'
      session_back d' E' (nothing_defined none e) =
          nothing_defined (λ m F h. none m F (forth m F h)) (say_back E' _ (λ z. filled (rw z at e)) e)
      session_back d' E' (latest_defined h newest) = latest_defined (back_other d' E' h) (λ m F k g. newest m F k (forth m F g))

      tracked_other : Tracked H d E
      tracked_other = record {
        only = λ d' E' h. kept.only d' E' (session_back d' E' h);
        there = λ h. session_forth d E (kept.there h);
        begun = λ d' E' h. kept.begun d' E' (session_back d' E' h);
        rooted = λ m F h. rooted_forth m F (back_other m F h);
        fresh = kept.fresh;
      }

    -- a definition that leaves the environment F
    module _ (F : ℕ) (defines : Defines H n F) (stands : F ≡ 0 → ⊥) (d₀ E₀ : ℕ) (session : Session G d₀ E₀) where
      defined_only : (d' E' : ℕ) → Session H d' E' → (d' ≡ n) × (E' ≡ F)
      defined_only d' E' (nothing_defined none e) = absurd (none n F defines)
      defined_only d' E' (latest_defined h newest) =
          ⊎_elim (λ e. (e, one_env H n E' F (rw e at h) defines))
          (⊎_elim (λ k. absurd (newest n F k defines)) (λ k. absurd (silent H d' E' (H-ends d' k) h))) (cases_order d' n)

      rooted_next : (m E' : ℕ) → Defines H m E' → (k : ℕ) × (H k ≡ Some (env_line empty'))
      rooted_next m E' h =
          ⊎_elim (λ _. let r = session_rooted G d₀ E₀ kept.rooted session in (r.0, say_forth r.0 _ r.1))
          (λ apart. rooted_forth m E' (back m E' apart h)) (cases_eq m n)

      tracked_defined : Tracked H n F
      tracked_defined = record {
        only = defined_only;
        there = λ _. latest_defined defines (λ m E' k h. silent H m E' (H-ends m k) h);
        begun = λ _ _ _. stands;
        rooted = rooted_next;
        fresh = λ e. absurd (stands e);
      }

    -- the line of the empty environment, where none stands before
    module _ (empty : H n ≡ Some (env_line empty')) (n_positive : n ≡ 0 → ⊥) (first : (m : ℕ) → G m ≡ Some (env_line empty') → ⊥) where
      undefined_before : (m F : ℕ) → Defines G m F → ⊥
      undefined_before m F h = let r = kept.rooted m F h in first r.0 r.1

      not_begun : E ≡ 0
      not_begun = ⊎_elim (λ e. e) (λ apart. absurd (let r = session_rooted G d E kept.rooted (kept.there apart) in first r.0 r.1)) (cases_eq E 0)

      undefined_now : (m F : ℕ) → Defines H m F → ⊥
      undefined_now m F h = ⊎_elim (λ e. not_a_definition H n F empty (rw e at h)) (λ apart. undefined_before m F (back m F apart h)) (cases_eq m n)

      empty_only : (d' E' : ℕ) → Session H d' E' → (d' ≡ d) × (E' ≡ n)
      empty_only d' E' (nothing_defined none e) =
          (sym (kept.fresh not_begun), ⊎_elim (λ e. e) (λ apart. absurd (first E' (say_back E' _ apart e))) (cases_eq E' n))
      empty_only d' E' (latest_defined h newest) = absurd (undefined_now d' E' h)

      tracked_empty : Tracked H d n
      tracked_empty = record {
        only = empty_only;
        there = λ _. rw (kept.fresh not_begun) (nothing_defined undefined_now empty);
        begun = λ _ _ _. n_positive;
        rooted = λ m F h. absurd (undefined_now m F h);
        fresh = λ e. absurd (n_positive e);
      }

type_session : {G : Get} {name B A p E d : ℕ} → Follows G (let_type name B A p E d) → Session G d E
type_session (define_type h x) = h

term_session : {G : Get} {name A b p F d : ℕ} → Follows G (let_term name A b p F d) → (E : ℕ) × Session G d E
term_session (define_term {E = E} h e x) = (E, h)

nonzero : (before : List Line) (m : ℕ) (k : Line) → numbered before m ≡ Some k → m ≡ 0 → ⊥
nonzero before zero k e z = none-some _ e
nonzero before (suc m) k e z = omega arith

said_same : (xs ys : List Line) (m : ℕ) → numbered xs m ≡ numbered ys m → said xs m ≡ said ys m
said_same xs ys m e = rw e

said_none : (xs : List Line) (m : ℕ) → numbered xs m ≡ None → said xs m ≡ None
said_none xs m e = rw e

said_some : (xs : List Line) (m : ℕ) (l : Line) → numbered xs m ≡ Some l → said xs m ≡ statement l
said_some xs m l e = rw e

module _ (R : Rule) (lines : List Line) (n d E : ℕ) (l : Line) (here : numbered lines (suc n) ≡ Some l) (sound : Sound R (take n lines)) (fine : Fine R (take n lines) l) (kept : Tracked (said (take n lines)) d E) where
  abbrev G : Get
  G = said (take n lines)

  abbrev H : Get
  H = said (take (suc n) lines)

  below : (m : ℕ) → m < suc n → G m ≡ H m
  below m k = said_same _ _ m (numbered_within lines n m (omega arith) ∙ sym (numbered_within lines (suc n) m (omega arith)))

  G-ends : (m : ℕ) → suc n ≤ m → G m ≡ None
  G-ends m k = said_none _ m (numbered_beyond lines n m k)

  H-ends : (m : ℕ) → suc n < m → H m ≡ None
  H-ends m k = said_none _ m (numbered_beyond lines (suc n) m k)

  H-here : H (suc n) ≡ statement l
  H-here = said_some _ (suc n) l (numbered_within lines (suc n) (suc n) (omega arith) ∙ here)

  right_here : (s : Statement) → statement l ≡ Some s → (c : Cause) → Right R (take n lines) l s c
  right_here s e = fine_right R (take n lines) l s fine e

  -- a second line of the empty environment would repeat the first
  first : statement l ≡ Some (env_line empty') → (m : ℕ) → G m ≡ Some (env_line empty') → ⊥
  first e zero f = none-some _ f
  first e (suc m) f =
      let (k, g, same, _) = right R (take n lines) sound m (env_line empty') f in
      right_here _ e Repeated (suc m) (g ∙ ap Some (same ∙ sym (line_says l _ e (right_here _ e Column))))

  after_type : l.code ≡ 91 → Tracked H (suc n) l.c5
  after_type e =
      let f = says l 91 e in let stands = (right_here _ f Reference).1.1.1.1.0 in
      tracked_defined G H (suc n) below G-ends H-ends d E kept l.c5 (type_defined (H-here ∙ f))
      (nonzero (take n lines) l.c5 stands.0 stands.1) l.c6 l.c5 (type_session (right_here _ f Unfounded))

  after_term : l.code ≡ 92 → Tracked H (suc n) l.c5
  after_term e =
      let f = says l 92 e in let stands = (right_here _ f Reference).1.1.1.1.0 in let session = term_session (right_here _ f Unfounded) in
      tracked_defined G H (suc n) below G-ends H-ends d E kept l.c5 (term_defined (H-here ∙ f))
      (nonzero (take n lines) l.c5 stands.0 stands.1) l.c6 session.0 session.1

  after_empty : l.code ≡ 30 → Tracked H d (suc n)
  after_empty e = let f = says l 30 e in tracked_empty G H (suc n) below G-ends H-ends d E kept (H-here ∙ f) (omega arith) (first f)

  undefined_here : (l.code ≡ 91 → ⊥) → (l.code ≡ 92 → ⊥) → (F : ℕ) → Defines H (suc n) F → ⊥
  undefined_here a b F (type_defined e) = a (code_read l _ (sym H-here ∙ e))
  undefined_here a b F (term_defined e) = b (code_read l _ (sym H-here ∙ e))

  after_other : (l.code ≡ 91 → ⊥) → (l.code ≡ 92 → ⊥) → (l.code ≡ 30 → ⊥) → Tracked H d E
  after_other a b c =
      tracked_other G H (suc n) below G-ends H-ends d E kept (undefined_here a b) (λ e. c (code_read l (env_line empty') (sym H-here ∙ e)))

  pub tracked_next : Tracked H (latest_after d (suc n) l) (env_after E (suc n) l)
  tracked_next =
      ⊎_elim (λ e. rw e (after_type e))
      (λ a. ⊎_elim (λ e. rw e (after_term e))
      (λ b. ⊎_elim (λ e. rw e (after_empty e)) (λ c. rw (outside 91 92 l.code (omega arith), ne_eqb l.code 30 c) (after_other a b c))
      (cases_eq l.code 30)) (cases_eq l.code 92)) (cases_eq l.code 91)
