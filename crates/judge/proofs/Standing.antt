-- A standing line that is used again says what is sought.
use Rattle.std.proofs.Common.{◌≡◌, ℕ, zero, suc, ◌+◌, Bool, true, false, cond, List, [], ◌∷◌, Some, None, Option, refl, ap, sym, ◌∙◌, subst, arith}
use Rattle.std.specs.List.{slice_get}
use Rattle.lines.specs.declared.line.Line.{Line}
use Rattle.rules.specs.Quantifiers.{Rule}
use Rattle.rules.specs.Statements.{s_var, Statement, raising, putting, bound_line, typing_line, env_judged, type_judged, sub_judged, statement, Get}
use Rattle.rules.proofs.Whole.{◌⊑◌, line_said}
use Rattle.rules.proofs.Writing.{Listing, gets}
use Rattle.judge.specs.Goals.{Goal, seek_raising, seek_putting, seek_bound, seek_typing, seek_env, seek_type, seek_sub, seek_var, seek_term, exposing, Plan}
use Rattle.judge.specs.Plans.{plan}
use Rattle.judge.specs.Seeking.{Limits, State, Outcome, refused, goals_full, number_passed, established, used_again, result, serves, result_of, standing, byte_at, fits, use_or_seek, seek}
use Rattle.judge.proofs.Sought.{Sought, Means, means_raising, means_putting, means_bound, means_typing, means_env, means_type, means_sub, means_var, means_term, means_subsumed, Holds, Answers, Knows}
use Rattle.judge.proofs.Valid.{Valid, PostOf, post_placed, post_paid, Answered, Sound_seeking, runs, state_of, grown_same, grows_on}
use Rattle.std.proofs.lemmas.Bool.{and_parts, eqb-true, false≢true}

used_says : (G : Get) (g : Goal) (s : Statement) (n : ℕ) → used_again g s ≡ true → G n ≡ Some s → Answers G g n (result s)
used_says G (seek_raising A j) (raising B i C p q) n u e =
    let (a, b) = and_parts _ _ u in
    let h = eqb-true A B a in let k = eqb-true j i b in
    (p, q, e ∙ ap (λ x. Some (raising x i C p q)) (sym h) ∙ ap (λ x. Some (raising A x C p q)) (sym k))
used_says G (seek_putting B j A) (putting C i D E p q r) n u e =
    let (x, c) = and_parts _ _ u in
    let (a, b) = and_parts _ _ x in
    let h = eqb-true B C a in let k = eqb-true j i b in let l = eqb-true A D c in (
      p,
      q,
      r,
      e ∙ ap (λ x. Some (putting x i D E p q r)) (sym h) ∙ ap (λ x. Some (putting B x D E p q r)) (sym k)
          ∙ ap (λ x. Some (putting B j x E p q r)) (sym l),
    )
used_says G (seek_bound E k) (bound_line F i B p q) n u e =
    let (a, b) = and_parts _ _ u in
    let h = eqb-true E F a in let l = eqb-true k i b in
    (p, q, e ∙ ap (λ x. Some (bound_line x i B p q)) (sym h) ∙ ap (λ x. Some (bound_line E x B p q)) (sym l))
used_says G (seek_typing E k) (typing_line F i A p q) n u e =
    let (a, b) = and_parts _ _ u in
    let h = eqb-true E F a in let l = eqb-true k i b in
    (p, q, e ∙ ap (λ x. Some (typing_line x i A p q)) (sym h) ∙ ap (λ x. Some (typing_line E x A p q)) (sym l))
used_says G (seek_env E) (env_judged F p) n u e = (p, e ∙ ap (λ x. Some (env_judged x p)) (sym (eqb-true E F u)))
used_says G (seek_type E A) (type_judged F B p q) n u e =
    let (a, b) = and_parts _ _ u in
    let h = eqb-true E F a in let l = eqb-true A B b in
    (p, q, e ∙ ap (λ x. Some (type_judged x B p q)) (sym h) ∙ ap (λ x. Some (type_judged E x p q)) (sym l))
used_says G (seek_sub E A B) (sub_judged s F C D p q) n u e =
    let (x, c) = and_parts _ _ u in
    let (a, b) = and_parts _ _ x in
    let h = eqb-true E F a in let k = eqb-true A C b in let l = eqb-true B D c in (
      s,
      p,
      q,
      e ∙ ap (λ x. Some (sub_judged s x C D p q)) (sym h) ∙ ap (λ x. Some (sub_judged s E x D p q)) (sym k)
          ∙ ap (λ x. Some (sub_judged s E A x p q)) (sym l),
    )
used_says G (seek_var E A) (sub_judged s_var F C D p q) n u e =
    let (a, b) = and_parts _ _ u in
    let h = eqb-true E F a in let k = eqb-true A C b in
    (p, q, e ∙ ap (λ x. Some (sub_judged s_var x C D p q)) (sym h) ∙ ap (λ x. Some (sub_judged s_var E x D p q)) (sym k))
used_says G g other n u e = absurd (false≢true u)

-- nothing else need be known of it
used_knows : (R : Rule) (G : Get) (g : Goal) (w : Sought) (s : Statement) (r : ℕ) → Means G g w → used_again g s ≡ true → Knows R G w r
used_knows R G g w s r (means_raising a) u = tt
used_knows R G g w s r (means_putting l b a) u = tt
used_knows R G g w s r (means_bound e) u = tt
used_knows R G g w s r (means_typing e) u = tt
used_knows R G g w s r (means_env e) u = tt
used_knows R G g w s r (means_type e a) u = tt
used_knows R G g w s r (means_sub e a b) u = tt
used_knows R G g w s r (means_var e a) u = tt
used_knows R G g w s r (means_term e a) u = absurd (false≢true u)
used_knows R G g w s r (means_subsumed e a b x y) u = tt

pub record Serves (g : Goal) (n : ℕ) (lines : List Line) (k r : ℕ) : Type 0 where
  pub place : ℕ
  pub line : Line
  pub says : Statement
  pub number : k ≡ n + place
  pub stands : slice_get lines place ≡ Some line
  pub said : statement line ≡ Some says
  pub used : used_again g says ≡ true
  pub answer : r ≡ result says

abbrev pub StandingAt : Goal → ℕ → List Line → Option (ℕ × ℕ) → Type 0
StandingAt g n lines None = Unit {0}
StandingAt g n lines (Some found) = Serves g n lines found.0 found.1

pub standing_found : (g : Goal) (n : ℕ) (lines : List Line) → StandingAt g n lines (standing g n lines)
standing_found g n [] = tt
standing_found g n (l ∷ lines) = go (statement l) refl (standing_found g (suc n) lines)
  where
    later : (o : Option (ℕ × ℕ)) → StandingAt g (suc n) lines o → StandingAt g n (l ∷ lines) o
    later None x = tt
    later (Some found) x =
        record {
          place = suc x.place;
          line = x.line;
          says = x.says;
          number = omega (arith, x.number);
          stands = x.stands;
          said = x.said;
          used = x.used;
          answer = x.answer;
        }

    here : (s : Statement) → statement l ≡ Some s → (b : Bool) → used_again g s ≡ b → StandingAt g (suc n) lines (standing g (suc n) lines)
        → StandingAt g n (l ∷ lines) (cond b (Some (n, result s)) (standing g (suc n) lines))
    here s e true u x =
        record {
          place = 0;
          line = l;
          says = s;
          number = omega arith;
          stands = refl;
          said = e;
          used = u;
          answer = refl;
        }
    here s e false u x = later _ x

    go : (o : Option Statement) → statement l ≡ o → StandingAt g (suc n) lines (standing g (suc n) lines)
        → StandingAt g n (l ∷ lines) (cond (serves g o) (Some (n, result_of o)) (standing g (suc n) lines))
    go None e x = later _ x
    go (Some s) e x = here s e (used_again g s) refl x

pub standing_answers : {R : Rule} (L : Listing R) (g : Goal) (w : Sought) (found : ℕ × ℕ) → Means (gets L) g w → StandingAt g 1 L.lines (Some found)
    → Answered R g w L found.0 found.1
standing_answers {R} L g w found m x =
    let at : suc x.place ≡ found.0 = omega (arith, x.number) in
    let e = line_said L.lines (suc x.place) x.line x.says x.stands x.said in
    let says =
    subst (Answers (gets L) g found.0) (sym x.answer)
    (used_says (gets L) g x.says found.0 x.used (subst (λ n. gets L n ≡ Some x.says) at e)) in
    (says, used_knows R (gets L) g w x.says found.1 m x.used)

-- and is no term's
pub standing_byte : (g : Goal) (s : Statement) → used_again g s ≡ true → byte_at g ≡ None
standing_byte (seek_term E a) s u = absurd (false≢true u)
standing_byte (exposing most E a p T) s u = absurd (false≢true u)
standing_byte other s u = refl

-- goals are sought soundly with any limits and places, where their plans are valid

abbrev pub ValidFor : (R : Rule) → Goal → Sought → Plan → Listing R → Type 0
ValidFor R g w p L = Valid R (Answered R g w) (Holds R w → ⊥) p L

abbrev pub Valid_plans : Rule → Type 0
Valid_plans R = (g : Goal) (w : Sought) (L : Listing R) → Means (gets L) g w → ValidFor R g w (plan R (gets L) g) L

module _ (R : Rule) (l : Limits) (plans : Valid_plans R) where
  use_or_seek_sound : (seeks : State → Goal → Outcome) → Sound_seeking R seeks → (g : Goal) (w : Sought) (L : Listing R) (steps : ℕ)
      → Means (gets L) g w → (o : Option (ℕ × ℕ)) → StandingAt g 1 L.lines o
      → PostOf R (Answered R g w) (Holds R w → ⊥) L.lines (use_or_seek R l seeks (state_of L steps) g o)
  use_or_seek_sound seeks sound g w L steps m None x = runs R l seeks sound (λ L M. gets L ⊑ gets M) (λ L M grows. grows_on grows) (Answered R g w) (Holds R w → ⊥) (plan R (gets L) g) L steps (plans g w L m)
  use_or_seek_sound seeks sound g w L steps m (Some found) x =
      post_paid R (Answered R g w) (Holds R w → ⊥) l L steps (λ t. established found.0 found.1 t)
      (λ more. (L.sound, grown_same L.lines found.0, standing_answers L g w found m x))

  pub seek_sound : (places : ℕ) → Sound_seeking R (λ s g. seek R l places s g)
  seek_sound zero g w L steps m = go (fits g)
    where
      go : (b : Bool)
          → PostOf R (Answered R g w) (Holds R w → ⊥) L.lines (cond b (refused goals_full None steps) (refused number_passed None steps))
      go true = tt
      go false = tt
  seek_sound (suc places) g w L steps m =
      go (fits g) _
      (post_placed R (Answered R g w) (Holds R w → ⊥) (byte_at g) L.lines _
      (use_or_seek_sound (λ s h. seek R l places s h) (seek_sound places) g w L steps m (standing g 1 L.lines) (standing_found g 1 L.lines)))
    where
      go : (b : Bool) (o : Outcome) → PostOf R (Answered R g w) (Holds R w → ⊥) L.lines o
          → PostOf R (Answered R g w) (Holds R w → ⊥) L.lines (cond b o (refused number_passed None steps))
      go true o x = x
      go false o x = tt
