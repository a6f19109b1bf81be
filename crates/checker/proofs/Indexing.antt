-- The index of lines: it starts empty, finds an equal line, and takes one more.
use Rattle.std.proofs.Common.{◌≡◌, ℕ, zero, suc, ◌<◌, ◌≤◌, List, [], ◌∷◌, ◌++◌, length, get_or, set, replicate, Some, sym, refl, ap, ◌∙◌, subst, ⊎_elim, arith, get_or-set_other, get_or-set_same, length-append}
use Rattle.checker.specs.Decide.{at, no_line, line_or_none}
use Rattle.checker.specs.Indexes.{slot_of, Latest, Indexed}
use Rattle.checker.proofs.SeenLines.{Contains-numbered}
use Rattle.checker.proofs.Walks.{at_get_or, numbered_some}
use Rattle.lines.specs.declared.line.Line.{Line}
use Rattle.std.proofs.lemmas.Bool.{cases_lt, cases_eq}
use Rattle.std.proofs.lemmas.List.{get_or_append_left, get_or_push, get_or-replicate, length-set, length-replicate}
use Rattle.std.proofs.lemmas.Option.{slice_get-get_or}
use Rattle.std.specs.List.{Contains}

none_latest : (lines : List Line) (size b : ℕ) (h : ℕ) → h ≡ 0 → Latest lines size b 0 h
none_latest lines size b h e = record { within = omega arith; there = λ k. absurd (let z : ⊥ = omega arith in z); latest = λ k i j _. omega arith }

pub indexed_none : (size : ℕ) (heads next : List ℕ) → heads ≡ replicate size 0 → 0 < size → next ≡ [] → Indexed [] size heads next
indexed_none size heads next e h n =
    record {
      slots = h;
      sized = ap length e ∙ length-replicate size 0;
      linked = ap length n;
      head = λ b i. none_latest [] size b (get_or heads b 0) (ap (λ x. get_or x b 0) e ∙ get_or-replicate size b 0 0 i);
      link = λ m i. absurd (let z : ⊥ = omega arith in z);
    }

-- no line after m is l, and m is in l's slot
pub record Walk (lines : List Line) (size : ℕ) (l : Line) (m : ℕ) : Type 0 where
  pub within : m ≤ length lines
  pub there : 1 ≤ m → slot_of size (at lines m) ≡ slot_of size l
  pub passed : (k : ℕ) → m < k → k ≤ length lines → at lines k ≡ l → ⊥

module _ (lines : List Line) (size : ℕ) (heads next : List ℕ) (l : Line) (x : Indexed lines size heads next) where
  pub walk_start : slot_of size l < size → Walk lines size l (get_or heads (slot_of size l) 0)
  walk_start h =
      let y = x.head (slot_of size l) h in
      record { within = y.within; there = y.there; passed = λ k i j e. y.latest k i j (ap (slot_of size) e) }

  walk_on : (m : ℕ) → Walk lines size l (suc m) → (at lines (suc m) ≡ l → ⊥) → Walk lines size l (get_or next m 0)
  walk_on m w other =
      let y = x.link m w.within in
      let same : slot_of size (at lines (suc m)) ≡ slot_of size l = w.there (omega arith) in
      let below : get_or next m 0 ≤ m = y.within in
      let upto : suc m ≤ length lines = w.within in
      record {
        within = omega arith;
        there = λ i. y.there i ∙ same;
        passed = λ k i j e.
            ⊎_elim (λ before. y.latest k i (omega arith) (ap (slot_of size) e ∙ sym same))
            (λ after. ⊎_elim (λ here. other (ap (at lines) (sym here) ∙ e)) (λ apart. w.passed k (omega arith) j e) (cases_eq k (suc m))) (cases_lt k (suc m));
      }

  -- the same as the loop has it
  pub walk_next : (m i v : ℕ) → m ≡ suc i → v ≡ get_or next i 0 → Walk lines size l m → (at lines m ≡ l → ⊥) → Walk lines size l v
  walk_next m i v e f w other =
      subst (λ u. Walk lines size l u) (sym f) (walk_on i (subst (λ u. Walk lines size l u) e w) (λ h. other (ap (at lines) e ∙ h)))

pub not_found : (lines : List Line) (size : ℕ) (l : Line) (m : ℕ) → Walk lines size l m → m ≡ 0 → Contains lines l → ⊥
not_found lines size l m w z (k, h, e) = w.passed (suc k) (omega arith) h (ap line_or_none (slice_get-get_or lines k l h ∙ ap Some e))

pub found : (lines : List Line) (m i : ℕ) (l : Line) → m ≡ suc i → m ≤ length lines → at lines m ≡ l → Contains lines l
found lines m i l e h f =
    Contains-numbered lines l (suc i) (numbered_some lines i (omega arith) ∙ ap Some (ap (at lines) (sym e) ∙ f))

at_front : (lines : List Line) (l : Line) (k : ℕ) → k ≤ length lines → at (lines ++ l ∷ []) k ≡ at lines k
at_front lines l zero h = refl
at_front lines l (suc k) h =
    at_get_or (lines ++ l ∷ []) k (omega (arith, length-append lines (l ∷ []))) ∙ get_or_append_left lines (l ∷ []) no_line k h ∙ sym (at_get_or lines k h)

at_last : (lines : List Line) (l : Line) → at (lines ++ l ∷ []) (suc (length lines)) ≡ l
at_last lines l = at_get_or (lines ++ l ∷ []) (length lines) (omega (arith, length-append lines (l ∷ []))) ∙ get_or_push lines l no_line (length lines) refl

module _ (lines : List Line) (size : ℕ) (heads next : List ℕ) (x : Indexed lines size heads next) (l : Line) where
  abbrev pub n : ℕ
  n = length lines

  abbrev pub more : List Line
  more = lines ++ l ∷ []

  longer : (b m h : ℕ) → m ≤ n → Latest lines size b m h → Latest more size b m h
  longer b m h upto y =
      let below : h ≤ m = y.within in
      record {
        within = y.within;
        there = λ i. ap (slot_of size) (at_front lines l h (omega arith)) ∙ y.there i;
        latest = λ k i j e. y.latest k i j (ap (slot_of size) (sym (at_front lines l k (omega arith))) ∙ e);
      }

  new_head : (b h : ℕ) → Latest more size b n h → (slot_of size l ≡ b → ⊥) → Latest more size b (suc n) h
  new_head b h y other =
      let upto : h ≤ n = y.within in
      record {
        within = omega arith;
        there = y.there;
        latest = λ k i j e. ⊎_elim (λ here. other (ap (slot_of size) (sym (ap (at more) here ∙ at_last lines l)) ∙ e)) (λ apart. y.latest k i (omega arith) e) (cases_eq k (suc n));
      }

  -- l becomes the latest of its slot, and the one before it follows it
  pub indexed_add : (b v : ℕ) → b ≡ slot_of size l → b < size → v ≡ get_or heads b 0 → Indexed more size (set heads b (suc n)) (next ++ v ∷ [])
  indexed_add b v e hb ev =
      record {
        slots = x.slots;
        sized = length-set heads b (suc n) ∙ x.sized;
        linked = omega (arith, length-append next (v ∷ []), length-append lines (l ∷ []), x.linked);
        head = λ c h. subst (λ k. Latest more size c k (get_or (set heads b (suc n)) c 0)) (sym counted)
            (⊎_elim (λ here. at_slot c here) (λ apart. elsewhere c h apart) (cases_eq c b));
        link = λ m h. ⊎_elim (λ here. at_line m here) (λ apart. before m (omega (arith, counted)) apart) (cases_eq m n);
      }
    where
      counted : length more ≡ suc n
      counted = omega (arith, length-append lines (l ∷ []))

      at_slot : (c : ℕ) → c ≡ b → Latest more size c (suc n) (get_or (set heads b (suc n)) c 0)
      at_slot c here =
          let inside : b < length heads = omega (arith, x.sized) in
          let g : get_or (set heads b (suc n)) c 0 ≡ suc n = ap (λ i. get_or (set heads b (suc n)) i 0) here ∙ get_or-set_same heads b (suc n) 0 inside in
          record {
            within = omega arith;
            there = λ i. ap (λ m. slot_of size (at more m)) g ∙ ap (slot_of size) (at_last lines l) ∙ sym e ∙ sym here;
            latest = λ k i j _. omega arith;
          }

      elsewhere : (c : ℕ) → c < size → (c ≡ b → ⊥) → Latest more size c (suc n) (get_or (set heads b (suc n)) c 0)
      elsewhere c h apart =
          subst (λ v. Latest more size c (suc n) v) (sym (get_or-set_other heads b c (suc n) 0 apart))
          (new_head c (get_or heads c 0) (longer c n (get_or heads c 0) (omega arith) (x.head c h)) (λ s. apart (sym s ∙ sym e)))

      at_line : (m : ℕ) → m ≡ n → Latest more size (slot_of size (at more (suc m))) m (get_or (next ++ v ∷ []) m 0)
      at_line m here =
          subst (λ i. Latest more size (slot_of size (at more (suc i))) i (get_or (next ++ v ∷ []) i 0)) (sym here)
          (subst (λ w. Latest more size (slot_of size (at more (suc n))) n w) (sym (get_or_push next v 0 n x.linked ∙ ev))
          (subst (λ c. Latest more size c n (get_or heads b 0)) (e ∙ ap (slot_of size) (sym (at_last lines l))) (longer b n (get_or heads b 0) (omega arith) (x.head b hb))))

      before : (m : ℕ) → m < suc n → (m ≡ n → ⊥) → Latest more size (slot_of size (at more (suc m))) m (get_or (next ++ v ∷ []) m 0)
      before m h apart =
          let less : m < n = omega arith in
          subst (λ w. Latest more size (slot_of size (at more (suc m))) m w) (sym (get_or_append_left next (v ∷ []) 0 m (omega (arith, x.linked))))
          (subst (λ c. Latest more size c m (get_or next m 0)) (ap (slot_of size) (sym (at_front lines l (suc m) less))) (longer _ m (get_or next m 0) (omega arith) (x.link m less)))
