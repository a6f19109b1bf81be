-- As far as the items were followed they begin a phrase, and what was met is met first in it.
use Rattle.std.proofs.Common.{◌≡◌, ℕ, Bool, true, false, T, ◌⊎◌, inl, inr, ⊎_elim, List, [], ◌∷◌, ◌++◌, Some, Ok, refl, ap, sym, subst, subst₂, ◌∙◌, append_assoc, append-nil}
use Rattle.lexer.specs.Items.{Item}
use Rattle.lexer.specs.declared.token.Token.{Token}
use Rattle.syntax.specs.Named.{NamedPhrase}
use Rattle.grammar.specs.Notation.{Kind, phrase, Mode, on, Guard, Given, taken, takes, Sym, one, begins, whole, part, Row}
use Rattle.grammar.specs.Grammar.{rows, other}
use Rattle.grammar.specs.Derives.{choose, under, from, Event, began, ended, Meets, so_far, past_token, past_begin, past_end, inside, past_part, Spells}
use Rattle.grammar.proofs.Matches.{Matches, m_done, m_token, m_begin, m_end, m_by, forget, makes}
use Rattle.grammar.proofs.Table.{both, sample, Calm, optional, eats, tail, neat, open_ended, all_rows, row_is, row_neat, eats_or_skips, Skips}
use Rattle.grammar.proofs.Moves.{Some_item, item_first, item_behind, Keeps, same_next, calm_next, Used, same_first, moved, used}
use Rattle.grammar.proofs.Fills.{least, filler, calm_filler, fill, fill_phrase}

-- The symbols are followed so far: these events are met, and `rest` is still to come.
pub data Follows : (d q : ℕ) → List Sym → (items : List Item) → List Event → (rest : List Item) → Type 0 where
  here : {d q : ℕ} {ss : List Sym} {ts : List Item} → Follows d q ss ts [] ts
  f_token : {d q : ℕ} {g : Guard} {ss : List Sym} {t : Token} {x : Given g} {ts r : List Item} {es : List Event} → taken g t ≡ Some x
      → Follows d q ss ts es r → Follows d q (one g ∷ ss) (Ok t ∷ ts) es r
  f_begin : {d q : ℕ} {ss : List Sym} {ts r : List Item} {es : List Event} → Follows d q ss ts es r
      → Follows d q (begins ∷ ss) ts (began d q ∷ es) r
  f_end : {d q : ℕ} {ss : List Sym} {ts r : List Item} {es : List Event} → Follows d q ss ts es r
      → Follows d q (whole ∷ ss) ts (ended q ∷ es) r
  f_in : {d q : ℕ} {m : Mode} {M : Kind} {ss : List Sym} {ts r : List Item} {es : List Event} (ρ : Row M) → choose M ts ≡ Some ρ
      → Follows (under m d) (from m q ts) ρ.symbols ts es r → Follows d q (part m M ∷ ss) ts es r
  f_behind : {d q : ℕ} {m : Mode} {M : Kind} {ss : List Sym} {ts s r : List Item} {es hs : List Event} (ρ : Row M) → choose M ts ≡ Some ρ
      → Matches (under m d) (from m q ts) ρ.symbols ts es s → Follows d q ss s hs r → Follows d q (part m M ∷ ss) ts (es ++ hs) r

-- what is met is met in following the symbols
pub followed : {d q : ℕ} {ss : List Sym} {ts : List Item} {es : List Event} → Meets d q ss ts es → (r : List Item) × Follows d q ss ts es r
followed {ts = ts} so_far = (ts, here)
followed (past_token e h) = let k = followed h in (k.0, f_token e k.1)
followed (past_begin h) = let k = followed h in (k.0, f_begin k.1)
followed (past_end h) = let k = followed h in (k.0, f_end k.1)
followed (inside ρ e h) = let k = followed h in (k.0, f_in ρ e k.1)
followed (past_part ρ e h m) = let k = followed m in (k.0, f_behind ρ e (forget h) k.1)

to_the_end : {d q : ℕ} {ss : List Sym} {ts r : List Item} {es : List Event} → Matches d q ss ts es r → Follows d q ss ts es r
to_the_end m_done = here
to_the_end (m_token e h) = f_token e (to_the_end h)
to_the_end (m_begin h) = f_begin (to_the_end h)
to_the_end (m_end h) = f_end (to_the_end h)
to_the_end (m_by ρ e h k) = f_behind ρ e h (to_the_end k)

-- nothing is met before an item is used
abbrev late : List Sym → Bool
late [] = true
late (one g ∷ ss) = true
late (begins ∷ ss) = false
late (whole ∷ ss) = false
late (part m M ∷ ss) = late ss

all_late : (M : Kind) → T (all_rows late (rows M) (other M))
all_late phrase = tt
all_late M = tt

row_late : {M : Kind} {ρ : Row M} (ts : List Item) → choose M ts ≡ Some ρ → T (late ρ.symbols)
row_late {M} ts e = row_is late ts (all_late M) e

-- after the items and some others the symbols match, meet the events first and then others
pub record Onwards (b : Bool) (d q : ℕ) (ss : List Sym) (items : List Item) (es : List Event) (r : List Item) : Type 0 where
  pub others : List Item
  pub later : List Event
  pub matched : Matches d q ss (items ++ (others ++ r)) (es ++ later) r
  pub calm : T (tail b ss) → Some_item items ⊎ Calm (others ++ r)

pub record Begun (b : Bool) (d q : ℕ) (ss : List Sym) (ts : List Item) (es : List Event) (rest : List Item) : Type 0 where
  pub items : List Item
  pub is : ts ≡ items ++ rest
  pub goes_on : (r : List Item) → (T b → Calm r) → Onwards b d q ss items es r
  pub some_item : T (late ss) → Some_item items ⊎ (es ≡ [])

onwards_here : (b : Bool) {d q : ℕ} (ss : List Sym) → T (neat b ss) → (r : List Item) → (T b → Calm r) → Onwards b d q ss [] [] r
onwards_here b {d} {q} ss n r c =
    let h = fill b {d = d} {q = q} ss r n c in
    record { others = filler ss; later = h.0; matched = h.1; calm = λ t. inr (calm_filler b ss r t c) }

module _ (b : Bool) (d q : ℕ) (m : Mode) {M : Kind} (ss : List Sym) {ρ : Row M} {ts : List Item} where
  begun_in : {es : List Event} {s : List Item} → choose M ts ≡ Some ρ → T (neat b (part m M ∷ ss))
      → Begun (open_ended M) (under m d) (from m q ts) ρ.symbols ts es s → Begun b d q (part m M ∷ ss) ts es s
  begun_in {es} {s} e n k = record {
    items = k.items;
    is = k.is;
    goes_on = goes_on k.items k.is k.goes_on (k.some_item (row_late ts e));
    some_item = λ _. k.some_item (row_late ts e);
  }
    where
      ns : T (tail b ss) × T (neat b ss)
      ns = both (tail b ss) (neat b ss) n

      goes_on : (p : List Item) → ts ≡ p ++ s
          → ((r : List Item) → (T (open_ended M) → Calm r) → Onwards (open_ended M) (under m d) (from m q ts) ρ.symbols p es r)
          → Some_item p ⊎ (es ≡ [])
          → (r : List Item) → (T b → Calm r) → Onwards b d q (part m M ∷ ss) p es r
      goes_on [] is h (inl x) r c = elim x [ ]
      goes_on [] is h (inr x) r c = subst (λ es. Onwards b d q (part m M ∷ ss) [] es r) (sym x) (onwards_here b (part m M ∷ ss) n r c)
      goes_on (j ∷ p) is h x r c =
          let o = h (filler ss ++ r) (λ _. calm_filler b ss r ns.0 c) in
          let y = fill b {d = d} {q = q} ss r ns.1 c in
          let z = same_first m d q j (p ++ s) (p ++ (o.others ++ (filler ss ++ r))) e is o.matched in
          record {
            others = o.others ++ filler ss;
            later = o.later ++ y.0;
            matched =
                subst (λ a. Matches d q (part m M ∷ ss) (j ∷ p ++ a) (es ++ (o.later ++ y.0)) r) (sym (append_assoc o.others (filler ss) r))
                (subst (λ a. Matches d q (part m M ∷ ss) (j ∷ p ++ (o.others ++ (filler ss ++ r))) a r) (append_assoc es o.later y.0)
                (m_by ρ z.chosen z.matched y.1));
            calm = λ _. inl tt;
          }

no_events : {d q : ℕ} {ss : List Sym} {ts r : List Item} {es : List Event} → ss ≡ [] → Matches d q ss ts es r → es ≡ []
no_events {d} {q} {ss} {ts} {r} {es} e h = go (subst (λ ss. Matches d q ss ts es r) e h)
  where
    go : {ts r : List Item} {es : List Event} → Matches d q [] ts es r → es ≡ []
    go m_done = refl

keeps_or_calm : (p us s : List Item) {ts : List Item} → ts ≡ p ++ s → Some_item p ⊎ Calm us → Keeps ts (p ++ us)
keeps_or_calm [] us s e (inl x) = elim x [ ]
keeps_or_calm [] us s e (inr c) = calm_next c
keeps_or_calm (i ∷ p) us s e x = subst (λ a. Keeps a (i ∷ p ++ us)) (sym e) same_next

module _ (b : Bool) (d q : ℕ) (m : Mode) {M : Kind} (ss : List Sym) {ρ : Row M} {ts s r : List Item} {es hs : List Event} where
  begun_behind : choose M ts ≡ Some ρ → T (neat b (part m M ∷ ss)) → Matches (under m d) (from m q ts) ρ.symbols ts es s → Begun b d q ss s hs r
      → Begun b d q (part m M ∷ ss) ts (es ++ hs) r
  begun_behind e n h k = record {
    items = u.items ++ k.items;
    is = u.is ∙ ap (λ a. u.items ++ a) k.is ∙ sym (append_assoc u.items k.items r);
    goes_on = goes_on;
    some_item = λ x. some (k.some_item x) (eats_or_skips ts e);
  }
    where
      u : Used (under m d) (from m q ts) ρ.symbols ts es s
      u = used h

      goes_on : (a : List Item) → (T b → Calm a) → Onwards b d q (part m M ∷ ss) (u.items ++ k.items) (es ++ hs) a
      goes_on z c =
          let o = k.goes_on z c in
          let y = moved m d q e u (keeps_or_calm k.items (o.others ++ z) r k.is (o.calm (both (tail b ss) (neat b ss) n).0)) in
          record {
            others = o.others;
            later = o.later;
            matched =
                subst (λ a. Matches d q (part m M ∷ ss) ((u.items ++ k.items) ++ (o.others ++ z)) a z) (sym (append_assoc es hs o.later))
                (subst (λ a. Matches d q (part m M ∷ ss) a (es ++ (hs ++ o.later)) z) (sym (append_assoc u.items k.items (o.others ++ z)))
                (m_by ρ y.chosen y.matched o.matched));
            calm = λ t. ⊎_elim (λ x. inl (item_behind u.items k.items x)) inr (o.calm (both (optional M) (tail b ss) t).1);
          }

      some : Some_item k.items ⊎ (hs ≡ []) → T (eats ρ.symbols) ⊎ Skips ρ → Some_item (u.items ++ k.items) ⊎ (es ++ hs ≡ [])
      some x (inl y) = inl (item_first u.items k.items (u.some_item y))
      some (inl x) (inr y) = inl (item_behind u.items k.items x)
      some (inr x) (inr y) = inr (ap (λ a. a ++ hs) (no_events y.is_nothing h) ∙ x)

pub begun : (b : Bool) {d q : ℕ} {ss : List Sym} {ts r : List Item} {es : List Event} → Follows d q ss ts es r → T (neat b ss)
    → Begun b d q ss ts es r
begun b {ss = ss} here n = record { items = []; is = refl; goes_on = onwards_here b ss n; some_item = λ _. inr refl }
begun b (f_token {g = g} {ss} {t} e h) n =
    let k = begun b h (both (takes g (sample g)) (neat b ss) n).1 in
    record {
      items = Ok t ∷ k.items;
      is = ap (λ a. Ok t ∷ a) k.is;
      goes_on = λ r c. let o = k.goes_on r c in record { others = o.others; later = o.later; matched = m_token e o.matched; calm = λ _. inl tt };
      some_item = λ _. inl tt;
    }
begun b (f_begin h) n =
    let k = begun b h n in
    record {
      items = k.items;
      is = k.is;
      goes_on = λ r c. let o = k.goes_on r c in record { others = o.others; later = o.later; matched = m_begin o.matched; calm = o.calm };
      some_item = λ x. absurd x;
    }
begun b (f_end h) n =
    let k = begun b h n in
    record {
      items = k.items;
      is = k.is;
      goes_on = λ r c. let o = k.goes_on r c in record { others = o.others; later = o.later; matched = m_end o.matched; calm = o.calm };
      some_item = λ x. absurd x;
    }
begun b {d} {q} (f_in {m = m} {ss = ss} {ts} ρ e h) n = begun_in b d q m ss e n (begun (open_ended _) h (row_neat ts e))
begun b {d} {q} (f_behind {m = m} {ss = ss} ρ e h k) n = begun_behind b d q m ss e n h (begun b k (both (tail b ss) (neat b ss) n).1)

-- the items up to this rest are the beginning of a phrase, which meets the events first
pub record InPhrase (items : List Item) (es : List Event) (rest : List Item) : Type 0 where
  pub first : List Item
  pub others : List Item
  pub later : List Event
  pub made : NamedPhrase
  pub is : items ≡ first ++ rest
  pub spelled : Spells (first ++ others) (es ++ later) made

in_least : (items : List Item) → InPhrase items [] items
in_least items =
    let f = fill_phrase [] in
    let h = makes (m_by {d = 0} {q = 0} {m = on} f.row f.chosen (f.matched 0 0).1 m_done) phrase (λ p. p) in
    record { first = []; others = least phrase; later = (f.matched 0 0).0 ++ []; made = h.0; is = refl; spelled = h.1 }

in_row : {items rest : List Item} {es : List Event} (ρ : Row phrase) → choose phrase items ≡ Some ρ → Follows 0 0 ρ.symbols items es rest
    → InPhrase items es rest
in_row {items} {rest} {es} ρ e m = go k.items k.is (k.goes_on [] (λ n. absurd n)) (k.some_item (row_late items e))
  where
    k : Begun false 0 0 ρ.symbols items es rest
    k = begun false m (row_neat items e)

    go : (u : List Item) → items ≡ u ++ rest → Onwards false 0 0 ρ.symbols u es [] → Some_item u ⊎ (es ≡ []) → InPhrase items es rest
    go [] is o (inl x) = elim x [ ]
    go [] is o (inr x) = subst₂ (λ es rest. InPhrase items es rest) (sym x) is (in_least items)
    go (j ∷ u) is o x =
        let c = same_first on 0 0 j (u ++ rest) (u ++ (o.others ++ [])) e is o.matched in
        let h = makes (m_by {d = 0} {q = 0} {m = on} ρ c.chosen c.matched m_done) phrase (λ p. p) in
        record {
          first = j ∷ u;
          others = o.others ++ [];
          later = o.later ++ [];
          made = h.0;
          is = is;
          spelled = subst (λ a. Spells (j ∷ u ++ (o.others ++ [])) a h.0) (append_assoc es o.later []) h.1;
        }

-- As far as a phrase is followed, it is one.
pub in_phrase : {items rest : List Item} {es : List Event} → Follows 0 0 (part on phrase ∷ []) items es rest → InPhrase items es rest
in_phrase {items} here = in_least items
in_phrase (f_in ρ e h) = in_row ρ e h
in_phrase {items} {rest} (f_behind {es = es} ρ e h here) = subst (λ a. InPhrase items a rest) (sym (append-nil es)) (in_row ρ e (to_the_end h))
