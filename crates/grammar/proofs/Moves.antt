-- What matches some items matches the same items where something else stands behind them.
use Rattle.std.proofs.Common.{◌≡◌, ℕ, Bool, true, false, not, ◌||◌, T, ◌⊎◌, inl, inr, List, [], ◌∷◌, ◌++◌, Some, Ok, Err, refl, ap, sym, subst, ◌∙◌, append_assoc}
use Rattle.lexer.specs.Items.{Item}
use Rattle.grammar.specs.Notation.{Kind, Mode, on, own, inner, Sym, part, Row}
use Rattle.grammar.specs.Derives.{choose, under, from, Event}
use Rattle.grammar.proofs.Matches.{Matches, m_done, m_token, m_begin, m_end, m_by}
use Rattle.grammar.proofs.Table.{Calm, optional, eats, eats_or_skips, Skips}

-- the same item stands next, or one that continues no part
pub data Keeps : List Item → List Item → Type 0 where
  same_next : {i : Item} {ts us : List Item} → Keeps (i ∷ ts) (i ∷ us)
  calm_next : {ts us : List Item} → Calm us → Keeps ts us

pub keeps_behind : (p : List Item) {r us s : List Item} → s ≡ p ++ r → Keeps r us → Keeps s (p ++ us)
keeps_behind [] {r} {us} e k = subst (λ a. Keeps a us) (sym e) k
keeps_behind (i ∷ p) {us = us} e k = subst (λ a. Keeps a (i ∷ p ++ us)) (sym e) same_next

-- The next item alone decides.
pub choose_next : (M : Kind) (i : Item) (ts us : List Item) → choose M (i ∷ ts) ≡ choose M (i ∷ us)
choose_next M (Ok t) ts us = refl
choose_next M (Err f) ts us = refl

pub from_next : (m : Mode) (q : ℕ) (i : Item) (ts us : List Item) → from m q (i ∷ ts) ≡ from m q (i ∷ us)
from_next on q i ts us = refl
from_next own q (Ok t) ts us = refl
from_next own q (Err f) ts us = refl
from_next inner q (Ok t) ts us = refl
from_next inner q (Err f) ts us = refl

abbrev pub Some_item : List Item → Type 0
Some_item [] = ⊥
Some_item (i ∷ ts) = Unit {0}

pub item_first : (p s : List Item) → Some_item p → Some_item (p ++ s)
item_first [] s h = absurd h
item_first (i ∷ p) s h = tt

pub item_behind : (p s : List Item) → Some_item s → Some_item (p ++ s)
item_behind [] s h = h
item_behind (i ∷ p) s h = tt

-- the row is chosen, and matches
pub record Chosen (m : Mode) (d q : ℕ) {M : Kind} (ρ : Row M) (ts : List Item) (es : List Event) (s : List Item) : Type 0 where
  pub chosen : choose M ts ≡ Some ρ
  pub matched : Matches (under m d) (from m q ts) ρ.symbols ts es s

-- the items that are used, and that they can be used before another rest
pub record Used (d q : ℕ) (ss : List Sym) (ts : List Item) (es : List Event) (r : List Item) : Type 0 where
  pub items : List Item
  pub is : ts ≡ items ++ r
  pub some_item : T (eats ss) → Some_item items
  pub moves : (us : List Item) → Keeps r us → Matches d q ss (items ++ us) es us

module _ (m : Mode) (d q : ℕ) {M : Kind} {ρ : Row M} {ts : List Item} where
  pub same_first : (i : Item) (us vs : List Item) {es : List Event} {s : List Item} → choose M ts ≡ Some ρ → ts ≡ i ∷ us
      → Matches (under m d) (from m q ts) ρ.symbols (i ∷ vs) es s → Chosen m d q ρ (i ∷ vs) es s
  same_first i us vs {es} {s} e is h = record {
    chosen = choose_next M i vs us ∙ ap (choose M) (sym is) ∙ e;
    matched = subst (λ b. Matches (under m d) b ρ.symbols (i ∷ vs) es s) (ap (from m q) is ∙ from_next m q i us vs) h;
  }

same_nothing : {d q b c : ℕ} {ss : List Sym} {ts r : List Item} {es : List Event} → ss ≡ [] → Matches d q ss ts es r → Matches b c ss ts es r
same_nothing {d} {q} {b} {c} {ss} {ts} {r} {es} e h =
    subst (λ ss. Matches b c ss ts es r) (sym e) (go (subst (λ ss. Matches d q ss ts es r) e h))
  where
    go : {ts r : List Item} {es : List Event} → Matches d q [] ts es r → Matches b c [] ts es r
    go m_done = m_done

module _ (m : Mode) (d q : ℕ) {M : Kind} {ρ : Row M} {ts : List Item} where
  moved_from : (p : List Item) {s us : List Item} {es : List Event} → choose M ts ≡ Some ρ → ts ≡ p ++ s → (T (eats ρ.symbols) → Some_item p)
      → Matches (under m d) (from m q ts) ρ.symbols (p ++ us) es us → Keeps s us → Chosen m d q ρ (p ++ us) es us
  moved_from (i ∷ p) {s} {us} e is some h k = same_first m d q i (p ++ s) (p ++ us) e is h
  moved_from [] e is some h (same_next {i = i} {ts = xs} {us = ys}) = same_first m d q i xs ys e is h
  moved_from [] {us = us} {es} e is some h (calm_next c) = go (eats_or_skips ts e)
    where
      go : T (eats ρ.symbols) ⊎ Skips ρ → Chosen m d q ρ us es us
      go (inl h) = absurd (some h)
      go (inr skips) = record { chosen = skips.stays us c; matched = same_nothing skips.is_nothing h }

  pub moved : {s us : List Item} {es : List Event} → choose M ts ≡ Some ρ → (u : Used (under m d) (from m q ts) ρ.symbols ts es s) → Keeps s us
      → Chosen m d q ρ (u.items ++ us) es us
  moved {s} {us} e u k = moved_from u.items e u.is u.some_item (u.moves us k) k

where_optional : (o b : Bool) → T o → T (not o || b) → T b
where_optional true b h k = k
where_optional false b h k = absurd h

pub used : {d q : ℕ} {ss : List Sym} {ts r : List Item} {es : List Event} → Matches d q ss ts es r → Used d q ss ts es r
used m_done = record { items = []; is = refl; some_item = λ h. h; moves = λ us k. m_done }
used (m_token {t = t} e h) =
    let u = used h in
    record { items = Ok t ∷ u.items; is = ap (λ a. Ok t ∷ a) u.is; some_item = λ _. tt; moves = λ us k. m_token e (u.moves us k) }
used (m_begin h) = let u = used h in record { items = u.items; is = u.is; some_item = u.some_item; moves = λ us k. m_begin (u.moves us k) }
used (m_end h) = let u = used h in record { items = u.items; is = u.is; some_item = u.some_item; moves = λ us k. m_end (u.moves us k) }
used {d} {q} (m_by {m = m} {M} {ss} {ts} {s} {r} {es} {hs} ρ e h k) =
    let u = used h in
    let v = used k in
    record {
      items = u.items ++ v.items;
      is = u.is ∙ ap (λ a. u.items ++ a) v.is ∙ sym (append_assoc u.items v.items r);
      some_item = λ x. some u v x;
      moves = λ us keeps.
          let c = moved m d q e u (keeps_behind v.items v.is keeps) in
          subst (λ a. Matches d q (part m M ∷ ss) a (es ++ hs) us) (sym (append_assoc u.items v.items us)) (m_by ρ c.chosen c.matched (v.moves us keeps));
    }
  where
    some : (u : Used (under m d) (from m q ts) ρ.symbols ts es s) (v : Used d q ss s hs r) → T (eats (part m M ∷ ss))
        → Some_item (u.items ++ v.items)
    some u v x = go (eats_or_skips ts e)
      where
        go : T (eats ρ.symbols) ⊎ Skips ρ → Some_item (u.items ++ v.items)
        go (inl h) = item_first u.items v.items (u.some_item h)
        go (inr skips) = item_behind u.items v.items (v.some_item (where_optional (optional M) (eats ss) skips.skipped x))
