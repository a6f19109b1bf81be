-- Where reading stops: it is stuck at an item, or an event is the first beyond the limits.
use Rattle.std.proofs.Common.{◌≡◌, ℕ, suc, List, [], ◌∷◌, ◌++◌, Some, Ok, Err, refl, ap, sym, subst, ◌∙◌, append_assoc}
use Rattle.std.proofs.lemmas.List.{append_cancel_right}
use Rattle.lexer.specs.Items.{Item}
use Rattle.grammar.specs.Notation.{Kind, Val, Mode, Sym, one, begins, whole, Row, phrase, on, part}
use Rattle.grammar.specs.Derives.{choose, under, from, Event, began, ended, Meets, so_far, past_token, past_begin, past_end, inside, past_part}
use Rattle.grammar.specs.Reading.{Limits, count, Fits, Within, FirstWrong, FirstBeyond, Answered}
use Rattle.grammar.specs.Steps.{ReadsPart, not_allowed, Stops, no_token, no_row, too_deep, tree_full, after_token, after_begin, after_end, in_part, after_part}
use Rattle.grammar.specs.declared.fault.SyntaxFault.{SyntaxFault}
use Rattle.grammar.proofs.ToWritten.{spells_written}
use Rattle.grammar.proofs.FromWritten.{written_spells}
use Rattle.grammar.proofs.Unique.{one_some, unique}
use Rattle.grammar.proofs.Events.{Prefix, nothing_first, more, longer, behind_same, met_first}
use Rattle.grammar.proofs.Steps.{count_append, within_append}
use Rattle.grammar.proofs.Stopping.{within_first, none_chosen, too_many}
use Rattle.grammar.proofs.OneAnswer.{fault_of, answered_wrong, answered_beyond}
use Rattle.grammar.proofs.Matches.{Matches, m_token, m_begin, m_end, m_by, forget, makes}
use Rattle.grammar.proofs.Follows.{Follows, followed, InPhrase, in_phrase}
use Rattle.grammar.proofs.Stuck.{Stuck, at_token, at_part, behind_token, behind_begin, behind_end, within_part, behind_part, stuck_follows, again}

move_matched : {M : Kind} {d q : ℕ} {ρ σ : Row M} {ts r : List Item} {es : List Event} → ρ ≡ σ → Matches d q ρ.symbols ts es r → Matches d q σ.symbols ts es r
move_matched {M} {d} {q} {ts = ts} {r} {es} e h = subst (λ (y : Row M). Matches d q y.symbols ts es r) e h

move_matched_items : {d q : ℕ} {ss : List Sym} {ts us r : List Item} {es : List Event} → ts ≡ us → Matches d q ss ts es r → Matches d q ss us es r
move_matched_items {d} {q} {ss} {r = r} {es} e h = subst (λ y. Matches d q ss y es r) e h

-- a part that is chosen from the same items matches in one way
one_part : {M : Kind} {d q : ℕ} {ρ σ : Row M} {ts r s : List Item} {es hs : List Event} → choose M ts ≡ Some ρ → choose M ts ≡ Some σ
    → Matches d q ρ.symbols ts es r → Matches d q σ.symbols ts hs s → (es ≡ hs) × (r ≡ s)
one_part {M} {ρ = ρ} e e' h h' =
    let u = unique (makes h M ρ.action).1 (makes (move_matched (one_some e e') h') M ρ.action).1 in
    (u.events, u.rest)

-- where reading is stuck the symbols match nothing
pub never : {d q : ℕ} {ss : List Sym} {ts r : List Item} {es hs : List Event} {i : Item} {v : List Item} → Stuck d q ss ts es i v
    → Matches d q ss ts hs r → ⊥
never (at_token n) (m_token {x = x} e h) = n (x, e)
never (at_part n) (m_by ρ e h k) = none_chosen e n
never (behind_token e s) (m_token e' h) = never s h
never (behind_begin s) (m_begin h) = never s h
never (behind_end s) (m_end h) = never s h
never (within_part ρ e s) (m_by ρ' e' h k) = never s (move_matched (one_some e e') h)
never (behind_part ρ e x s) (m_by ρ' e' h k) = never s (move_matched_items (sym (one_part e e' x h).1) k)

move_stuck : {M : Kind} {d q : ℕ} {ρ σ : Row M} {ts : List Item} {es : List Event} {i : Item} {v : List Item} → ρ ≡ σ → Stuck d q ρ.symbols ts es i v
    → Stuck d q σ.symbols ts es i v
move_stuck {M} {d} {q} {ts = ts} {es} {i} {v} e h = subst (λ (y : Row M). Stuck d q y.symbols ts es i v) e h

move_stuck_items : {d q : ℕ} {ss : List Sym} {ts us : List Item} {es : List Event} {i : Item} {v : List Item} → ts ≡ us → Stuck d q ss ts es i v
    → Stuck d q ss us es i v
move_stuck_items {d} {q} {ss} {es = es} {i} {v} e h = subst (λ y. Stuck d q ss y es i v) e h

-- what is met is met first where reading is stuck
pub met_stuck : {d q : ℕ} {ss : List Sym} {ts : List Item} {es hs : List Event} {i : Item} {v : List Item} → Meets d q ss ts hs
    → Stuck d q ss ts es i v → Prefix hs es
met_stuck {es = es} so_far s = nothing_first es
met_stuck (past_token {x = x} e m) (at_token n) = absurd (n (x, e))
met_stuck (past_token e m) (behind_token e' s) = met_stuck m s
met_stuck (past_begin m) (behind_begin s) = more _ (met_stuck m s)
met_stuck (past_end m) (behind_end s) = more _ (met_stuck m s)
met_stuck (inside ρ e m) (at_part n) = none_chosen e n
met_stuck (inside ρ e m) (within_part ρ' e' s) = met_stuck m (move_stuck (one_some e e') s)
met_stuck (inside {M = M} ρ e m) (behind_part {hs = ks} ρ' e' h s) =
    longer ks (met_first m (makes (move_matched (one_some e e') h) M ρ.action).1)
met_stuck (past_part ρ e h m) (at_part n) = none_chosen e n
met_stuck (past_part ρ e h m) (within_part ρ' e' s) = absurd (never s (move_matched (one_some e' e) (forget h)))
met_stuck (past_part ρ e h m) (behind_part ρ' e' h' s) =
    let u = one_part e e' (forget h) h' in
    behind_same _ _ u.0 (met_stuck m (move_stuck_items (sym u.1) s))

-- why reading stops
pub data Why (l : Limits) (d c q : ℕ) (ss : List Sym) (ts : List Item) (e : SyntaxFault) : Type 0 where
  not_allowed_here : (es : List Event) (i : Item) (v : List Item) → Stuck d q ss ts es i v → Within l c es → not_allowed i ≡ e → Why l d c q ss ts e
  beyond_here : (es : List Event) (x : Event) → Meets d q ss ts (es ++ x ∷ []) → Within l c es → (Fits l (count c es) x → ⊥) → fault_of x ≡ e
      → Why l d c q ss ts e

module _ (l : Limits) (d c n q : ℕ) (m : Mode) (M : Kind) (ss : List Sym) (ts s : List Item) {u : Val M} (e : SyntaxFault)
    (r : ReadsPart l M (under m d) c (from m q ts) ts s n u) where
  why_behind_part : Why l d n q ss s e → Why l d c q (part m M ∷ ss) ts e
  why_behind_part (not_allowed_here es i v x w p) =
      not_allowed_here (r.reads.events ++ es) i v (behind_part r.row r.chosen (forget r.reads.derived) x)
      (within_append l c r.reads.events es r.reads.within (subst (λ a. Within l a es) (sym r.reads.counted) w)) p
  why_behind_part (beyond_here es x h w f p) =
      beyond_here (r.reads.events ++ es) x
      (subst (λ a. Meets d q (part m M ∷ ss) ts a) (sym (append_assoc r.reads.events es (x ∷ []))) (past_part r.row r.chosen r.reads.derived h))
      (within_append l c r.reads.events es r.reads.within (subst (λ a. Within l a es) (sym r.reads.counted) w))
      (λ k. f (subst (λ a. Fits l a x) (count_append c r.reads.events es ∙ ap (λ a. count a es) r.reads.counted) k))
      p

pub why : {l : Limits} {d c q : ℕ} {ss : List Sym} {ts : List Item} {e : SyntaxFault} → Stops l d c q ss ts e → Why l d c q ss ts e
why (no_token {i = i} {ts = ts} h p) = not_allowed_here [] i ts (at_token h) tt p
why (no_row {i = i} {ts = ts} h p) = not_allowed_here [] i ts (at_part h) tt p
why (too_deep {d} {c} {q} le) = beyond_here [] (began d q) (past_begin so_far) tt (λ lt. too_many lt le) refl
why (tree_full {d} {c} {q} le) = beyond_here [] (ended q) (past_end so_far) tt (λ lt. too_many lt le) refl
why {l} (after_token {d} {c} {q} {g} {ss} {t} {ts = ts} {e} h s) = go (why s)
  where
    go : Why l d c q ss ts e → Why l d c q (one g ∷ ss) (Ok t ∷ ts) e
    go (not_allowed_here es i v x w p) = not_allowed_here es i v (behind_token h x) w p
    go (beyond_here es x m w f p) = beyond_here es x (past_token h m) w f p
why {l} (after_begin {d} {c} {q} {ss} {ts} {e} h s) = go (why s)
  where
    go : Why l d c q ss ts e → Why l d c q (begins ∷ ss) ts e
    go (not_allowed_here es i v x w p) = not_allowed_here (began d q ∷ es) i v (behind_begin x) (h, w) p
    go (beyond_here es x m w f p) = beyond_here (began d q ∷ es) x (past_begin m) (h, w) f p
why {l} (after_end {d} {c} {q} {ss} {ts} {e} h s) = go (why s)
  where
    go : Why l d (suc c) q ss ts e → Why l d c q (whole ∷ ss) ts e
    go (not_allowed_here es i v x w p) = not_allowed_here (ended q ∷ es) i v (behind_end x) (h, w) p
    go (beyond_here es x m w f p) = beyond_here (ended q ∷ es) x (past_end m) (h, w) f p
why {l} (in_part {d} {c} {q} {m} {M} {ss} {ts} {e} ρ h s) = go (why s)
  where
    go : Why l (under m d) c (from m q ts) ρ.symbols ts e → Why l d c q (part m M ∷ ss) ts e
    go (not_allowed_here es i v x w p) = not_allowed_here es i v (within_part ρ h x) w p
    go (beyond_here es x k w f p) = beyond_here es x (inside ρ h k) w f p
why {l} (after_part {d} {c} {q} {n} {m} {M} {ss} {ts} {s} {e} r k) = why_behind_part l d c n q m M ss ts s e r (why k)

-- a phrase

-- What was used begins a phrase, and with the item where reading is stuck it begins none.
pub first_wrong : {items : List Item} {es : List Event} {i : Item} {v : List Item} → Stuck 0 0 (part on phrase ∷ []) items es i v → FirstWrong items i
first_wrong {i = i} {v} s =
    let p = in_phrase (stuck_follows s) in
    let k = again s in
    let same : k.items ≡ p.first = append_cancel_right k.items p.first (i ∷ v) (sym k.is ∙ p.is) in (
      p.first,
      v,
      p.is,
      (p.others, p.made, spells_written p.spelled),
      λ x. never (k.stuck x.0).1 (move_matched_items (append_assoc p.first (i ∷ []) x.0 ∙ ap (λ a. a ++ i ∷ x.0) (sym same)) (forget (written_spells x.2).1)),
    )

-- where reading the phrase stops, its fault is the answer
pub stopped : (l : Limits) (items : List Item) {e : SyntaxFault} → Stops l 0 0 0 (part on phrase ∷ []) items e → Answered l items (Err e)
stopped l items {e} s = go (why s)
  where
    go : Why l 0 0 0 (part on phrase ∷ []) items e → Answered l items (Err e)
    go (not_allowed_here es i v x w p) =
        subst (λ a. Answered l items (Err a)) p (answered_wrong l items i (first_wrong x) (λ hs m.
        let k = met_stuck m x in within_first l 0 hs k.others (subst (Within l 0) k.is w)))
    go (beyond_here es x m w n p) = subst (λ a. Answered l items (Err a)) p (answered_beyond l items x (es, m, w, n))

-- The first event beyond the limits is met in a phrase that begins as the items do.
pub beyond_in_phrase : {l : Limits} {items : List Item} {e : Event} → FirstBeyond l items e
    → (es : List Event) × (rest : List Item) × Follows 0 0 (part on phrase ∷ []) items (es ++ e ∷ []) rest × InPhrase items (es ++ e ∷ []) rest
beyond_in_phrase x = let k = followed x.1 in (x.0, k.0, k.1, in_phrase k.1)
