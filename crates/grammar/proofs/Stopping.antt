-- Where reading stops nothing that fits the limits is derived, and it stops with one fault.
use Rattle.std.proofs.Common.{◌≡◌, ℕ, suc, ◌<◌, ◌≤◌, List, [], ◌∷◌, ◌++◌, Option, Some, None, refl, ap, ◌∙◌, sym, subst, arith}
use Rattle.std.proofs.lemmas.Option.{none-some}
use Rattle.lexer.specs.Items.{Item}
use Rattle.grammar.specs.Notation.{Kind, Val, Sym, Action, Row}
use Rattle.grammar.specs.Derives.{choose, Event, began, ended, Derives, done, token, begin, end, by}
use Rattle.grammar.specs.Reading.{Limits, count, Within}
use Rattle.grammar.specs.Steps.{ReadsPart, Stops, no_token, no_row, too_deep, tree_full, after_token, after_begin, after_end, in_part, after_part}
use Rattle.grammar.specs.declared.fault.SyntaxFault.{SyntaxFault}
use Rattle.grammar.proofs.Unique.{one_some, unique, move_row}

pub within_first : (l : Limits) (c : ℕ) (es hs : List Event) → Within l c (es ++ hs) → Within l c es
within_first l c [] hs w = tt
within_first l c (began d q ∷ es) hs w = (w.0, within_first l c es hs w.1)
within_first l c (ended q ∷ es) hs w = (w.0, within_first l (suc c) es hs w.1)

pub within_last : (l : Limits) (c : ℕ) (es hs : List Event) → Within l c (es ++ hs) → Within l (count c es) hs
within_last l c [] hs w = w
within_last l c (began d q ∷ es) hs w = within_last l c es hs w.1
within_last l c (ended q ∷ es) hs w = within_last l (suc c) es hs w.1

pub none_chosen : {A B : Type 0} {o : Option A} {x : A} → o ≡ Some x → o ≡ None → B
none_chosen {x = x} e h = absurd (none-some x (sym h ∙ e))

pub too_many : {A : Type 0} {m n : ℕ} → m < n → n ≤ m → A
too_many h k = absurd (omega (arith, h, k))

pub move_stops : {K : Kind} {l : Limits} {d c q : ℕ} {ρ σ : Row K} {ts : List Item} {e : SyntaxFault} → ρ ≡ σ → Stops l d c q ρ.symbols ts e
    → Stops l d c q σ.symbols ts e
move_stops {K} {l} {d} {c} {q} {ts = ts} {e} p h = subst (λ (y : Row K). Stops l d c q y.symbols ts e) p h

pub move_stops_items : {l : Limits} {d c q : ℕ} {ss : List Sym} {ts us : List Item} {e : SyntaxFault} → ts ≡ us → Stops l d c q ss ts e → Stops l d c q ss us e
move_stops_items {l} {d} {c} {q} {ss} {e = e} p h = subst (λ y. Stops l d c q ss y e) p h

pub move_stops_count : {l : Limits} {d c n q : ℕ} {ss : List Sym} {ts : List Item} {e : SyntaxFault} → c ≡ n → Stops l d c q ss ts e → Stops l d n q ss ts e
move_stops_count {l} {d} {q = q} {ss} {ts} {e} p h = subst (λ y. Stops l d y q ss ts e) p h

pub excludes : {K : Kind} {l : Limits} {d c q : ℕ} {ss : List Sym} {f : Action ss (Val K)} {ts r : List Item} {es : List Event} {v : Val K} {e : SyntaxFault}
    → Derives K d q ss f ts es r v → Within l c es → Stops l d c q ss ts e → ⊥
excludes done w s = elim s [ ]
excludes (token {x = x} e h) w (no_token n p) = n (x, e)
excludes (token e h) w (after_token e' s) = excludes h w s
excludes (begin h) w (too_deep le) = too_many w.0 le
excludes (begin h) w (after_begin lt s) = excludes h w.1 s
excludes (end h) w (tree_full le) = too_many w.0 le
excludes (end h) w (after_end lt s) = excludes h w.1 s
excludes (by ρ e h k) w (no_row n p) = none_chosen e n
excludes {l = l} {c = c} (by {es = es} {hs} ρ e h k) w (in_part ρ' e' s) =
    excludes h (within_first l c es hs w) (move_stops (one_some e e') s)
excludes {l = l} {d = d} {c} {q} (by {es = es} {hs} ρ e h k) w (after_part p s) =
    let x = p.reads in
    let i = unique h (move_row (one_some e p.chosen) x.derived) in
    excludes k (within_last l c es hs w) (move_stops_items (sym i.rest) (move_stops_count (sym x.counted ∙ ap (λ a. count c a) (sym i.events)) s))

pub excludes_part : {K : Kind} {l : Limits} {d c q n : ℕ} {ts r : List Item} {v : Val K} {ρ : Row K} {e : SyntaxFault} → choose K ts ≡ Some ρ
    → ReadsPart l K d c q ts r n v → Stops l d c q ρ.symbols ts e → ⊥
excludes_part e p s = excludes p.reads.derived p.reads.within (move_stops (one_some p.chosen e) s)

pub one_stop : {l : Limits} {d c q : ℕ} {ss : List Sym} {ts : List Item} {e e' : SyntaxFault} → Stops l d c q ss ts e → Stops l d c q ss ts e' → e ≡ e'
one_stop (no_token n p) (no_token n' p') = sym p ∙ p'
one_stop (no_token n p) (after_token {x = x} e s) = absurd (n (x, e))
one_stop (after_token {x = x} e s) (no_token n p) = absurd (n (x, e))
one_stop (after_token e s) (after_token e' s') = one_stop s s'
one_stop (too_deep le) (too_deep le') = refl
one_stop (too_deep le) (after_begin lt s) = too_many lt le
one_stop (after_begin lt s) (too_deep le) = too_many lt le
one_stop (after_begin lt s) (after_begin lt' s') = one_stop s s'
one_stop (tree_full le) (tree_full le') = refl
one_stop (tree_full le) (after_end lt s) = too_many lt le
one_stop (after_end lt s) (tree_full le) = too_many lt le
one_stop (after_end lt s) (after_end lt' s') = one_stop s s'
one_stop (no_row n p) (no_row n' p') = sym p ∙ p'
one_stop (no_row n p) (in_part ρ e s) = none_chosen e n
one_stop (no_row n p) (after_part r s) = none_chosen r.chosen n
one_stop (in_part ρ e s) (no_row n p) = none_chosen e n
one_stop (in_part ρ e s) (in_part ρ' e' s') = one_stop s (move_stops (one_some e e') s')
one_stop (in_part ρ e s) (after_part r s') = absurd (excludes_part e r s)
one_stop (after_part r s) (no_row n p) = none_chosen r.chosen n
one_stop (after_part r s) (in_part ρ e s') = absurd (excludes_part e r s')
one_stop {c = c} (after_part r s) (after_part r' s') =
    let x = r.reads in
    let y = r'.reads in
    let i = unique x.derived (move_row (one_some r.chosen r'.chosen) y.derived) in
    one_stop s (move_stops_items (sym i.rest) (move_stops_count (sym y.counted ∙ ap (λ a. count c a) (sym i.events) ∙ x.counted) s'))
