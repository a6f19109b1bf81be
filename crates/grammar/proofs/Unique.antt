-- From the same items the grammar makes one value, meets the same events and leaves the same rest.
use Rattle.std.proofs.Common.{◌≡◌, ℕ, List, ◌∷◌, ◌++◌, Option, Some, refl, ap, ap₂, ◌∙◌, sym, subst}
use Rattle.std.proofs.lemmas.Option.{same_Some}
use Rattle.lexer.specs.Items.{Item}
use Rattle.grammar.specs.Notation.{Kind, Val, Sym, Action, apply, Row}
use Rattle.grammar.specs.Derives.{Event, began, ended, Derives, done, token, begin, end, by}

pub record Same {A : Type 0} (es es' : List Event) (r r' : List Item) (v v' : A) : Type 0 where
  pub events : es ≡ es'
  pub rest : r ≡ r'
  pub value : v ≡ v'

-- a derivation, moved to an equal action, an equal row, equal items
pub move_action : {K : Kind} {d q : ℕ} {ss : List Sym} {f g : Action ss (Val K)} {ts r : List Item} {es : List Event} {v : Val K} → f ≡ g
    → Derives K d q ss f ts es r v → Derives K d q ss g ts es r v
move_action {K} {d} {q} {ss} {f} {g} {ts} {r} {es} {v} e h = subst (λ y. Derives K d q ss y ts es r v) e h

pub move_row : {K : Kind} {d q : ℕ} {ρ σ : Row K} {ts r : List Item} {es : List Event} {v : Val K} → ρ ≡ σ
    → Derives K d q ρ.symbols ρ.action ts es r v → Derives K d q σ.symbols σ.action ts es r v
move_row {K} {d} {q} {ρ} {σ} {ts} {r} {es} {v} e h = subst (λ (y : Row K). Derives K d q y.symbols y.action ts es r v) e h

pub move_items : {K : Kind} {d q : ℕ} {ss : List Sym} {f : Action ss (Val K)} {ts us r : List Item} {es : List Event} {v : Val K} → ts ≡ us
    → Derives K d q ss f ts es r v → Derives K d q ss f us es r v
move_items {K} {d} {q} {ss} {f} {ts} {us} {r} {es} {v} e h = subst (λ y. Derives K d q ss f y es r v) e h

-- the two rows or things chosen are equal
pub one_some : {A : Type 0} {o : Option A} {x y : A} → o ≡ Some x → o ≡ Some y → y ≡ x
one_some {x = x} {y} e h = same_Some y x (sym h ∙ e)

same_began : {A : Type 0} {d q : ℕ} {es es' : List Event} {r r' : List Item} {v v' : A} → Same es es' r r' v v'
    → Same (began d q ∷ es) (began d q ∷ es') r r' v v'
same_began {d = d} {q} s = record { events = ap (λ a. began d q ∷ a) s.events; rest = s.rest; value = s.value }

same_ended : {A : Type 0} {q : ℕ} {es es' : List Event} {r r' : List Item} {v v' : A} → Same es es' r r' v v'
    → Same (ended q ∷ es) (ended q ∷ es') r r' v v'
same_ended {q = q} s = record { events = ap (λ a. ended q ∷ a) s.events; rest = s.rest; value = s.value }

same_by : {A : Type 0} {es es' hs hs' : List Event} {r r' : List Item} {v v' : A} → es ≡ es' → Same hs hs' r r' v v'
    → Same (es ++ hs) (es' ++ hs') r r' v v'
same_by e s = record { events = ap₂ (λ a b. a ++ b) e s.events; rest = s.rest; value = s.value }

pub unique : {K : Kind} {d q : ℕ} {ss : List Sym} {f : Action ss (Val K)} {ts r r' : List Item} {es es' : List Event} {v v' : Val K}
    → Derives K d q ss f ts es r v → Derives K d q ss f ts es' r' v' → Same es es' r r' v v'
unique done done = record { events = refl; rest = refl; value = refl }
unique {K} (token {g = g} {ss} {f} {x = x} e h) (token {x = x'} e' h') =
    unique h (move_action (ap (λ y. apply g ss (Val K) f y) (one_some e e')) h')
unique (begin h) (begin h') = same_began (unique h h')
unique (end h) (end h') = same_ended (unique h h')
unique (by {f = f} ρ e h k) (by ρ' e' h' k') =
    let i = unique h (move_row (one_some e e') h') in
    same_by i.events (unique k (move_action (ap f (sym i.value)) (move_items (sym i.rest) k')))
