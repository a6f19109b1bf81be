-- Where no row goes on, whatever the limits are.
use Rattle.std.proofs.Common.{◌≡◌, ℕ, List, [], ◌∷◌, ◌++◌, Some, None, Ok, refl, ap, sym, subst, ◌∙◌, append_assoc}
use Rattle.lexer.specs.Items.{Item}
use Rattle.lexer.specs.declared.token.Token.{Token}
use Rattle.grammar.specs.Notation.{Kind, Mode, Guard, Given, taken, Sym, one, begins, whole, part, Row}
use Rattle.grammar.specs.Derives.{choose, under, from, Event, began, ended}
use Rattle.grammar.specs.Steps.{Takes}
use Rattle.grammar.proofs.Matches.{Matches}
use Rattle.grammar.proofs.Moves.{same_next, keeps_behind, choose_next, from_next, moved, used}
use Rattle.grammar.proofs.Follows.{Follows, here, f_token, f_begin, f_end, f_in, f_behind}

-- Reading the symbols meets these events and is stuck at i, with v behind it.
pub data Stuck : (d q : ℕ) → List Sym → (items : List Item) → List Event → (i : Item) (v : List Item) → Type 0 where
  at_token : {d q : ℕ} {g : Guard} {ss : List Sym} {i : Item} {v : List Item} → (Takes g i → ⊥) → Stuck d q (one g ∷ ss) (i ∷ v) [] i v
  at_part : {d q : ℕ} {m : Mode} {M : Kind} {ss : List Sym} {i : Item} {v : List Item} → choose M (i ∷ v) ≡ None
      → Stuck d q (part m M ∷ ss) (i ∷ v) [] i v
  behind_token : {d q : ℕ} {g : Guard} {ss : List Sym} {t : Token} {x : Given g} {ts : List Item} {es : List Event} {i : Item} {v : List Item}
      → taken g t ≡ Some x → Stuck d q ss ts es i v → Stuck d q (one g ∷ ss) (Ok t ∷ ts) es i v
  behind_begin : {d q : ℕ} {ss : List Sym} {ts : List Item} {es : List Event} {i : Item} {v : List Item} → Stuck d q ss ts es i v
      → Stuck d q (begins ∷ ss) ts (began d q ∷ es) i v
  behind_end : {d q : ℕ} {ss : List Sym} {ts : List Item} {es : List Event} {i : Item} {v : List Item} → Stuck d q ss ts es i v
      → Stuck d q (whole ∷ ss) ts (ended q ∷ es) i v
  within_part : {d q : ℕ} {m : Mode} {M : Kind} {ss : List Sym} {ts : List Item} {es : List Event} {i : Item} {v : List Item} (ρ : Row M)
      → choose M ts ≡ Some ρ → Stuck (under m d) (from m q ts) ρ.symbols ts es i v → Stuck d q (part m M ∷ ss) ts es i v
  behind_part : {d q : ℕ} {m : Mode} {M : Kind} {ss : List Sym} {ts s : List Item} {es hs : List Event} {i : Item} {v : List Item} (ρ : Row M)
      → choose M ts ≡ Some ρ → Matches (under m d) (from m q ts) ρ.symbols ts es s → Stuck d q ss s hs i v
      → Stuck d q (part m M ∷ ss) ts (es ++ hs) i v

pub stuck_follows : {d q : ℕ} {ss : List Sym} {ts : List Item} {es : List Event} {i : Item} {v : List Item} → Stuck d q ss ts es i v
    → Follows d q ss ts es (i ∷ v)
stuck_follows (at_token n) = here
stuck_follows (at_part n) = here
stuck_follows (behind_token e h) = f_token e (stuck_follows h)
stuck_follows (behind_begin h) = f_begin (stuck_follows h)
stuck_follows (behind_end h) = f_end (stuck_follows h)
stuck_follows (within_part ρ e h) = f_in ρ e (stuck_follows h)
stuck_follows (behind_part ρ e h k) = f_behind ρ e h (stuck_follows k)

-- Reading is stuck likewise whatever stands behind i.
pub record Again (d q : ℕ) (ss : List Sym) (ts : List Item) (i : Item) (v : List Item) : Type 0 where
  pub items : List Item
  pub is : ts ≡ items ++ i ∷ v
  pub stuck : (us : List Item) → (es : List Event) × Stuck d q ss (items ++ i ∷ us) es i us

again_in : (m : Mode) (d q : ℕ) {M : Kind} (ss : List Sym) {ρ : Row M} {ts : List Item} (p : List Item) (i : Item) (v us : List Item) {es : List Event}
    → choose M ts ≡ Some ρ → ts ≡ p ++ i ∷ v → Stuck (under m d) (from m q ts) ρ.symbols (p ++ i ∷ us) es i us
    → Stuck d q (part m M ∷ ss) (p ++ i ∷ us) es i us
again_in m d q {M} ss {ρ} {ts} p i v us {es} e is h = go p is h
  where
    first : (j : Item) (vs ws : List Item) → ts ≡ j ∷ vs → Stuck (under m d) (from m q ts) ρ.symbols (j ∷ ws) es i us
        → Stuck d q (part m M ∷ ss) (j ∷ ws) es i us
    first j vs ws is h = within_part ρ (choose_next M j ws vs ∙ ap (choose M) (sym is) ∙ e)
        (subst (λ a. Stuck (under m d) a ρ.symbols (j ∷ ws) es i us) (ap (from m q) is ∙ from_next m q j vs ws) h)

    go : (p : List Item) → ts ≡ p ++ i ∷ v → Stuck (under m d) (from m q ts) ρ.symbols (p ++ i ∷ us) es i us
        → Stuck d q (part m M ∷ ss) (p ++ i ∷ us) es i us
    go [] is h = first i v us is h
    go (j ∷ p) is h = first j (p ++ i ∷ v) (p ++ i ∷ us) is h

pub again : {d q : ℕ} {ss : List Sym} {ts : List Item} {es : List Event} {i : Item} {v : List Item} → Stuck d q ss ts es i v → Again d q ss ts i v
again (at_token n) = record { items = []; is = refl; stuck = λ us. ([], at_token n) }
again (at_part {M = M} {i = i} {v} n) = record { items = []; is = refl; stuck = λ us. ([], at_part (choose_next M i us v ∙ n)) }
again (behind_token {t = t} e h) =
    let k = again h in
    record { items = Ok t ∷ k.items; is = ap (λ a. Ok t ∷ a) k.is; stuck = λ us. let j = k.stuck us in (j.0, behind_token e j.1) }
again (behind_begin {d} {q} h) =
    let k = again h in record { items = k.items; is = k.is; stuck = λ us. let j = k.stuck us in (began d q ∷ j.0, behind_begin j.1) }
again (behind_end {d} {q} h) =
    let k = again h in record { items = k.items; is = k.is; stuck = λ us. let j = k.stuck us in (ended q ∷ j.0, behind_end j.1) }
again {d} {q} (within_part {m = m} {ss = ss} {i = i} {v} ρ e h) =
    let k = again h in
    record { items = k.items; is = k.is; stuck = λ us. let j = k.stuck us in (j.0, again_in m d q ss k.items i v us e k.is j.1) }
again {d} {q} (behind_part {m = m} {M} {ss} {es = es} {i = i} {v} ρ e h k) =
    let u = used h in
    let j = again k in
    record {
      items = u.items ++ j.items;
      is = u.is ∙ ap (λ a. u.items ++ a) j.is ∙ sym (append_assoc u.items j.items (i ∷ v));
      stuck = λ us.
          let x = j.stuck us in
          let z = moved m d q e u (keeps_behind j.items j.is (same_next {i = i} {ts = v} {us = us})) in (
            es ++ x.0,
            subst (λ a. Stuck d q (part m M ∷ ss) a (es ++ x.0) i us) (sym (append_assoc u.items j.items (i ∷ us)))
                (behind_part ρ z.chosen z.matched x.1),
          );
    }
