-- What is met: all that is met in reading the same items is the beginning of one list of events.
use Rattle.std.proofs.Common.{◌≡◌, ℕ, ◌⊎◌, List, [], ◌∷◌, ◌++◌, refl, ap, ◌∙◌, sym, subst, inl, inr, append_assoc}
use Rattle.lexer.specs.Items.{Item}
use Rattle.grammar.specs.Notation.{Kind, Val, Sym, Action, Row}
use Rattle.grammar.specs.Derives.{Event, Derives, done, token, begin, end, by, Meets, so_far, past_token, past_begin, past_end, inside, past_part}
use Rattle.grammar.proofs.Unique.{one_some, unique, move_items, move_row}

-- hs is a beginning of es
pub record Prefix (hs es : List Event) : Type 0 where
  pub others : List Event
  pub is : es ≡ hs ++ others

pub nothing_first : (es : List Event) → Prefix [] es
nothing_first es = record { others = es; is = refl }

pub more : {hs es : List Event} (e : Event) → Prefix hs es → Prefix (e ∷ hs) (e ∷ es)
more e p = record { others = p.others; is = ap (λ a. e ∷ a) p.is }

pub longer : {hs es : List Event} (ks : List Event) → Prefix hs es → Prefix hs (es ++ ks)
longer {hs} ks p = record { others = p.others ++ ks; is = ap (λ a. a ++ ks) p.is ∙ append_assoc hs p.others ks }

behind : {hs es : List Event} (ks : List Event) → Prefix hs es → Prefix (ks ++ hs) (ks ++ es)
behind {hs} ks p = record { others = p.others; is = ap (λ a. ks ++ a) p.is ∙ sym (append_assoc ks hs p.others) }

pub behind_same : (hs es : List Event) {ks ls : List Event} → ks ≡ ls → Prefix hs es → Prefix (ks ++ hs) (ls ++ es)
behind_same hs es {ks} {ls} e p = subst (λ a. Prefix (ks ++ hs) (a ++ es)) e (behind ks p)

either_more : {hs es : List Event} (e : Event) → Prefix hs es ⊎ Prefix es hs → Prefix (e ∷ hs) (e ∷ es) ⊎ Prefix (e ∷ es) (e ∷ hs)
either_more e (inl p) = inl (more e p)
either_more e (inr p) = inr (more e p)

either_behind : (hs es : List Event) {ks ls : List Event} → ks ≡ ls → Prefix hs es ⊎ Prefix es hs → Prefix (ks ++ hs) (ls ++ es) ⊎ Prefix (ls ++ es) (ks ++ hs)
either_behind hs es e (inl p) = inl (behind_same hs es e p)
either_behind hs es e (inr p) = inr (behind_same es hs (sym e) p)

move_met : {K : Kind} {d q : ℕ} {ρ σ : Row K} {ts : List Item} {es : List Event} → ρ ≡ σ → Meets d q ρ.symbols ts es → Meets d q σ.symbols ts es
move_met {d} {q} {ts = ts} {es} e h = subst (λ (y : Row _). Meets d q y.symbols ts es) e h

move_met_items : {d q : ℕ} {ss : List Sym} {ts us : List Item} {es : List Event} → ts ≡ us → Meets d q ss ts es → Meets d q ss us es
move_met_items {d} {q} {ss} {es = es} e h = subst (λ y. Meets d q ss y es) e h

-- what is derived is met
pub met_all : {K : Kind} {d q : ℕ} {ss : List Sym} {f : Action ss (Val K)} {ts r : List Item} {es : List Event} {v : Val K}
    → Derives K d q ss f ts es r v → Meets d q ss ts es
met_all done = so_far
met_all (token e h) = past_token e (met_all h)
met_all (begin h) = past_begin (met_all h)
met_all (end h) = past_end (met_all h)
met_all (by ρ e h k) = past_part ρ e h (met_all k)

-- what is met is met first in what is derived
pub met_first : {K : Kind} {d q : ℕ} {ss : List Sym} {f : Action ss (Val K)} {ts r : List Item} {es hs : List Event} {v : Val K}
    → Meets d q ss ts hs → Derives K d q ss f ts es r v → Prefix hs es
met_first {es = es} so_far h = nothing_first es
met_first {K} (past_token {g = g} {ss} e m) (token {f = f} e' h) = met_first m h
met_first (past_begin m) (begin h) = more _ (met_first m h)
met_first (past_end m) (end h) = more _ (met_first m h)
met_first (inside ρ e m) (by {hs = ks} ρ' e' h k) = longer ks (met_first m (move_row (one_some e e') h))
met_first (past_part ρ e h m) (by ρ' e' h' k) =
    let i = unique h (move_row (one_some e e') h') in
    behind_same _ _ i.events (met_first m (move_items (sym i.rest) k))

-- of two lists that are met, one is a beginning of the other
pub comparable : {d q : ℕ} {ss : List Sym} {ts : List Item} {es hs : List Event} → Meets d q ss ts es → Meets d q ss ts hs → Prefix es hs ⊎ Prefix hs es
comparable {hs = hs} so_far m = inl (nothing_first hs)
comparable {es = es} n so_far = inr (nothing_first es)
comparable (past_token e m) (past_token e' n) = comparable m n
comparable (past_begin m) (past_begin n) = either_more _ (comparable m n)
comparable (past_end m) (past_end n) = either_more _ (comparable m n)
comparable (inside ρ e m) (inside ρ' e' n) = comparable m (move_met (one_some e e') n)
comparable (inside ρ e m) (past_part {hs = ks} ρ' e' h n) = inl (longer ks (met_first m (move_row (one_some e e') h)))
comparable (past_part {hs = ks} ρ e h m) (inside ρ' e' n) = inr (longer ks (met_first n (move_row (one_some e' e) h)))
comparable (past_part ρ e h m) (past_part ρ' e' h' n) =
    let i = unique h (move_row (one_some e e') h') in
    either_behind _ _ i.events (comparable m (move_met_items (sym i.rest) n))
