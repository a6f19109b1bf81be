-- The symbols match the items up to a rest: a derivation without what it makes.
use Rattle.std.proofs.Common.{◌≡◌, ℕ, List, [], ◌∷◌, ◌++◌, Some, Ok}
use Rattle.lexer.specs.Items.{Item}
use Rattle.lexer.specs.declared.token.Token.{Token}
use Rattle.grammar.specs.Notation.{Kind, Val, Mode, Guard, Given, taken, Sym, one, begins, whole, part, Action, apply, Row}
use Rattle.grammar.specs.Derives.{choose, under, from, Event, began, ended, Derives, done, token, begin, end, by}

pub data Matches : (d q : ℕ) → List Sym → (items : List Item) → List Event → (rest : List Item) → Type 0 where
  m_done : {d q : ℕ} {ts : List Item} → Matches d q [] ts [] ts
  m_token : {d q : ℕ} {g : Guard} {ss : List Sym} {t : Token} {x : Given g} {ts r : List Item} {es : List Event} → taken g t ≡ Some x
      → Matches d q ss ts es r → Matches d q (one g ∷ ss) (Ok t ∷ ts) es r
  m_begin : {d q : ℕ} {ss : List Sym} {ts r : List Item} {es : List Event} → Matches d q ss ts es r
      → Matches d q (begins ∷ ss) ts (began d q ∷ es) r
  m_end : {d q : ℕ} {ss : List Sym} {ts r : List Item} {es : List Event} → Matches d q ss ts es r
      → Matches d q (whole ∷ ss) ts (ended q ∷ es) r
  m_by : {d q : ℕ} {m : Mode} {M : Kind} {ss : List Sym} {ts s r : List Item} {es hs : List Event} (ρ : Row M) → choose M ts ≡ Some ρ
      → Matches (under m d) (from m q ts) ρ.symbols ts es s → Matches d q ss s hs r → Matches d q (part m M ∷ ss) ts (es ++ hs) r

pub forget : {K : Kind} {d q : ℕ} {ss : List Sym} {f : Action ss (Val K)} {ts r : List Item} {es : List Event} {v : Val K}
    → Derives K d q ss f ts es r v → Matches d q ss ts es r
forget done = m_done
forget (token e h) = m_token e (forget h)
forget (begin h) = m_begin (forget h)
forget (end h) = m_end (forget h)
forget (by ρ e h k) = m_by ρ e (forget h) (forget k)

-- whatever is to be made of the things, something is made
pub makes : {d q : ℕ} {ss : List Sym} {ts r : List Item} {es : List Event} → Matches d q ss ts es r → (K : Kind) (f : Action ss (Val K))
    → (v : Val K) × Derives K d q ss f ts es r v
makes m_done K f = (f, done)
makes (m_token {g = g} {ss} {x = x} e h) K f = let k = makes h K (apply g ss (Val K) f x) in (k.0, token e k.1)
makes (m_begin h) K f = let k = makes h K f in (k.0, begin k.1)
makes (m_end h) K f = let k = makes h K f in (k.0, end k.1)
makes (m_by {M = M} ρ e h k) K f = let i = makes h M ρ.action in let j = makes k K (f i.0) in (j.0, by ρ e i.1 j.1)
