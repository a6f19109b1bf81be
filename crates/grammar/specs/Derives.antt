-- What the grammar derives from a list of items, and what is met on the way.
use Rattle.std.specs.Prelude.{◌≡◌, ℕ, suc, List, [], ◌∷◌, ◌++◌, Option, Some, None, Ok, Err, if◌then◌else◌}
use Rattle.lexer.specs.Items.{Item}
use Rattle.lexer.specs.declared.token.Token.{Token}
use Rattle.syntax.specs.Named.{NamedPhrase}
use Rattle.grammar.specs.Notation.{Kind, phrase, Val, Mode, on, own, inner, Guard, Given, taken, takes, Sym, one, begins, whole, part, Action, apply, Row, row, Entry}
use Rattle.grammar.specs.Grammar.{rows, other}

-- the first of the entries that the token begins, else ρ
abbrev pub pick : {K : Kind} → List (Entry K) → Token → Option (Row K) → Option (Row K)
pick [] t ρ = ρ
pick (e ∷ es) t ρ = if takes e.first t then Some (row (one e.first ∷ e.others) e.action) else pick es t ρ

-- The row of a kind that the next item decides. No row takes an item that is no token.
abbrev pub choose : (K : Kind) → List Item → Option (Row K)
choose K [] = None
choose K (Err f ∷ ts) = None
choose K (Ok t ∷ ts) = pick (rows K) t (other K)

-- the depth of a part
abbrev pub under : Mode → ℕ → ℕ
under on d = d
under own d = d
under inner d = suc d

abbrev pub next_byte : ℕ → List Item → ℕ
next_byte q [] = q
next_byte q (Err f ∷ ts) = q
next_byte q (Ok t ∷ ts) = t.byte

-- the first byte of a part
abbrev pub from : Mode → ℕ → List Item → ℕ
from on q ts = q
from own q ts = next_byte q ts
from inner q ts = next_byte q ts

-- What is met in reading, each with its first byte: a type or term begins, inside `depth` others; a thing is whole.
pub data Event : Type 0 where
  began : (depth byte : ℕ) → Event
  ended : (byte : ℕ) → Event

-- At depth d and with first byte q the symbols are read off the items, to make a value for kind K. The events are met in this order, `rest` is
-- left, and `value` is made.
pub data Derives : (K : Kind) (d q : ℕ) (ss : List Sym) → Action ss (Val K) → (items : List Item) → List Event → (rest : List Item)
    → (value : Val K) → Type 0 where
  done : {K : Kind} {d q : ℕ} {ts : List Item} {v : Val K} → Derives K d q [] v ts [] ts v
  token : {K : Kind} {d q : ℕ} {g : Guard} {ss : List Sym} {f : Action (one g ∷ ss) (Val K)} {t : Token} {x : Given g} {ts r : List Item}
      {es : List Event} {v : Val K} → taken g t ≡ Some x
      → Derives K d q ss (apply g ss (Val K) f x) ts es r v → Derives K d q (one g ∷ ss) f (Ok t ∷ ts) es r v
  begin : {K : Kind} {d q : ℕ} {ss : List Sym} {f : Action ss (Val K)} {ts r : List Item} {es : List Event} {v : Val K}
      → Derives K d q ss f ts es r v → Derives K d q (begins ∷ ss) f ts (began d q ∷ es) r v
  end : {K : Kind} {d q : ℕ} {ss : List Sym} {f : Action ss (Val K)} {ts r : List Item} {es : List Event} {v : Val K}
      → Derives K d q ss f ts es r v → Derives K d q (whole ∷ ss) f ts (ended q ∷ es) r v
  by : {K M : Kind} {d q : ℕ} {m : Mode} {ss : List Sym} {f : Val M → Action ss (Val K)} {ts s r : List Item} {es hs : List Event} {u : Val M}
      {v : Val K} (ρ : Row M) → choose M ts ≡ Some ρ → Derives M (under m d) (from m q ts) ρ.symbols ρ.action ts es s u
      → Derives K d q ss (f u) s hs r v → Derives K d q (part m M ∷ ss) f ts (es ++ hs) r v

-- the items are read as the phrase p by the rows, and these events are met
abbrev pub Spells : List Item → List Event → NamedPhrase → Type 0
Spells items es p = Derives phrase 0 0 (part on phrase ∷ []) (λ p. p) items es [] p

-- Following the symbols from the items, whatever stands further on, meets these events first, in this order.
pub data Meets : (d q : ℕ) → List Sym → (items : List Item) → List Event → Type 0 where
  so_far : {d q : ℕ} {ss : List Sym} {ts : List Item} → Meets d q ss ts []
  past_token : {d q : ℕ} {g : Guard} {ss : List Sym} {t : Token} {x : Given g} {ts : List Item} {es : List Event} → taken g t ≡ Some x
      → Meets d q ss ts es → Meets d q (one g ∷ ss) (Ok t ∷ ts) es
  past_begin : {d q : ℕ} {ss : List Sym} {ts : List Item} {es : List Event} → Meets d q ss ts es → Meets d q (begins ∷ ss) ts (began d q ∷ es)
  past_end : {d q : ℕ} {ss : List Sym} {ts : List Item} {es : List Event} → Meets d q ss ts es → Meets d q (whole ∷ ss) ts (ended q ∷ es)
  inside : {d q : ℕ} {m : Mode} {M : Kind} {ss : List Sym} {ts : List Item} {es : List Event} (ρ : Row M) → choose M ts ≡ Some ρ
      → Meets (under m d) (from m q ts) ρ.symbols ts es → Meets d q (part m M ∷ ss) ts es
  past_part : {d q : ℕ} {m : Mode} {M : Kind} {ss : List Sym} {ts s : List Item} {es hs : List Event} {u : Val M} (ρ : Row M)
      → choose M ts ≡ Some ρ → Derives M (under m d) (from m q ts) ρ.symbols ρ.action ts es s u
      → Meets d q ss s hs → Meets d q (part m M ∷ ss) ts (es ++ hs)
