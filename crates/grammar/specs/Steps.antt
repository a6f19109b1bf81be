-- What functions that read by the grammar promise, each for the symbols or the kind that it reads: what was read within the limits, or where
-- reading stops. d is the depth, c the number of places taken before, q the first byte.
use Rattle.std.specs.Prelude.{◌≡◌, ℕ, suc, ◌<◌, ◌≤◌, List, [], ◌∷◌, Some, None, Ok, Err}
use Rattle.lexer.specs.Items.{Item}
use Rattle.lexer.specs.declared.token.Token.{Token}
use Rattle.grammar.specs.Notation.{Kind, Val, Mode, Guard, Given, taken, Sym, one, begins, whole, part, Action, Row}
use Rattle.grammar.specs.Derives.{choose, under, from, Event, Derives}
use Rattle.grammar.specs.Reading.{Limits, count, Within}
use Rattle.grammar.specs.declared.fault.SyntaxFault.{SyntaxFault}
use Rattle.grammar.specs.declared.fault.SyntaxFault.TheVariants.{Lexical, Unexpected, TooDeep, TreeFull}

-- the symbols are read: `left` is left, n places are taken after, v is made
pub record Reads (l : Limits) (K : Kind) (d c q : ℕ) (ss : List Sym) (f : Action ss (Val K)) (ts left : List Item) (n : ℕ) (v : Val K) : Type 0 where
  pub events : List Event
  pub derived : Derives K d q ss f ts events left v
  pub within : Within l c events
  pub counted : count c events ≡ n

-- a part of kind K is read
pub record ReadsPart (l : Limits) (K : Kind) (d c q : ℕ) (ts left : List Item) (n : ℕ) (v : Val K) : Type 0 where
  pub row : Row K
  pub chosen : choose K ts ≡ Some row
  pub reads : Reads l K d c q row.symbols row.action ts left n v

-- what is wrong where an item is not allowed
abbrev pub not_allowed : Item → SyntaxFault
not_allowed (Ok t) = Unexpected t.byte
not_allowed (Err f) = Lexical f

abbrev pub Takes : Guard → Item → Type 0
Takes g (Ok t) = (x : Given g) × (taken g t ≡ Some x)
Takes g (Err f) = ⊥

-- reading the symbols stops
pub data Stops (l : Limits) : (d c q : ℕ) → List Sym → (ts : List Item) → SyntaxFault → Type 0 where
  no_token : {d c q : ℕ} {g : Guard} {ss : List Sym} {i : Item} {ts : List Item} {e : SyntaxFault} → (Takes g i → ⊥) → not_allowed i ≡ e
      → Stops l d c q (one g ∷ ss) (i ∷ ts) e
  no_row : {d c q : ℕ} {m : Mode} {M : Kind} {ss : List Sym} {i : Item} {ts : List Item} {e : SyntaxFault} → choose M (i ∷ ts) ≡ None → not_allowed i ≡ e
      → Stops l d c q (part m M ∷ ss) (i ∷ ts) e
  too_deep : {d c q : ℕ} {ss : List Sym} {ts : List Item} → l.levels ≤ d → Stops l d c q (begins ∷ ss) ts (TooDeep q)
  tree_full : {d c q : ℕ} {ss : List Sym} {ts : List Item} → l.places ≤ c → Stops l d c q (whole ∷ ss) ts (TreeFull q)
  after_token : {d c q : ℕ} {g : Guard} {ss : List Sym} {t : Token} {x : Given g} {ts : List Item} {e : SyntaxFault} → taken g t ≡ Some x
      → Stops l d c q ss ts e → Stops l d c q (one g ∷ ss) (Ok t ∷ ts) e
  after_begin : {d c q : ℕ} {ss : List Sym} {ts : List Item} {e : SyntaxFault} → d < l.levels → Stops l d c q ss ts e → Stops l d c q (begins ∷ ss) ts e
  after_end : {d c q : ℕ} {ss : List Sym} {ts : List Item} {e : SyntaxFault} → c < l.places → Stops l d (suc c) q ss ts e → Stops l d c q (whole ∷ ss) ts e
  in_part : {d c q : ℕ} {m : Mode} {M : Kind} {ss : List Sym} {ts : List Item} {e : SyntaxFault} (ρ : Row M) → choose M ts ≡ Some ρ
      → Stops l (under m d) c (from m q ts) ρ.symbols ts e → Stops l d c q (part m M ∷ ss) ts e
  after_part : {d c q n : ℕ} {m : Mode} {M : Kind} {ss : List Sym} {ts s : List Item} {e : SyntaxFault} {u : Val M}
      → ReadsPart l M (under m d) c (from m q ts) ts s n u → Stops l d n q ss s e → Stops l d c q (part m M ∷ ss) ts e

-- reading a part of kind K stops
abbrev pub StopsPart : (l : Limits) (K : Kind) (d c q : ℕ) (ts : List Item) → SyntaxFault → Type 0
StopsPart l K d c q ts e = Stops l d c q (part Mode.on K ∷ []) ts e
