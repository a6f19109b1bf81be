-- What holds of every row of a kind holds of the row that is chosen.
use Rattle.std.proofs.Common.{◌≡◌, Bool, true, false, List, [], ◌∷◌, Option, Some, None, Ok, Err, if◌then◌else◌, subst}
use Rattle.std.proofs.lemmas.Option.{none-some, same_Some}
use Rattle.lexer.specs.Items.{Item}
use Rattle.lexer.specs.declared.token.Token.{Token}
use Rattle.grammar.specs.Grammar.{rows, other}
use Rattle.grammar.specs.Notation.{Kind, takes, one, Row, row, Entry}
use Rattle.grammar.specs.Derives.{pick, choose}

abbrev pub entry_row : {K : Kind} → Entry K → Row K
entry_row e = row (one e.first ∷ e.others) e.action

abbrev pub OfEntries : {K : Kind} → (Row K → Type 0) → List (Entry K) → Type 0
OfEntries P [] = Unit {0}
OfEntries P (e ∷ es) = P (entry_row e) × OfEntries P es

abbrev pub OfOther : {K : Kind} → (Row K → Type 0) → Option (Row K) → Type 0
OfOther P None = Unit {0}
OfOther P (Some ρ) = P ρ

pub of_picked : {K : Kind} (P : Row K → Type 0) (es : List (Entry K)) (t : Token) (o : Option (Row K)) {ρ : Row K} → OfEntries P es → OfOther P o
    → pick es t o ≡ Some ρ → P ρ
of_picked P [] t None h k e = absurd (none-some _ e)
of_picked P [] t (Some σ) h k e = subst P (same_Some _ _ e) k
of_picked {K} P (x ∷ es) t o {ρ} h k e = go (takes x.first t) e (of_picked P es t o h.1 k)
  where
    go : (b : Bool) → (if b then Some (entry_row x) else pick es t o) ≡ Some ρ
        → (pick es t o ≡ Some ρ → P ρ) → P ρ
    go true e i = subst P (same_Some _ _ e) h.0
    go false e i = i e

pub of_chosen : {K : Kind} (P : Row K → Type 0) (ts : List Item) {ρ : Row K} → OfEntries P (rows K) → OfOther P (other K) → choose K ts ≡ Some ρ → P ρ
of_chosen P [] h k e = absurd (none-some _ e)
of_chosen P (Err f ∷ ts) h k e = absurd (none-some _ e)
of_chosen {K} P (Ok t ∷ ts) h k e = of_picked P (rows K) t (other K) h k e
