-- What is still to come of a source.
use Rattle.std.specs.Prelude.{List, [], ◌∷◌, Bool, true, false, not, ◌&&◌, Ok, Err}
use Rattle.lexer.specs.Items.{Item}
pub use Rattle.lexer.specs.Items.{ends, items_from}
use Rattle.lexer.specs.declared.tokens.Tokens.{Tokens}

-- the end, or a fault, behind which nothing is read
abbrev pub is_last : Item → Bool
is_last (Err fault) = true
is_last (Ok token) = ends token.word

-- what comes behind the item that stands next
abbrev pub behind : Tokens → List Item
behind t = elim (is_last t.next) [ true ↦ [] | false ↦ items_from t.length t.rest.now ]

abbrev pub to_come : Tokens → List Item
to_come t = t.next ∷ behind t

-- what is to come when the token that stands next is used; the end and a fault, which are the last, are not used
abbrev pub used : List Item → List Item
used [] = []
used (x ∷ []) = x ∷ []
used (x ∷ y ∷ ts) = y ∷ ts

-- the last of these and no other is an end or a fault
abbrev pub ordinary : List Item → Bool
ordinary [] = false
ordinary (x ∷ []) = is_last x
ordinary (x ∷ y ∷ ts) = not (is_last x) && ordinary (y ∷ ts)
