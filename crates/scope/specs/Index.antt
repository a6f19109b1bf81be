-- What the maps on the heap hold: of each name what is in scope says of it.
use Rattle.std.specs.Prelude.{◌≡◌, ℕ, ◌+◌, List, length, Option, Some, None, Result, ⊤, MatchOption}
use Rattle.std.specs.HashMap.{get}
use Rattle.std.specs.Option.{option_map}
use Rattle.std.specs.Result.{result_map_both}
use Rattle.lexer.specs.Names.{same}
use Rattle.lexer.specs.declared.name.Name.{Name}
use Rattle.scope.specs.Scope.{InScope, TypeGiver, Meaning, variable, stands_for, meaning, number, variables}
use Rattle.scope.specs.declared.index.Index.{Index}
use Rattle.scope.specs.declared.names.Names.{Names}
use Rattle.scope.specs.declared.terms.Terms.{Terms}
use Rattle.scope.specs.declared.types.Given.{Given}
use Rattle.scope.specs.declared.types.Given.TheVariants.{After, Line as given_line}
use Rattle.scope.specs.declared.types.Meaning.{Meaning as Told}
use Rattle.scope.specs.declared.types.Meaning.TheVariants.{Variable, Line as told_line}
use Rattle.scope.specs.declared.types.Types.{Types}
use Rattle.scope.specs.declared.unbound.Unbound.{Unbound}
use Rattle.syntax.specs.declared.node.Node.{Node}

abbrev pub shown : Told → Meaning ℕ
shown (Variable k) = variable k
shown (told_line line) = stands_for line

abbrev pub meaning_shown : Option Told → Option (Meaning ℕ)
meaning_shown m = option_map shown m

-- the variable that so many stand before, of this count, has this number
abbrev pub Agrees : ℕ → Option Given → Option (Meaning ℕ) → Type 0
Agrees count None None = ⊤
Agrees count (Some (After before)) (Some (variable k)) = before + k ≡ count
Agrees count (Some (given_line line)) (Some (stands_for x)) = line ≡ x
Agrees count given meant = ⊥

abbrev pub NumberAgrees : ℕ → Option ℕ → Option ℕ → Type 0
NumberAgrees count None None = ⊤
NumberAgrees count (Some before) (Some k) = before + k ≡ count
NumberAgrees count before number = ⊥

abbrev pub TypesHold : Types → List (TypeGiver ℕ) → Type 0
TypesHold types givers = (types.count ≡ variables givers) × ((w : Name) → Agrees types.count (get same types.given w) (meaning givers w))

abbrev pub TermsHold : Terms → List (Option Name) → Type 0
TermsHold terms names =
    (terms.count ≡ length names)
    × ((w : Name) → NumberAgrees terms.count (get same terms.before w) (number names w))

-- both maps
abbrev pub Holds : Index → InScope ℕ → Type 0
Holds index s = TypesHold index.types s.types × TermsHold index.terms s.terms

-- the maps, or nothing where memory was refused
abbrev pub Tells : Names → InScope ℕ → Type 0
Tells names s = MatchOption names.index ⊤ (λ index. Holds index s)

abbrev pub node_shown : Result Node Unbound → Result Node ℕ
node_shown r = result_map_both (λ n. n) (λ fault. fault.byte) r
