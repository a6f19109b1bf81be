-- What holds of looking names up, whatever the phrase and the definitions.
use Rattle.std.specs.Prelude.{◌≡◌, ℕ, ◌+◌, ◌<◌, ◌≤◌, List, [], ◌∷◌, ◌++◌, length, map, Ok, ◌⊎◌, ⊤, ◌==◌}
use Rattle.std.specs.List.{flat_map, count_by}
use Rattle.lines.specs.declared.code.TheConstants.{LET_TYPE, LET_TERM}
use Rattle.lines.specs.declared.line.Line.{Line}
use Rattle.scope.specs.Definitions.{Definition, defined_in, definitions, lets}
use Rattle.scope.specs.Mapped.{map_phrase, map_definition}
use Rattle.scope.specs.Resolved.{resolved}
use Rattle.scope.specs.Scope.{InScope, variables, one, scope_in, scope}
use Rattle.scope.specs.Scoped.{ScopedPhrase}
use Rattle.scope.specs.ScopedLayout as scoped
use Rattle.scope.specs.Within.{PhraseWithin}
use Rattle.syntax.specs.Layout as named
use Rattle.syntax.specs.Named.{NamedPhrase}

-- what Let names stand for may be replaced before the names are looked up or after: so lines by the types that they say
abbrev pub Natural : {X Y : Type 0} → (X → Y) → Type 0
Natural {X} f = (ds : List (Definition X)) (p : NamedPhrase) → scope (map (map_definition f) ds) p ≡ one (map_phrase f) (scope ds p)

-- a phrase whose names are bound without definitions is the same after any
abbrev pub ClosedAlike : Type 0 → Type 0
ClosedAlike X = (ds : List (Definition X)) (p : NamedPhrase) (q : ScopedPhrase X) → scope [] p ≡ Ok q → scope ds p ≡ Ok q

-- its variables are bound by its own binders and bindings, and terms besides by the let definitions
abbrev pub AmongThose : Type 0 → Type 0
AmongThose X = (ds : List (Definition X)) (p : NamedPhrase) (q : ScopedPhrase X) → scope ds p ≡ Ok q → PhraseWithin 0 (lets ds) q

-- its record is that of the phrase as it was read
abbrev pub RecordKept : Type 0 → Type 0
RecordKept X = (ds : List (Definition X)) (p : NamedPhrase) (q : ScopedPhrase X) → scope ds p ≡ Ok q → scoped.record_of q ≡ named.record_of p

-- its nodes are those of the phrase as it was read, each node of a name replaced and no other; a number that would not fit is in no phrase
abbrev pub NodesReplaced : Type 0
NodesReplaced = (s : InScope ℕ) (p : NamedPhrase) → length (named.nodes p) + variables s.types ≤ 18446744073709551615 → length (named.nodes p) + length s.terms ≤ 18446744073709551615
    → resolved s (named.nodes p) ≡ one scoped.nodes (scope_in s p)

-- each of these lines that is a definition has its name among all lines
abbrev pub Named : List Line → List Line → Type 0
Named all [] = ⊤
Named all (l ∷ ls) = ((l.code ≡ LET_TYPE) ⊎ (l.code ≡ LET_TERM) → (0 < l.c1) × (l.c1 ≤ length all)) × Named all ls

-- the definitions of more lines come behind those that there were
abbrev pub Appended : Type 0
Appended = (xs ys : List Line) → Named xs xs → definitions (xs ++ ys) ≡ definitions xs ++ flat_map (defined_in (xs ++ ys)) ys

-- each line 92 is a definition of a term, named or not
abbrev pub LetsCounted : Type 0
LetsCounted = (lines : List Line) → lets (definitions lines) ≡ count_by (λ l. l.code == LET_TERM) lines
