-- How names are looked up in the nodes of a tree, whatever nodes they are: one after another, and a binding is in scope behind its node.
use Rattle.std.specs.Prelude.{◌≡◌, ℕ, ◌+◌, ◌<◌, min, List, [], ◌∷◌, length, take, drop, Option, Some, None, Ok, Err, Result, ⊤}
use Rattle.std.specs.List.{fold}
use Rattle.lines.specs.declared.line.Line.{Line}
use Rattle.scope.specs.Definitions.{definitions}
use Rattle.scope.specs.Scope.{InScope, bind_type, bind_term, of_definitions, Meaning, variable, stands_for, meaning, number, both}
use Rattle.scope.specs.Scoped.{ScopedPhrase}
use Rattle.scope.specs.ScopedLayout as scoped
use Rattle.scope.specs.declared.unbound.Unbound.{Unbound}
use Rattle.syntax.specs.declared.node.Node.{Node}
use Rattle.syntax.specs.declared.node.Node.TheVariants.{TypeVar, TypeName, TypeLine, TermVar, TermName, TypeBinding, TermBinding}

-- the number of what is the k-th outside of so many binders; no phrase has so many that it would not fit
abbrev pub outside : (inside k : ℕ) → ℕ
outside inside k = min (inside + k) 18446744073709551615

abbrev pub type_node : (byte inside : ℕ) → Option (Meaning ℕ) → Result Node ℕ
type_node byte inside None = Err byte
type_node byte inside (Some (variable k)) = Ok (TypeVar (outside inside k))
type_node byte inside (Some (stands_for line)) = Ok (TypeLine line)

abbrev pub term_node : (byte inside : ℕ) → Option ℕ → Result Node ℕ
term_node byte inside None = Err byte
term_node byte inside (Some k) = Ok (TermVar byte (outside inside k))

-- the node that stands in place of this one, or the byte of a name that is not bound
abbrev pub resolved_node : InScope ℕ → Node → Result Node ℕ
resolved_node s (TypeName byte w inside) = type_node byte inside (meaning s.types w)
resolved_node s (TermName byte w inside) = term_node byte inside (number s.terms w)
resolved_node s node = Ok node

-- what is in scope behind a node, and behind all of these
abbrev pub past : InScope ℕ → Node → InScope ℕ
past s (TypeBinding w bound) = bind_type w s
past s (TermBinding w domain) = bind_term w s
past s node = s

abbrev pub past_all : InScope ℕ → List Node → InScope ℕ
past_all s ns = fold past s ns

abbrev pub resolved : InScope ℕ → List Node → Result (List Node) ℕ
resolved s [] = Ok []
resolved s (n ∷ ns) = both ◌∷◌ (resolved_node s n) (resolved (past s n) ns)

-- what stands in the records after a look-up in this scope: all are resolved, or those before the first name that is not bound
abbrev pub Resolved : InScope ℕ → List Node → List Node → Result ⊤ Unbound → Type 0
Resolved s old new (Ok _) = resolved s old ≡ Ok new
Resolved s old new (Err fault) =
    (k : ℕ) × (k < length old) × (resolved s (take k old) ≡ Ok (take k new)) × (drop k new ≡ drop k old)
    × (resolved s (take (k + 1) old) ≡ Err fault.byte)

-- the same of a phrase: its records are those of the phrase with all names looked up, or the first name that is not bound is told
abbrev pub Scoped : Result (ScopedPhrase ℕ) ℕ → List Node → Result ⊤ Unbound → Type 0
Scoped (Ok p) new (Ok _) = new ≡ scoped.nodes p
Scoped (Err byte) new (Err fault) = byte ≡ fault.byte
Scoped (Ok p) new (Err fault) = ⊥
Scoped (Err byte) new (Ok _) = ⊥

abbrev pub in_listing : List Line → InScope ℕ
in_listing lines = of_definitions (definitions lines)
