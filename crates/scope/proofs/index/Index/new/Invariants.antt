use Rattle.std.proofs.Common.{◌≡◌, ℕ, ◌+◌, ◌≤◌, length}
use Rattle.std.specs.List.{fold, flat_map}
use Rattle.scope.specs.Definitions.{defined_in}
use Rattle.scope.specs.Index.{Holds}
use Rattle.scope.specs.Resolved.{in_listing}
use Rattle.scope.specs.Scope.{InScope, define}
use Rattle.scope.proofs.index.Index.new.Given as goal

abbrev pub invariant-loop-line : goal.invariant-loop-line
invariant-loop-line g l =
    let lines = g.S.LineStore.lines l.store in
    (s : InScope ℕ) × Holds l.index s × (fold define s (flat_map (defined_in lines) l.line-iterator) ≡ in_listing lines) × (length s.terms + length l.line-iterator ≤ 65535)
