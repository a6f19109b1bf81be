-- The laws of looking names up, proved.
use Rattle.std.proofs.Common.{refl}
use Rattle.scope.proofs.Beyond.{closed-same}
use Rattle.scope.proofs.Growing.{within-definitions, definitions-append, lets-listing}
use Rattle.scope.proofs.Mapping.{scope-map}
use Rattle.scope.proofs.Phrases.{tie-phrase}
use Rattle.scope.proofs.Places.{record-same}
use Rattle.scope.specs.Examples.{ExamplesAnswered}
use Rattle.scope.specs.Laws.{Natural, ClosedAlike, AmongThose, RecordKept, NodesReplaced, Appended, LetsCounted}
use Rattle.scope.specs.Scope.{of_definitions}

pub natural : {X Y : Type 0} (f : X → Y) → Natural f
natural f = scope-map f

pub closed_alike : (X : Type 0) → ClosedAlike X
closed_alike X ds p q e = closed-same p ds q e

pub among_those : (X : Type 0) → AmongThose X
among_those X ds p q e = within-definitions ds p q e

pub record_kept : (X : Type 0) → RecordKept X
record_kept X ds p q e = record-same p (of_definitions ds) q e

pub nodes_replaced : NodesReplaced
nodes_replaced s p h k = tie-phrase p s h k

pub appended : Appended
appended xs ys h = definitions-append xs ys h

pub lets_counted : LetsCounted
lets_counted lines = lets-listing lines

pub examples_answered : ExamplesAnswered
examples_answered = refl
