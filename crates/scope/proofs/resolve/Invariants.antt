use Rattle.std.proofs.Common.{◌≡◌, take, drop, Ok}
use Rattle.scope.specs.Index.{Tells}
use Rattle.scope.specs.Resolved.{resolved, past_all, in_listing}
use Rattle.scope.proofs.resolve.Given as goal

abbrev pub invariant-loop-i : goal.invariant-loop-i
invariant-loop-i g l =
    let s = in_listing (g.S.LineStore.lines l.store) in
    record {
      resolved : resolved s (take l.i l.initial.tree) ≡ Ok (take l.i l.tree);
      rest : drop l.i l.tree ≡ drop l.i l.initial.tree;
      tells : Tells l.names (past_all s (take l.i l.tree));
    }
