use Rattle.std.proofs.Common.{◌≡◌, ◌+◌, ◌*◌, ◌∷◌, ◌++◌, [], take, drop}
use Rattle.std.specs.List.{flat_map}
use Rattle.page.specs.Form.{in_three, in_six}
use Rattle.page.proofs.form.encode.Given as goal

-- the code and the first k numbers are written, and byte 10 stands at the end
abbrev pub invariant-loop-k : goal.invariant-loop-k
invariant-loop-k l =
    record {
      written : take (3 + 6 * l.k) l.out ≡ in_three l.fn.line.code ++ flat_map in_six (take l.k l.n-items);
      end : drop 45 l.out ≡ 10 ∷ [];
    }
