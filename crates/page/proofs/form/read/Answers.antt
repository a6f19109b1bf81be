use Rattle.std.proofs.Common.{◌≡◌, suc, ◌+◌, ◌-◌, ◌*◌, ◌^◌, ◌<◌, ◌≤◌, ◌∷◌, ◌++◌, [], length, get_or, sym, ap, ◌∙◌, arith, length-append}
use Rattle.std.proofs.lemmas.Iterator.Adapters.{YieldsList-from_rev_slice}
use Rattle.std.proofs.lemmas.Iterator.Consumers.{YieldsList-turn}
use Rattle.std.proofs.lemmas.List.{get_or-reverse, get_or_default, length-reverse}
use Rattle.std.proofs.Math.Nat.{mul-le-mul_right, pow-le-pow_right, pow-suc}
use Rattle.page.specs.Form.{of_columns}
use Rattle.page.proofs.Digits.{one_read}
use Rattle.page.proofs.form.read.Goals as goal
use Rattle.page.proofs.form.read.Goals.{After-from}

-- the column of this turn, counted from the end
turn : (c : After-from) → (length c.loop-byte.yielded < length c.args.columns.now) × (c.in-Some.byte.now ≡ get_or c.args.columns.now (length c.args.columns.now - 1 - length c.loop-byte.yielded) 0)
turn c =
    let s = c.args.columns.now in
    let l = c.loop-byte in
    let t = YieldsList-turn (YieldsList-from_rev_slice {s = c.into_iter-byte-iterator.result} s cc) l.yielded l.byte-iterator l.yielded_by c.next.result c.next.new.self c.in-Some.byte c.in-Some.is c.next.ensures.steps in
    let lt : length l.yielded < length s = omega (arith, t.0, length-reverse s) in
    (lt, t.1 ∙ get_or-reverse s (length l.yielded) _ lt ∙ get_or_default s (length s - 1 - length l.yielded) _ 0 (omega (arith, lt)))

most : (c : After-from) → c.from.result * c.loop-byte.power ≤ 207 * c.loop-byte.power
most c = mul-le-mul_right c.loop-byte.power (omega (arith, turn c, c.type_inv.columns (length c.args.columns.now - 1 - length c.loop-byte.yielded)))

pub overflow_add-n : goal.overflow_add-n
overflow_add-n c =
    let l = c.loop-byte in
    let power : 10 ^ length l.yielded ≤ 10 ^ 5 = pow-le-pow_right {n = 10} (omega arith) {i = length l.yielded} {j = 5} (omega (arith, turn c)) in
    omega (arith, most c, power)

pub loop-byte-preserved : goal.loop-byte-preserved
loop-byte-preserved c =
    let l = c.loop-byte in
    let s = c.args.columns.now in
    let k = length l.yielded in
    let j = length s - 1 - k in
    let long : length (l.yielded ++ c.in-Some.byte ∷ []) ≡ suc k = length-append l.yielded (c.in-Some.byte ∷ []) ∙ omega arith in
    let e : suc j ≡ length s - k = omega (arith, turn c) in
    let m : length s - length (l.yielded ++ c.in-Some.byte ∷ []) ≡ j = omega (arith, long) in
    record {
      value = ap (λ i. of_columns i s 0 * (l.power * 10) + (l.n + c.from.result * l.power)) m ∙ one_read j l.n l.power c.from.result s (c.from.ensures ∙ c.saturating_sub.ensures ∙ ap (λ b. b - 48) (turn c).1) ∙ ap (λ i. of_columns i s 0 * l.power + l.n) e ∙ l.invariant.value;
      power = ap (λ p. p * 10) l.invariant.power ∙ sym (pow-suc 10 k) ∙ ap (λ i. 10 ^ i) (sym long);
      bound = omega (arith, most c);
    }
