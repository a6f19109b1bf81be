use Rattle.std.proofs.Common.{◌≡◌, ◌+◌, ◌-◌, ◌*◌, ◌++◌, List, ℕ, replicate, length, take, drop, get_or, sym, ap, ap₂, ◌∙◌, arith, length-take, length-drop}
use Rattle.std.proofs.lemmas.List.{take_at, append-nil, take_more, flat_map_more, take-append-drop}
use Rattle.std.proofs.lemmas.Slice.{take-put_mid, drop-put_mid}
use Rattle.std.specs.List.{flat_map}
use Rattle.page.specs.Form.{in_columns, in_three, in_six, encoded, decoded, InRange}
use Rattle.page.proofs.Digits.{encoded_back, length-in_columns}
use Rattle.page.proofs.form.encode.Goals as goal

pub loop-k-init : goal.loop-k-init
unfolding in_columns
loop-k-init c =
    let new = c.write.new.columns in
    let code = c.args.line.code in
    let is : new ≡ in_three code = c.write.ensures ∙ ap in_three c.into.ensures in
    record {
      written = take_at new (replicate 43 10) 3 (ap length is ∙ length-in_columns 3 code) ∙ is ∙ sym (append-nil (in_three code));
      end = ap (λ (u : List ℕ). drop 45 (u ++ replicate 43 10)) is;
    }

pub loop-k-preserved : goal.loop-k-preserved
loop-k-preserved c =
    let l = c.loop-k in
    let xs = c.columns.result in
    let x = get_or xs l.k 0 in
    let new = c.write-in-loop-k.new.columns in
    let at = 3 + 6 * l.k in
    let part = take (at + 6 - at) (drop at l.out) in
    let long : length part ≡ 6 = omega (arith, length-take (at + 6 - at) (drop at l.out), length-drop at l.out) in
    let is : new ≡ in_six x = c.write-in-loop-k.ensures ∙ ap (λ k. in_columns k x) long in
    let six : length new ≡ 6 = ap length is ∙ length-in_columns 6 x in
    record {
      written =
          take-put_mid at (at + 6 - at) l.out new (3 + 6 * (l.k + 1)) (omega arith) (omega arith)
          ∙ ap₂ ◌++◌ l.invariant.written is
          ∙ flat_map_more in_six (in_three c.args.line.code) (take l.k xs) x
          ∙ ap (λ ys. in_three c.args.line.code ++ flat_map in_six ys) (sym (take_more xs l.k 0 (omega arith)));
      end = drop-put_mid at (at + 6 - at) l.out new 45 (omega arith) (omega arith) (omega arith) ∙ l.invariant.end;
    }

pub returns : goal.returns
unfolding encoded
returns c =
    let l = c.args.line in
    let out = c.loop-k.out in
    let all : c.loop-k.k ≡ 7 = omega arith in
    let at : 45 ≡ 3 + 6 * c.loop-k.k = omega arith in
    let e : out ≡ encoded l =
    sym (take-append-drop 45 out)
    ∙ ap₂ ◌++◌ (ap (λ k. take k out) at ∙ c.loop-k.invariant.written ∙ ap (λ xs. in_three l.code ++ flat_map in_six xs) (ap (λ k. take k c.columns.result) all ∙ ap (take 7) c.columns.ensures)) c.loop-k.invariant.end in
    let r : InRange l = record { code = omega arith; c1 = omega arith; c2 = omega arith; c3 = omega arith; c4 = omega arith; c5 = omega arith; c6 = omega arith; c7 = omega arith } in
    record { bytes = e; form = (l, r, e); back = ap decoded e ∙ encoded_back l r }
