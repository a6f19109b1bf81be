-- Bytes written over others, and a line's bytes put together.
use Rattle.std.proofs.Common.{◌≡◌, ℕ, ◌+◌, List, ◌++◌, length, take, drop, sym, refl, ap, ◌∙◌, le_refl}
use borrow.Rule.Slice.PartMut.{put_mid}
use Rattle.std.proofs.lemmas.List.{take_all}
use Rattle.std.proofs.lemmas.Slice.{put_mid-paste}
use Rattle.page.specs.Form.{pasted, in_columns, encoded}
use Rattle.lines.specs.declared.line.Line.{Line}

pub put_mid-pasted : (i k : ℕ) (xs ys t : List ℕ) → ys ≡ t → k ≡ length t → put_mid i k xs ys ≡ pasted i t xs
put_mid-pasted i k xs ys t e h =
    put_mid-paste i k xs ys t (length t) e (sym h) refl
    ∙ ap (λ (u : List ℕ). take i xs ++ u ++ drop (i + length t) xs) (take_all (length t) t (le_refl (length t)))

pub length-encoded : (l : Line) → length (encoded l) ≡ 46
unfolding encoded in_columns
length-encoded l = refl
