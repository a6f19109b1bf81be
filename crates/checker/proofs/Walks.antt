-- One line after another.
use Rattle.std.proofs.Common.{◌≡◌, ℕ, suc, ◌+◌, ◌<◌, List, length, get_or, Some, None, Option, sym, refl, ap, ◌∙◌, add-one}
use Rattle.checker.specs.Decide.{at, no_line, line_or_none}
use Rattle.lines.specs.Stores.{numbered}
use Rattle.lines.specs.declared.line.Line.{Line}
use Rattle.std.proofs.lemmas.Option.{none-some, slice_get-get_or}
use Rattle.std.specs.Option.{UnwrapsOrElse}

pub at_get_or : (lines : List Line) (n : ℕ) → n < length lines → at lines (suc n) ≡ get_or lines n no_line
at_get_or lines n h = ap line_or_none (slice_get-get_or lines n no_line h)

pub numbered_some : (lines : List Line) (m : ℕ) → m < length lines → numbered lines (suc m) ≡ Some (at lines (suc m))
numbered_some lines m h = go (numbered lines (suc m)) (slice_get-get_or lines m no_line h)
  where
    go : (o : Option Line) {x : Line} → o ≡ Some x → o ≡ Some (line_or_none o)
    go None e = absurd (none-some _ e)
    go (Some y) e = refl

-- the line that is read is line n + 1
pub line_read : (lines : List Line) (n : ℕ) (o : Option Line) (D : Line → Type 0) (l : Line) → n < length lines → o ≡ numbered lines (n + 1) → UnwrapsOrElse o D l
    → numbered lines (suc n) ≡ Some l
line_read lines n o D l h e u =
    let s = numbered_some lines n h in
    s ∙ ap Some (go o (e ∙ ap (numbered lines) (add-one n) ∙ s) u)
  where
    go : (o : Option Line) {x : Line} → o ≡ Some x → UnwrapsOrElse o D l → x ≡ l
    go None e u = absurd (none-some _ e)
    go (Some y) e u = let same : y ≡ l = sym u in cc
