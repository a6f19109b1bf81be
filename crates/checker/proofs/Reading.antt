-- What the checker's lines say, by their numbers.
use Rattle.std.proofs.Common.{◌≡◌, ℕ, zero, suc, List, [], ◌∷◌, refl}
use mathlib.Core.Path.{fun_ext}
use Rattle.checker.specs.Decide.{At, at}
use Rattle.lines.specs.declared.line.Line.{Line}
use Rattle.rules.specs.Statements.{statement, Get, said}

abbrev pub reading : At → Get
reading L n = statement (L n)

pub said_at : (before : List Line) (n : ℕ) → said before n ≡ reading (at before) n
unfolding statement
said_at before zero = refl
said_at [] (suc n) = refl
said_at (l ∷ ls) (suc zero) = refl
said_at (l ∷ ls) (suc (suc n)) = said_at ls (suc n)

pub said_is : (before : List Line) → said before ≡ reading (at before)
said_is before = fun_ext (said_at before)
