-- Cause 5: the test decides whether a line follows from the lines before it.
use Rattle.std.proofs.Common.{◌≡◌, ℕ, true, false, List, Some, Decides, refl}
use Rattle.checker.proofs.Founded.{founded}
use Rattle.checker.proofs.Passing.{passes}
use Rattle.checker.proofs.Reading.{said_is}
use Rattle.checker.proofs.Sessions.{Tracked}
use Rattle.checker.specs.Decide.{at, follows}
use Rattle.lines.specs.declared.line.Line.{Line}
use Rattle.rules.proofs.Codes.{reads}
use Rattle.rules.specs.Follows.{Follows}
use Rattle.rules.specs.Statements.{Statement, statement, said}
use Rattle.std.proofs.lemmas.Bool.Decides.{not_from_Decides}

module _ (before : List Line) (d E : ℕ) (l : Line) (s : Statement) (kept : Tracked (said before) d E) (e : statement l ≡ Some s) where
  follows_decides : Decides (follows (at before) d E l) (Follows (said before) s)
  follows_decides =
      rw (said_is before, reads l s e)
      (founded (at before) d E (rw said_is at kept) s l, passes (at before) refl d E (rw said_is at kept) s l)

  pub follows_yes : follows (at before) d E l ≡ true → Follows (said before) s
  follows_yes = follows_decides.0

  pub follows_no : follows (at before) d E l ≡ false → Follows (said before) s → ⊥
  follows_no = not_from_Decides (follows (at before) d E l) follows_decides
