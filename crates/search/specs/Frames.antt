-- The waiting goals of the code are those of the loop.
use Rattle.std.specs.Prelude.{ℕ, suc, ◌-◌, List, [], ◌∷◌, length}
use Rattle.lines.specs.declared.line.Line.{Line}
use Rattle.judge.specs.Loop as loop
use Rattle.actions.specs.Actions.{Terms, answers, sought}
use Rattle.search.specs.Searches.{state}
use Rattle.search.specs.declared.work.Work.{Work}
use Rattle.search.specs.declared.work.Wait.{Wait}

abbrev pub wait : Terms → Work → loop.Wait
wait t w = record { goal = sought t w.goal; answers = answers w.told }

-- the one below stands first in the table, and last in the loop
abbrev pub onto : Terms → List loop.Wait → List Wait → List loop.Wait
onto t below [] = below
onto t below (x ∷ xs) = onto t (wait t x.work ∷ below) xs

abbrev pub stack : Terms → List Wait → List loop.Wait
stack t xs = onto t [] xs

-- the goal that is worked on has a place too
abbrev pub free : (places : ℕ) → List Wait → ℕ
free places xs = places - suc (length xs)

abbrev pub search_at : Terms → (places : ℕ) → List Wait → Work → List Line → (steps : ℕ) → loop.Search
search_at t places xs w lines steps = record { free = free places xs; top = wait t w; below = stack t xs; state = state lines steps }
