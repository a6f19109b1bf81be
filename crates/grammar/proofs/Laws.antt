-- The laws hold.
use Rattle.std.proofs.Common.{ℕ, suc, ◌≤◌, List, [], ◌∷◌, subst, arith}
use Rattle.grammar.specs.Derives.{Event, began, ended}
use Rattle.grammar.specs.Laws.{RowsAsWritten, OnePhrase, OneAnswer, MetInPhrase, PlacesTaken, TreeFits, CasesRight}
use Rattle.grammar.specs.Reading.{Limits, count, Within}
use Rattle.grammar.proofs.Answer.{answer}
use Rattle.grammar.proofs.Cases.{right}
use Rattle.grammar.proofs.Events.{met_all}
use Rattle.grammar.proofs.Follows.{followed, in_phrase}
use Rattle.grammar.proofs.FromWritten.{spells_iff, written_spells}
use Rattle.grammar.proofs.Places.{places_taken}
use Rattle.grammar.proofs.Unique.{unique}

pub rows_as_written : RowsAsWritten
rows_as_written = spells_iff

pub one_phrase : OnePhrase
one_phrase items p q h k = (unique (written_spells h).1 (written_spells k).1).value

pub one_answer : OneAnswer
one_answer = answer

count_fits : (l : Limits) (c : ℕ) (es : List Event) → c ≤ l.places → Within l c es → count c es ≤ l.places
count_fits l c [] le w = le
count_fits l c (began d q ∷ es) le w = count_fits l c es le w.1
count_fits l c (ended q ∷ es) le w = let h = w.0 in count_fits l (suc c) es (omega (arith, h)) w.1

pub each_place_taken : PlacesTaken
each_place_taken items es p s = places_taken s

pub tree_fits : TreeFits
tree_fits l items p a =
    let s = written_spells a.0 in
    subst (λ n. n ≤ l.places) (places_taken s.1) (count_fits l 0 s.0 (omega arith) (a.1 s.0 (met_all s.1)))

pub met_in_phrase : MetInPhrase
met_in_phrase items es m =
    let f = followed m in
    let k = in_phrase f.1 in
    (k.first, f.0, k.others, k.later, k.made, k.is, k.spelled)

pub cases_right : CasesRight
cases_right = right
