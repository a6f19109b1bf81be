-- The laws that the promise of reading names.
use Rattle.std.proofs.Common.{◌≡◌, ℕ, Bool, true, false, List, [], ◌∷◌, Result, Ok, Err, refl}
use Rattle.lexer.specs.Coming.{to_come, behind, ordinary, is_last, items_from}
use Rattle.lexer.specs.Items.{Item}
use Rattle.lexer.specs.declared.tokens.Tokens.{Tokens}
use Rattle.lexer.proofs.LexiconItems.{ordinary-from, ordinary-cons}
use Rattle.grammar.specs.Reading.{Ended}
use Rattle.grammar.proofs.Coming.{ordinary_ended}
use Rattle.grammar.proofs.Laws.{rows_as_written, one_phrase, one_answer, met_in_phrase, each_place_taken, tree_fits, cases_right}
use Rattle.scope.proofs.Laws.{closed_alike, among_those, record_kept, examples_answered}
use Rattle.reader.specs.Reads.{OfGrammar, OfNames}

pub of_grammar : OfGrammar
of_grammar = (rows_as_written, one_phrase, one_answer, met_in_phrase, each_place_taken, tree_fits, cases_right)

pub of_names : OfNames
of_names = (closed_alike ℕ, among_those ℕ, record_kept ℕ, examples_answered)

ordinary_behind : (x : Item) (more : List Item) (b : Bool) → is_last x ≡ b → ordinary more ≡ true → ordinary (x ∷ elim b [ true ↦ [] | false ↦ more ]) ≡ true
ordinary_behind x more true e o = e
ordinary_behind x more false e o = ordinary-cons x more e o

pub ended : (t : Tokens) → Ended (to_come t)
ended t = ordinary_ended (to_come t) (ordinary_behind t.next (items_from t.length t.rest.now) (is_last t.next) refl (ordinary-from t.length t.rest.now))
