-- What is read into rows, a line for each way through the code.
use Rattle.std.proofs.Common.{◌≡◌, ℕ, ◌-◌, ◌<◌, ◌≤◌, List, length, replicate, Ok, Err, Result, refl, sym, ap, ◌∙◌, subst, arith}
use Rattle.std.proofs.lemmas.List.{length-replicate}
use Rattle.lines.specs.declared.answer.Answer.{Answer}
use Rattle.lexer.specs.Items.{Item, items}
use Rattle.lines.specs.declared.line.Line.{Line}
use Rattle.reader.specs.Reads.{ReadAs, answer_to}
use Rattle.reader.specs.declared.fault.ReadFault.{ReadFault}
use Rattle.scope.specs.Definitions.{definitions}
use Rattle.scope.specs.Scoped.{ScopedPhrase}
use Rattle.scope.specs.ScopedLayout.{nodes, record_of}
use Rattle.syntax.specs.declared.node.Node.{Node}
use Rattle.syntax.specs.declared.node.Node.TheVariants.{Top}
use Rattle.syntax.specs.declared.phrase.Phrase.{Phrase}
use Rattle.reader_rows.specs.Rows.{packed, rows_of, Shown, ReadInto, is_read, not_read}
use Rattle.reader_rows.specs.declared.row.Row.{Row}

module _ (source : List ℕ) (records standing : List Line) (old new : List Row) (its : List Item) (places : List Node) (n : ℕ) (same : standing ≡ records)
    (tokens : its ≡ items source) (made : places ≡ replicate n Top) (left : n ≡ length old - 1) where
  many : length places ≡ length old - 1
  many = ap length made ∙ length-replicate n Top ∙ left

  moved : (a : Result (ScopedPhrase ℕ) ReadFault) → ReadAs (length places) its (definitions standing) a
      → ReadAs (length old - 1) (items source) (definitions records) a
  moved a h =
      subst (λ ds. ReadAs (length old - 1) (items source) (definitions ds) a) same
      (subst (λ ts. ReadAs (length old - 1) ts (definitions standing) a) tokens (subst (λ k. ReadAs k its (definitions standing) a) many h))

  pub shown : (q : ScopedPhrase ℕ) (x : Phrase) (tree : List Node) → ReadAs (length places) its (definitions standing) (Ok q) → tree ≡ nodes q → x ≡ record_of q
      → Shown (rows_of x tree) old new → ReadInto source records old new 0
  shown q x tree h t r s =
      is_read q refl (moved (Ok q) h) (subst (λ ns. Shown (rows_of (record_of q) ns) old new) t (subst (λ y. Shown (rows_of y tree) old new) r s))

  pub told : (fault : ReadFault) (r : ℕ) → new ≡ old → ReadAs (length places) its (definitions standing) (Err fault) → r ≡ packed (answer_to fault)
      → ReadInto source records old new r
  told fault r kept h e = not_read fault (moved (Err fault) h) e kept
