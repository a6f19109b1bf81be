-- Cause 3: each line that is named stands earlier and is of its kind.
use Rattle.std.proofs.Common.{◌≡◌, ℕ, ◌≤◌, Bool, true, false, eqb, leb, List, [], ◌∷◌, Some, None, IsTrue, ◌↔◌, Option, refl, ap, arith}
use Rattle.std.specs.List.{list_all}
use Rattle.checker.proofs.Dispatch.{inside}
use Rattle.checker.specs.Columns.{kinds, fits, named}
use Rattle.checker.specs.Decide.{in_range, line_or_none, at}
use Rattle.checker.specs.declared.column.Kind.{Kind}
use Rattle.checker.specs.declared.column.Kind.TheVariants.{Number, «Type», Term, Env, Name, Premise, Definition}
use Rattle.lines.specs.Stores.{numbered}
use Rattle.lines.specs.declared.line.Line.{Line}
use Rattle.rules.proofs.Codes.{with_code, number_in, at_rows}
use Rattle.rules.specs.Faults.{Stands, Names, AllName}
use Rattle.rules.specs.Statements.{Statement, statement, Column, plain, type_at, term_at, env_at, name_at, premise_at, definition_at, columns}
use Rattle.std.proofs.lemmas.Bool.{and_parts, leb-true}
use Rattle.std.proofs.lemmas.Bool.Decides.{Decides-eqb, Decides-and, Decides-or, Decides-at, not_from_Decides}

standing : (o : Option Line) → 1 ≤ (line_or_none o).code → o ≡ Some (line_or_none o)
standing None h = absurd (omega arith)
standing (Some l) h = refl

abbrev kind_of : Column → Kind
kind_of (plain n) = Number
kind_of (type_at n) = «Type»
kind_of (term_at n) = Term
kind_of (env_at n) = Env
kind_of (name_at n) = Name
kind_of (premise_at n) = Premise
kind_of (definition_at n) = Definition

module _ (before : List Line) where
  stands : (low high n : ℕ) → 1 ≤ low → IsTrue (in_range low high (at before n).code) ↔ Stands before low high n
  stands low high n pos = (
    λ e. let h = and_parts (leb low c) (leb c high) e in let from = leb-true low c h.0 in
        (at before n, standing (numbered before n) (omega arith), from, leb-true c high h.1),
    λ h. rw (ap line_or_none h.1) (inside low high h.0.code h.2 h.3),
  )
    where
      c : ℕ
      c = (at before n).code

  abbrev column_fits : Column → Bool
  column_fits c = fits (at before) (kind_of c) (number_in c)

  names : (c : Column) → IsTrue (column_fits c) ↔ Names before c
  names (plain n) = (λ _. tt, λ _. refl)
  names (type_at n) = stands 10 14 n (omega arith)
  names (term_at n) = stands 20 28 n (omega arith)
  names (env_at n) = stands 30 32 n (omega arith)
  names (name_at n) = stands 90 90 n (omega arith)
  names (premise_at n) = Decides-or (eqb n 0) _ (Decides-eqb n 0) (stands 40 79 n (omega arith))
  names (definition_at n) = Decides-or (eqb n 0) _ (Decides-eqb n 0) (stands 91 92 n (omega arith))

  all_name : (cs : List Column) → IsTrue (list_all column_fits cs) ↔ AllName before cs
  all_name [] = (λ _. tt, λ _. refl)
  all_name (c ∷ cs) = Decides-and (column_fits c) (list_all column_fits cs) (names c) (all_name cs)

  module _ (l : Line) (s : Statement) (e : statement l ≡ Some s) where
    named_says : IsTrue (named (at before) (kinds l.code) l) ↔ AllName before (columns s)
    named_says =
        Decides-at (named (at before) (kinds l.code) l) (list_all column_fits (columns s))
        (at_rows (λ r. named (at before) (kinds r.0) (with_code r.0 l)) (λ r. list_all column_fits (columns r.1)) l s refl e)
        (all_name (columns s))

    pub named_yes : named (at before) (kinds l.code) l ≡ true → AllName before (columns s)
    named_yes = named_says.0

    pub named_no : named (at before) (kinds l.code) l ≡ false → AllName before (columns s) → ⊥
    named_no = not_from_Decides (named (at before) (kinds l.code) l) named_says
