-- From what adopt answers of a page to the verdict on its bytes.
use Rattle.std.proofs.Common.{◌≡◌, ℕ, ◌+◌, ◌-◌, ◌*◌, ◌/◌, ◌%◌, ◌<◌, ◌≤◌, min, IfErr, sym, List, length, drop, refl, ap, ◌∙◌, subst, inl, inr, Ok, Err, Result, arith, length-drop, length-take}
use Rattle.checker.specs.Checked.{Checked}
use Rattle.std.specs.Result.{IsErrAnd}
use Rattle.page.proofs.Rows.{rows_take}
use Rattle.page.proofs.Written.{length-encoded}
use Rattle.lines.specs.Adopts.{Adopted, Lowest}
use Rattle.page.specs.Form.{InForm}
use Rattle.page.specs.Pages.{place, rows, rows_length, text, spaces, every}
use Rattle.page.specs.declared.page.Page.{Page}
use Rattle.lines.specs.Answers.{answer_to}
use Rattle.lines.specs.declared.answer.Answer.TheVariants.{OutOfForm as out_of_form}
use Rattle.lines.specs.declared.fault.OutOfForm.{OutOfForm}
use Rattle.lines.specs.declared.fault.Unsound.{Unsound}
use Rattle.lines.specs.declared.line.Line.{Line}
use Rattle.report.specs.Verdicts.{places, LineAt, listing, Answered}
use Rattle.rules.specs.Quantifiers.{Rule}

-- the error that a `?` passes on
pub err_is : {T E : Type 0} (P : E → Type 0) (r : Result T E) (a : E) → IsErrAnd r (λ e. e ≡ a) → P a → IfErr r P
err_is P (Ok x) a h p = tt
err_is P (Err e) a h p = subst P (sym h) p

-- a place in form is whole
whole : (s : List ℕ) (p : ℕ) → 0 < p → InForm (place (p - 1) s) → p ≤ length s / 46
whole s p h (l, _, e) =
    omega (arith, length-encoded l, ap length e, length-take 46 (drop (46 * (p - 1)) s), length-drop (46 * (p - 1)) s)

-- the page holds the bytes of t, all n places of them
module _ (page : Page) (t : List ℕ) (n : ℕ) (same : text page ≡ t) (all : n ≡ length t / 46 + min 1 (length t % 46)) where
  abbrev s : List ℕ
  s = text page

  abbrev FormAt : ℕ → Type 0
  FormAt p = InForm (place (p - 1) s)

  room : length (every page) ≡ min (length s / 46) 65535
  room = rows_length (spaces page) s

  every_place : n ≡ places s
  every_place = omega (arith, ap length same)

  -- the adopt is granted, and the lines are checked
  module _ (m : ℕ) (xs ys : List Line) (adopted : Adopted FormAt (every page) n xs ys (Ok m)) where
    pub lines_are : ys ≡ listing t
    lines_are =
        let few : min (spaces page) n ≡ places s = omega (arith, adopted.1, room, every_place) in
        adopted.3 ∙ rows_take (spaces page) n s ∙ ap (λ k. rows k s) few ∙ ap listing same

    pub checked : (R : Rule) (found : Result ℕ Unsound) → Checked R ys found → Answered R t (answer_to found)
    checked R found h =
        inr (
          subst (λ u. (p : ℕ) → 0 < p → p ≤ places u → LineAt u p) same
              (λ p z l. (omega (arith, adopted.1, room, every_place), adopted.2 p z (omega (arith, every_place)))),
          (found, subst (λ lines. Checked R lines found) lines_are h, refl),
        )

  -- the adopt is refused
  pub refused : (R : Rule) (xs ys : List Line) (fault : OutOfForm) → Adopted FormAt (every page) n xs ys (Err fault) → Answered R t (out_of_form fault.place)
  refused R xs ys fault ((z, h, below, out), _) =
      inl (
        fault.place,
        refl,
        subst (λ u. Lowest (LineAt u) (places u) fault.place) same (
          z,
          omega (arith, every_place),
          λ q y l. let g = below q y l in (omega (arith, g.0, room), g.1),
          λ g. out (omega (arith, g.0, room, whole s fault.place z g.1), g.1),
        ),
      )
