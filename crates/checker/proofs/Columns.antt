-- Causes 1 and 2: the code, and the columns past those of the code.
use Rattle.std.proofs.Common.{◌≡◌, ℕ, zero, suc, ◌<◌, Bool, true, false, not, ◌&&◌, ◌||◌, T, eqb, List, [], ◌∷◌, length, drop, is_some, Some, None, IsTrue, ◌↔◌, Option, sym, refl, ◌∙◌, arith}
use Rattle.std.specs.List.{list_all}
use Rattle.checker.proofs.Sounds.{at_code}
use Rattle.checker.specs.Columns.{known, kinds, zero_past}
use Rattle.lines.specs.declared.answer.Cause.TheVariants.{Code}
use Rattle.lines.specs.declared.line.Line.{Line}
use Rattle.rules.proofs.Codes.{says, at_rows}
use Rattle.rules.specs.Faults.{admitted, numbers, AllZero, AtFault}
use Rattle.rules.specs.Quantifiers.{Rule}
use Rattle.rules.specs.Statements.{Statement, table, coded, statement, columns}
use Rattle.std.proofs.lemmas.Bool.Decides.{nat_tests, Decides-eqb, Decides-and, Decides-below_and, not_from_Decides}

-- every code that is known is in the table
module _ (R : Rule) (l : Line) where
  abbrev listed : ℕ → Bool
  listed c = is_some (coded c (table l)) || not (known R c)

  abbrev listed_below : ℕ → Bool
  listed_below zero = true
  listed_below (suc n) = listed n && listed_below n

  known_below : (c : ℕ) → known R c ≡ true → c < 93
  known_below c h = grind (arith, nat_tests)

  known_listed : (c : ℕ) → known R c ≡ true → listed c ≡ true
  known_listed c h =
      (Decides-below_and listed (λ c. listed c ≡ true) listed_below (λ c. (λ h. h, λ h. h)) refl (λ _. refl) 93).0 refl c (known_below c h)

known_is : (R : Rule) (l : Line) (s : Statement) → statement l ≡ Some s → known R l.code ≡ admitted R s
known_is R l s e = at_rows (λ r. known R r.0) (λ r. admitted R r.1) l s refl e

unlisted : (o : Option Statement) (b : Bool) → o ≡ None → (is_some o || not b) ≡ true → b ≡ false
unlisted o true e h = cc
unlisted o false e h = refl

pub known_yes : (R : Rule) (l : Line) → known R l.code ≡ true → (s : Statement) × (statement l ≡ Some s) × T (admitted R s)
known_yes R l h = go (statement l) refl
  where
    go : (o : Option Statement) → statement l ≡ o → (s : Statement) × (statement l ≡ Some s) × T (admitted R s)
    go None e =
        let k = unlisted (coded l.code (table l)) (known R l.code) (sym (says l l.code refl) ∙ e) (known_listed R l l.code h) in
        absurd (let z : ◌≡◌ {A = ℕ} 0 1 = cc in omega arith)
    go (Some s) e = (s, e, rw (sym (known_is R l s e) ∙ h) tt)

pub known_no : (R : Rule) (before : List Line) (l : Line) → known R l.code ≡ false → AtFault R before l Code
known_no R before l h = go (statement l) refl
  where
    go : (o : Option Statement) → statement l ≡ o → AtFault R before l Code
    go None e = rw e refl
    go (Some s) e = at_code R before l s e (λ t. rw (sym (known_is R l s e) ∙ h) at t)

all_zero : (ns : List ℕ) → IsTrue (list_all (λ n. eqb n 0) ns) ↔ AllZero ns
all_zero [] = (λ _. tt, λ _. refl)
all_zero (n ∷ ns) = Decides-and (eqb n 0) (list_all (λ n. eqb n 0) ns) (Decides-eqb n 0) (all_zero ns)

module _ (l : Line) (s : Statement) (e : statement l ≡ Some s) where
  zero_past_says : IsTrue (zero_past (kinds l.code) l) ↔ AllZero (drop (length (columns s)) (numbers l))
  zero_past_says =
      let same : length (kinds l.code) ≡ length (columns s) = at_rows (λ r. length (kinds r.0)) (λ r. length (columns r.1)) l s refl e in
      rw same (all_zero (drop (length (columns s)) (numbers l)))

  pub zero_past_yes : zero_past (kinds l.code) l ≡ true → AllZero (drop (length (columns s)) (numbers l))
  zero_past_yes = zero_past_says.0

  pub zero_past_no : zero_past (kinds l.code) l ≡ false → AllZero (drop (length (columns s)) (numbers l)) → ⊥
  zero_past_no = not_from_Decides (zero_past (kinds l.code) l) zero_past_says
