-- The definitions of a listing: how many are of terms, and what more lines add.
use Rattle.std.proofs.Common.{◌≡◌, ℕ, zero, suc, ◌+◌, ◌<◌, ◌≤◌, Bool, true, false, cond, eqb, List, [], ◌∷◌, ◌++◌, length, Option, Some, None, Ok, sym, refl, ap, ◌∙◌, subst, arith, ◌⊎◌, inl, inr}
use Rattle.std.specs.List.{fold, flat_map, count_by}
use Rattle.std.specs.Option.{option_map}
use Rattle.std.proofs.lemmas.Bool.{ne_eqb, eqb-true}
use Rattle.std.proofs.lemmas.Grind.{flat_map-append}
use Rattle.std.proofs.lemmas.List.Sums.{sum_by-cons}
use Rattle.lexer.specs.declared.name.Name.{Name}
use Rattle.lines.specs.Stores.{numbered}
use Rattle.lines.specs.declared.line.Line.{Line}
use Rattle.scope.proofs.Withins.{phrase-within}
use Rattle.scope.specs.Definitions.{Definition, let_type, let_term, let_unnamed, name_on, name_given, type_defined, term_defined, defined_in, definitions, lets}
use Rattle.scope.specs.Laws.{Named}
use Rattle.scope.specs.Scope.{InScope, variables, define, of_definitions, scope}
use Rattle.scope.specs.Scoped.{ScopedPhrase}
use Rattle.scope.specs.Within.{PhraseWithin}
use Rattle.syntax.specs.Named.{NamedPhrase}

module _ {X : Type 0} where
  types-defined : (ds : List (Definition X)) (s : InScope X) → variables (fold define s ds).types ≡ variables s.types
  types-defined [] s = refl
  types-defined (let_type w x ∷ ds) s = types-defined ds (define s (let_type w x))
  types-defined (let_term w ∷ ds) s = types-defined ds (define s (let_term w))
  types-defined (let_unnamed ∷ ds) s = types-defined ds (define s let_unnamed)

  terms-defined : (ds : List (Definition X)) (s : InScope X) → length (fold define s ds).terms ≡ lets ds + length s.terms
  terms-defined [] s = omega arith
  terms-defined (let_type w x ∷ ds) s = terms-defined ds (define s (let_type w x))
  terms-defined (let_term w ∷ ds) s = omega (arith, terms-defined ds (define s (let_term w)))
  terms-defined (let_unnamed ∷ ds) s = omega (arith, terms-defined ds (define s let_unnamed))

  -- outside of its own bindings and binders a phrase has no type variable, and of terms those that let definitions give
  pub within-definitions : (ds : List (Definition X)) (p : NamedPhrase) (q : ScopedPhrase X) → scope ds p ≡ Ok q → PhraseWithin 0 (lets ds) q
  within-definitions ds p q e =
      let empty : InScope X = record { types = []; terms = [] } in
      let few : length (of_definitions ds).terms ≡ lets ds = omega (arith, terms-defined ds empty) in
      subst (λ m. PhraseWithin 0 m q) few (subst (λ n. PhraseWithin n (length (of_definitions ds).terms) q) (types-defined ds empty) (phrase-within p (of_definitions ds) q e))

  pub lets-append : (ds es : List (Definition X)) → lets (ds ++ es) ≡ lets ds + lets es
  lets-append [] es = omega arith
  lets-append (let_type w x ∷ ds) es = lets-append ds es
  lets-append (let_term w ∷ ds) es = omega (arith, lets-append ds es)
  lets-append (let_unnamed ∷ ds) es = omega (arith, lets-append ds es)

-- ---- the lines 92

lets-line : (lines : List Line) (l : Line) → lets (defined_in lines l) ≡ cond (eqb l.code 92) 1 0
lets-line lines l = go (eqb l.code 91) (eqb l.code 92) (name_given lines l) (λ e. ne_eqb l.code 92 (λ f. omega (arith, eqb-true l.code 91 e)))
  where
    go : (a b : Bool) (o : Option Name) → (a ≡ true → b ≡ false) → lets (cond a (type_defined o l.c3) (cond b (term_defined o) [])) ≡ cond b 1 0
    go true true o h = absurd (let e = h refl in cc)
    go true false None h = refl
    go true false (Some w) h = refl
    go false true None h = refl
    go false true (Some w) h = refl
    go false false o h = refl

lets-lines : (lines ls : List Line) → lets (flat_map (defined_in lines) ls) ≡ count_by (λ l. eqb l.code 92) ls
lets-lines lines [] = refl
lets-lines lines (l ∷ ls) =
    lets-append (defined_in lines l) (flat_map (defined_in lines) ls)
    ∙ ap (λ n. n + lets (flat_map (defined_in lines) ls)) (lets-line lines l)
    ∙ ap (λ n. cond (eqb l.code 92) 1 0 + n) (lets-lines lines ls)
    ∙ sym (sum_by-cons (λ x. cond (eqb x.code 92) 1 0) l ls)

pub lets-listing : (lines : List Line) → lets (definitions lines) ≡ count_by (λ l. eqb l.code 92) lines
lets-listing lines = lets-lines lines lines

-- ---- more lines

numbered-append : (xs ys : List Line) (n : ℕ) → 0 < n → n ≤ length xs → numbered (xs ++ ys) n ≡ numbered xs n
numbered-append xs ys zero p h = absurd (omega arith)
numbered-append xs ys (suc n) p h = go xs n h
  where
    go : (xs : List Line) (n : ℕ) → suc n ≤ length xs → numbered (xs ++ ys) (suc n) ≡ numbered xs (suc n)
    go [] n h = absurd (omega arith)
    go (x ∷ xs) zero h = refl
    go (x ∷ xs) (suc n) h = go xs n (omega arith)

defined-same : (xs ys : List Line) (l : Line) → ((l.code ≡ 91) ⊎ (l.code ≡ 92) → (0 < l.c1) × (l.c1 ≤ length xs)) → defined_in (xs ++ ys) l ≡ defined_in xs l
defined-same xs ys l h = go (eqb l.code 91) (eqb l.code 92) (λ e. at (inl (eqb-true l.code 91 e))) (λ e. at (inr (eqb-true l.code 92 e)))
  where
    at : (l.code ≡ 91) ⊎ (l.code ≡ 92) → name_given (xs ++ ys) l ≡ name_given xs l
    at d = ap (option_map name_on) (numbered-append xs ys l.c1 ((h d).0) ((h d).1))

    go : (a b : Bool) → (a ≡ true → name_given (xs ++ ys) l ≡ name_given xs l) → (b ≡ true → name_given (xs ++ ys) l ≡ name_given xs l)
        → cond a (type_defined (name_given (xs ++ ys) l) l.c3) (cond b (term_defined (name_given (xs ++ ys) l)) [])
        ≡ cond a (type_defined (name_given xs l) l.c3) (cond b (term_defined (name_given xs l)) [])
    go true b p q = ap (λ o. type_defined o l.c3) (p refl)
    go false true p q = ap term_defined (q refl)
    go false false p q = refl

defined-more : (xs ys ls : List Line) → Named xs ls → flat_map (defined_in (xs ++ ys)) ls ≡ flat_map (defined_in xs) ls
defined-more xs ys [] h = refl
defined-more xs ys (l ∷ ls) h =
    ap (λ ds. ds ++ flat_map (defined_in (xs ++ ys)) ls) (defined-same xs ys l h.0) ∙ ap (λ ds. defined_in xs l ++ ds) (defined-more xs ys ls h.1)

-- the definitions of more lines come behind those that there were
pub definitions-append : (xs ys : List Line) → Named xs xs → definitions (xs ++ ys) ≡ definitions xs ++ flat_map (defined_in (xs ++ ys)) ys
definitions-append xs ys h =
    flat_map-append (defined_in (xs ++ ys)) xs ys ∙ ap (λ ds. ds ++ flat_map (defined_in (xs ++ ys)) ys) (defined-more xs ys xs h)
