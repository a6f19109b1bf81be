-- One node after another is resolved in its place; and what that says of the records of a phrase.
use Rattle.std.proofs.Common.{◌≡◌, ℕ, suc, ◌+◌, ◌<◌, ◌≤◌, Bool, true, false, cond, eqb, List, [], ◌∷◌, ◌++◌, length, take, drop, set, get_or, Option, Some, None, Ok, Err, Result, sym, refl, ap, ◌∙◌, subst, arith, add-one}
use Rattle.std.proofs.Math.Seq.{take-suc-set, drop-cons, take-suc}
use Rattle.std.proofs.lemmas.List.{take-append-drop, drop-set-lt}
use Rattle.std.proofs.lemmas.List.Sums.{fold-append}
use Rattle.std.specs.Bool.{⊤}
use Rattle.std.specs.List.{fold, flat_map}
use Rattle.std.specs.Result.{IsErr, IsErrAnd}
use Rattle.lexer.specs.declared.name.Name.{Name}
use Rattle.lines.specs.declared.line.Line.{Line}
use Rattle.scope.proofs.Nodes.{resolved-append}
use Rattle.scope.proofs.Phrases.{tie-phrase}
use Rattle.scope.proofs.Ties.{most}
use Rattle.scope.specs.Definitions.{definitions, defined_in, type_defined, term_defined, name_given}
use Rattle.scope.specs.Resolved.{outside, resolved_node, type_node, term_node, past, past_all, resolved, Resolved, Scoped, in_listing}
use Rattle.scope.specs.Scope.{InScope, Meaning, variable, stands_for, variables, meaning, number, one, both, define, scope, scope_in}
use Rattle.scope.specs.Scoped.{ScopedPhrase}
use Rattle.scope.specs.ScopedLayout as laid
use Rattle.scope.specs.declared.unbound.Unbound.{Unbound}
use Rattle.syntax.specs.Layout.{nodes}
use Rattle.syntax.specs.Named.{NamedPhrase}
use Rattle.syntax.specs.declared.node.Node.{Node}
use Rattle.syntax.specs.declared.node.Node.TheVariants.{Top, TypeVar, TypeName, TypeLine, TermVar, TermName, TypeBinding, TermBinding}

-- ---- a name that is resolved binds nothing

type-keeps : (s : InScope ℕ) (byte inside : ℕ) (m : Option (Meaning ℕ)) (z : Node) → type_node byte inside m ≡ Ok z → past s z ≡ s
type-keeps s byte inside None z e = absurd cc
type-keeps s byte inside (Some (variable k)) z e = let same : TypeVar (outside inside k) ≡ z = cc in ap (past s) (sym same)
type-keeps s byte inside (Some (stands_for line)) z e = let same : TypeLine line ≡ z = cc in ap (past s) (sym same)

term-keeps : (s : InScope ℕ) (byte inside : ℕ) (m : Option ℕ) (z : Node) → term_node byte inside m ≡ Ok z → past s z ≡ s
term-keeps s byte inside None z e = absurd cc
term-keeps s byte inside (Some k) z e = let same : TermVar byte (outside inside k) ≡ z = cc in ap (past s) (sym same)

past-resolved : (s t : InScope ℕ) (n z : Node) → resolved_node s n ≡ Ok z → past t z ≡ past t n
past-resolved s t (TypeName byte w inside) z e = type-keeps t byte inside (meaning s.types w) z e
past-resolved s t (TermName byte w inside) z e = term-keeps t byte inside (number s.terms w) z e
past-resolved s t n z e = let same : n ≡ z = cc in ap (past t) (sym same)

-- ---- a turn

cons-parts : (x y : Node) (xs ys : List Node) → x ∷ xs ≡ y ∷ ys → (x ≡ y) × (xs ≡ ys)
cons-parts x y xs ys e = (cc, cc)

-- what still stands as it was, at the next node
rest-parts : (old tree : List Node) (i : ℕ) → i < length tree → length tree ≡ length old → drop i tree ≡ drop i old
    → (get_or tree i Top ≡ get_or old i Top) × (drop (suc i) tree ≡ drop (suc i) old)
rest-parts old tree i h e same =
    cons-parts _ _ _ _ (sym (drop-cons tree i Top h) ∙ same ∙ drop-cons old i Top (omega arith))

past-all : (s : InScope ℕ) (xs zs : List Node) → resolved s xs ≡ Ok zs → past_all s zs ≡ past_all s xs
past-all s [] zs e = let none : [] ≡ zs = cc in ap (past_all s) (sym none)
past-all s (n ∷ xs) zs e = go (resolved_node s n) (resolved (past s n) xs) refl (λ ys f. past-all (past s n) xs ys f) e
  where
    go : (a : Result Node ℕ) (b : Result (List Node) ℕ) → resolved_node s n ≡ a → ((ys : List Node) → b ≡ Ok ys → past_all (past s n) ys ≡ past_all (past s n) xs)
        → both ◌∷◌ a b ≡ Ok zs → past_all s zs ≡ past_all (past s n) xs
    go (Ok z) (Ok ys) f h k =
        let same : z ∷ ys ≡ zs = cc in
        ap (past_all s) (sym same) ∙ ap (λ t. past_all t ys) (past-resolved s s n z f) ∙ h ys refl
    go (Ok z) (Err byte) f h k = absurd cc
    go (Err byte) b f h k = absurd cc

module _ (s : InScope ℕ) (old tree : List Node) (i : ℕ) (h : i < length tree) (long : length tree ≡ length old) (rest : drop i tree ≡ drop i old) (so : resolved s (take i old) ≡ Ok (take i tree)) where
  node : Node
  node = get_or tree i Top

  taken : take (i + 1) old ≡ take i old ++ get_or tree i Top ∷ []
  taken = ap (λ k. take k old) (add-one i) ∙ take-suc old i Top (omega arith) ∙ ap (λ n. take i old ++ n ∷ []) (sym ((rest-parts old tree i h long rest).0))

  to-here : resolved s (take (i + 1) old) ≡ both ◌++◌ (Ok (take i tree)) (both ◌∷◌ (resolved_node (past_all s (take i tree)) (get_or tree i Top)) (Ok []))
  to-here =
      ap (resolved s) taken
      ∙ resolved-append s (take i old) (get_or tree i Top ∷ [])
      ∙ ap (λ t. both ◌++◌ (resolved s (take i old)) (both ◌∷◌ (resolved_node t (get_or tree i Top)) (Ok []))) (sym (past-all s (take i old) (take i tree) so))
      ∙ ap (λ r. both ◌++◌ r (both ◌∷◌ (resolved_node (past_all s (take i tree)) (get_or tree i Top)) (Ok []))) so

  pub turn-resolved : (z : Node) → resolved_node (past_all s (take i tree)) (get_or tree i Top) ≡ Ok z → resolved s (take (i + 1) old) ≡ Ok (take (i + 1) (set tree i z))
  turn-resolved z e =
      to-here
      ∙ ap (λ r. both ◌++◌ (Ok (take i tree)) (both ◌∷◌ r (Ok []))) e
      ∙ ap Ok (sym (ap (λ k. take k (set tree i z)) (add-one i) ∙ take-suc-set tree i z h))

  pub turn-rest : (z : Node) → drop (i + 1) (set tree i z) ≡ drop (i + 1) old
  turn-rest z = drop-set-lt (i + 1) tree i z (omega arith) ∙ ap (λ k. drop k tree) (add-one i) ∙ (rest-parts old tree i h long rest).1 ∙ ap (λ k. drop k old) (sym (add-one i))

  pub turn-past : (z : Node) → resolved_node (past_all s (take i tree)) (get_or tree i Top) ≡ Ok z
      → past_all s (take (i + 1) (set tree i z)) ≡ past (past_all s (take i tree)) (get_or tree i Top)
  turn-past z e =
      ap (past_all s) (ap (λ k. take k (set tree i z)) (add-one i) ∙ take-suc-set tree i z h)
      ∙ fold-append past s (take i tree) (z ∷ [])
      ∙ past-resolved (past_all s (take i tree)) (past_all s (take i tree)) (get_or tree i Top) z e

  pub turn-refused : (fault : Unbound) → resolved_node (past_all s (take i tree)) (get_or tree i Top) ≡ Err fault.byte → Resolved s old tree (Err fault)
  turn-refused fault e = (i, omega arith, so, rest, to-here ∙ ap (λ r. both ◌++◌ (Ok (take i tree)) (both ◌∷◌ r (Ok []))) e)

-- a fault that is passed on
pub passed-on : (s : InScope ℕ) (old tree : List Node) (fault : Unbound) (r : Result ⊤ Unbound) → IsErr r → IsErrAnd r (λ e. e ≡ fault) → Resolved s old tree (Err fault) → Resolved s old tree r
passed-on s old tree fault (Ok u) is same h = absurd cc
passed-on s old tree fault (Err e) is same h = subst (λ f. Resolved s old tree (Err f)) (sym same) h

-- ---- all numbers fit

one-more-type : (n : Node) (s : InScope ℕ) → variables (past s n).types ≤ suc (variables s.types)
one-more-type (TypeBinding w bound) s = omega arith
one-more-type (TermBinding w domain) s = omega arith
one-more-type n s = omega arith

one-more-term : (n : Node) (s : InScope ℕ) → length (past s n).terms ≤ suc (length s.terms)
one-more-term (TypeBinding w bound) s = omega arith
one-more-term (TermBinding w domain) s = omega arith
one-more-term n s = omega arith

pub types-past : (xs : List Node) (s : InScope ℕ) → variables (past_all s xs).types ≤ variables s.types + length xs
types-past [] s = omega arith
types-past (n ∷ xs) s = omega (arith, types-past xs (past s n), one-more-type n s)

pub terms-past : (xs : List Node) (s : InScope ℕ) → length (past_all s xs).terms ≤ length s.terms + length xs
terms-past [] s = omega arith
terms-past (n ∷ xs) s = omega (arith, terms-past xs (past s n), one-more-term n s)

-- a line defines one thing at most, and no type variable
define-types : (lines : List Line) (l : Line) (s : InScope ℕ) → variables (fold define s (defined_in lines l)).types ≡ variables s.types
define-types lines l s = go (eqb l.code 91) (eqb l.code 92) (name_given lines l)
  where
    go : (a b : Bool) (o : Option Name) → variables (fold define s (cond a (type_defined o l.c3) (cond b (term_defined o) []))).types ≡ variables s.types
    go true b None = refl
    go true b (Some w) = refl
    go false true None = refl
    go false true (Some w) = refl
    go false false o = refl

define-terms : (lines : List Line) (l : Line) (s : InScope ℕ) → length (fold define s (defined_in lines l)).terms ≤ suc (length s.terms)
define-terms lines l s = go (eqb l.code 91) (eqb l.code 92) (name_given lines l)
  where
    go : (a b : Bool) (o : Option Name) → length (fold define s (cond a (type_defined o l.c3) (cond b (term_defined o) []))).terms ≤ suc (length s.terms)
    go true b None = omega arith
    go true b (Some w) = omega arith
    go false true None = omega arith
    go false true (Some w) = omega arith
    go false false o = omega arith

types-after : (lines ls : List Line) (s : InScope ℕ) → variables (fold define s (flat_map (defined_in lines) ls)).types ≡ variables s.types
types-after lines [] s = refl
types-after lines (l ∷ ls) s =
    ap (λ t. variables t.types) (fold-append define s (defined_in lines l) (flat_map (defined_in lines) ls))
    ∙ types-after lines ls (fold define s (defined_in lines l)) ∙ define-types lines l s

terms-after : (lines ls : List Line) (s : InScope ℕ) → length (fold define s (flat_map (defined_in lines) ls)).terms ≤ length s.terms + length ls
terms-after lines [] s = omega arith
terms-after lines (l ∷ ls) s =
    let same = ap (λ t. length t.terms) (fold-append define s (defined_in lines l) (flat_map (defined_in lines) ls)) in
    omega (arith, same, terms-after lines ls (fold define s (defined_in lines l)), define-terms lines l s)

pub types-in-listing : (lines : List Line) → variables (in_listing lines).types ≡ 0
types-in-listing lines = types-after lines lines (record { types = []; terms = [] })

pub terms-in-listing : (lines : List Line) → length (in_listing lines).terms ≤ length lines
terms-in-listing lines = omega (arith, terms-after lines lines (record { types = []; terms = [] }))

-- ---- a phrase

refused-whole : (s : InScope ℕ) (old : List Node) (k byte : ℕ) → resolved s (take k old) ≡ Err byte → resolved s old ≡ Err byte
refused-whole s old k byte e =
    ap (resolved s) (sym (take-append-drop k old))
    ∙ resolved-append s (take k old) (drop k old)
    ∙ ap (λ r. both ◌++◌ r (resolved (past_all s (take k old)) (drop k old))) e

scoped-ok : (r : Result (ScopedPhrase ℕ) ℕ) (new : List Node) → one laid.nodes r ≡ Ok new → Scoped r new (Ok tt)
scoped-ok (Ok q) new e = cc
scoped-ok (Err byte) new e = absurd cc

scoped-err : (r : Result (ScopedPhrase ℕ) ℕ) (new : List Node) (fault : Unbound) → one laid.nodes r ≡ Err fault.byte → Scoped r new (Err fault)
scoped-err (Ok q) new fault e = absurd cc
scoped-err (Err byte) new fault e = cc

pub phrase-scoped : (lines : List Line) (p : NamedPhrase) (old new : List Node) (r : Result ⊤ Unbound) → length lines ≤ 65535 → length old + 65535 ≤ most
    → Resolved (in_listing lines) old new r → old ≡ nodes p → Scoped (scope (definitions lines) p) new r
phrase-scoped lines p old new r few short done e =
    let s = in_listing lines in
    let long = ap length e in
    let tie = ap (resolved s) e ∙ tie-phrase p s (omega (arith, types-in-listing lines)) (omega (arith, terms-in-listing lines)) in
    go r done tie
  where
    go : (r : Result ⊤ Unbound) → Resolved (in_listing lines) old new r → resolved (in_listing lines) old ≡ one laid.nodes (scope_in (in_listing lines) p)
        → Scoped (scope (definitions lines) p) new r
    go (Ok u) done tie = scoped-ok (scope_in (in_listing lines) p) new (sym tie ∙ done)
    go (Err fault) done tie = scoped-err (scope_in (in_listing lines) p) new fault (sym tie ∙ refused-whole (in_listing lines) old (done.0 + 1) fault.byte done.4)
