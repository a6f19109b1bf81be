-- The definitions by which names are looked up in a listing are those that its lines say, with lines for their types.
use Rattle.std.proofs.Common.{◌≡◌, ℕ, suc, ◌+◌, List, [], ◌∷◌, ◌++◌, map, Some, refl, ap, ap₂, sym, ◌∙◌, subst, arith}
use Rattle.std.specs.List.{flat_map, slice_get}
use Rattle.std.specs.Option.{option_map}
use Rattle.lexer.specs.Names.{two_bytes}
use Rattle.lexer.specs.declared.name.Name.{Name}
use Rattle.lines.specs.Stores.{numbered}
use Rattle.lines.specs.declared.line.Line.{Line}
use Rattle.rules.specs.Follows.{type_defined, term_defined}
use Rattle.rules.specs.Statements.{Statement, name_line, let_type, let_term, statement, said}
use Rattle.rules.proofs.Codes.{code_read}
use Rattle.rules.proofs.Codes as codes
use Rattle.rules.proofs.Whole.{said_line, line_said}
use Rattle.runs.specs.Definitions.{Definition, named, line_of, NameAt, Says, says_type, says_term, DefinedBy, no_line, defines_nothing, defines, DefinitionsOf}
use Rattle.runs.proofs.Trees.{Known, line, type}
use Rattle.scope.specs.Definitions as scope
use Rattle.scope.specs.Definitions.{name_on, name_given, defined_in, definitions}
use Rattle.scope.specs.Mapped.{map_definition}
use Rattle.std.proofs.lemmas.Bool.{eq-eqb, ne_eqb}
use Rattle.std.proofs.lemmas.Option.{same_Some}

-- what a line of each code for a definition, and for a name, says

let_type_said : (l : Line) → l.code ≡ 91 → statement l ≡ Some (let_type l.c1 l.c2 l.c3 l.c4 l.c5 l.c6)
let_type_said l e = codes.says l 91 e

let_term_said : (l : Line) → l.code ≡ 92 → statement l ≡ Some (let_term l.c1 l.c2 l.c3 l.c4 l.c5 l.c6)
let_term_said l e = codes.says l 92 e

name_said : (l : Line) → l.code ≡ 90 → statement l ≡ Some (name_line l.c1 l.c2 l.c3 l.c4 l.c5 l.c6 l.c7)
name_said l e = codes.says l 90 e

-- what is defined in a line of each code

in_type : (lines : List Line) (l : Line) → l.code ≡ 91 → defined_in lines l ≡ scope.type_defined (name_given lines l) l.c3
in_type lines l e = rw (eq-eqb l.code 91 e) refl

in_term : (lines : List Line) (l : Line) → l.code ≡ 92 → defined_in lines l ≡ scope.term_defined (name_given lines l)
in_term lines l e =
    rw (ne_eqb l.code 91 (λ f. let z : ⊥ = omega (arith, e, f) in z), eq-eqb l.code 92 e) refl

in_other : (lines : List Line) (l : Line) → (l.code ≡ 91 → ⊥) → (l.code ≡ 92 → ⊥) → defined_in lines l ≡ []
in_other lines l e f = rw (ne_eqb l.code 91 e, ne_eqb l.code 92 f) refl

given : (lines : List Line) (l : Line) (x : ℕ) (w : Name) → l.c1 ≡ x → NameAt (said lines) x w → name_given lines l ≡ Some w
given lines l x w e (a, b, c, d, f, g, h, i, j) =
    let (m, p, q) = said_line lines x _ i in
    let r = name_said m (code_read m _ q) in
    let same : Some (name_line m.c1 m.c2 m.c3 m.c4 m.c5 m.c6 m.c7) ≡ Some (name_line a b c d f g h) = sym r ∙ q in
    let s1 : m.c1 ≡ a = cc same in let s2 : m.c2 ≡ b = cc same in let s3 : m.c3 ≡ c = cc same in let s4 : m.c4 ≡ d = cc same in
    let s5 : m.c5 ≡ f = cc same in let s6 : m.c6 ≡ g = cc same in let s7 : m.c7 ≡ h = cc same in
    ap (λ n. option_map name_on (numbered lines n)) e ∙ ap (option_map name_on) p
    ∙ (λ k. Some (record { bytes = two_bytes (s1 k ∷ s2 k ∷ s3 k ∷ s4 k ∷ s5 k ∷ s6 k ∷ s7 k ∷ []) })) ∙ ap Some (sym j)

module _ (lines : List Line) where
  abbrev Given : List Line → List Definition → Type 0
  Given rest ds =
      (ks : List (scope.Definition (Known (said lines))))
      × (map (map_definition (line (said lines))) ks ≡ flat_map (defined_in lines) rest) × (map (map_definition (type (said lines))) ks ≡ map named ds)

  abbrev Stand : ℕ → List Line → Type 0
  Stand n rest = (i : ℕ) (l : Line) → slice_get rest i ≡ Some l → numbered lines (n + i) ≡ Some l

  stand_later : (n : ℕ) (l : Line) (rest : List Line) → Stand n (l ∷ rest) → Stand (suc n) rest
  stand_later n l rest h i m e = let same : n + suc i ≡ suc n + i = omega arith in subst (λ k. numbered lines k ≡ Some m) same (h (suc i) m e)

  stand_here : (n : ℕ) (l : Line) (rest : List Line) → Stand n (l ∷ rest) → numbered lines n ≡ Some l
  stand_here n l rest h = let same : n + 0 ≡ n = omega arith in subst (λ k. numbered lines k ≡ Some l) same (h 0 l refl)

  -- what line n says is what it says
  here_said : (n m : ℕ) (l : Line) (s : Statement) → numbered lines n ≡ Some l → m ≡ n → said lines m ≡ Some s → statement l ≡ Some s
  here_said n m l s e k f =
      let (j, p, q) = said_line lines m s f in
      let same : l ≡ j = same_Some _ _ (sym e ∙ ap (numbered lines) (sym k) ∙ p) in ap statement same ∙ q

  given_more : (l : Line) (rest : List Line) (d : Definition) (ds : List Definition) (k : scope.Definition (Known (said lines)))
      → map_definition (line (said lines)) k ∷ [] ≡ defined_in lines l → map_definition (type (said lines)) k ≡ named d → Given rest ds
      → Given (l ∷ rest) (d ∷ ds)
  given_more l rest d ds k e f (ks, g, h) = (k ∷ ks, ap₂ ◌++◌ e g, ap₂ ◌∷◌ f h)

  given_by : (n : ℕ) (rest : List Line) (ds : List Definition) → Stand n rest → DefinedBy (said lines) n rest ds → Given rest ds
  given_by n rest ds h no_line = ([], refl, refl)
  given_by n (l ∷ rest) ds h (defines_nothing none more) =
      let (ks, g, f) = given_by (suc n) rest ds (stand_later n l rest h) more in
      let e = stand_here n l rest h in
      let nothing = in_other lines l (λ c. none _ (type_defined (line_said lines n l _ e (let_type_said l c))))
      (λ c. none _ (term_defined (line_said lines n l _ e (let_term_said l c)))) in
      (ks, g ∙ ap (λ xs. xs ++ flat_map (defined_in lines) rest) (sym nothing), f)
  given_by n (l ∷ rest) (d ∷ ds) h (defines e s more) = go d e s (given_by (suc n) rest ds (stand_later n l rest h) more)
    where
      go : (d : Definition) → line_of d ≡ n → Says (said lines) d → Given rest ds → Given (l ∷ rest) (d ∷ ds)
      go d e (says_type {n = m} {x = x} {b = b} {a = a} {p = p} {E = E} {previous = o} {w = w} {A = A} f i y z) g =
          let u : statement l ≡ Some (let_type x b a p E o) = here_said n m l _ (stand_here n l rest h) e f in
          let c = code_read l _ u in
          let same : Some (let_type l.c1 l.c2 l.c3 l.c4 l.c5 l.c6) ≡ Some (let_type x b a p E o) = sym (let_type_said l c) ∙ u in
          let q : l.c1 ≡ x = cc same in let r : l.c3 ≡ a = cc same in
          given_more l rest d ds (scope.let_type w (a, A, z))
          (sym (in_type lines l c ∙ ap₂ scope.type_defined (given lines l x w q i) r)) refl g
      go d e (says_term {n = m} {x = x} {a = a} {t = t} {p = p} {E = E} {previous = o} {w = w} f i y z) g =
          let u : statement l ≡ Some (let_term x a t p E o) = here_said n m l _ (stand_here n l rest h) e f in
          let c = code_read l _ u in
          let same : Some (let_term l.c1 l.c2 l.c3 l.c4 l.c5 l.c6) ≡ Some (let_term x a t p E o) = sym (let_term_said l c) ∙ u in
          let q : l.c1 ≡ x = cc same in
          given_more l rest d ds (scope.let_term w) (sym (in_term lines l c ∙ ap scope.term_defined (given lines l x w q i))) refl g

  -- each type with its line
  pub given_definitions : (ds : List Definition) → DefinitionsOf lines ds
      → (ks : List (scope.Definition (Known (said lines))))
      × (map (map_definition (line (said lines))) ks ≡ definitions lines) × (map (map_definition (type (said lines))) ks ≡ map named ds)
  given_definitions ds x = given_by 1 lines ds (λ i l e. let same : suc i ≡ 1 + i = omega arith in subst (λ k. numbered lines k ≡ Some l) same e) x
