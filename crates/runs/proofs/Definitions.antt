-- The definitions of a listing: each is said by one line, they stay as lines are added, and those of the first lines are the first.
use Rattle.std.proofs.Common.{◌≡◌, ℕ, zero, suc, ◌+◌, ◌<◌, ◌≤◌, ◌⊎◌, Bool, true, false, cond, List, [], ◌∷◌, ◌++◌, length, take, Option, Some, None, refl, ap, sym, ◌∙◌, subst, inl, inr, ⊎_elim, arith}
use Rattle.std.specs.Prelude.{nat_le}
use Rattle.lexer.specs.Names.{two_bytes}
use Rattle.lexer.specs.declared.name.Name.{Name}
use Rattle.lines.specs.declared.line.Line.{Line}
use Rattle.rules.specs.Faults.{Sound}
use Rattle.rules.specs.Follows.{Defines, type_defined, term_defined}
use Rattle.rules.specs.Meaning.{TypeAt, TermAt}
use Rattle.rules.specs.Quantifiers.{Rule}
use Rattle.rules.specs.Statements.{Statement, name_line, let_type, let_term, Get, said}
use Rattle.rules.proofs.Codes.{OfKind, names, of_name}
use Rattle.rules.proofs.Grow.{cut_sound}
use Rattle.rules.proofs.Means.{type_one, term_one, type_on, term_on, type_named, term_named}
use Rattle.rules.proofs.Whole.{◌⊑◌, Earlier, said_take, said_within, whole}
use Rattle.rules.specs.Syntax.{Ty, Tm}
use Rattle.judge.proofs.Valid.{defines_nothing as nothing_said}
use Rattle.runs.specs.Definitions.{Definition, type_definition, term_definition, line_of, NameAt, Says, says_type, says_term, DefinedBy, no_line, defines_nothing, defines, DefinitionsOf}
use Rattle.runs.specs.Runs.{up_to}
use Rattle.std.proofs.lemmas.Option.{none-some}
use Rattle.std.proofs.lemmas.Bool.{cases_lt, le-leb, leb-true}

-- a line says one definition, and goes on saying it

name_one : (G : Get) (x : ℕ) {v w : Name} → NameAt G x v → NameAt G x w → v ≡ w
name_one G x (a, b, c, d, e, f, g, h, i) (a', b', c', d', e', f', g', h', i') =
    let same : Some (name_line a b c d e f g) ≡ Some (name_line a' b' c' d' e' f' g') = sym h ∙ h' in
    let p : a ≡ a' = cc same in let q : b ≡ b' = cc same in let r : c ≡ c' = cc same in let s : d ≡ d' = cc same in
    let t : e ≡ e' = cc same in let u : f ≡ f' = cc same in let v : g ≡ g' = cc same in
    i ∙ (λ j. record { bytes = two_bytes (p j ∷ q j ∷ r j ∷ s j ∷ t j ∷ u j ∷ v j ∷ []) }) ∙ sym i'

name_same : (G : Get) (x y : ℕ) {v w : Name} → x ≡ y → NameAt G x v → NameAt G y w → v ≡ w
name_same G x y {w = w} e h i = name_one G x h (subst (λ m. NameAt G m w) (sym e) i)

type_same : {G : Get} {m n : ℕ} {A B : Ty} → m ≡ n → TypeAt G m A → TypeAt G n B → A ≡ B
type_same {G} {B = B} e h i = type_one h (subst (λ k. TypeAt G k B) (sym e) i)

term_same : {G : Get} {m n : ℕ} {a b : Tm} → m ≡ n → TermAt G m a → TermAt G n b → a ≡ b
term_same {G} {b = b} e h i = term_one h (subst (λ k. TermAt G k b) (sym e) i)

pub says_one : {G : Get} {c d : Definition} → Says G c → Says G d → line_of c ≡ line_of d → c ≡ d
says_one {G} (says_type {n = n} {x = x} {b = b} {a = a} {p = p} {E = E} {previous = o} e w y z) (says_type {n = n'} {x = x'} {b = b'} {a = a'} {p = p'} {E = E'} {previous = o'} f w' y' z') k =
    let same : Some (let_type x b a p E o) ≡ Some (let_type x' b' a' p' E' o') = sym e ∙ ap G k ∙ f in
    let r : x ≡ x' = cc same in let s : b ≡ b' = cc same in let t : a ≡ a' = cc same in
    let u = name_same G x x' r w w' in
    let v = type_same s y y' in
    let q = type_same t z z' in
    λ i. type_definition (k i) (u i) (v i) (q i)
says_one {G} (says_term {n = n} {x = x} {a = a} {t = t} {p = p} {E = E} {previous = o} e w y z) (says_term {n = n'} {x = x'} {a = a'} {t = t'} {p = p'} {E = E'} {previous = o'} f w' y' z') k =
    let same : Some (let_term x a t p E o) ≡ Some (let_term x' a' t' p' E' o') = sym e ∙ ap G k ∙ f in
    let r : x ≡ x' = cc same in let s : a ≡ a' = cc same in let q : t ≡ t' = cc same in
    let u = name_same G x x' r w w' in
    let v = type_same s y y' in
    let j = term_same q z z' in
    λ i. term_definition (k i) (u i) (v i) (j i)
says_one {G} (says_type e w y z) (says_term f w' y' z') k = absurd (let same = sym e ∙ ap G k ∙ f in cc same)
says_one {G} (says_term e w y z) (says_type f w' y' z') k = absurd (let same = sym e ∙ ap G k ∙ f in cc same)

name_on : {G H : Get} → G ⊑ H → {x : ℕ} {w : Name} → NameAt G x w → NameAt H x w
name_on o (a, b, c, d, e, f, g, h, i) = (a, b, c, d, e, f, g, o _ _ h, i)

pub says_on : {G H : Get} → G ⊑ H → {d : Definition} → Says G d → Says H d
says_on o (says_type e w y z) = says_type (o _ _ e) (name_on o w) (type_on o y) (type_on o z)
says_on o (says_term e w y z) = says_term (o _ _ e) (name_on o w) (type_on o y) (term_on o z)

pub says_defines : {G : Get} {d : Definition} → Says G d → (E : ℕ) × Defines G (line_of d) E
says_defines (says_type {E = E} e w y z) = (E, type_defined e)
says_defines (says_term {E = E} e w y z) = (E, term_defined e)

-- in a sound listing each line that defines says a definition

name_at : (G : Get) (n x : ℕ) → Earlier G names n x → (w : Name) × NameAt G x w
name_at G n x h = go h.1.1 h.1.2
  where
    go : {s : Statement} → G x ≡ Some s → OfKind names s → (w : Name) × NameAt G x w
    go e of_name = (_, (_, _, _, _, _, _, _, e, refl))

pub says_some : (R : Rule) (lines : List Line) → Sound R lines → {n E : ℕ} → Defines (said lines) n E
    → (d : Definition) × (line_of d ≡ n) × Says (said lines) d
says_some R lines sound {n} (type_defined {name = x} {B = B} {A = A} e) =
    let w = whole R lines sound in
    let h = (w n _ e).named in
    let (v, i) = name_at (said lines) n x h.0 in
    let (X, y) = type_named R (said lines) w h.1.0 in
    let (Y, z) = type_named R (said lines) w h.1.1.0 in
    (type_definition n v X Y, refl, says_type e i y z)
says_some R lines sound {n} (term_defined {name = x} {A = A} {b = b} e) =
    let w = whole R lines sound in
    let h = (w n _ e).named in
    let (v, i) = name_at (said lines) n x h.0 in
    let (X, y) = type_named R (said lines) w h.1.0 in
    let (t, z) = term_named R (said lines) w h.1.1.0 in
    (term_definition n v X t, refl, says_term e i y z)

-- what is said by one of the first lines is said by them
pub says_first : (R : Rule) (lines : List Line) → Sound R lines → (m : ℕ) {d : Definition} → line_of d ≤ m → Says (said lines) d
    → Says (said (take m lines)) d
says_first R lines sound m {d} h s =
    let (E, x) = says_defines s in
    let (c, e, t) = says_some R (take m lines) (cut_sound R lines sound m) (defined_first x) in
    subst (λ a. Says (said (take m lines)) a) (says_one (says_on (said_take lines m) t) s e) t
  where
    defined_first : {E : ℕ} → Defines (said lines) (line_of d) E → Defines (said (take m lines)) (line_of d) E
    defined_first (type_defined e) = type_defined (said_within lines m (line_of d) _ h e)
    defined_first (term_defined e) = term_defined (said_within lines m (line_of d) _ h e)

-- the definitions of some lines

pub defined_on : {G H : Get} → G ⊑ H → {n : ℕ} {lines : List Line} {ds : List Definition}
    → ((m E : ℕ) → n ≤ m → m < n + length lines → Defines H m E → Defines G m E) → DefinedBy G n lines ds → DefinedBy H n lines ds
defined_on o kept no_line = no_line
defined_on o {n} kept (defines_nothing none more) =
    defines_nothing (λ E x. none E (kept n E (omega arith) (omega arith) x)) (defined_on o (λ m E h i x. kept m E (omega (arith, h)) (omega (arith, i)) x) more)
defined_on o {n} kept (defines e s more) =
    defines e (says_on o s) (defined_on o (λ m E h i x. kept m E (omega (arith, h)) (omega (arith, i)) x) more)

pub defined_append : {G : Get} {n k : ℕ} {xs ys : List Line} {ds es : List Definition} → k ≡ n + length xs → DefinedBy G n xs ds → DefinedBy G k ys es
    → DefinedBy G n (xs ++ ys) (ds ++ es)
defined_append {G} {ys = ys} {es = es} e no_line y = subst (λ m. DefinedBy G m ys es) (e ∙ omega arith) y
defined_append e (defines_nothing none more) y = defines_nothing none (defined_append (e ∙ omega arith) more y)
defined_append e (defines f s more) y = defines f s (defined_append (e ∙ omega arith) more y)

-- lines none of which defines
pub none_defined : {G : Get} (n : ℕ) (lines : List Line) → ((m E : ℕ) → n ≤ m → Defines G m E → ⊥) → DefinedBy G n lines []
none_defined n [] none = no_line
none_defined n (l ∷ lines) none =
    defines_nothing (λ E x. none n E (omega arith) x) (none_defined (suc n) lines (λ m E h x. none m E (omega (arith, h)) x))

-- lines of which one defines
pub one_defined : {G : Get} (n : ℕ) (lines : List Line) (d : Definition) → Says G d → n ≤ line_of d → line_of d < n + length lines
    → ((m E : ℕ) → n ≤ m → Defines G m E → m ≡ line_of d) → DefinedBy G n lines (d ∷ [])
one_defined n [] d s h i only = absurd (let z : ⊥ = omega (arith, h, i) in z)
one_defined {G} n (l ∷ lines) d s h i only =
    ⊎_elim
    (λ later. defines_nothing (λ E x. let e = only n E (omega arith) x in let z : ⊥ = omega (arith, e, later) in z)
    (one_defined (suc n) lines d s later (omega (arith, i)) (λ m E j x. only m E (omega (arith, j)) x)))
    (λ here. let e : line_of d ≡ n = omega (arith, here, h) in
    defines e s (none_defined (suc n) lines (λ m E j x. let f = only m E (omega (arith, j)) x in let z : ⊥ = omega (arith, j, e, f) in z)))
    (cases_lt n (line_of d))

-- those of the first lines

lines_above : {G : Get} {n : ℕ} {lines : List Line} {ds : List Definition} (m : ℕ) → m < n → DefinedBy G n lines ds → up_to m ds ≡ []
lines_above m h no_line = refl
lines_above m h (defines_nothing none more) = lines_above m (omega (arith, h)) more
lines_above {n = n} m h (defines {d = d} {ds = ds} e s more) = go (nat_le (line_of d) m) refl (lines_above m (omega (arith, h)) more)
  where
    go : (b : Bool) → nat_le (line_of d) m ≡ b → up_to m ds ≡ [] → cond b (d ∷ up_to m ds) (up_to m ds) ≡ []
    go true f more = absurd (let l = leb-true (line_of d) m f in let z : ⊥ = omega (arith, l, e, h) in z)
    go false f more = more

module _ {G H : Get} (m : ℕ) (says : (d : Definition) → line_of d ≤ m → Says G d → Says H d) (kept : (k E : ℕ) → Defines H k E → Defines G k E) where
  pub first_defined : {n : ℕ} {lines : List Line} {ds : List Definition} (j : ℕ) → suc m ≡ n + j → DefinedBy G n lines ds
      → DefinedBy H n (take j lines) (up_to m ds)
  first_defined zero e x = subst (DefinedBy H _ []) (sym (lines_above m (omega (arith, e)) x)) no_line
  first_defined (suc j) e no_line = no_line
  first_defined {n} (suc j) e (defines_nothing none more) =
      defines_nothing (λ E x. none E (kept n E x)) (first_defined j (e ∙ omega arith) more)
  first_defined {n} (suc j) e (defines {lines = lines} {d = d} {ds = ds} f s more) =
      let le : line_of d ≤ m = omega (arith, e, f) in
      rw (le-leb (line_of d) m le) (defines f (says d le s) (first_defined j (e ∙ omega arith) more))

-- a sound listing has definitions

defines_or_not : (G : Get) (n : ℕ) → ((E : ℕ) × Defines G n E) ⊎ ((E : ℕ) → Defines G n E → ⊥)
defines_or_not G n = go (G n) refl
  where
    go : (o : Option Statement) → G n ≡ o → ((E : ℕ) × Defines G n E) ⊎ ((E : ℕ) → Defines G n E → ⊥)
    go None e = inr none
      where
        none : (E : ℕ) → Defines G n E → ⊥
        none E (type_defined f) = none-some _ (sym e ∙ f)
        none E (term_defined f) = none-some _ (sym e ∙ f)
    go (Some (let_type name B A p E previous)) e = inl (E, type_defined e)
    go (Some (let_term name A b p E previous)) e = inl (E, term_defined e)
    go (Some other) e = inr (λ E x. nothing_said tt e E x)

pub definitions_some : (R : Rule) (lines : List Line) → Sound R lines → (ds : List Definition) × DefinitionsOf lines ds
definitions_some R lines sound = go 1 lines
  where
    go : (n : ℕ) (rest : List Line) → (ds : List Definition) × DefinedBy (said lines) n rest ds
    go n [] = ([], no_line)
    go n (l ∷ rest) =
        let (ds, x) = go (suc n) rest in
        ⊎_elim (λ (E, y). let (d, e, s) = says_some R lines sound y in (d ∷ ds, defines e s x)) (λ none. (ds, defines_nothing none x))
        (defines_or_not (said lines) n)
