-- What a granted phrase says and defines.
use Rattle.std.proofs.Common.{◌≡◌, ℕ, ◌+◌, ◌<◌, ◌≤◌, ◌⊎◌, List, [], ◌∷◌, ◌++◌, length, Some, refl, ap, sym, ◌∙◌, subst, ⊎_elim, arith}
use Rattle.lexer.specs.declared.name.Name.{Name}
use Rattle.lines.specs.declared.line.Line.{Line}
use Rattle.judge.specs.Judgments.{WellNamed, Spelled, Stated_by, Granted_by, by_let_type, by_let_term, by_let_untyped, by_type, by_term, by_judge_env, by_judge_type, by_judge_subtype, by_judge_term, Lower, Anew}
use Rattle.judge.specs.Phrases.{name_statement}
use Rattle.judge.proofs.Definitions.{said_within as said_before, stated_defines_nothing}
use Rattle.judge.proofs.Names.{name_bytes}
use Rattle.judge.proofs.Valid.{starts_on}
use Rattle.rules.specs.Derivations.{Judgment, is_sub, has, Derivable}
use Rattle.rules.specs.Follows.{Defines, type_defined, term_defined}
use Rattle.rules.specs.Meaning.{TypeAt, TermAt}
use Rattle.rules.specs.Quantifiers.{Rule}
use Rattle.rules.specs.Statements.{Get, said}
use Rattle.rules.specs.Syntax.{Ty, Tm, Env}
use Rattle.runs.specs.Definitions.{Definition, line_of, NameAt, Says, says_type, says_term, DefinedBy, DefinitionsOf}
use Rattle.runs.specs.Judgments.{Asks, LeastType}
use Rattle.runs.specs.Law.{SaidBy}
use Rattle.runs.specs.Runs.{Adds}
use Rattle.runs.specs.Trees.{phrase_judged}
use Rattle.runs.proofs.Definitions.{says_defines, defined_on, defined_append, none_defined, one_defined}
use Rattle.runs.proofs.Session.{defined_within}
use Rattle.runs.proofs.Trees.{Known, line, type}
use Rattle.scope.specs.Mapped.{map_phrase}
use Rattle.scope.specs.Scoped as scoped
use Rattle.scope.specs.Scoped.{ScopedPhrase}
use Rattle.std.proofs.lemmas.Bool.{cases_lt}
use Rattle.std.proofs.lemmas.List.{length-append}

-- what line n, which grants a phrase with J, adds to the definitions
pub data New (G H : Get) (n : ℕ) : List Definition → Type 0 where
  no_definition : {J : Judgment} → Stated_by H n J → New G H n []
  a_definition : {d : Definition} → Says H d → line_of d ≡ n → ((F : ℕ) → Defines G n F → ⊥) → New G H n (d ∷ [])

name_at : (G : Get) (x : ℕ) (w : Name) → Spelled w.bytes → G x ≡ Some (name_statement w.bytes) → NameAt G x w
name_at G x w s e = (_, _, _, _, _, _, _, e, ap (λ bs. record { bytes = bs }) (name_bytes w.bytes s))

sub_parts : {Γ Δ : Env} {A B C D : Ty} → is_sub Γ A B ≡ is_sub Δ C D → (A ≡ C) × (B ≡ D)
sub_parts e = (cc, cc)

has_parts : {Γ Δ : Env} {a b : Tm} {A B : Ty} → has Γ a A ≡ has Δ b B → (a ≡ b) × (A ≡ B)
has_parts e = (cc, cc)

module _ (G H : Get) (Γ : Env) where
  pub said_by : (q : ScopedPhrase (Known G)) (n : ℕ) (J : Judgment) → Granted_by H Γ (phrase_judged (map_phrase (line G) q)) n J
      → SaidBy H (map_phrase (type G) q) n J
  said_by (scoped.let_type w B A) n J (by_let_type e f b a p h) = (_, _, _, _, _, _, e, p)
  said_by (scoped.let_type_unbounded w A) n J (by_let_type e f b a p h) = (_, _, _, _, _, _, e, p)
  said_by (scoped.let_term w A b) n J (by_let_term e f a t p h) = (_, _, _, _, _, _, e, p)
  said_by (scoped.let_term_untyped w b) n J (by_let_untyped e f a t p h) = (_, _, _, _, _, _, e, p)
  said_by (scoped.of_type A) n J (by_type x) = x
  said_by (scoped.of_term b) n J (by_term x) = x
  said_by (scoped.judge_env E) n J (by_judge_env x) = x
  said_by (scoped.judge_type E A) n J (by_judge_type x) = x
  said_by (scoped.judge_subtype E A B) n J (by_judge_subtype x) = x
  said_by (scoped.judge_term E a A) n J (by_judge_term x) = x

  -- and J is stated by some line
  pub stated_somewhere : (q : ScopedPhrase Ty) (n : ℕ) (J : Judgment) → SaidBy H q n J → (p : ℕ) × Stated_by H p J
  stated_somewhere (scoped.let_type w B A) n J (x, b, a, p, e, d, f, s) = (p, s)
  stated_somewhere (scoped.let_type_unbounded w A) n J (x, b, a, p, e, d, f, s) = (p, s)
  stated_somewhere (scoped.let_term w A b) n J (x, a, b', p, e, d, f, s) = (p, s)
  stated_somewhere (scoped.let_term_untyped w b) n J (x, a, b', p, e, d, f, s) = (p, s)
  stated_somewhere (scoped.of_type A) n J s = (n, s)
  stated_somewhere (scoped.of_term b) n J s = (n, s)
  stated_somewhere (scoped.judge_env E) n J s = (n, s)
  stated_somewhere (scoped.judge_type E A) n J s = (n, s)
  stated_somewhere (scoped.judge_subtype E A B) n J s = (n, s)
  stated_somewhere (scoped.judge_term E a A) n J s = (n, s)

  module _ (R : Rule) where
    abbrev Adding : ScopedPhrase (Known G) → ℕ → Type 0
    Adding q n = (more : List Definition) × Adds R Γ n (map_phrase (type G) q) more × New G H n more

    pub adds : (q : ScopedPhrase (Known G)) (n : ℕ) (J : Judgment) → Granted_by H Γ (phrase_judged (map_phrase (line G) q)) n J
        → Anew G (phrase_judged (map_phrase (line G) q)) n → WellNamed (phrase_judged (map_phrase (line G) q))
        → Asks Γ (map_phrase (type G) q) J → Derivable R J
        → ((K : Judgment) → Asks Γ (map_phrase (type G) q) K → Derivable R K → Lower R J K) → Adding q n
    adds (scoped.let_type w B A) n J (by_let_type {x = x} {b = b} {a = a} e f y z p h) new named asked d low =
        let (i, j) = sub_parts asked in
        (_, refl, a_definition (says_type e (name_at H x w named f) (subst (TypeAt H b) j y) (subst (TypeAt H a) i z)) refl new)
    adds (scoped.let_type_unbounded w A) n J (by_let_type {x = x} {b = b} {a = a} e f y z p h) new named asked d low =
        let (i, j) = sub_parts asked in
        (_, refl, a_definition (says_type e (name_at H x w named f) (subst (TypeAt H b) j y) (subst (TypeAt H a) i z)) refl new)
    adds (scoped.let_term w A t) n J (by_let_term {x = x} {a = a} {b = b} e f y z p h) new named asked d low =
        let (i, j) = has_parts asked in
        (_, refl, a_definition (says_term e (name_at H x w named f) (subst (TypeAt H a) j y) (subst (TermAt H b) i z)) refl new)
    adds (scoped.let_term_untyped w t) n J (by_let_untyped {x = x} {a = a} {b = b} {A = A} e f y z p h) new named (B, asked) d low =
        let (i, j) = has_parts asked in
        let least : LeastType R Γ _ A = (subst (λ u. Derivable R (has Γ u A)) i d, λ C k. low (has Γ _ C) (C, refl) k) in
        (_, (A, least, refl), a_definition (says_term e (name_at H x w named f) y (subst (TermAt H b) i z)) refl new)
    adds (scoped.of_type A) n J (by_type x) new named asked d low = ([], refl, no_definition x)
    adds (scoped.of_term b) n J (by_term x) new named asked d low = ([], refl, no_definition x)
    adds (scoped.judge_env E) n J (by_judge_env x) new named asked d low = ([], refl, no_definition x)
    adds (scoped.judge_type E A) n J (by_judge_type x) new named asked d low = ([], refl, no_definition x)
    adds (scoped.judge_subtype E A B) n J (by_judge_subtype x) new named asked d low = ([], refl, no_definition x)
    adds (scoped.judge_term E a A) n J (by_judge_term x) new named asked d low = ([], refl, no_definition x)

-- the definitions after it
module _ (xs ys more : List Line) (e : ys ≡ xs ++ more) (n : ℕ)
    (new_or_old : (d E : ℕ) → Defines (said ys) d E → Defines (said xs) d E ⊎ (d ≡ n)) where
  old_first : (m E : ℕ) → m < 1 + length xs → Defines (said ys) m E → Defines (said xs) m E
  old_first m E h (type_defined f) = type_defined (said_before xs more ys e m _ (omega (arith, h)) f)
  old_first m E h (term_defined f) = term_defined (said_before xs more ys e m _ (omega (arith, h)) f)

  only_new : (m E : ℕ) → 1 + length xs ≤ m → Defines (said ys) m E → m ≡ n
  only_new m E h x =
      ⊎_elim (λ old. absurd (let z : ⊥ = omega (arith, h, defined_within xs m E old) in z)) (λ last. last) (new_or_old m E x)

  old_defined : {ds : List Definition} → DefinitionsOf xs ds → DefinedBy (said ys) 1 xs ds
  old_defined x = defined_on (starts_on xs ys more e) (λ m E h i y. old_first m E i y) x

  new_defined : {es : List Definition} → New (said xs) (said ys) n es → DefinedBy (said ys) (1 + length xs) more es
  new_defined (no_definition s) =
      none_defined (1 + length xs) more (λ m E h y. stated_defines_nothing s E (subst (λ k. Defines (said ys) k E) (only_new m E h y) y))
  new_defined (a_definition {d = d} s k none) = one_defined (1 + length xs) more d s above within (λ m E h y. only_new m E h y ∙ sym k)
    where
      within : line_of d < (1 + length xs) + length more
      within =
          let (E, y) = says_defines s in
          omega (arith, defined_within ys (line_of d) E y, ap length e, length-append xs more)

      above : 1 + length xs ≤ line_of d
      above =
          let (E, y) = says_defines s in
          ⊎_elim (λ h. omega (arith, h))
          (λ h. absurd (none E (subst (λ m. Defines (said xs) m E) k (old_first (line_of d) E (omega (arith, h)) y)))) (cases_lt (length xs) (line_of d))

  pub definitions_after : {ds es : List Definition} → DefinitionsOf xs ds → New (said xs) (said ys) n es → DefinitionsOf ys (ds ++ es)
  definitions_after {ds} {es} x y =
      subst (λ zs. DefinedBy (said ys) 1 zs (ds ++ es)) (sym e) (defined_append refl (old_defined x) (new_defined y))
