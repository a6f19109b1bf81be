-- Definitions with their types and terms written out, each with the line that it was answered; and the lines that say them.
use Rattle.std.specs.Prelude.{◌≡◌, ℕ, suc, List, [], ◌∷◌, Some}
use Rattle.std.specs.List.{fold}
use Rattle.lexer.specs.Names.{two_bytes}
use Rattle.lexer.specs.declared.name.Name.{Name}
use Rattle.lines.specs.declared.line.Line.{Line}
use Rattle.rules.specs.Follows.{Defines}
use Rattle.rules.specs.Meaning.{TypeAt, TermAt}
use Rattle.rules.specs.Statements.{name_line, let_type, let_term, Get, said}
use Rattle.rules.specs.Syntax.{Ty, Tm, Env, empty, with_term}
use Rattle.scope.specs.Definitions as scope

pub data Definition : Type 0 where
  -- Let w<:B = A
  type_definition : (line : ℕ) → (w : Name) → (B A : Ty) → Definition
  -- let w:A = b
  term_definition : (line : ℕ) → (w : Name) → (A : Ty) → (b : Tm) → Definition

abbrev pub line_of : Definition → ℕ
line_of (type_definition n w B A) = n
line_of (term_definition n w A b) = n

-- what a name is looked up in: a Let name stands for its type
abbrev pub named : Definition → scope.Definition Ty
named (type_definition n w B A) = scope.let_type w A
named (term_definition n w A b) = scope.let_term w

-- the session environment after a definition: one of a term adds its name's type
abbrev pub env_after : Env → Definition → Env
env_after Γ (type_definition n w B A) = Γ
env_after Γ (term_definition n w A b) = with_term Γ A

abbrev pub session_env : List Definition → Env
session_env ds = fold env_after empty ds

-- line x spells the name, two bytes a column
abbrev pub NameAt : Get → ℕ → Name → Type 0
NameAt G x w =
    (a b c d e f g : ℕ) × (G x ≡ Some (name_line a b c d e f g)) × (w ≡ record { bytes = two_bytes (a ∷ b ∷ c ∷ d ∷ e ∷ f ∷ g ∷ []) })

-- the line of the definition says it
pub data Says (G : Get) : Definition → Type 0 where
  says_type : {n x b a p E previous : ℕ} {w : Name} {B A : Ty} → G n ≡ Some (let_type x b a p E previous) → NameAt G x w
      → TypeAt G b B → TypeAt G a A → Says G (type_definition n w B A)
  says_term : {n x a t p E previous : ℕ} {w : Name} {A : Ty} {b : Tm} → G n ≡ Some (let_term x a t p E previous) → NameAt G x w
      → TypeAt G a A → TermAt G t b → Says G (term_definition n w A b)

-- The definitions among these lines, numbered from n, in their order: each such line has the number of its definition and says it.
pub data DefinedBy (G : Get) : (n : ℕ) → List Line → List Definition → Type 0 where
  no_line : {n : ℕ} → DefinedBy G n [] []
  defines_nothing : {n : ℕ} {l : Line} {lines : List Line} {ds : List Definition} → ((E : ℕ) → Defines G n E → ⊥)
      → DefinedBy G (suc n) lines ds → DefinedBy G n (l ∷ lines) ds
  defines : {n : ℕ} {l : Line} {lines : List Line} {d : Definition} {ds : List Definition} → line_of d ≡ n → Says G d
      → DefinedBy G (suc n) lines ds → DefinedBy G n (l ∷ lines) (d ∷ ds)

-- those of a listing
abbrev pub DefinitionsOf : List Line → List Definition → Type 0
DefinitionsOf lines ds = DefinedBy (said lines) 1 lines ds
