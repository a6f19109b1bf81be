-- What a line says, in line numbers: the table of codes. A prime marks a form that holds line numbers where types, terms and environments stand.
use Rattle.std.specs.Prelude.{ℕ, if◌then◌else◌, List, [], ◌∷◌, Some, None, Option, ◌==◌}
use Rattle.lines.specs.Stores.{numbered}
use Rattle.lines.specs.declared.line.Line.{Line}
use Rattle.rules.specs.declared.all_code.AllCode.{AllCode}
use Rattle.rules.specs.declared.all_code.AllCode.TheVariants.{Equal, Least}

pub data TypeLine : Type 0 where
  top' : TypeLine
  var' : ℕ → TypeLine
  arrow' : ℕ → ℕ → TypeLine
  all' : ℕ → ℕ → TypeLine
  rec' : ℕ → TypeLine

pub data TermLine : Type 0 where
  top_term' : TermLine
  var_term' : ℕ → TermLine
  fun' : ℕ → ℕ → TermLine
  appl' : ℕ → ℕ → TermLine
  fun2' : ℕ → ℕ → TermLine
  appl2' : ℕ → ℕ → TermLine
  fold_term' : ℕ → ℕ → TermLine
  unfold_term' : ℕ → TermLine
  rec_term' : ℕ → ℕ → TermLine

pub data EnvLine : Type 0 where
  empty' : EnvLine
  with_term' : ℕ → ℕ → EnvLine
  with_type' : ℕ → ℕ → EnvLine

-- the rule that concludes A <: B
pub data SubRule : Type 0 where
  s_refl s_trans s_var s_top s_arrow : SubRule
  s_all : AllCode → SubRule

-- the rule that concludes a : A
pub data HasRule : Type 0 where
  h_subsumed h_var h_top h_fun h_appl h_fun2 h_appl2 h_fold h_unfold h_rec : HasRule

-- E is an environment, A to C types, a and b terms, j and k plain numbers, p to r premises
pub data Statement : Type 0 where
  type_line : TypeLine → Statement
  term_line : TermLine → Statement
  env_line : EnvLine → Statement
  -- C is A with every variable above j raised by 1
  raising : (A j C p q : ℕ) → Statement
  -- C is B with A put for variable j, higher ones lowered by 1
  putting : (B j A C p q r : ℕ) → Statement
  -- B is the bound of type variable k in E
  bound_line : (E k B p q : ℕ) → Statement
  -- A is the type of term variable k in E
  typing_line : (E k A p q : ℕ) → Statement
  env_judged : (E p : ℕ) → Statement
  type_judged : (E A p q : ℕ) → Statement
  sub_judged : SubRule → (E A B p q : ℕ) → Statement
  has_judged : HasRule → (E a A p q r : ℕ) → Statement
  name_line : (n₁ n₂ n₃ n₄ n₅ n₆ n₇ : ℕ) → Statement
  -- Let name<:B = A, with the line of A <: B, the session environment and the previous definition
  let_type : (name B A p E previous : ℕ) → Statement
  -- let name:A = b, with the line of b : A, the new session environment and the previous definition
  let_term : (name A b p E previous : ℕ) → Statement

abbrev pub table : Line → List (ℕ × Statement)
table l =
    let a = l.c1 in let b = l.c2 in let c = l.c3 in let d = l.c4 in let e = l.c5 in let f = l.c6 in let g = l.c7 in
    (10, type_line top') ∷ (11, type_line (var' a)) ∷ (12, type_line (arrow' a b)) ∷ (13, type_line (all' a b)) ∷ (14, type_line (rec' a))
    ∷ (20, term_line top_term') ∷ (21, term_line (var_term' a)) ∷ (22, term_line (fun' a b)) ∷ (23, term_line (appl' a b))
    ∷ (24, term_line (fun2' a b)) ∷ (25, term_line (appl2' a b)) ∷ (26, term_line (fold_term' a b)) ∷ (27, term_line (unfold_term' a))
    ∷ (28, term_line (rec_term' a b))
    ∷ (30, env_line empty') ∷ (31, env_line (with_term' a b)) ∷ (32, env_line (with_type' a b))
    ∷ (40, raising a b c d e) ∷ (41, putting a b c d e f g) ∷ (42, bound_line a b c d e) ∷ (43, typing_line a b c d e)
    ∷ (50, env_judged a b) ∷ (51, type_judged a b c d)
    ∷ (60, sub_judged s_refl a b c d e) ∷ (61, sub_judged s_trans a b c d e) ∷ (62, sub_judged s_var a b c d e)
    ∷ (63, sub_judged s_top a b c d e) ∷ (64, sub_judged s_arrow a b c d e)
    ∷ (65, sub_judged (s_all Equal) a b c d e) ∷ (66, sub_judged (s_all Least) a b c d e)
    ∷ (70, has_judged h_subsumed a b c d e f) ∷ (71, has_judged h_var a b c d e f) ∷ (72, has_judged h_top a b c d e f)
    ∷ (73, has_judged h_fun a b c d e f) ∷ (74, has_judged h_appl a b c d e f) ∷ (75, has_judged h_fun2 a b c d e f)
    ∷ (76, has_judged h_appl2 a b c d e f) ∷ (77, has_judged h_fold a b c d e f) ∷ (78, has_judged h_unfold a b c d e f)
    ∷ (79, has_judged h_rec a b c d e f)
    ∷ (90, name_line a b c d e f g) ∷ (91, let_type a b c d e f) ∷ (92, let_term a b c d e f) ∷ []

abbrev pub coded : ℕ → List (ℕ × Statement) → Option Statement
coded c [] = None
coded c (row ∷ rows) = if c == row.0 then Some row.1 else coded c rows

-- what a line says; none if its code is not in the table
unfoldable pub statement : Line → Option Statement
statement l = coded l.code (table l)

-- what each line number says
abbrev pub Get : Type 0
Get = ℕ → Option Statement

abbrev says : Option Line → Option Statement
says None = None
says (Some l) = statement l

abbrev pub said : List Line → Get
said lines n = says (numbered lines n)

-- a column of a line, by what it holds: a plain number or the number of a line of some kind
pub data Column : Type 0 where
  plain type_at term_at env_at name_at premise_at definition_at : ℕ → Column

abbrev type_columns : TypeLine → List Column
type_columns top' = []
type_columns (var' k) = plain k ∷ []
type_columns (arrow' A B) = type_at A ∷ type_at B ∷ []
type_columns (all' A B) = type_at A ∷ type_at B ∷ []
type_columns (rec' B) = type_at B ∷ []

abbrev term_columns : TermLine → List Column
term_columns top_term' = []
term_columns (var_term' k) = plain k ∷ []
term_columns (fun' A b) = type_at A ∷ term_at b ∷ []
term_columns (appl' b a) = term_at b ∷ term_at a ∷ []
term_columns (fun2' A b) = type_at A ∷ term_at b ∷ []
term_columns (appl2' b A) = term_at b ∷ type_at A ∷ []
term_columns (fold_term' A a) = type_at A ∷ term_at a ∷ []
term_columns (unfold_term' a) = term_at a ∷ []
term_columns (rec_term' A b) = type_at A ∷ term_at b ∷ []

abbrev env_columns : EnvLine → List Column
env_columns empty' = []
env_columns (with_term' E A) = env_at E ∷ type_at A ∷ []
env_columns (with_type' E A) = env_at E ∷ type_at A ∷ []

-- the columns of a line, in their order
abbrev pub columns : Statement → List Column
columns (type_line t) = type_columns t
columns (term_line a) = term_columns a
columns (env_line e) = env_columns e
columns (raising A j C p q) = type_at A ∷ plain j ∷ type_at C ∷ premise_at p ∷ premise_at q ∷ []
columns (putting B j A C p q r) = type_at B ∷ plain j ∷ type_at A ∷ type_at C ∷ premise_at p ∷ premise_at q ∷ premise_at r ∷ []
columns (bound_line E k B p q) = env_at E ∷ plain k ∷ type_at B ∷ premise_at p ∷ premise_at q ∷ []
columns (typing_line E k A p q) = env_at E ∷ plain k ∷ type_at A ∷ premise_at p ∷ premise_at q ∷ []
columns (env_judged E p) = env_at E ∷ premise_at p ∷ []
columns (type_judged E A p q) = env_at E ∷ type_at A ∷ premise_at p ∷ premise_at q ∷ []
columns (sub_judged s E A B p q) = env_at E ∷ type_at A ∷ type_at B ∷ premise_at p ∷ premise_at q ∷ []
columns (has_judged h E a A p q r) = env_at E ∷ term_at a ∷ type_at A ∷ premise_at p ∷ premise_at q ∷ premise_at r ∷ []
columns (name_line n₁ n₂ n₃ n₄ n₅ n₆ n₇) = plain n₁ ∷ plain n₂ ∷ plain n₃ ∷ plain n₄ ∷ plain n₅ ∷ plain n₆ ∷ plain n₇ ∷ []
columns (let_type name B A p E previous) =
    name_at name ∷ type_at B ∷ type_at A ∷ premise_at p ∷ env_at E ∷ definition_at previous ∷ []
columns (let_term name A b p E previous) =
    name_at name ∷ type_at A ∷ term_at b ∷ premise_at p ∷ env_at E ∷ definition_at previous ∷ []
