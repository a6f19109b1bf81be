-- What the judge seeks, and how it goes about it. Types, terms and environments are those on the lines with these numbers.
use Rattle.std.specs.Prelude.{ℕ, Option}
use Rattle.rules.specs.Statements.{Statement}

-- A term whose parts all stand on lines, with the byte that places each in the source: equal terms share a line and have bytes of their own.
-- The byte comes first and the term's own line last; types are line numbers.
pub data Placed : Type 0 where
  top_placed : (byte n : ℕ) → Placed
  var_placed : (byte k n : ℕ) → Placed
  -- fun(x:A)b and b(a)
  fun_placed : (byte A : ℕ) → Placed → (n : ℕ) → Placed
  appl_placed : (byte : ℕ) → Placed → Placed → (n : ℕ) → Placed
  -- fun(X<:A)b and b(:A)
  fun2_placed : (byte A : ℕ) → Placed → (n : ℕ) → Placed
  appl2_placed : (byte : ℕ) → Placed → (A n : ℕ) → Placed
  -- fold(:A)(a), unfold(a) and rec(x:A)b
  fold_placed : (byte A : ℕ) → Placed → (n : ℕ) → Placed
  unfold_placed : (byte : ℕ) → Placed → (n : ℕ) → Placed
  rec_placed : (byte A : ℕ) → Placed → (n : ℕ) → Placed

-- the term's line
abbrev pub line_at : Placed → ℕ
line_at (top_placed byte n) = n
line_at (var_placed byte k n) = n
line_at (fun_placed byte A b n) = n
line_at (appl_placed byte b a n) = n
line_at (fun2_placed byte A b n) = n
line_at (appl2_placed byte b A n) = n
line_at (fold_placed byte A a n) = n
line_at (unfold_placed byte a n) = n
line_at (rec_placed byte A b n) = n

abbrev pub byte_of : Placed → ℕ
byte_of (top_placed byte n) = byte
byte_of (var_placed byte k n) = byte
byte_of (fun_placed byte A b n) = byte
byte_of (appl_placed byte b a n) = byte
byte_of (fun2_placed byte A b n) = byte
byte_of (appl2_placed byte b A n) = byte
byte_of (fold_placed byte A a n) = byte
byte_of (unfold_placed byte a n) = byte
byte_of (rec_placed byte A b n) = byte

-- a statement that is sought, by the columns that are known before; the others are found
pub data Goal : Type 0 where
  -- A with every variable above j raised by 1
  seek_raising : (A j : ℕ) → Goal
  -- B with A put for variable j
  seek_putting : (B j A : ℕ) → Goal
  -- the bound of type variable k in E
  seek_bound : (E k : ℕ) → Goal
  -- the type of term variable k in E
  seek_typing : (E k : ℕ) → Goal
  -- E is an environment
  seek_env : (E : ℕ) → Goal
  -- A is a type in E
  seek_type : (E A : ℕ) → Goal
  -- A <: B in E
  seek_sub : (E A B : ℕ) → Goal
  -- the type variable A is below its bound in E
  seek_var : (E A : ℕ) → Goal
  -- a type of a term in E, by the term's own rule
  seek_term : (E : ℕ) → Placed → Goal
  -- a : B in E, by subsumption from the lines p and q
  seek_subsumed : (E a B p q : ℕ) → Goal
  -- What the goal of an application or an unfold becomes while the type T of its function or argument, which line p gives, is exposed;
  -- it has the place of the term's goal. So many variables at most are gone through.
  exposing : (most E : ℕ) → Placed → (p T : ℕ) → Goal

-- the work for a goal
pub data Plan : Type 0 where
  -- seek a premise, and go on with its line and its result
  ask : Goal → (ℕ → ℕ → Plan) → Plan
  -- have a line stand that says this, and go on with its number
  lay : Statement → (ℕ → Plan) → Plan
  -- look at what a line says; from here on the goal is another
  see : Goal → ℕ → (Option Statement → Plan) → Plan
  -- count a step
  pay : Plan → Plan
  -- have the goal's own line stand, and with it the goal is established
  close : Statement → Plan
  -- answer this line and this result, which stand
  give : ℕ → ℕ → Plan
  fail : Plan
