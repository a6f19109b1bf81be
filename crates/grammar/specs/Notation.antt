-- The notation of the grammar: kinds of parts, the symbols of a row, and what a row gives.
use Rattle.std.specs.Prelude.{ℕ, Bool, List, [], ◌∷◌, Option, Some, None, if◌then◌else◌, is_some, nat_eq}
use Rattle.lexer.specs.Names.{same}
use Rattle.lexer.specs.declared.name.Name.{Name}
use Rattle.lexer.specs.declared.token.Token.{Token}
use Rattle.lexer.specs.declared.token.Word.{Word}
use Rattle.lexer.specs.declared.token.Word.TheVariants.{All, LetType, Rec, Top, Fold, Fun, Judge, LetTerm, RecTerm, TopTerm, Unfold, Colon, Below, Arrow, Equal, Turnstile, Open, Close, OpenBrace, CloseBrace, Semicolon, Unused, Name as Named, End}
use Rattle.syntax.specs.Named.{NamedType, NamedTerm, Binding, NamedPhrase}

pub data Kind : Type 0 where
  phrase let_type_rest let_term_rest judged : Kind
  env binding_rest : Kind
  type type_base all_rest arrow_rest : Kind
  term term_base fun_rest args argument : Kind

-- what a part of a kind is read as; the rest of a form waits for what stands in front of it
abbrev pub Val : Kind → Type 0
Val phrase = NamedPhrase
Val let_type_rest = Name → NamedPhrase
Val let_term_rest = Name → NamedPhrase
Val judged = NamedPhrase
Val env = List Binding
Val binding_rest = Name → Binding
Val type = NamedType
Val type_base = NamedType
Val all_rest = Name → NamedType
Val arrow_rest = NamedType → NamedType
Val term = NamedTerm
Val term_base = NamedTerm
-- byte of the fun, name
Val fun_rest = ℕ → Name → NamedTerm
Val args = NamedTerm → NamedTerm
-- byte of the parenthesis, function
Val argument = ℕ → NamedTerm → NamedTerm

-- which tokens may stand: a word (a name with one spelling, too), or any name; `at` and `name_at` keep the token's byte
pub data Guard : Type 0 where
  the at : Word → Guard
  a_name name_at : Guard

-- at the same depth with the same first byte; with a first byte of its own; and one deeper, with a first byte of its own
pub data Mode : Type 0 where
  on own inner : Mode

pub data Sym : Type 0 where
  -- a token
  one : Guard → Sym
  -- ^, a type or term begins
  begins : Sym
  -- #, a thing is whole
  whole : Sym
  part : Mode → Kind → Sym

-- a token, a name
abbrev pub tok : Word → Sym
tok w = one (the w)

abbrev pub ident : Sym
ident = one a_name

-- what a token gives: nothing, its byte, its name or both
abbrev pub Given : Guard → Type 0
Given (the w) = Unit {0}
Given (at w) = ℕ
Given a_name = Name
Given name_at = ℕ × Name

-- what is made of the things that the symbols give
abbrev pub Action : List Sym → Type 0 → Type 0
Action [] A = A
Action (one (the w) ∷ ss) A = Action ss A
Action (one (at w) ∷ ss) A = ℕ → Action ss A
Action (one a_name ∷ ss) A = Name → Action ss A
Action (one name_at ∷ ss) A = ℕ → Name → Action ss A
Action (begins ∷ ss) A = Action ss A
Action (whole ∷ ss) A = Action ss A
Action (part m K ∷ ss) A = Val K → Action ss A

abbrev pub apply : (g : Guard) (ss : List Sym) (A : Type 0) → Action (one g ∷ ss) A → Given g → Action ss A
apply (the w) ss A f x = f
apply (at w) ss A f x = f x
apply a_name ss A f x = f x
apply name_at ss A f x = f x.0 x.1

pub record Row (K : Kind) : Type 0 where
  pub symbols : List Sym
  pub action : Action symbols (Val K)

-- a row that a token begins: the token, and the other symbols
pub record Entry (K : Kind) : Type 0 where
  pub first : Guard
  pub others : List Sym
  pub action : Action (one first ∷ others) (Val K)

abbrev pub row : {K : Kind} (ss : List Sym) → Action ss (Val K) → Row K
row ss f = record { symbols = ss; action = f }

abbrev pub entry : {K : Kind} (g : Guard) (ss : List Sym) → Action (one g ∷ ss) (Val K) → Entry K
entry g ss f = record { first = g; others = ss; action = f }

-- a number for each word, names apart
abbrev pub number : Word → ℕ
number All = 0
number LetType = 1
number Rec = 2
number Top = 3
number Fold = 4
number Fun = 5
number Judge = 6
number LetTerm = 7
number RecTerm = 8
number TopTerm = 9
number Unfold = 10
number Colon = 11
number Below = 12
number Arrow = 13
number Equal = 14
number Turnstile = 15
number Open = 16
number Close = 17
number OpenBrace = 18
number CloseBrace = 19
number Semicolon = 20
number Unused = 21
number (Named w) = 22
number End = 23

abbrev pub same_word : Word → Word → Bool
same_word (Named v) (Named w) = same v w
same_word v w = nat_eq (number v) (number w)

-- what the token gives, if it may stand
abbrev pub taken : (g : Guard) → Token → Option (Given g)
taken (the w) t = if same_word w t.word then Some tt else None
taken (at w) t = if same_word w t.word then Some t.byte else None
taken a_name t = elim t.word [ Named w ↦ Some w | other ↦ None ]
taken name_at t = elim t.word [ Named w ↦ Some (t.byte, w) | other ↦ None ]

abbrev pub takes : Guard → Token → Bool
takes g t = is_some (taken g t)
