-- Sources from docs/SYNTAX.md as their items, with their answers.
use Rattle.std.specs.Prelude.{ℕ, zero, suc, ◌+◌, ◌*◌, ◌++◌, List, [], ◌∷◌, Result, Ok, Err}
use Rattle.lexer.specs.Items.{Item}
use Rattle.lexer.specs.declared.fault.LexicalFault.{LexicalFault}
use Rattle.lexer.specs.declared.fault.LexicalFault.TheVariants.{NoToken, OpenComment, LongName}
use Rattle.lexer.specs.declared.name.Name.{Name}
use Rattle.lexer.specs.declared.token.Word.{Word}
use Rattle.lexer.specs.declared.token.Word.TheVariants.{All, LetType, Rec, Top, Fold, Fun, Judge, LetTerm, RecTerm, TopTerm, Unfold, Colon, Below, Arrow, Equal, Turnstile, Open, Close, OpenBrace, CloseBrace, Semicolon, Unused, Name as Named, End}
use Rattle.syntax.specs.Named.{NamedType, NamedTerm, top, name, arrow, all, all_unbounded, rec, top_term, term_name, fun, appl, fun2, fun2_unbounded, appl2, fold_term, unfold_term, rec_term, type_binding, term_binding, NamedPhrase, let_type, let_type_unbounded, let_term, let_term_untyped, of_type, of_term, judge_env, judge_type, judge_subtype, judge_term}
use Rattle.grammar.specs.Reading.{Limits, limits, Answered}
use Rattle.grammar.specs.declared.fault.SyntaxFault.{SyntaxFault}
use Rattle.grammar.specs.declared.fault.SyntaxFault.TheVariants.{Lexical, Unexpected, TooDeep, TreeFull}

pub record Case : Type 0 where
  pub limits : Limits
  pub items : List Item
  pub answer : Result NamedPhrase SyntaxFault

abbrev pub Right : Case → Type 0
Right c = Answered c.limits c.items c.answer

-- with a tree table of some places; 100 are enough for each of these
abbrev case : (places : ℕ) → List Item → Result NamedPhrase SyntaxFault → Case
case places items answer = record { limits = limits places; items = items; answer = answer }

-- a token, a name, and what is no token, at a byte
abbrev t : ℕ → Word → Item
t byte w = Ok (record { word = w; byte = byte })

abbrev n : ℕ → Name → Item
n byte x = t byte (Named x)

abbrev bad : LexicalFault → Item
bad f = Err f

abbrev A : Name
A = record { bytes = 65 ∷ 0 ∷ 0 ∷ 0 ∷ 0 ∷ 0 ∷ 0 ∷ 0 ∷ 0 ∷ 0 ∷ 0 ∷ 0 ∷ 0 ∷ 0 ∷ [] }

abbrev B : Name
B = record { bytes = 66 ∷ 0 ∷ 0 ∷ 0 ∷ 0 ∷ 0 ∷ 0 ∷ 0 ∷ 0 ∷ 0 ∷ 0 ∷ 0 ∷ 0 ∷ 0 ∷ [] }

abbrev C : Name
C = record { bytes = 67 ∷ 0 ∷ 0 ∷ 0 ∷ 0 ∷ 0 ∷ 0 ∷ 0 ∷ 0 ∷ 0 ∷ 0 ∷ 0 ∷ 0 ∷ 0 ∷ [] }

abbrev X : Name
X = record { bytes = 88 ∷ 0 ∷ 0 ∷ 0 ∷ 0 ∷ 0 ∷ 0 ∷ 0 ∷ 0 ∷ 0 ∷ 0 ∷ 0 ∷ 0 ∷ 0 ∷ [] }

abbrev Y : Name
Y = record { bytes = 89 ∷ 0 ∷ 0 ∷ 0 ∷ 0 ∷ 0 ∷ 0 ∷ 0 ∷ 0 ∷ 0 ∷ 0 ∷ 0 ∷ 0 ∷ 0 ∷ [] }

abbrev Z : Name
Z = record { bytes = 90 ∷ 0 ∷ 0 ∷ 0 ∷ 0 ∷ 0 ∷ 0 ∷ 0 ∷ 0 ∷ 0 ∷ 0 ∷ 0 ∷ 0 ∷ 0 ∷ [] }

abbrev a : Name
a = record { bytes = 97 ∷ 0 ∷ 0 ∷ 0 ∷ 0 ∷ 0 ∷ 0 ∷ 0 ∷ 0 ∷ 0 ∷ 0 ∷ 0 ∷ 0 ∷ 0 ∷ [] }

abbrev abcdefghijklmn : Name
abcdefghijklmn = record { bytes = 97 ∷ 98 ∷ 99 ∷ 100 ∷ 101 ∷ 102 ∷ 103 ∷ 104 ∷ 105 ∷ 106 ∷ 107 ∷ 108 ∷ 109 ∷ 110 ∷ [] }

abbrev b : Name
b = record { bytes = 98 ∷ 0 ∷ 0 ∷ 0 ∷ 0 ∷ 0 ∷ 0 ∷ 0 ∷ 0 ∷ 0 ∷ 0 ∷ 0 ∷ 0 ∷ 0 ∷ [] }

abbrev word_env : Name
word_env = record { bytes = 101 ∷ 110 ∷ 118 ∷ 0 ∷ 0 ∷ 0 ∷ 0 ∷ 0 ∷ 0 ∷ 0 ∷ 0 ∷ 0 ∷ 0 ∷ 0 ∷ [] }

abbrev f : Name
f = record { bytes = 102 ∷ 0 ∷ 0 ∷ 0 ∷ 0 ∷ 0 ∷ 0 ∷ 0 ∷ 0 ∷ 0 ∷ 0 ∷ 0 ∷ 0 ∷ 0 ∷ [] }

abbrev foo : Name
foo = record { bytes = 102 ∷ 111 ∷ 111 ∷ 0 ∷ 0 ∷ 0 ∷ 0 ∷ 0 ∷ 0 ∷ 0 ∷ 0 ∷ 0 ∷ 0 ∷ 0 ∷ [] }

abbrev word_subtype : Name
word_subtype = record { bytes = 115 ∷ 117 ∷ 98 ∷ 116 ∷ 121 ∷ 112 ∷ 101 ∷ 0 ∷ 0 ∷ 0 ∷ 0 ∷ 0 ∷ 0 ∷ 0 ∷ [] }

abbrev word_term : Name
word_term = record { bytes = 116 ∷ 101 ∷ 114 ∷ 109 ∷ 0 ∷ 0 ∷ 0 ∷ 0 ∷ 0 ∷ 0 ∷ 0 ∷ 0 ∷ 0 ∷ 0 ∷ [] }

abbrev word_type : Name
word_type = record { bytes = 116 ∷ 121 ∷ 112 ∷ 101 ∷ 0 ∷ 0 ∷ 0 ∷ 0 ∷ 0 ∷ 0 ∷ 0 ∷ 0 ∷ 0 ∷ 0 ∷ [] }

abbrev x : Name
x = record { bytes = 120 ∷ 0 ∷ 0 ∷ 0 ∷ 0 ∷ 0 ∷ 0 ∷ 0 ∷ 0 ∷ 0 ∷ 0 ∷ 0 ∷ 0 ∷ 0 ∷ [] }

abbrev y : Name
y = record { bytes = 121 ∷ 0 ∷ 0 ∷ 0 ∷ 0 ∷ 0 ∷ 0 ∷ 0 ∷ 0 ∷ 0 ∷ 0 ∷ 0 ∷ 0 ∷ 0 ∷ [] }

abbrev z : Name
z = record { bytes = 122 ∷ 0 ∷ 0 ∷ 0 ∷ 0 ∷ 0 ∷ 0 ∷ 0 ∷ 0 ∷ 0 ∷ 0 ∷ 0 ∷ 0 ∷ 0 ∷ [] }

abbrev pub short_cases : List Case
short_cases =
    -- `:<:`: 3 at 0, with 0 places
    case 0 (bad (NoToken 0) ∷ []) (Err (Lexical (NoToken 0)))
    -- `-5`: 3 at 0, with 0 places
    ∷ case 0 (bad (NoToken 0) ∷ []) (Err (Lexical (NoToken 0)))
    -- ` 5`: 3 at 1, with 0 places
    ∷ case 0 (bad (NoToken 1) ∷ []) (Err (Lexical (NoToken 1)))
    -- `5x;`: 3 at 0, with 0 places
    ∷ case 0 (bad (NoToken 0) ∷ []) (Err (Lexical (NoToken 0)))
    -- `*)`: 3 at 0, with 0 places
    ∷ case 0 (bad (NoToken 0) ∷ []) (Err (Lexical (NoToken 0)))
    -- `"(*`: 3 at 0, with 0 places
    ∷ case 0 (bad (NoToken 0) ∷ []) (Err (Lexical (NoToken 0)))
    -- `x'`: 3 at 1
    ∷ case 100 (n 0 x ∷ bad (NoToken 1) ∷ []) (Err (Lexical (NoToken 1)))
    -- `x'`: 8 at 0, with 0 places
    ∷ case 0 (n 0 x ∷ bad (NoToken 1) ∷ []) (Err (TreeFull 0))
    -- `x--y;`: 3 at 1
    ∷ case 100 (n 0 x ∷ bad (NoToken 1) ∷ []) (Err (Lexical (NoToken 1)))
    -- `:X->=A;`: 3 at 2
    ∷ case 100 (t 0 Colon ∷ n 1 X ∷ bad (NoToken 2) ∷ []) (Err (Lexical (NoToken 2)))
    -- `:A->B~`: 3 at 5, with 2 places
    ∷ case 2 (t 0 Colon ∷ n 1 A ∷ t 2 Arrow ∷ n 4 B ∷ bad (NoToken 5) ∷ []) (Err (Lexical (NoToken 5)))
    -- `x;~`: 3 at 2
    ∷ case 100 (n 0 x ∷ t 1 Semicolon ∷ bad (NoToken 2) ∷ []) (Err (Lexical (NoToken 2)))
    -- `x x~`: 6 at 2
    ∷ case 100 (n 0 x ∷ n 2 x ∷ bad (NoToken 3) ∷ []) (Err (Unexpected 2))
    -- `(*)`: 4 at 0, with 0 places
    ∷ case 0 (bad (OpenComment 0) ∷ []) (Err (Lexical (OpenComment 0)))
    -- `(* (* *)`: 4 at 0, with 0 places
    ∷ case 0 (bad (OpenComment 0) ∷ []) (Err (Lexical (OpenComment 0)))
    -- `(*(*)*)`: 4 at 0, with 0 places
    ∷ case 0 (bad (OpenComment 0) ∷ []) (Err (Lexical (OpenComment 0)))
    -- `x(*(*y`: 4 at 3
    ∷ case 100 (n 0 x ∷ bad (OpenComment 3) ∷ []) (Err (Lexical (OpenComment 3)))
    -- `x(*(*y`: 8 at 0, with 0 places
    ∷ case 0 (n 0 x ∷ bad (OpenComment 3) ∷ []) (Err (TreeFull 0))
    -- `x;(*`: 4 at 2
    ∷ case 100 (n 0 x ∷ t 1 Semicolon ∷ bad (OpenComment 2) ∷ []) (Err (Lexical (OpenComment 2)))
    -- `(**)x;(* ' " ~ (* *) *)`: read
    ∷ case 100 (n 4 x ∷ t 5 Semicolon ∷ t 23 End ∷ []) (Ok (of_term (term_name 4 x)))
    -- `abcdefghijklmn;`: read
    ∷ case 100 (n 0 abcdefghijklmn ∷ t 14 Semicolon ∷ t 15 End ∷ []) (Ok (of_term (term_name 0 abcdefghijklmn)))
    -- `abcdefghijklmno;`: 5 at 0, with 0 places
    ∷ case 0 (bad (LongName 0) ∷ []) (Err (Lexical (LongName 0)))
    -- `:A->abcdefghijklmno;`: 5 at 4
    ∷ case 100 (t 0 Colon ∷ n 1 A ∷ t 2 Arrow ∷ bad (LongName 4) ∷ []) (Err (Lexical (LongName 4)))
    -- `let abcdefghijklmno = top;`: 5 at 4, with 0 places
    ∷ case 0 (t 0 LetTerm ∷ bad (LongName 4) ∷ []) (Err (Lexical (LongName 4)))
    -- ``: 6 at 0, with 0 places
    ∷ case 0 (t 0 End ∷ []) (Err (Unexpected 0))
    -- `   `: 6 at 3, with 0 places
    ∷ case 0 (t 3 End ∷ []) (Err (Unexpected 3))
    -- `;`: 6 at 0, with 0 places
    ∷ case 0 (t 0 Semicolon ∷ t 1 End ∷ []) (Err (Unexpected 0))
    -- `x`: 6 at 1
    ∷ case 100 (n 0 x ∷ t 1 End ∷ []) (Err (Unexpected 1))
    -- `x (* c *)`: 6 at 9
    ∷ case 100 (n 0 x ∷ t 9 End ∷ []) (Err (Unexpected 9))
    -- `x;;`: 6 at 2
    ∷ case 100 (n 0 x ∷ t 1 Semicolon ∷ t 2 Semicolon ∷ t 3 End ∷ []) (Err (Unexpected 2))
    -- `x;y;`: 6 at 2
    ∷ case 100 (n 0 x ∷ t 1 Semicolon ∷ n 2 y ∷ t 3 Semicolon ∷ t 4 End ∷ []) (Err (Unexpected 2))
    -- `x y;`: 6 at 2
    ∷ case 100 (n 0 x ∷ n 2 y ∷ t 3 Semicolon ∷ t 4 End ∷ []) (Err (Unexpected 2))
    -- `fun(x:Top;`: 6 at 9
    ∷ case 100 (t 0 Fun ∷ t 3 Open ∷ n 4 x ∷ t 5 Colon ∷ t 6 Top ∷ t 9 Semicolon ∷ t 10 End ∷ []) (Err (Unexpected 9))
    -- `fun(x);`: 6 at 6, with 0 places
    ∷ case 0 (t 0 Fun ∷ t 3 Open ∷ n 4 x ∷ t 5 Close ∷ t 6 Semicolon ∷ t 7 End ∷ []) (Err (Unexpected 6))
    -- `fun(top:A)x;`: 6 at 4, with 0 places
    ∷ case 0 (t 0 Fun ∷ t 3 Open ∷ t 4 TopTerm ∷ t 7 Colon ∷ n 8 A ∷ t 9 Close ∷ n 10 x ∷ t 11 Semicolon ∷ t 12 End ∷ []) (Err (Unexpected 4))
    -- `Top;`: 6 at 0, with 0 places
    ∷ case 0 (t 0 Top ∷ t 3 Semicolon ∷ t 4 End ∷ []) (Err (Unexpected 0))
    -- `:top;`: 6 at 1, with 0 places
    ∷ case 0 (t 0 Colon ∷ t 1 TopTerm ∷ t 4 Semicolon ∷ t 5 End ∷ []) (Err (Unexpected 1))
    -- `:A(B);`: 6 at 2
    ∷ case 100 (t 0 Colon ∷ n 1 A ∷ t 2 Open ∷ n 3 B ∷ t 4 Close ∷ t 5 Semicolon ∷ t 6 End ∷ []) (Err (Unexpected 2))
    -- `f();`: 6 at 2
    ∷ case 100 (n 0 f ∷ t 1 Open ∷ t 2 Close ∷ t 3 Semicolon ∷ t 4 End ∷ []) (Err (Unexpected 2))
    -- `{x;`: 6 at 2
    ∷ case 100 (t 0 OpenBrace ∷ n 1 x ∷ t 2 Semicolon ∷ t 3 End ∷ []) (Err (Unexpected 2))
    -- `unfold x;`: 6 at 7, with 0 places
    ∷ case 0 (t 0 Unfold ∷ n 7 x ∷ t 8 Semicolon ∷ t 9 End ∷ []) (Err (Unexpected 7))
    -- `X_1;`: 6 at 1
    ∷ case 100 (n 0 X ∷ t 1 Unused ∷ bad (NoToken 2) ∷ []) (Err (Unexpected 1))
    -- `let x=A->B;`: 6 at 7
    ∷ case 100 (t 0 LetTerm ∷ n 4 x ∷ t 5 Equal ∷ n 6 A ∷ t 7 Arrow ∷ n 9 B ∷ t 10 Semicolon ∷ t 11 End ∷ []) (Err (Unexpected 7))
    -- `Let X<:A;`: 6 at 8
    ∷ case 100 (t 0 LetType ∷ n 4 X ∷ t 5 Below ∷ n 7 A ∷ t 8 Semicolon ∷ t 9 End ∷ []) (Err (Unexpected 8))
    -- `judge;`: 6 at 5, with 0 places
    ∷ case 0 (t 0 Judge ∷ t 5 Semicolon ∷ t 6 End ∷ []) (Err (Unexpected 5))
    -- `judge foo;`: 6 at 6, with 0 places
    ∷ case 0 (t 0 Judge ∷ n 6 foo ∷ t 9 Semicolon ∷ t 10 End ∷ []) (Err (Unexpected 6))
    -- `judge env X;`: 6 at 11, with 0 places
    ∷ case 0 (t 0 Judge ∷ n 6 word_env ∷ n 10 X ∷ t 11 Semicolon ∷ t 12 End ∷ []) (Err (Unexpected 11))
    -- `judge env x:A,y:B;`: 6 at 13
    ∷ case 100 (t 0 Judge ∷ n 6 word_env ∷ n 10 x ∷ t 11 Colon ∷ n 12 A ∷ t 13 Unused ∷ n 14 y ∷ t 15 Colon ∷ n 16 B ∷ t 17 Semicolon ∷ t 18 End ∷ []) (Err (Unexpected 13))
    -- `judge env type:Top;`: read
    ∷ case 100 (t 0 Judge ∷ n 6 word_env ∷ n 10 word_type ∷ t 14 Colon ∷ t 15 Top ∷ t 18 Semicolon ∷ t 19 End ∷ []) (Ok (judge_env (term_binding word_type top ∷ [])))
    -- `:Top;`: 8 at 1, with 0 places
    ∷ case 0 (t 0 Colon ∷ t 1 Top ∷ t 4 Semicolon ∷ t 5 End ∷ []) (Err (TreeFull 1))
    -- `:{Top};`: 8 at 2, with 0 places
    ∷ case 0 (t 0 Colon ∷ t 1 OpenBrace ∷ t 2 Top ∷ t 5 CloseBrace ∷ t 6 Semicolon ∷ t 7 End ∷ []) (Err (TreeFull 2))
    -- `:A->B;`: 8 at 1, with 2 places
    ∷ case 2 (t 0 Colon ∷ n 1 A ∷ t 2 Arrow ∷ n 4 B ∷ t 5 Semicolon ∷ t 6 End ∷ []) (Err (TreeFull 1))
    -- `:A->B;`: read, with 3 places
    ∷ case 3 (t 0 Colon ∷ n 1 A ∷ t 2 Arrow ∷ n 4 B ∷ t 5 Semicolon ∷ t 6 End ∷ []) (Ok (of_type (arrow (name 1 A) (name 4 B))))
    -- `:{A}->B;`: 8 at 1, with 2 places
    ∷ case 2 (t 0 Colon ∷ t 1 OpenBrace ∷ n 2 A ∷ t 3 CloseBrace ∷ t 4 Arrow ∷ n 6 B ∷ t 7 Semicolon ∷ t 8 End ∷ []) (Err (TreeFull 1))
    -- `:{A->B};`: 8 at 2, with 2 places
    ∷ case 2 (t 0 Colon ∷ t 1 OpenBrace ∷ n 2 A ∷ t 3 Arrow ∷ n 5 B ∷ t 6 CloseBrace ∷ t 7 Semicolon ∷ t 8 End ∷ []) (Err (TreeFull 2))
    -- `:All(X)B;`: 8 at 1, with 1 places
    ∷ case 1 (t 0 Colon ∷ t 1 All ∷ t 4 Open ∷ n 5 X ∷ t 6 Close ∷ n 7 B ∷ t 8 Semicolon ∷ t 9 End ∷ []) (Err (TreeFull 1))
    -- `:All(X)B;`: read, with 2 places
    ∷ case 2 (t 0 Colon ∷ t 1 All ∷ t 4 Open ∷ n 5 X ∷ t 6 Close ∷ n 7 B ∷ t 8 Semicolon ∷ t 9 End ∷ []) (Ok (of_type (all_unbounded X (name 7 B))))
    -- `x;`: 8 at 0, with 0 places
    ∷ case 0 (n 0 x ∷ t 1 Semicolon ∷ t 2 End ∷ []) (Err (TreeFull 0))
    -- `f(x)(y);`: 8 at 0, with 4 places
    ∷ case 4 (n 0 f ∷ t 1 Open ∷ n 2 x ∷ t 3 Close ∷ t 4 Open ∷ n 5 y ∷ t 6 Close ∷ t 7 Semicolon ∷ t 8 End ∷ []) (Err (TreeFull 0))
    -- `{f}(x);`: 8 at 0, with 2 places
    ∷ case 2 (t 0 OpenBrace ∷ n 1 f ∷ t 2 CloseBrace ∷ t 3 Open ∷ n 4 x ∷ t 5 Close ∷ t 6 Semicolon ∷ t 7 End ∷ []) (Err (TreeFull 0))
    -- `{f(x)};`: 8 at 1, with 2 places
    ∷ case 2 (t 0 OpenBrace ∷ n 1 f ∷ t 2 Open ∷ n 3 x ∷ t 4 Close ∷ t 5 CloseBrace ∷ t 6 Semicolon ∷ t 7 End ∷ []) (Err (TreeFull 1))
    -- `fun(x:A)y;`: 8 at 0, with 2 places
    ∷ case 2 (t 0 Fun ∷ t 3 Open ∷ n 4 x ∷ t 5 Colon ∷ n 6 A ∷ t 7 Close ∷ n 8 y ∷ t 9 Semicolon ∷ t 10 End ∷ []) (Err (TreeFull 0))
    -- `fun(x:A)f(y);`: 8 at 0, with 4 places
    ∷ case 4 (t 0 Fun ∷ t 3 Open ∷ n 4 x ∷ t 5 Colon ∷ n 6 A ∷ t 7 Close ∷ n 8 f ∷ t 9 Open ∷ n 10 y ∷ t 11 Close ∷ t 12 Semicolon ∷ t 13 End ∷ []) (Err (TreeFull 0))
    -- `fun(x:A)f(y);`: 8 at 8, with 3 places
    ∷ case 3 (t 0 Fun ∷ t 3 Open ∷ n 4 x ∷ t 5 Colon ∷ n 6 A ∷ t 7 Close ∷ n 8 f ∷ t 9 Open ∷ n 10 y ∷ t 11 Close ∷ t 12 Semicolon ∷ t 13 End ∷ []) (Err (TreeFull 8))
    -- `judge env x:A;`: 8 at 10, with 1 places
    ∷ case 1 (t 0 Judge ∷ n 6 word_env ∷ n 10 x ∷ t 11 Colon ∷ n 12 A ∷ t 13 Semicolon ∷ t 14 End ∷ []) (Err (TreeFull 10))
    -- `judge env x:A;`: 8 at 12, with 0 places
    ∷ case 0 (t 0 Judge ∷ n 6 word_env ∷ n 10 x ∷ t 11 Colon ∷ n 12 A ∷ t 13 Semicolon ∷ t 14 End ∷ []) (Err (TreeFull 12))
    -- `judge env;`: read, with 0 places
    ∷ case 0 (t 0 Judge ∷ n 6 word_env ∷ t 9 Semicolon ∷ t 10 End ∷ []) (Ok (judge_env []))
    -- `x x;`: 8 at 0, with 0 places
    ∷ case 0 (n 0 x ∷ n 2 x ∷ t 3 Semicolon ∷ t 4 End ∷ []) (Err (TreeFull 0))
    -- `x x;`: 6 at 2, with 1 places
    ∷ case 1 (n 0 x ∷ n 2 x ∷ t 3 Semicolon ∷ t 4 End ∷ []) (Err (Unexpected 2))
    -- `f(x)x;`: 8 at 0, with 2 places
    ∷ case 2 (n 0 f ∷ t 1 Open ∷ n 2 x ∷ t 3 Close ∷ n 4 x ∷ t 5 Semicolon ∷ t 6 End ∷ []) (Err (TreeFull 0))
    -- `:A->B(`: 8 at 1, with 2 places
    ∷ case 2 (t 0 Colon ∷ n 1 A ∷ t 2 Arrow ∷ n 4 B ∷ t 5 Open ∷ t 6 End ∷ []) (Err (TreeFull 1))
    -- `:A->B(`: 6 at 5, with 3 places
    ∷ case 3 (t 0 Colon ∷ n 1 A ∷ t 2 Arrow ∷ n 4 B ∷ t 5 Open ∷ t 6 End ∷ []) (Err (Unexpected 5))
    -- `x;`: read
    ∷ case 100 (n 0 x ∷ t 1 Semicolon ∷ t 2 End ∷ []) (Ok (of_term (term_name 0 x)))
    -- `{x};`: read
    ∷ case 100 (t 0 OpenBrace ∷ n 1 x ∷ t 2 CloseBrace ∷ t 3 Semicolon ∷ t 4 End ∷ []) (Ok (of_term (term_name 1 x)))
    -- `x(y);`: read
    ∷ case 100 (n 0 x ∷ t 1 Open ∷ n 2 y ∷ t 3 Close ∷ t 4 Semicolon ∷ t 5 End ∷ []) (Ok (of_term (appl 1 (term_name 0 x) (term_name 2 y))))
    -- `fun(x:X)y;`: read
    ∷ case 100 (t 0 Fun ∷ t 3 Open ∷ n 4 x ∷ t 5 Colon ∷ n 6 X ∷ t 7 Close ∷ n 8 y ∷ t 9 Semicolon ∷ t 10 End ∷ []) (Ok (of_term (fun 0 x (name 6 X) (term_name 8 y))))
    -- `fun(x:Top)y;`: read
    ∷ case 100 (t 0 Fun ∷ t 3 Open ∷ n 4 x ∷ t 5 Colon ∷ t 6 Top ∷ t 9 Close ∷ n 10 y ∷ t 11 Semicolon ∷ t 12 End ∷ []) (Ok (of_term (fun 0 x top (term_name 10 y))))
    -- `fun(X)X;`: read
    ∷ case 100 (t 0 Fun ∷ t 3 Open ∷ n 4 X ∷ t 5 Close ∷ n 6 X ∷ t 7 Semicolon ∷ t 8 End ∷ []) (Ok (of_term (fun2_unbounded 0 X (term_name 6 X))))
    -- `:All(X<:X)X;`: read
    ∷ case 100 (t 0 Colon ∷ t 1 All ∷ t 4 Open ∷ n 5 X ∷ t 6 Below ∷ n 8 X ∷ t 9 Close ∷ n 10 X ∷ t 11 Semicolon ∷ t 12 End ∷ []) (Ok (of_type (all X (name 8 X) (name 10 X))))
    -- `let x = x;`: read
    ∷ case 100 (t 0 LetTerm ∷ n 4 x ∷ t 6 Equal ∷ n 8 x ∷ t 9 Semicolon ∷ t 10 End ∷ []) (Ok (let_term_untyped x (term_name 8 x)))
    -- `judge env X<:X;`: read
    ∷ case 100 (t 0 Judge ∷ n 6 word_env ∷ n 10 X ∷ t 11 Below ∷ n 13 X ∷ t 14 Semicolon ∷ t 15 End ∷ []) (Ok (judge_env (type_binding X (name 13 X) ∷ [])))
    -- `judge env x:A A<:Top;`: read
    ∷ case 100 (t 0 Judge ∷ n 6 word_env ∷ n 10 x ∷ t 11 Colon ∷ n 12 A ∷ n 14 A ∷ t 15 Below ∷ t 17 Top ∷ t 20 Semicolon ∷ t 21 End ∷ []) (Ok (judge_env (term_binding x (name 12 A) ∷ type_binding A top ∷ [])))
    -- `:A->B->C;`: read
    ∷ case 100 (t 0 Colon ∷ n 1 A ∷ t 2 Arrow ∷ n 4 B ∷ t 5 Arrow ∷ n 7 C ∷ t 8 Semicolon ∷ t 9 End ∷ []) (Ok (of_type (arrow (name 1 A) (arrow (name 4 B) (name 7 C)))))
    -- `:All(X)A->B;`: read
    ∷ case 100 (t 0 Colon ∷ t 1 All ∷ t 4 Open ∷ n 5 X ∷ t 6 Close ∷ n 7 A ∷ t 8 Arrow ∷ n 10 B ∷ t 11 Semicolon ∷ t 12 End ∷ []) (Ok (of_type (all_unbounded X (arrow (name 7 A) (name 10 B)))))
    -- `:Rec(X)A->B;`: read
    ∷ case 100 (t 0 Colon ∷ t 1 Rec ∷ t 4 Open ∷ n 5 X ∷ t 6 Close ∷ n 7 A ∷ t 8 Arrow ∷ n 10 B ∷ t 11 Semicolon ∷ t 12 End ∷ []) (Ok (of_type (rec X (arrow (name 7 A) (name 10 B)))))
    -- `:A->All(X)B->C;`: read
    ∷ case 100 (t 0 Colon ∷ n 1 A ∷ t 2 Arrow ∷ t 4 All ∷ t 7 Open ∷ n 8 X ∷ t 9 Close ∷ n 10 B ∷ t 11 Arrow ∷ n 13 C ∷ t 14 Semicolon ∷ t 15 End ∷ []) (Ok (of_type (arrow (name 1 A) (all_unbounded X (arrow (name 10 B) (name 13 C))))))
    -- `f(a)(b);`: read
    ∷ case 100 (n 0 f ∷ t 1 Open ∷ n 2 a ∷ t 3 Close ∷ t 4 Open ∷ n 5 b ∷ t 6 Close ∷ t 7 Semicolon ∷ t 8 End ∷ []) (Ok (of_term (appl 4 (appl 1 (term_name 0 f) (term_name 2 a)) (term_name 5 b))))
    -- `f(:A)(b);`: read
    ∷ case 100 (n 0 f ∷ t 1 Open ∷ t 2 Colon ∷ n 3 A ∷ t 4 Close ∷ t 5 Open ∷ n 6 b ∷ t 7 Close ∷ t 8 Semicolon ∷ t 9 End ∷ []) (Ok (of_term (appl 5 (appl2 1 (term_name 0 f) (name 3 A)) (term_name 6 b))))
    -- `fun(x:A)f(x);`: read
    ∷ case 100 (t 0 Fun ∷ t 3 Open ∷ n 4 x ∷ t 5 Colon ∷ n 6 A ∷ t 7 Close ∷ n 8 f ∷ t 9 Open ∷ n 10 x ∷ t 11 Close ∷ t 12 Semicolon ∷ t 13 End ∷ []) (Ok (of_term (fun 0 x (name 6 A) (appl 9 (term_name 8 f) (term_name 10 x)))))
    -- `rec(x:A)f(x);`: read
    ∷ case 100 (t 0 RecTerm ∷ t 3 Open ∷ n 4 x ∷ t 5 Colon ∷ n 6 A ∷ t 7 Close ∷ n 8 f ∷ t 9 Open ∷ n 10 x ∷ t 11 Close ∷ t 12 Semicolon ∷ t 13 End ∷ []) (Ok (of_term (rec_term 0 x (name 6 A) (appl 9 (term_name 8 f) (term_name 10 x)))))
    -- `fold(:A)(a)(b);`: read
    ∷ case 100 (t 0 Fold ∷ t 4 Open ∷ t 5 Colon ∷ n 6 A ∷ t 7 Close ∷ t 8 Open ∷ n 9 a ∷ t 10 Close ∷ t 11 Open ∷ n 12 b ∷ t 13 Close ∷ t 14 Semicolon ∷ t 15 End ∷ []) (Ok (of_term (appl 11 (fold_term 0 (name 6 A) (term_name 9 a)) (term_name 12 b))))
    -- `unfold(a)(b);`: read
    ∷ case 100 (t 0 Unfold ∷ t 6 Open ∷ n 7 a ∷ t 8 Close ∷ t 9 Open ∷ n 10 b ∷ t 11 Close ∷ t 12 Semicolon ∷ t 13 End ∷ []) (Ok (of_term (appl 9 (unfold_term 0 (term_name 7 a)) (term_name 10 b))))
    -- `fun(X<:Top)fun(f:X)f(top);`: read
    ∷ case 100 (t 0 Fun ∷ t 3 Open ∷ n 4 X ∷ t 5 Below ∷ t 7 Top ∷ t 10 Close ∷ t 11 Fun ∷ t 14 Open ∷ n 15 f ∷ t 16 Colon ∷ n 17 X ∷ t 18 Close ∷ n 19 f ∷ t 20 Open ∷ t 21 TopTerm ∷ t 24 Close ∷ t 25 Semicolon ∷ t 26 End ∷ []) (Ok (of_term (fun2 0 X top (fun 11 f (name 17 X) (appl 20 (term_name 19 f) (top_term 21))))))
    -- `:All(X<:Top)Rec(Y)X->Y->Z;`: read
    ∷ case 100 (t 0 Colon ∷ t 1 All ∷ t 4 Open ∷ n 5 X ∷ t 6 Below ∷ t 8 Top ∷ t 11 Close ∷ t 12 Rec ∷ t 15 Open ∷ n 16 Y ∷ t 17 Close ∷ n 18 X ∷ t 19 Arrow ∷ n 21 Y ∷ t 22 Arrow ∷ n 24 Z ∷ t 25 Semicolon ∷ t 26 End ∷ []) (Ok (of_type (all X top (rec Y (arrow (name 18 X) (arrow (name 21 Y) (name 24 Z)))))))
    -- `judge subtype X<:Top |- X <: All(Y)Y->X;`: read
    ∷ case 100 (t 0 Judge ∷ n 6 word_subtype ∷ n 14 X ∷ t 15 Below ∷ t 17 Top ∷ t 21 Turnstile ∷ n 24 X ∷ t 26 Below ∷ t 29 All ∷ t 32 Open ∷ n 33 Y ∷ t 34 Close ∷ n 35 Y ∷ t 36 Arrow ∷ n 38 X ∷ t 39 Semicolon ∷ t 40 End ∷ []) (Ok (judge_subtype (type_binding X top ∷ []) (name 24 X) (all_unbounded Y (arrow (name 35 Y) (name 38 X)))))
    -- `Let X<:A = {B}->C;`: read
    ∷ case 100 (t 0 LetType ∷ n 4 X ∷ t 5 Below ∷ n 7 A ∷ t 9 Equal ∷ t 11 OpenBrace ∷ n 12 B ∷ t 13 CloseBrace ∷ t 14 Arrow ∷ n 16 C ∷ t 17 Semicolon ∷ t 18 End ∷ []) (Ok (let_type X (name 7 A) (arrow (name 12 B) (name 16 C))))
    -- `Let X = Top;`: read
    ∷ case 100 (t 0 LetType ∷ n 4 X ∷ t 6 Equal ∷ t 8 Top ∷ t 11 Semicolon ∷ t 12 End ∷ []) (Ok (let_type_unbounded X top))
    -- `let x:A = y;`: read
    ∷ case 100 (t 0 LetTerm ∷ n 4 x ∷ t 5 Colon ∷ n 6 A ∷ t 8 Equal ∷ n 10 y ∷ t 11 Semicolon ∷ t 12 End ∷ []) (Ok (let_term x (name 6 A) (term_name 10 y)))
    -- `judge type X<:A y:B |- Top;`: read
    ∷ case 100 (t 0 Judge ∷ n 6 word_type ∷ n 11 X ∷ t 12 Below ∷ n 14 A ∷ n 16 y ∷ t 17 Colon ∷ n 18 B ∷ t 20 Turnstile ∷ t 23 Top ∷ t 26 Semicolon ∷ t 27 End ∷ []) (Ok (judge_type (type_binding X (name 14 A) ∷ term_binding y (name 18 B) ∷ []) top))
    -- `judge term X<:Top y:X b:X |- fun(z:X)a(b)(y) : X;`: read
    ∷ case 100 (t 0 Judge ∷ n 6 word_term ∷ n 11 X ∷ t 12 Below ∷ t 14 Top ∷ n 18 y ∷ t 19 Colon ∷ n 20 X ∷ n 22 b ∷ t 23 Colon ∷ n 24 X ∷ t 26 Turnstile ∷ t 29 Fun ∷ t 32 Open ∷ n 33 z ∷ t 34 Colon ∷ n 35 X ∷ t 36 Close ∷ n 37 a ∷ t 38 Open ∷ n 39 b ∷ t 40 Close ∷ t 41 Open ∷ n 42 y ∷ t 43 Close ∷ t 45 Colon ∷ n 47 X ∷ t 48 Semicolon ∷ t 49 End ∷ []) (Ok (judge_term (type_binding X top ∷ term_binding y (name 20 X) ∷ term_binding b (name 24 X) ∷ []) (fun 29 z (name 35 X) (appl 41 (appl 38 (term_name 37 a) (term_name 39 b)) (term_name 42 y))) (name 47 X)))
    ∷ []

-- k times a word that has one byte
abbrev many : (k : ℕ) → Word → (byte : ℕ) → List Item
many zero w byte = []
many (suc k) w byte = t byte w ∷ many k w (suc byte)

-- k times `{`, x, k times `}`, `;`
abbrev in_braces : ℕ → List Item
in_braces k = many k OpenBrace 0 ++ n k x ∷ many k CloseBrace (k + 1) ++ t (2 * k + 1) Semicolon ∷ t (2 * k + 2) End ∷ []

abbrev arrows : (k : ℕ) → (byte : ℕ) → List Item
arrows zero byte = t byte Semicolon ∷ t (byte + 1) End ∷ []
arrows (suc k) byte = t byte Arrow ∷ n (byte + 2) A ∷ arrows k (byte + 3)

-- `:A`, k times `->A`, `;`
abbrev of_arrows : ℕ → List Item
of_arrows k = t 0 Colon ∷ n 1 A ∷ arrows k 2

abbrev arrow_type : (k : ℕ) → (byte : ℕ) → NamedType
arrow_type zero byte = name byte A
arrow_type (suc k) byte = arrow (name byte A) (arrow_type k (byte + 3))

abbrev calls : (k : ℕ) → (byte : ℕ) → List Item
calls zero byte = []
calls (suc k) byte = n byte x ∷ t (byte + 1) Open ∷ calls k (byte + 2)

-- k times `x(`, x, k times `)`, `;`
abbrev of_calls : ℕ → List Item
of_calls k = calls k 0 ++ n (2 * k) x ∷ many k Close (2 * k + 1) ++ t (3 * k + 1) Semicolon ∷ t (3 * k + 2) End ∷ []

abbrev call_term : (k : ℕ) → (byte : ℕ) → NamedTerm
call_term zero byte = term_name byte x
call_term (suc k) byte = appl (byte + 1) (term_name byte x) (call_term k (byte + 2))

abbrev applied : (k : ℕ) → (byte : ℕ) → List Item
applied zero byte = t byte Semicolon ∷ t (byte + 1) End ∷ []
applied (suc k) byte = t byte Open ∷ n (byte + 1) x ∷ t (byte + 2) Close ∷ applied k (byte + 3)

abbrev applied_term : (k : ℕ) → (byte : ℕ) → NamedTerm → NamedTerm
applied_term zero byte f = f
applied_term (suc k) byte f = applied_term k (byte + 3) (appl byte f (term_name (byte + 1) x))

-- k times the items that a function gives from a byte on, each time so many bytes further on
abbrev row : (k : ℕ) → (ℕ → List Item) → (width byte : ℕ) → List Item
row zero items width byte = []
row (suc k) items width byte = items byte ++ row k items width (byte + width)

-- 127 times `{`, from that byte on, and then these
abbrev inside : (byte : ℕ) → List Item → List Item
inside byte items = many 127 OpenBrace byte ++ items

abbrev pub deep_cases : List Case
deep_cases =
    case 1 (in_braces 127) (Ok (of_term (term_name 127 x)))
    ∷ case 400 (in_braces 128) (Err (TooDeep 128))
    ∷ case 400 (in_braces 129) (Err (TooDeep 128))
    ∷ case 255 (of_arrows 127) (Ok (of_type (arrow_type 127 1)))
    ∷ case 400 (of_arrows 128) (Err (TooDeep 385))
    ∷ case 400 (of_arrows 129) (Err (TooDeep 385))
    ∷ case 255 (of_calls 127) (Ok (of_term (call_term 127 0)))
    ∷ case 400 (of_calls 128) (Err (TooDeep 256))
    ∷ case 400 (of_calls 129) (Err (TooDeep 256))
    -- 128 times `{`, and then a semicolon, what is no token, `fun`
    ∷ case 0 (many 128 OpenBrace 0 ++ t 128 Semicolon ∷ t 129 End ∷ []) (Err (Unexpected 128))
    ∷ case 0 (many 128 OpenBrace 0 ++ bad (NoToken 128) ∷ []) (Err (Lexical (NoToken 128)))
    ∷ case 0 (many 128 OpenBrace 0 ++ t 128 Fun ∷ t 131 End ∷ []) (Err (TooDeep 128))
    -- `x`, 128 times `(x)`, `;`
    ∷ case 257 (n 0 x ∷ applied 128 1) (Ok (of_term (applied_term 128 1 (term_name 0 x))))
    ∷ case 256 (n 0 x ∷ applied 128 1) (Err (TreeFull 0))
    ∷ []

-- each part that is inside another, where it begins inside 128
abbrev pub inner_cases : List Case
inner_cases =
    -- `:`, 127 times `{`, and then `{A`, `All(X<:A`, `All(X)A`, `Rec(X)A`
    case 400 (t 0 Colon ∷ inside 1 (t 128 OpenBrace ∷ n 129 A ∷ [])) (Err (TooDeep 129))
    ∷ case 400 (t 0 Colon ∷ inside 1 (t 128 All ∷ t 131 Open ∷ n 132 X ∷ t 133 Below ∷ n 135 A ∷ [])) (Err (TooDeep 135))
    ∷ case 400 (t 0 Colon ∷ inside 1 (t 128 All ∷ t 131 Open ∷ n 132 X ∷ t 133 Close ∷ n 134 A ∷ [])) (Err (TooDeep 134))
    ∷ case 400 (t 0 Colon ∷ inside 1 (t 128 Rec ∷ t 131 Open ∷ n 132 X ∷ t 133 Close ∷ n 134 A ∷ [])) (Err (TooDeep 134))
    -- `:`, and 128 times `All(X<:A)`
    ∷ case 400 (t 0 Colon ∷ row 128 (λ byte. t byte All ∷ t (byte + 3) Open ∷ n (byte + 4) X ∷ t (byte + 5) Below ∷ n (byte + 7) A ∷ t (byte + 8) Close ∷ []) 9 1) (Err (TooDeep 1151))
    -- 127 times `{`, and then `fun(x:A`, `fun(X<:A`, `fun(X)x`, `rec(x:A`, `fold(:A`, `unfold(x`, `x(:A`
    ∷ case 400 (inside 0 (t 127 Fun ∷ t 130 Open ∷ n 131 x ∷ t 132 Colon ∷ n 133 A ∷ [])) (Err (TooDeep 133))
    ∷ case 400 (inside 0 (t 127 Fun ∷ t 130 Open ∷ n 131 X ∷ t 132 Below ∷ n 134 A ∷ [])) (Err (TooDeep 134))
    ∷ case 400 (inside 0 (t 127 Fun ∷ t 130 Open ∷ n 131 X ∷ t 132 Close ∷ n 133 x ∷ [])) (Err (TooDeep 133))
    ∷ case 400 (inside 0 (t 127 RecTerm ∷ t 130 Open ∷ n 131 x ∷ t 132 Colon ∷ n 133 A ∷ [])) (Err (TooDeep 133))
    ∷ case 400 (inside 0 (t 127 Fold ∷ t 131 Open ∷ t 132 Colon ∷ n 133 A ∷ [])) (Err (TooDeep 133))
    ∷ case 400 (inside 0 (t 127 Unfold ∷ t 133 Open ∷ n 134 x ∷ [])) (Err (TooDeep 134))
    ∷ case 400 (inside 0 (n 127 x ∷ t 128 Open ∷ t 129 Colon ∷ n 130 A ∷ [])) (Err (TooDeep 130))
    -- 128 times `fun(x:A)`, `fun(X<:A)`, `rec(x:A)`, `fold(:A)(`
    ∷ case 400 (row 128 (λ byte. t byte Fun ∷ t (byte + 3) Open ∷ n (byte + 4) x ∷ t (byte + 5) Colon ∷ n (byte + 6) A ∷ t (byte + 7) Close ∷ []) 8 0) (Err (TooDeep 1022))
    ∷ case 400 (row 128 (λ byte. t byte Fun ∷ t (byte + 3) Open ∷ n (byte + 4) X ∷ t (byte + 5) Below ∷ n (byte + 7) A ∷ t (byte + 8) Close ∷ []) 9 0) (Err (TooDeep 1150))
    ∷ case 400 (row 128 (λ byte. t byte RecTerm ∷ t (byte + 3) Open ∷ n (byte + 4) x ∷ t (byte + 5) Colon ∷ n (byte + 6) A ∷ t (byte + 7) Close ∷ []) 8 0) (Err (TooDeep 1022))
    ∷ case 400 (row 128 (λ byte. t byte Fold ∷ t (byte + 4) Open ∷ t (byte + 5) Colon ∷ n (byte + 6) A ∷ t (byte + 7) Close ∷ t (byte + 8) Open ∷ []) 9 0) (Err (TooDeep 1149))
    ∷ []

abbrev pub cases : List Case
cases = short_cases ++ deep_cases ++ inner_cases
