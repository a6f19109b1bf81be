-- The class of each byte once more, and sources with their items: computed, so that a wrong definition does not pass.
use Rattle.std.specs.Prelude.{◌≡◌, ℕ, zero, suc, List, [], ◌∷◌, ◌++◌, map, replicate, codes, Ok, Err}
use Rattle.std.specs.List.{range_with_len}
use Rattle.lexer.specs.Classes.{class_of}
use Rattle.lexer.specs.declared.class.Class.{Class}
use Rattle.lexer.specs.declared.class.Class.TheVariants.{Blank, Letter, Digit, Special, Delimiter, Reserved, Illegal}
use Rattle.lexer.specs.Names.{kept}
use Rattle.lexer.specs.Items.{Item, items}
use Rattle.lexer.specs.declared.fault.LexicalFault.TheVariants.{NoToken, OpenComment, LongName, DeepComment}
use Rattle.lexer.specs.declared.token.Word.{Word}
use Rattle.lexer.specs.declared.token.Word.TheVariants.{All, LetType, Rec, Top, Fold, Fun, Judge, LetTerm, RecTerm, TopTerm, Unfold, Colon, Below, Arrow, Equal, Turnstile, Open, Close, OpenBrace, CloseBrace, Semicolon, Unused, Name as named, End}

-- the classes of the bytes 0 to 255, in order
unfoldable pub classes_in_order : List Class
classes_in_order =
    replicate 9 Illegal ++ replicate 2 Blank ++ replicate 1 Illegal ++ replicate 2 Blank ++ replicate 18 Illegal
    -- from 32: space ! " # $ % & ' ( ) * + , - . /
    ++ Blank ∷ Delimiter ∷ Reserved ∷ Special ∷ Special ∷ Special ∷ Special ∷ Reserved
    ∷ Delimiter ∷ Delimiter ∷ Special ∷ Special ∷ Delimiter ∷ Special ∷ Delimiter ∷ Special ∷ []
    -- from 48: 0 to 9, : ; < = > ? @
    ++ replicate 10 Digit ++ Special ∷ Delimiter ∷ Special ∷ Special ∷ Special ∷ Delimiter ∷ Special ∷ []
    -- from 65: A to Z, [, the backslash, ] ^ _, the backquote
    ++ replicate 26 Letter ++ Delimiter ∷ Special ∷ Delimiter ∷ Special ∷ Delimiter ∷ Letter ∷ []
    -- from 97: a to z, {, the bar, } ~
    ++ replicate 26 Letter ++ Delimiter ∷ Special ∷ Delimiter ∷ Reserved ∷ []
    ++ replicate 129 Illegal

-- A source and its items.
pub record Case : Type 0 where
  pub source : List ℕ
  pub items : List Item

abbrev pub case : List ℕ → List Item → Case
case source items = record { source = source; items = items }

abbrev pub word : Word → ℕ → Item
word w byte = Ok (record { word = w; byte = byte })

abbrev pub name : List ℕ → ℕ → Item
name spelling byte = word (named (kept spelling)) byte

abbrev pub times : ℕ → List ℕ → List ℕ
times zero bs = []
times (suc n) bs = bs ++ times n bs

abbrev pub AllHold : List Case → Type 0
AllHold [] = Unit {0}
AllHold (c ∷ cs) = (items c.source ≡ c.items) × AllHold cs

-- 34 is the double quote, 92 the backslash
unfoldable pub cases : List Case
cases =
    -- every word
    case (codes "All Let Rec Top fold fun judge let rec top unfold")
    (word All 0 ∷ word LetType 4 ∷ word Rec 8 ∷ word Top 12 ∷ word Fold 16 ∷ word Fun 21 ∷ word Judge 25 ∷ word LetTerm 31 ∷ word RecTerm 35
    ∷ word TopTerm 39 ∷ word Unfold 43 ∷ word End 49 ∷ [])
    ∷ case (codes ": <: -> = |- (){};!,.?[]_")
    (word Colon 0 ∷ word Below 2 ∷ word Arrow 5 ∷ word Equal 8 ∷ word Turnstile 10 ∷ word Open 13 ∷ word Close 14 ∷ word OpenBrace 15
    ∷ word CloseBrace 16 ∷ word Semicolon 17 ∷ word Unused 18 ∷ word Unused 19 ∷ word Unused 20 ∷ word Unused 21 ∷ word Unused 22 ∷ word Unused 23
    ∷ word Unused 24 ∷ word End 25 ∷ [])
    ∷ case (codes "all env TOP Lets x1`z") (name (codes "all") 0 ∷ name (codes "env") 4 ∷ name (codes "TOP") 8 ∷ name (codes "Lets") 12 ∷ name (codes "x1`z") 17 ∷ word End 21 ∷ [])
    ∷ case [] (word End 0 ∷ [])
    ∷ case (codes "   ") (word End 3 ∷ [])
    -- 3
    ∷ case (codes ":<:") (Err (NoToken 0) ∷ [])
    ∷ case (codes "-5") (Err (NoToken 0) ∷ [])
    ∷ case (codes " 5") (Err (NoToken 1) ∷ [])
    ∷ case (codes "5x;") (Err (NoToken 0) ∷ [])
    ∷ case (codes "*)") (Err (NoToken 0) ∷ [])
    ∷ case (34 ∷ codes "(*") (Err (NoToken 0) ∷ [])
    ∷ case (codes "x'") (name (codes "x") 0 ∷ Err (NoToken 1) ∷ [])
    ∷ case (codes "x--y;") (name (codes "x") 0 ∷ Err (NoToken 1) ∷ [])
    ∷ case (codes ":X->=A;") (word Colon 0 ∷ name (codes "X") 1 ∷ Err (NoToken 2) ∷ [])
    ∷ case (codes ":A->B~") (word Colon 0 ∷ name (codes "A") 1 ∷ word Arrow 2 ∷ name (codes "B") 4 ∷ Err (NoToken 5) ∷ [])
    ∷ case (codes "x;~") (name (codes "x") 0 ∷ word Semicolon 1 ∷ Err (NoToken 2) ∷ [])
    ∷ case (codes "(* " ++ 0 ∷ codes "*)") (Err (NoToken 3) ∷ [])
    ∷ case (codes "x" ++ 128 ∷ []) (name (codes "x") 0 ∷ Err (NoToken 1) ∷ [])
    -- 4
    ∷ case (codes "(*)") (Err (OpenComment 0) ∷ [])
    ∷ case (codes "(* (* *)") (Err (OpenComment 0) ∷ [])
    ∷ case (codes "(*(*)*)") (Err (OpenComment 0) ∷ [])
    ∷ case (codes "x(*(*y") (name (codes "x") 0 ∷ Err (OpenComment 3) ∷ [])
    ∷ case (codes "x;(*") (name (codes "x") 0 ∷ word Semicolon 1 ∷ Err (OpenComment 2) ∷ [])
    ∷ case (codes "(**)x;(* ' ~ (* *) *)" ++ codes "f(*x*)") (name (codes "x") 4 ∷ word Semicolon 5 ∷ name (codes "f") 21 ∷ word End 27 ∷ [])
    -- 5
    ∷ case (codes "abcdefghijklmn;") (name (codes "abcdefghijklmn") 0 ∷ word Semicolon 14 ∷ word End 15 ∷ [])
    ∷ case (codes "abcdefghijklmno;") (Err (LongName 0) ∷ [])
    ∷ case (codes ":A->abcdefghijklmno;") (word Colon 0 ∷ name (codes "A") 1 ∷ word Arrow 2 ∷ Err (LongName 4) ∷ [])
    -- 7
    ∷ case (times 127 (codes "(*") ++ times 127 (codes "*)") ++ codes ":Top;") (word Colon 508 ∷ word Top 509 ∷ word Semicolon 512 ∷ word End 513 ∷ [])
    ∷ case (times 128 (codes "(*") ++ times 128 (codes "*)") ++ codes ":Top;") (word Colon 512 ∷ word Top 513 ∷ word Semicolon 516 ∷ word End 517 ∷ [])
    ∷ case (times 129 (codes "(*") ++ times 129 (codes "*)") ++ codes ":Top;") (Err (DeepComment 256) ∷ [])
    ∷ case (times 127 (codes "(*")) (Err (OpenComment 252) ∷ [])
    ∷ case (times 128 (codes "(*")) (Err (OpenComment 254) ∷ [])
    ∷ case (times 129 (codes "(*")) (Err (DeepComment 256) ∷ [])
    ∷ []

pub record CasesHold : Type 0 where
  pub classes : map class_of (range_with_len 0 256) ≡ classes_in_order
  pub sources : AllHold cases
