-- The grammar as it is written in docs/SYNTAX.md ("The grammar"): what stands for what, a form a line.
-- A part takes all that can continue it: so a type left of an arrow, and a term that is applied, end with a token of their own.
use Rattle.std.specs.Prelude.{◌≡◌, ℕ, List, [], ◌∷◌, Ok}
use Rattle.lexer.specs.Items.{Item}
use Rattle.lexer.specs.declared.name.Name.{Name}
use Rattle.lexer.specs.declared.token.Token.{Token}
use Rattle.lexer.specs.declared.token.Word.{Word}
use Rattle.lexer.specs.declared.token.Word.TheVariants.{All, LetType, Rec, Top, Fold, Fun, Judge, LetTerm, RecTerm, TopTerm, Unfold, Colon, Below, Arrow, Equal, Turnstile, Open, Close, OpenBrace, CloseBrace, Semicolon, Name as Named, End}
use Rattle.syntax.specs.Named.{NamedType, top, name, arrow, all, all_unbounded, rec, NamedTerm, top_term, term_name, fun, appl, fun2, fun2_unbounded, appl2, fold_term, unfold_term, rec_term, Binding, type_binding, term_binding, NamedPhrase, let_type, let_type_unbounded, let_term, let_term_untyped, of_type, of_term, judge_env, judge_type, judge_subtype, judge_term}
use Rattle.grammar.specs.Grammar.{env_word, type_word, subtype_word, term_word}

pub data Piece : Type 0 where
  -- a token, whatever its byte; and one with this byte
  word : Word → Piece
  word_at : Word → (byte : ℕ) → Piece
  phrase : NamedPhrase → Piece
  env : List Binding → Piece
  type : NamedType → Piece
  -- a type that ends with a token of its own
  left_type : NamedType → Piece
  term : NamedTerm → Piece
  -- a term that ends with a token of its own
  left_term : NamedTerm → Piece

pub data Form : Piece → List Piece → Type 0 where
  let_type_as : {x : Name} {B A : NamedType}
      → Form (phrase (let_type x B A)) (word LetType ∷ word (Named x) ∷ word Below ∷ type B ∷ word Equal ∷ type A ∷ word Semicolon ∷ word End ∷ [])
  let_type_unbounded_as : {x : Name} {A : NamedType}
      → Form (phrase (let_type_unbounded x A)) (word LetType ∷ word (Named x) ∷ word Equal ∷ type A ∷ word Semicolon ∷ word End ∷ [])
  let_term_as : {x : Name} {A : NamedType} {b : NamedTerm}
      → Form (phrase (let_term x A b)) (word LetTerm ∷ word (Named x) ∷ word Colon ∷ type A ∷ word Equal ∷ term b ∷ word Semicolon ∷ word End ∷ [])
  let_term_untyped_as : {x : Name} {b : NamedTerm}
      → Form (phrase (let_term_untyped x b)) (word LetTerm ∷ word (Named x) ∷ word Equal ∷ term b ∷ word Semicolon ∷ word End ∷ [])
  of_type_as : {A : NamedType} → Form (phrase (of_type A)) (word Colon ∷ type A ∷ word Semicolon ∷ word End ∷ [])
  of_term_as : {a : NamedTerm} → Form (phrase (of_term a)) (term a ∷ word Semicolon ∷ word End ∷ [])
  judge_env_as : {E : List Binding} → Form (phrase (judge_env E)) (word Judge ∷ word env_word ∷ env E ∷ word Semicolon ∷ word End ∷ [])
  judge_type_as : {E : List Binding} {A : NamedType}
      → Form (phrase (judge_type E A)) (word Judge ∷ word type_word ∷ env E ∷ word Turnstile ∷ type A ∷ word Semicolon ∷ word End ∷ [])
  judge_subtype_as : {E : List Binding} {A B : NamedType}
      → Form (phrase (judge_subtype E A B)) (word Judge ∷ word subtype_word ∷ env E ∷ word Turnstile ∷ type A ∷ word Below ∷ type B ∷ word Semicolon ∷ word End ∷ [])
  judge_term_as : {E : List Binding} {a : NamedTerm} {A : NamedType}
      → Form (phrase (judge_term E a A)) (word Judge ∷ word term_word ∷ env E ∷ word Turnstile ∷ term a ∷ word Colon ∷ type A ∷ word Semicolon ∷ word End ∷ [])
  no_binding : Form (env []) []
  type_binding_as : {x : Name} {A : NamedType} {E : List Binding} → Form (env (type_binding x A ∷ E)) (word (Named x) ∷ word Below ∷ type A ∷ env E ∷ [])
  term_binding_as : {x : Name} {A : NamedType} {E : List Binding} → Form (env (term_binding x A ∷ E)) (word (Named x) ∷ word Colon ∷ type A ∷ env E ∷ [])
  top_as : Form (left_type top) (word Top ∷ [])
  name_as : {byte : ℕ} {x : Name} → Form (left_type (name byte x)) (word_at (Named x) byte ∷ [])
  braced_type : {A : NamedType} → Form (left_type A) (word OpenBrace ∷ type A ∷ word CloseBrace ∷ [])
  left_type_as : {A : NamedType} → Form (type A) (left_type A ∷ [])
  all_as : {x : Name} {A B : NamedType} → Form (type (all x A B)) (word All ∷ word Open ∷ word (Named x) ∷ word Below ∷ type A ∷ word Close ∷ type B ∷ [])
  all_unbounded_as : {x : Name} {B : NamedType} → Form (type (all_unbounded x B)) (word All ∷ word Open ∷ word (Named x) ∷ word Close ∷ type B ∷ [])
  rec_as : {x : Name} {B : NamedType} → Form (type (rec x B)) (word Rec ∷ word Open ∷ word (Named x) ∷ word Close ∷ type B ∷ [])
  arrow_as : {A B : NamedType} → Form (type (arrow A B)) (left_type A ∷ word Arrow ∷ type B ∷ [])
  top_term_as : {byte : ℕ} → Form (left_term (top_term byte)) (word_at TopTerm byte ∷ [])
  term_name_as : {byte : ℕ} {x : Name} → Form (left_term (term_name byte x)) (word_at (Named x) byte ∷ [])
  fold_as : {byte : ℕ} {A : NamedType} {a : NamedTerm}
      → Form (left_term (fold_term byte A a)) (word_at Fold byte ∷ word Open ∷ word Colon ∷ type A ∷ word Close ∷ word Open ∷ term a ∷ word Close ∷ [])
  unfold_as : {byte : ℕ} {a : NamedTerm} → Form (left_term (unfold_term byte a)) (word_at Unfold byte ∷ word Open ∷ term a ∷ word Close ∷ [])
  braced_term : {a : NamedTerm} → Form (left_term a) (word OpenBrace ∷ term a ∷ word CloseBrace ∷ [])
  appl_as : {byte : ℕ} {b a : NamedTerm} → Form (left_term (appl byte b a)) (left_term b ∷ word_at Open byte ∷ term a ∷ word Close ∷ [])
  appl2_as : {byte : ℕ} {b : NamedTerm} {A : NamedType}
      → Form (left_term (appl2 byte b A)) (left_term b ∷ word_at Open byte ∷ word Colon ∷ type A ∷ word Close ∷ [])
  left_term_as : {a : NamedTerm} → Form (term a) (left_term a ∷ [])
  fun_as : {byte : ℕ} {x : Name} {A : NamedType} {b : NamedTerm}
      → Form (term (fun byte x A b)) (word_at Fun byte ∷ word Open ∷ word (Named x) ∷ word Colon ∷ type A ∷ word Close ∷ term b ∷ [])
  fun2_as : {byte : ℕ} {x : Name} {A : NamedType} {b : NamedTerm}
      → Form (term (fun2 byte x A b)) (word_at Fun byte ∷ word Open ∷ word (Named x) ∷ word Below ∷ type A ∷ word Close ∷ term b ∷ [])
  fun2_unbounded_as : {byte : ℕ} {x : Name} {b : NamedTerm}
      → Form (term (fun2_unbounded byte x b)) (word_at Fun byte ∷ word Open ∷ word (Named x) ∷ word Close ∷ term b ∷ [])
  rec_term_as : {byte : ℕ} {x : Name} {A : NamedType} {b : NamedTerm}
      → Form (term (rec_term byte x A b)) (word_at RecTerm byte ∷ word Open ∷ word (Named x) ∷ word Colon ∷ type A ∷ word Close ∷ term b ∷ [])

-- the pieces are written as the items before the rest
pub data Written : List Piece → (items rest : List Item) → Type 0 where
  nothing : {ts : List Item} → Written [] ts ts
  a_word : {w : Word} {t : Token} {ps : List Piece} {ts r : List Item} → t.word ≡ w → Written ps ts r → Written (word w ∷ ps) (Ok t ∷ ts) r
  a_word_at : {w : Word} {byte : ℕ} {t : Token} {ps : List Piece} {ts r : List Item} → t.word ≡ w → t.byte ≡ byte → Written ps ts r
      → Written (word_at w byte ∷ ps) (Ok t ∷ ts) r
  formed : {p : Piece} {qs ps : List Piece} {ts s r : List Item} → Form p qs → Written qs ts s → Written ps s r → Written (p ∷ ps) ts r

-- the items are the phrase p
abbrev pub WrittenPhrase : List Item → NamedPhrase → Type 0
WrittenPhrase items p = Written (phrase p ∷ []) items []
