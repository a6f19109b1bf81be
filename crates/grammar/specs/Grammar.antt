-- The grammar, a row a line, in the order of docs/SYNTAX.md ("How a source is read").
use Rattle.std.specs.Prelude.{List, [], ◌∷◌, Option, Some, None}
use Rattle.lexer.specs.declared.token.Word.{Word}
use Rattle.lexer.specs.declared.token.Word.TheVariants.{All, LetType, Rec, Top, Fold, Fun, Judge, LetTerm, RecTerm, TopTerm, Unfold, Colon, Below, Arrow, Equal, Turnstile, Open, Close, OpenBrace, CloseBrace, Semicolon, Name as Named, End}
use Rattle.syntax.specs.Named.{top, name, arrow, all, all_unbounded, rec, top_term, term_name, fun, appl, fun2, fun2_unbounded, appl2, fold_term, unfold_term, rec_term, type_binding, term_binding, let_type, let_type_unbounded, let_term, let_term_untyped, of_type, of_term, judge_env, judge_type, judge_subtype, judge_term}
use Rattle.grammar.specs.Notation.{Kind, phrase, let_type_rest, let_term_rest, judged, env, binding_rest, type, type_base, all_rest, arrow_rest, term, term_base, fun_rest, args, argument, the, at, a_name, name_at, on, own, inner, begins, whole, part, Row, row, Entry, entry, tok, ident}

-- the words after judge
abbrev pub env_word : Word
env_word = Named (record { bytes = 101 ∷ 110 ∷ 118 ∷ 0 ∷ 0 ∷ 0 ∷ 0 ∷ 0 ∷ 0 ∷ 0 ∷ 0 ∷ 0 ∷ 0 ∷ 0 ∷ [] })

abbrev pub type_word : Word
type_word = Named (record { bytes = 116 ∷ 121 ∷ 112 ∷ 101 ∷ 0 ∷ 0 ∷ 0 ∷ 0 ∷ 0 ∷ 0 ∷ 0 ∷ 0 ∷ 0 ∷ 0 ∷ [] })

abbrev pub subtype_word : Word
subtype_word = Named (record { bytes = 115 ∷ 117 ∷ 98 ∷ 116 ∷ 121 ∷ 112 ∷ 101 ∷ 0 ∷ 0 ∷ 0 ∷ 0 ∷ 0 ∷ 0 ∷ 0 ∷ [] })

abbrev pub term_word : Word
term_word = Named (record { bytes = 116 ∷ 101 ∷ 114 ∷ 109 ∷ 0 ∷ 0 ∷ 0 ∷ 0 ∷ 0 ∷ 0 ∷ 0 ∷ 0 ∷ 0 ∷ 0 ∷ [] })

-- the rows of a kind that a token begins
abbrev pub rows : (K : Kind) → List (Entry K)
rows phrase =
    entry (the LetType) (ident ∷ part on let_type_rest ∷ tok Semicolon ∷ tok End ∷ []) (λ x p. p x)
    ∷ entry (the LetTerm) (ident ∷ part on let_term_rest ∷ tok Semicolon ∷ tok End ∷ []) (λ x p. p x)
    ∷ entry (the Colon) (part own type ∷ tok Semicolon ∷ tok End ∷ []) of_type
    ∷ entry (the Judge) (part on judged ∷ tok Semicolon ∷ tok End ∷ []) (λ p. p)
    ∷ []
rows let_type_rest =
    entry (the Below) (part own type ∷ tok Equal ∷ part own type ∷ []) (λ B A x. let_type x B A)
    ∷ entry (the Equal) (part own type ∷ []) (λ A x. let_type_unbounded x A)
    ∷ []
rows let_term_rest =
    entry (the Colon) (part own type ∷ tok Equal ∷ part own term ∷ []) (λ A b x. let_term x A b)
    ∷ entry (the Equal) (part own term ∷ []) (λ b x. let_term_untyped x b)
    ∷ []
rows judged =
    entry (the env_word) (part own env ∷ []) judge_env
    ∷ entry (the type_word) (part own env ∷ tok Turnstile ∷ part own type ∷ []) judge_type
    ∷ entry (the subtype_word) (part own env ∷ tok Turnstile ∷ part own type ∷ tok Below ∷ part own type ∷ []) judge_subtype
    ∷ entry (the term_word) (part own env ∷ tok Turnstile ∷ part own term ∷ tok Colon ∷ part own type ∷ []) judge_term
    ∷ []
rows env = entry a_name (part on binding_rest ∷ whole ∷ part own env ∷ []) (λ x b E. b x ∷ E) ∷ []
rows binding_rest =
    entry (the Below) (part own type ∷ []) (λ A x. type_binding x A)
    ∷ entry (the Colon) (part own type ∷ []) (λ A x. term_binding x A)
    ∷ []
rows type = []
rows type_base =
    entry (the Top) (begins ∷ whole ∷ []) top
    ∷ entry name_at (begins ∷ whole ∷ []) name
    ∷ entry (the All) (begins ∷ tok Open ∷ ident ∷ part on all_rest ∷ whole ∷ []) (λ x A. A x)
    ∷ entry (the Rec) (begins ∷ tok Open ∷ ident ∷ tok Close ∷ part inner type ∷ whole ∷ []) rec
    ∷ entry (the OpenBrace) (begins ∷ part inner type ∷ tok CloseBrace ∷ []) (λ A. A)
    ∷ []
rows all_rest =
    entry (the Below) (part inner type ∷ tok Close ∷ part inner type ∷ []) (λ A B x. all x A B)
    ∷ entry (the Close) (part inner type ∷ []) (λ B x. all_unbounded x B)
    ∷ []
rows arrow_rest = entry (the Arrow) (part inner type ∷ whole ∷ []) (λ B A. arrow A B) ∷ []
rows term = []
rows term_base =
    entry (at TopTerm) (begins ∷ whole ∷ []) top_term
    ∷ entry name_at (begins ∷ whole ∷ []) term_name
    ∷ entry (at Fun) (begins ∷ tok Open ∷ ident ∷ part on fun_rest ∷ whole ∷ []) (λ byte x b. b byte x)
    ∷ entry (at Fold) (begins ∷ tok Open ∷ tok Colon ∷ part inner type ∷ tok Close ∷ tok Open ∷ part inner term ∷ tok Close ∷ whole ∷ []) fold_term
    ∷ entry (at Unfold) (begins ∷ tok Open ∷ part inner term ∷ tok Close ∷ whole ∷ []) unfold_term
    ∷ entry (at RecTerm) (begins ∷ tok Open ∷ ident ∷ tok Colon ∷ part inner type ∷ tok Close ∷ part inner term ∷ whole ∷ []) rec_term
    ∷ entry (the OpenBrace) (begins ∷ part inner term ∷ tok CloseBrace ∷ []) (λ a. a)
    ∷ []
rows fun_rest =
    entry (the Colon) (part inner type ∷ tok Close ∷ part inner term ∷ []) (λ A b byte x. fun byte x A b)
    ∷ entry (the Below) (part inner type ∷ tok Close ∷ part inner term ∷ []) (λ A b byte x. fun2 byte x A b)
    ∷ entry (the Close) (part inner term ∷ []) (λ b byte x. fun2_unbounded byte x b)
    ∷ []
rows args = entry (at Open) (part on argument ∷ tok Close ∷ whole ∷ part on args ∷ []) (λ byte f more b. more (f byte b)) ∷ []
rows argument = entry (the Colon) (part inner type ∷ []) (λ A byte b. appl2 byte b A) ∷ []

-- the row that is taken where none of those is
abbrev pub other : (K : Kind) → Option (Row K)
other phrase = Some (row (part own term ∷ tok Semicolon ∷ tok End ∷ []) of_term)
other let_type_rest = None
other let_term_rest = None
other judged = None
other env = Some (row [] [])
other binding_rest = None
other type = Some (row (part on type_base ∷ part on arrow_rest ∷ []) (λ A more. more A))
other type_base = None
other all_rest = None
other arrow_rest = Some (row [] (λ A. A))
other term = Some (row (part on term_base ∷ part on args ∷ []) (λ a more. more a))
other term_base = None
other fun_rest = None
other args = Some (row [] (λ b. b))
other argument = Some (row (part inner term ∷ []) (λ a byte b. appl byte b a))
