-- Which token a lexeme is.
use Rattle.std.specs.Prelude.{ℕ, Bool, List, [], ◌∷◌, codes, nat_eq, if◌then◌else◌, Option, Some, None, unwrap_or}
use Rattle.std.specs.Cmp.Lexicographic.{pointwise}
use Rattle.lexer.specs.declared.token.Word.{Word}
use Rattle.lexer.specs.declared.token.Word.TheVariants.{All, LetType, Rec, Top, Fold, Fun, Judge, LetTerm, RecTerm, TopTerm, Unfold, Colon, Below, Arrow, Equal, Turnstile, Open, Close, OpenBrace, CloseBrace, Semicolon, Unused}

abbrev pub same_bytes : List ℕ → List ℕ → Bool
same_bytes v w = pointwise nat_eq v w

-- A word with its spelling.
pub record Spelling : Type 0 where
  pub bytes : List ℕ
  pub word : Word

abbrev pub spell : List ℕ → Word → Spelling
spell bytes word = record { bytes = bytes; word = word }

abbrev pub keywords : List Spelling
keywords =
    spell (codes "All") All ∷ spell (codes "Let") LetType ∷ spell (codes "Rec") Rec ∷ spell (codes "Top") Top ∷ spell (codes "fold") Fold
    ∷ spell (codes "fun") Fun ∷ spell (codes "judge") Judge ∷ spell (codes "let") LetTerm ∷ spell (codes "rec") RecTerm
    ∷ spell (codes "top") TopTerm ∷ spell (codes "unfold") Unfold ∷ []

abbrev pub symbols : List Spelling
symbols = spell (codes ":") Colon ∷ spell (codes "<:") Below ∷ spell (codes "->") Arrow ∷ spell (codes "=") Equal ∷ spell (codes "|-") Turnstile ∷ []

-- the delimiters that phrases have
abbrev pub delimiters : List Spelling
delimiters =
    spell (codes "(") Open ∷ spell (codes ")") Close ∷ spell (codes "{") OpenBrace ∷ spell (codes "}") CloseBrace ∷ spell (codes ";") Semicolon ∷ []

abbrev pub spelled : List Spelling → List ℕ → Option Word
spelled [] bytes = None
spelled (s ∷ spellings) bytes = if same_bytes s.bytes bytes then Some s.word else spelled spellings bytes

-- which token a run of letters and digits is, a run of specials, a delimiter
unfoldable pub keyword : List ℕ → Option Word
keyword bytes = spelled keywords bytes

unfoldable pub symbol : List ℕ → Option Word
symbol bytes = spelled symbols bytes

unfoldable pub delimiter : List ℕ → Word
delimiter bytes = unwrap_or (spelled delimiters bytes) Unused
