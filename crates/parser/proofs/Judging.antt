-- The word behind judge begins the row of its judgment, and other names begin none.
use Rattle.std.proofs.Common.{◌≡◌, ℕ, Bool, true, false, List, [], ◌∷◌, Option, Some, None, Result, Ok, if◌then◌else◌, codes, refl, ap, sym, ◌∙◌}
use Rattle.std.proofs.lemmas.Option.{none-some}
use Rattle.lexer.specs.Coming.{to_come, used}
use Rattle.lexer.specs.Items.{Item, ends}
use Rattle.lexer.specs.Names.{kept}
use Rattle.lexer.specs.declared.name.Name.{Name}
use Rattle.lexer.specs.declared.token.Token.{Token}
use Rattle.lexer.specs.declared.token.Word.{Word}
use Rattle.lexer.specs.declared.token.Word.TheVariants.{Name as Named}
use Rattle.lexer.specs.declared.tokens.Tokens.{Tokens}
use Rattle.grammar.specs.Grammar.{env_word, type_word, subtype_word, term_word}
use Rattle.grammar.specs.Notation.{judged, Val, the, Sym, one, Action, row, taken, same_word}
use Rattle.grammar.specs.Derives.{choose}
use Rattle.grammar.specs.declared.fault.SyntaxFault.{SyntaxFault}
use Rattle.grammar.proofs.Words.{is_the, not_the, same_word_is, chosen_other}
use Rattle.parser.specs.Judgments.{judgment_named}
use Rattle.parser.specs.Parsing.{items, Looked, Parsed}
use Rattle.parser.specs.declared.judgment.Judgment.{Judgment}
use Rattle.parser.specs.declared.judgment.Judgment.TheVariants.{IsEnv, IsType, IsSubtype, HasType}
use Rattle.parser.specs.declared.parser.Parser.{Parser}
use Rattle.parser.proofs.Taking.{told_first}
use Rattle.parser.proofs.Told.{Told}

-- the word of a judgment
abbrev pub word_of : Judgment → Word
word_of IsEnv = env_word
word_of IsType = type_word
word_of IsSubtype = subtype_word
word_of HasType = term_word

abbrev chosen_by : (e t s a : Bool) → Option Judgment
chosen_by e t s a = if e then Some IsEnv else (if t then Some IsType else (if s then Some IsSubtype else (if a then Some HasType else None)))

abbrev judgment_or : Judgment → Option Judgment → Judgment
judgment_or j None = j
judgment_or j (Some i) = i

-- no name begins no row
not_named : (j : Judgment) (t : Token) → ((x : Name) → t.word ≡ Named x → ⊥) → taken (the (word_of j)) t ≡ None
not_named IsEnv t h = not_the t (h (kept (codes "env")))
not_named IsType t h = not_the t (h (kept (codes "type")))
not_named IsSubtype t h = not_the t (h (kept (codes "subtype")))
not_named HasType t h = not_the t (h (kept (codes "term")))

pub judges_no_name : (t : Token) (more : List Item) → ((x : Name) → t.word ≡ Named x → ⊥) → choose judged (Ok t ∷ more) ≡ None
judges_no_name t more h = chosen_other t more (not_named IsEnv t h, (not_named IsType t h, (not_named IsSubtype t h, (not_named HasType t h, tt))))

module _ (x : Name) where
  word_named : (j : Judgment) {i : Judgment} → same_word (word_of j) (Named x) ≡ true → Some j ≡ Some i → Named x ≡ word_of i
  word_named j e h = sym (same_word_is (word_of j) (Named x) e) ∙ ap (λ o. word_of (judgment_or j o)) h

  by_tests : (e t s a : Bool) (j : Judgment) → same_word env_word (Named x) ≡ e → same_word type_word (Named x) ≡ t → same_word subtype_word (Named x) ≡ s
      → same_word term_word (Named x) ≡ a → chosen_by e t s a ≡ Some j → Named x ≡ word_of j
  by_tests true t s a j e1 e2 e3 e4 h = word_named IsEnv e1 h
  by_tests false true s a j e1 e2 e3 e4 h = word_named IsType e2 h
  by_tests false false true a j e1 e2 e3 e4 h = word_named IsSubtype e3 h
  by_tests false false false true j e1 e2 e3 e4 h = word_named HasType e4 h
  by_tests false false false false j e1 e2 e3 e4 h = absurd (none-some j h)

  -- a name that stands for a judgment is its word
  pub is_word_of : (j : Judgment) → Some j ≡ judgment_named x → Named x ≡ word_of j
  is_word_of j h =
      by_tests (same_word env_word (Named x)) (same_word type_word (Named x)) (same_word subtype_word (Named x)) (same_word term_word (Named x)) j refl refl refl refl (sym h)

  abbrev NoWord : Type 0
  NoWord =
      (same_word env_word (Named x) ≡ false) × (same_word type_word (Named x) ≡ false) × (same_word subtype_word (Named x) ≡ false)
      × (same_word term_word (Named x) ≡ false)

  no_test : (e t s a : Bool) → same_word env_word (Named x) ≡ e → same_word type_word (Named x) ≡ t → same_word subtype_word (Named x) ≡ s
      → same_word term_word (Named x) ≡ a → chosen_by e t s a ≡ None → NoWord
  no_test true t s a e1 e2 e3 e4 h = absurd (none-some IsEnv (sym h))
  no_test false true s a e1 e2 e3 e4 h = absurd (none-some IsType (sym h))
  no_test false false true a e1 e2 e3 e4 h = absurd (none-some IsSubtype (sym h))
  no_test false false false true e1 e2 e3 e4 h = absurd (none-some HasType (sym h))
  no_test false false false false e1 e2 e3 e4 h = (e1, e2, e3, e4)

  no_word : None ≡ judgment_named x → NoWord
  no_word h =
      no_test (same_word env_word (Named x)) (same_word type_word (Named x)) (same_word subtype_word (Named x)) (same_word term_word (Named x)) refl refl refl refl (sym h)

  not_taken : (w : Word) (t : Token) → t.word ≡ Named x → same_word w (Named x) ≡ false → taken (the w) t ≡ None
  not_taken w t i h = ap (λ b. if b then Some tt else None) (ap (same_word w) i ∙ h)

  -- a name that stands for none begins no row
  pub judges_nothing : (t : Token) (more : List Item) → t.word ≡ Named x → None ≡ judgment_named x → choose judged (Ok t ∷ more) ≡ None
  judges_nothing t more i h =
      let n = no_word h in
      chosen_other t more (not_taken env_word t i n.0, (not_taken type_word t i n.1, (not_taken subtype_word t i n.2, (not_taken term_word t i n.3, tt))))

  -- the word of a judgment is used
  pub told_judged : {X : Type 0} {ss : List Sym} {f : Action ss (Val judged)} (q : ℕ) (old new : Parser) (Laid : Val judged → X → Type 0) (r : Result X SyntaxFault)
      (j : Judgment) (t : Token) (next : Tokens) → Looked (items old) (Ok t) → t.word ≡ Named x → Some j ≡ judgment_named x → ends (word_of j) ≡ false
      → to_come next ≡ used (items old)
      → ((b : ℕ) → choose judged (Ok (record { word = word_of j; byte = b }) ∷ []) ≡ Some (row (one (the (word_of j)) ∷ ss) f))
      → Told judged 0 q ss f (record { tokens = next; tree = old.tree }) new Laid r → Parsed judged 0 q old new Laid r
  told_judged q old new Laid r j t next h i g e u k z =
      let w = i ∙ is_word_of j g in
      told_first judged tt 0 q old new Laid r (word_of j) t next h w e u k (is_the t w) z
