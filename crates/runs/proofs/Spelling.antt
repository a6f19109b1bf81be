-- The name of a Let or let that is read is spelled as a line 90 spells it.
use Rattle.std.proofs.Common.{◌≡◌, ℕ, zero, suc, ◌-◌, ◌≤◌, Bool, true, false, cond, ◌&&◌, ◌||◌, T, List, [], ◌∷◌, ◌++◌, length, map, replicate, Option, Some, None, Ok, Err, refl, ap, sym, ◌∙◌, subst, ⊎_elim, arith, All, IsTrue}
use Rattle.std.specs.Prelude.{◌==◌, nat_le, not, unwrap_or}
use Rattle.grammar.specs.Written as forms
use Rattle.grammar.specs.Written.{Piece, WrittenPhrase, Written, a_word, formed, let_type_as, let_type_unbounded_as, let_term_as, let_term_untyped_as, of_type_as, of_term_as, judge_env_as, judge_type_as, judge_subtype_as, judge_term_as}
use Rattle.judge.specs.Judgments.{Spelled}
use Rattle.lexer.specs.Classes as lexer
use Rattle.lexer.specs.Classes.{class_of, in_word}
use Rattle.lexer.specs.Items.{Item, items}
use Rattle.lexer.specs.Lexed.{ItemsOf, at_end, at_fault, going_on}
use Rattle.lexer.specs.Lexicon.{WordLexeme, word_lexeme, WordOf, a_keyword, a_name, a_symbol, a_delimiter, the_end, Reads, token}
use Rattle.lexer.specs.Names.{kept}
use Rattle.lexer.specs.Words.{Spelling, keywords, symbols, delimiters, spelled, same_bytes, keyword, symbol, delimiter}
use Rattle.lexer.specs.declared.class.Class.{Class}
use Rattle.lexer.specs.declared.class.Class.TheVariants.{Blank, Letter, Digit, Special, Delimiter, Reserved, Illegal}
use Rattle.lexer.specs.declared.name.Name.{Name}
use Rattle.lexer.specs.declared.token.Token.{Token}
use Rattle.lexer.specs.declared.token.Word.{Word}
use Rattle.lexer.specs.declared.token.Word.TheVariants.{Name as Named, Unused}
use Rattle.lexer.proofs.LexiconItems.{lexed}
use Rattle.rules.specs.Names as rules
use Rattle.rules.specs.Names.{between, letter, letter_or_digit, padded, spells, spells_one, starts_with_letter, is_name}
use Rattle.std.proofs.lemmas.Bool.{and_parts, or_cases, leb-true, le-leb, eqb-true, ne_eqb, true≢false}
use Rattle.std.proofs.lemmas.List.{length-append, length-replicate}
use Rattle.std.proofs.lemmas.Slice.Eq.{bytes_eq-Decides}
use Rattle.std.proofs.lemmas.Option.{none-some, same_Some}
use Rattle.syntax.specs.Named.{NamedPhrase, let_type, let_type_unbounded, let_term, let_term_untyped}

-- letters and digits are the same in both

or_left : (a b : Bool) → a ≡ true → (a || b) ≡ true
or_left a b e = rw e refl

or_right : (a b : Bool) → b ≡ true → (a || b) ≡ true
or_right true b e = refl
or_right false b e = e

both_true : (a b : Bool) → a ≡ true → b ≡ true → (a && b) ≡ true
both_true a b e f = rw e f

in_range : (low high b : ℕ) → low ≤ b → b ≤ high → between low high b ≡ true
in_range low high b l h = both_true (nat_le low b) (nat_le b high) (le-leb low b l) (le-leb b high h)

range : (low high b : ℕ) → between low high b ≡ true → (low ≤ b) × (b ≤ high)
range low high b e =
    let (l, h) = and_parts (nat_le low b) (nat_le b high) e in (leb-true low b l, leb-true b high h)

rules_letter : (b : ℕ) → lexer.letter b ≡ true → letter b ≡ true
rules_letter b e =
    ⊎_elim (λ front. ⊎_elim (λ capital. or_left (between 65 90 b) (between 96 122 b) capital)
    (λ quote. or_right (between 65 90 b) (between 96 122 b) (let h = eqb-true b 96 quote in in_range 96 122 b (omega (arith, h)) (omega (arith, h))))
    (or_cases (lexer.between 65 90 b) (b == 96) front))
    (λ small. let (l, h) = range 97 122 b small in or_right (between 65 90 b) (between 96 122 b) (in_range 96 122 b (omega (arith, l)) h))
    (or_cases (lexer.between 65 90 b || b == 96) (lexer.between 97 122 b) e)

abbrev is_letter : Class → Bool
is_letter Letter = true
is_letter _ = false

abbrev class_by : (p q r s t u : Bool) → Class
class_by p q r s t u = cond p Blank (cond q Letter (cond r Digit (cond s Special (cond t Delimiter (cond u Reserved Illegal)))))

letter_chosen : (p q r s t u : Bool) → is_letter (class_by p q r s t u) ≡ true → q ≡ true
letter_chosen true q r s t u e = absurd (true≢false (sym e))
letter_chosen false true r s t u e = refl
letter_chosen false false true s t u e = absurd (true≢false (sym e))
letter_chosen false false false true t u e = absurd (true≢false (sym e))
letter_chosen false false false false true u e = absurd (true≢false (sym e))
letter_chosen false false false false false true e = absurd (true≢false (sym e))
letter_chosen false false false false false false e = absurd (true≢false (sym e))

word_chosen : (p q r s t u : Bool) → in_word (class_by p q r s t u) ≡ true → (q || r) ≡ true
word_chosen true q r s t u e = absurd (true≢false (sym e))
word_chosen false true r s t u e = refl
word_chosen false false true s t u e = refl
word_chosen false false false true t u e = absurd (true≢false (sym e))
word_chosen false false false false true u e = absurd (true≢false (sym e))
word_chosen false false false false false true e = absurd (true≢false (sym e))
word_chosen false false false false false false e = absurd (true≢false (sym e))

class_letter : (b : ℕ) → class_of b ≡ Letter → letter b ≡ true
unfolding class_of
class_letter b e = rules_letter b (letter_chosen (lexer.blank b) (lexer.letter b) (lexer.digit b) (lexer.special b) (lexer.delimiter b) (lexer.reserved b) (ap is_letter e))

class_word : (b : ℕ) → in_word (class_of b) ≡ true → letter_or_digit b ≡ true
unfolding class_of
class_word b e =
    ⊎_elim (λ l. or_left (letter b) (between 48 57 b) (rules_letter b l)) (λ d. or_right (letter b) (between 48 57 b) d)
    (or_cases (lexer.letter b) (lexer.digit b)
    (word_chosen (lexer.blank b) (lexer.letter b) (lexer.digit b) (lexer.special b) (lexer.delimiter b) (lexer.reserved b) e))

-- no letter or digit is 0
nonzero : (b : ℕ) → letter_or_digit b ≡ true → 1 ≤ b
nonzero b e =
    ⊎_elim (λ l. ⊎_elim (λ c. let r = range 65 90 b c in omega (arith, r.0)) (λ c. let r = range 96 122 b c in omega (arith, r.0)) (or_cases _ _ l))
    (λ d. let r = range 48 57 b d in omega (arith, r.0)) (or_cases (letter b) (between 48 57 b) e)

not_zero : (b : ℕ) → 1 ≤ b → (b == 0) ≡ false
not_zero b h = ne_eqb b 0 (λ e. let z : ⊥ = omega (arith, h, e) in z)

-- the bytes of a word, and then zeros

abbrev Legal : List ℕ → Type 0
Legal [] = Unit {0}
Legal (b ∷ bs) = (letter_or_digit b ≡ true) × Legal bs

legal : (bs : List ℕ) → All (λ b. IsTrue (in_word (class_of b))) bs → Legal bs
legal [] h = tt
legal (b ∷ bs) h = (class_word b (h 0 b (omega arith)), legal bs (λ k d l. h (suc k) d (omega arith)))

zeros_padded : (k : ℕ) → padded true (replicate k 0) ≡ true
zeros_padded zero = refl
zeros_padded (suc k) = zeros_padded k

zeros : (k : ℕ) → padded false (replicate k 0) ≡ true
zeros zero = refl
zeros (suc k) = zeros_padded k

legal_padded : (bs : List ℕ) (k : ℕ) → Legal bs → padded false (bs ++ replicate k 0) ≡ true
legal_padded [] k h = zeros k
legal_padded (b ∷ bs) k h = rw (not_zero b (nonzero b h.0), h.0) (legal_padded bs k h.1)

abbrev Nonzero : List ℕ → Type 0
Nonzero [] = Unit {0}
Nonzero (b ∷ bs) = (1 ≤ b) × Nonzero bs

spelled_word : (word bs : List ℕ) (k : ℕ) → Nonzero word → Legal bs → spells word (bs ++ replicate k 0) ≡ true → word ≡ bs
spelled_word [] [] k n h e = refl
spelled_word [] (b ∷ bs) k n h e = absurd (true≢false (sym (sym (not_zero b (nonzero b h.0)) ∙ e)))
spelled_word (c ∷ word) [] zero n h e = absurd (true≢false (sym e))
spelled_word (c ∷ word) [] (suc k) n h e =
    let z = eqb-true 0 c (and_parts (0 == c) (spells word (replicate k 0)) e).0 in absurd (let x : ⊥ = omega (arith, z, n.0) in x)
spelled_word (c ∷ word) (b ∷ bs) k n h e =
    let (f, g) = and_parts (b == c) (spells word (bs ++ replicate k 0)) e in
    let same : c ≡ b = sym (eqb-true b c f) in
    let rest = spelled_word word bs k n.1 h.1 g in cc

abbrev AllNonzero : List Spelling → Type 0
AllNonzero [] = Unit {0}
AllNonzero (s ∷ ss) = Nonzero s.bytes × AllNonzero ss

no_keyword : (ss : List Spelling) (bs : List ℕ) (k : ℕ) → AllNonzero ss → Legal bs → spelled ss bs ≡ None
    → spells_one (map (λ (s : Spelling). s.bytes) ss) (bs ++ replicate k 0) ≡ false
no_keyword [] bs k n h e = refl
no_keyword (s ∷ ss) bs k n h e =
    go (spells s.bytes (bs ++ replicate k 0)) refl (same_bytes s.bytes bs) refl e (λ x. no_keyword ss bs k n.1 h x)
  where
    go : (b : Bool) → spells s.bytes (bs ++ replicate k 0) ≡ b → (c : Bool) → same_bytes s.bytes bs ≡ c → cond c (Some s.word) (spelled ss bs) ≡ None
        → (spelled ss bs ≡ None → spells_one (map (λ (s : Spelling). s.bytes) ss) (bs ++ replicate k 0) ≡ false)
        → (b || spells_one (map (λ (s : Spelling). s.bytes) ss) (bs ++ replicate k 0)) ≡ false
    go b f true g x more = absurd (none-some _ (sym x))
    go true f false g x more =
        absurd (true≢false (sym (sym g ∙ (bytes_eq-Decides s.bytes bs).1 (spelled_word s.bytes bs k n.0 h f))))
    go false f false g x more = more x

keyword_bytes : map (λ (s : Spelling). s.bytes) keywords ≡ rules.keywords
keyword_bytes = refl

nonzero_keywords : AllNonzero keywords
nonzero_keywords = search (arith)

starts : (b : ℕ) (run zeros : List ℕ) → letter b ≡ true → starts_with_letter ((b ∷ run) ++ zeros) ≡ true
starts b run zeros e = e

of_true : (b : Bool) → b ≡ true → T b
of_true true e = tt
of_true false e = absurd (true≢false (sym e))

spelled_so : (b : ℕ) (run : List ℕ) → class_of b ≡ Letter → Legal (b ∷ run) → keyword (b ∷ run) ≡ None → length (b ∷ run) ≤ 14
    → Spelled (kept (b ∷ run)).bytes
unfolding keyword
spelled_so b run c h k l =
    let n = 14 - length (b ∷ run) in
    let no : spells_one rules.keywords ((b ∷ run) ++ replicate n 0) ≡ false = no_keyword keywords (b ∷ run) n nonzero_keywords h k in (
      omega (arith, length-append (b ∷ run) (replicate n 0), length-replicate {A = ℕ} n 0, l),
      of_true (is_name ((b ∷ run) ++ replicate n 0))
          (both_true (starts_with_letter ((b ∷ run) ++ replicate n 0) && padded false ((b ∷ run) ++ replicate n 0)) _
          (both_true _ _ (class_letter b c) (legal_padded (b ∷ run) n h)) (ap not no)),
    )

lexeme_spelled : {bs run rest : List ℕ} → WordLexeme bs run rest → keyword run ≡ None → length run ≤ 14 → Spelled (kept run).bytes
lexeme_spelled (word_lexeme {b = b} {bs = bs} {run = run} {rest = rest} c r) k l = go run r.parts (legal run r.of_them) k l
  where
    go : (run : List ℕ) → b ∷ bs ≡ run ++ rest → Legal run → keyword run ≡ None → length run ≤ 14 → Spelled (kept run).bytes
    go [] e h k l = absurd (r.longest (b, bs, sym e, ap in_word c))
    go (a ∷ run) e h k l = let same : b ≡ a = cc in spelled_so a run (subst (λ x. class_of x ≡ Letter) same c) h k l

-- every name of a source

abbrev GoodWord : Word → Type 0
GoodWord (Named w) = Spelled w.bytes
GoodWord _ = Unit {0}

abbrev AllGood : List Spelling → Type 0
AllGood [] = Unit {0}
AllGood (s ∷ ss) = GoodWord s.word × AllGood ss

good_among : (ss : List Spelling) → AllGood ss → (bs : List ℕ) (w : Word) → spelled ss bs ≡ Some w → GoodWord w
good_among [] h bs w e = absurd (none-some _ e)
good_among (s ∷ ss) h bs w e = go (same_bytes s.bytes bs) e (λ x. good_among ss h.1 bs w x)
  where
    go : (b : Bool) → cond b (Some s.word) (spelled ss bs) ≡ Some w → (spelled ss bs ≡ Some w → GoodWord w) → GoodWord w
    go true e more = subst GoodWord (same_Some _ _ e) h.0
    go false e more = more e

word_good : {bs rest : List ℕ} {w : Word} → WordOf bs w rest → GoodWord w
unfolding keyword symbol delimiter
word_good (a_keyword {run = run} {w = w} l e) = good_among keywords (search (arith)) run w e
word_good (a_name l k n) = lexeme_spelled l k n
word_good (a_symbol {run = run} {w = w} l e) = good_among symbols (search (arith)) run w e
word_good (a_delimiter {one = one} l) = go (spelled delimiters one) refl
  where
    go : (o : Option Word) → spelled delimiters one ≡ o → GoodWord (unwrap_or o Unused)
    go None e = tt
    go (Some w) e = good_among delimiters (search (arith)) one w e
word_good the_end = tt

abbrev pub GoodNames : List Item → Type 0
GoodNames [] = Unit {0}
GoodNames (Ok t ∷ ts) = GoodWord t.word × GoodNames ts
GoodNames (Err f ∷ ts) = GoodNames ts

read_good : {whole : ℕ} {bs rest : List ℕ} {t : Token} → Reads whole bs t rest → GoodWord t.word
read_good (token s w) = word_good w

items_good : {whole : ℕ} {bs : List ℕ} {ts : List Item} → ItemsOf whole bs ts → GoodNames ts
items_good (at_end r e) = (read_good r, tt)
items_good (at_fault f) = tt
items_good (going_on r n more) = (read_good r, items_good more)

pub source_good : (source : List ℕ) → GoodNames (items source)
source_good source = items_good (lexed source).gives

-- the name that a phrase defines
abbrev pub NameSpelled : NamedPhrase → Type 0
NameSpelled (let_type w B A) = Spelled w.bytes
NameSpelled (let_type_unbounded w A) = Spelled w.bytes
NameSpelled (let_term w A b) = Spelled w.bytes
NameSpelled (let_term_untyped w b) = Spelled w.bytes
NameSpelled other = Unit {0}

second : {v : Word} {w : Name} {ps : List Piece} {ts r : List Item} → Written (forms.word v ∷ forms.word (Named w) ∷ ps) ts r → GoodNames ts → Spelled w.bytes
second (a_word e (a_word f more)) g = subst GoodWord f g.1.0
second (a_word e (formed x y z)) g = elim x [ ]
second (formed x y z) g = elim x [ ]

pub written_spelled : {ts : List Item} {p : NamedPhrase} → WrittenPhrase ts p → GoodNames ts → NameSpelled p
written_spelled (formed let_type_as x y) g = second x g
written_spelled (formed let_type_unbounded_as x y) g = second x g
written_spelled (formed let_term_as x y) g = second x g
written_spelled (formed let_term_untyped_as x y) g = second x g
written_spelled (formed of_type_as x y) g = tt
written_spelled (formed of_term_as x y) g = tt
written_spelled (formed judge_env_as x y) g = tt
written_spelled (formed judge_type_as x y) g = tt
written_spelled (formed judge_subtype_as x y) g = tt
written_spelled (formed judge_term_as x y) g = tt
