-- What is written in the forms is what the rows derive.
use Rattle.std.proofs.Common.{◌≡◌, ℕ, ◌↔◌, List, [], ◌∷◌, ◌++◌, Option, Some, Ok, Err, refl, ap, ◌∙◌}
use Rattle.std.proofs.lemmas.Option.{none-some}
use Rattle.lexer.specs.Items.{Item}
use Rattle.lexer.specs.declared.name.Name.{Name}
use Rattle.lexer.specs.declared.token.Token.{Token}
use Rattle.lexer.specs.declared.token.Word.{Word}
use Rattle.lexer.specs.declared.token.Word.TheVariants.{Name as Named}
use Rattle.syntax.specs.Named.{NamedType, NamedTerm, NamedPhrase}
use Rattle.grammar.specs.Grammar.{other}
use Rattle.grammar.specs.Notation.{Kind, type_base, arrow_rest, term_base, args, argument, Val, Mode, Guard, the, at, a_name, name_at, Given, taken, Sym, one, begins, whole, part, Action, apply, Row}
use Rattle.grammar.specs.Derives.{choose, under, from, Event, began, ended, Derives, done, token, begin, end, by, Spells}
use Rattle.grammar.specs.Written.{Piece, word, word_at, phrase, env, type, left_type, term, left_term, Form, let_type_as, let_type_unbounded_as, let_term_as, let_term_untyped_as, of_type_as, of_term_as, judge_env_as, judge_type_as, judge_subtype_as, judge_term_as, no_binding, type_binding_as, term_binding_as, top_as, name_as, braced_type, left_type_as, all_as, all_unbounded_as, rec_as, arrow_as, top_term_as, term_name_as, fold_as, unfold_as, braced_term, appl_as, appl2_as, left_term_as, fun_as, fun2_as, fun2_unbounded_as, rec_term_as, Written, nothing, a_word, a_word_at, formed, WrittenPhrase}
use Rattle.grammar.proofs.ToWritten.{NoArrow, NoArgument, spells_written}
use Rattle.grammar.proofs.Words.{is_the, is_at, is_name, is_name_at, chosen}

-- the symbols derive v, at every depth and from every first byte
record Gives (K : Kind) (ss : List Sym) (f : Action ss (Val K)) (ts r : List Item) (v : Val K) : Type 0 where
  given : (d q : ℕ) → (es : List Event) × Derives K d q ss f ts es r v

record Part (K : Kind) (ts r : List Item) (v : Val K) : Type 0 where
  row : Row K
  is : choose K ts ≡ Some row
  gives : Gives K row.symbols row.action ts r v

g_done : {K : Kind} {ts : List Item} {v : Val K} → Gives K [] v ts ts v
g_done = record { given = λ d q. ([], done) }

g_token : {K : Kind} {g : Guard} {ss : List Sym} {f : Action (one g ∷ ss) (Val K)} {t : Token} {x : Given g} {ts r : List Item} {v : Val K}
    → taken g t ≡ Some x → Gives K ss (apply g ss (Val K) f x) ts r v → Gives K (one g ∷ ss) f (Ok t ∷ ts) r v
g_token e h = record { given = λ d q. let k = h.given d q in (k.0, token e k.1) }

g_begin : {K : Kind} {ss : List Sym} {f : Action ss (Val K)} {ts r : List Item} {v : Val K} → Gives K ss f ts r v → Gives K (begins ∷ ss) f ts r v
g_begin h = record { given = λ d q. let k = h.given d q in (began d q ∷ k.0, begin k.1) }

g_end : {K : Kind} {ss : List Sym} {f : Action ss (Val K)} {ts r : List Item} {v : Val K} → Gives K ss f ts r v → Gives K (whole ∷ ss) f ts r v
g_end h = record { given = λ d q. let k = h.given d q in (ended q ∷ k.0, end k.1) }

g_part : {K M : Kind} {m : Mode} {ss : List Sym} {f : Val M → Action ss (Val K)} {ts s r : List Item} {u : Val M} {v : Val K} → Part M ts s u
    → Gives K ss (f u) s r v → Gives K (part m M ∷ ss) f ts r v
g_part {m = m} {ts = ts} p h =
    record { given = λ d q. let i = p.gives.given (under m d) (from m q ts) in let j = h.given d q in (i.0 ++ j.0, by p.row p.is i.1 j.1) }

-- a row that is found by computing
part_of : {K : Kind} {ρ : Row K} {ts r : List Item} {v : Val K} → choose K ts ≡ Some ρ → Gives K ρ.symbols ρ.action ts r v → Part K ts r v
part_of {ρ = ρ} e h = record { row = ρ; is = e; gives = h }

-- what does not go on with a binding
abbrev NoBinding : List Item → Type 0
NoBinding ts = choose Kind.env ts ≡ other Kind.env

-- what begins neither a phrase of another sort nor an argument that is a type
abbrev TermFirst : List Item → Type 0
TermFirst ts = (choose Kind.phrase ts ≡ other Kind.phrase) × (choose argument ts ≡ other argument)

data IsWord (w : Word) : (ts r : List Item) → Type 0 where
  is : {t : Token} {ts : List Item} → t.word ≡ w → IsWord w (Ok t ∷ ts) ts

data IsWordAt (w : Word) (byte : ℕ) : (ts r : List Item) → Type 0 where
  is_word : {t : Token} {ts : List Item} → t.word ≡ w → t.byte ≡ byte → IsWordAt w byte (Ok t ∷ ts) ts

abbrev Back : Piece → (ts r : List Item) → Type 0
Back (word w) ts r = IsWord w ts r
Back (word_at w byte) ts r = IsWordAt w byte ts r
Back (phrase p) ts r = Part Kind.phrase ts r p
Back (env E) ts r = NoBinding r → NoArrow r → Part Kind.env ts r E × NoArrow ts
Back (type A) ts r = NoArrow r → Part Kind.type ts r A
Back (left_type A) ts r = Part type_base ts r A
Back (term a) ts r = (NoArgument r → Part Kind.term ts r a) × TermFirst ts
Back (left_term a) ts r = ((s : List Item) (v : NamedTerm → NamedTerm) → Part args r s v → Part Kind.term ts s (v a)) × TermFirst ts

data Same : (ts r : List Item) → Type 0 where
  here : {ts : List Item} → Same ts ts

abbrev Backs : List Piece → (ts r : List Item) → Type 0
Backs [] ts r = Same ts r
Backs (p ∷ ps) ts r = (s : List Item) × Back p ts s × Backs ps s r

-- the rows of a type and of a term, whatever stands first

rows_of_type : (ts : List Item) {ρ : Row type_base} → choose type_base ts ≡ Some ρ → choose Kind.type ts ≡ other Kind.type
rows_of_type [] e = absurd (none-some _ e)
rows_of_type (Err f ∷ ts) e = absurd (none-some _ e)
rows_of_type (Ok t ∷ ts) e = refl

rows_of_term : (ts : List Item) {ρ : Row term_base} → choose term_base ts ≡ Some ρ → choose Kind.term ts ≡ other Kind.term
rows_of_term [] e = absurd (none-some _ e)
rows_of_term (Err f ∷ ts) e = absurd (none-some _ e)
rows_of_term (Ok t ∷ ts) e = refl

-- a word that stands: the row that it begins, and the symbol that it is

begun : {K : Kind} {w : Word} {ts r : List Item} {o : Option (Row K)} → IsWord w ts r → ((byte : ℕ) → choose K (Ok (record { word = w; byte = byte }) ∷ r) ≡ o)
    → choose K ts ≡ o
begun {w = w} (is {t = t} {ts} e) h = chosen t ts w e (h t.byte)

begun_at : {K : Kind} {w : Word} {byte : ℕ} {ts r : List Item} {o : Option (Row K)} → IsWordAt w byte ts r
    → ((byte : ℕ) → choose K (Ok (record { word = w; byte = byte }) ∷ r) ≡ o) → choose K ts ≡ o
begun_at {w = w} (is_word {t = t} {ts} e f) h = chosen t ts w e (h t.byte)

g_word : {K : Kind} {w : Word} {ss : List Sym} {f : Action ss (Val K)} {ts s r : List Item} {v : Val K} → IsWord w ts s → Gives K ss f s r v
    → Gives K (one (the w) ∷ ss) f ts r v
g_word (is {t = t} e) h = g_token (is_the t e) h

g_name : {K : Kind} {x : Name} {ss : List Sym} {f : Name → Action ss (Val K)} {ts s r : List Item} {v : Val K} → IsWord (Named x) ts s → Gives K ss (f x) s r v
    → Gives K (one a_name ∷ ss) f ts r v
g_name (is {t = t} e) h = g_token (is_name t e) h

g_at : {K : Kind} {w : Word} {byte : ℕ} {ss : List Sym} {f : ℕ → Action ss (Val K)} {ts s r : List Item} {v : Val K} → IsWordAt w byte ts s
    → Gives K ss (f byte) s r v → Gives K (one (at w) ∷ ss) f ts r v
g_at (is_word {t = t} e f) h = g_token (is_at t e ∙ ap Some f) h

g_name_at : {K : Kind} {x : Name} {byte : ℕ} {ss : List Sym} {f : ℕ → Name → Action ss (Val K)} {ts s r : List Item} {v : Val K}
    → IsWordAt (Named x) byte ts s → Gives K ss (f byte x) s r v → Gives K (one name_at ∷ ss) f ts r v
g_name_at {x = x} (is_word {t = t} e f) h = g_token (is_name_at t e ∙ ap (λ b. Some (b, x)) f) h

type_with : {ts s r : List Item} {A : NamedType} {v : NamedType → NamedType} → Part type_base ts s A → Part arrow_rest s r v → Part Kind.type ts r (v A)
type_with {ts} p k = part_of (rows_of_type ts p.is) (g_part p (g_part k g_done))

term_with : {ts s r : List Item} {a : NamedTerm} {v : NamedTerm → NamedTerm} → Part term_base ts s a → Part args s r v → Part Kind.term ts r (v a)
term_with {ts} p k = part_of (rows_of_term ts p.is) (g_part p (g_part k g_done))

only_type : {ts r : List Item} {A : NamedType} → NoArrow r → Part type_base ts r A → Part Kind.type ts r A
only_type n p = type_with p (part_of n g_done)

only_term : {ts r : List Item} {a : NamedTerm} → NoArgument r → Part term_base ts r a → Part Kind.term ts r a
only_term n p = term_with p (part_of n g_done)

first_at : {w : Word} {byte : ℕ} {ts r : List Item} → IsWordAt w byte ts r
    → ((byte : ℕ) → choose Kind.phrase (Ok (record { word = w; byte = byte }) ∷ r) ≡ other Kind.phrase)
    → ((byte : ℕ) → choose argument (Ok (record { word = w; byte = byte }) ∷ r) ≡ other argument) → TermFirst ts
first_at h f g = (begun_at h f, begun_at h g)

form_back : {p : Piece} {ps : List Piece} (ts r : List Item) → Form p ps → Backs ps ts r → Back p ts r
form_back ts r let_type_as (_, a, (_, x, (_, b, (_, B, (_, c, (_, A, (_, d, (_, e, here)))))))) =
    part_of (begun a (λ _. refl)) (g_word a (g_name x (g_part (part_of (begun b (λ _. refl))
    (g_word b (g_part (B (begun c (λ _. refl))) (g_word c (g_part (A (begun d (λ _. refl))) g_done))))) (g_word d (g_word e g_done)))))
form_back ts r let_type_unbounded_as (_, a, (_, x, (_, b, (_, A, (_, d, (_, e, here)))))) =
    part_of (begun a (λ _. refl)) (g_word a (g_name x (g_part (part_of (begun b (λ _. refl))
    (g_word b (g_part (A (begun d (λ _. refl))) g_done))) (g_word d (g_word e g_done)))))
form_back ts r let_term_as (_, a, (_, x, (_, b, (_, A, (_, c, (_, t, (_, d, (_, e, here)))))))) =
    part_of (begun a (λ _. refl)) (g_word a (g_name x (g_part (part_of (begun b (λ _. refl))
    (g_word b (g_part (A (begun c (λ _. refl))) (g_word c (g_part (t.0 (begun d (λ _. refl))) g_done))))) (g_word d (g_word e g_done)))))
form_back ts r let_term_untyped_as (_, a, (_, x, (_, b, (_, t, (_, d, (_, e, here)))))) =
    part_of (begun a (λ _. refl)) (g_word a (g_name x (g_part (part_of (begun b (λ _. refl))
    (g_word b (g_part (t.0 (begun d (λ _. refl))) g_done))) (g_word d (g_word e g_done)))))
form_back ts r of_type_as (_, a, (_, A, (_, d, (_, e, here)))) =
    part_of (begun a (λ _. refl)) (g_word a (g_part (A (begun d (λ _. refl))) (g_word d (g_word e g_done))))
form_back ts r of_term_as (_, t, (_, d, (_, e, here))) = part_of t.1.0 (g_part (t.0 (begun d (λ _. refl))) (g_word d (g_word e g_done)))
form_back ts r judge_env_as (_, a, (_, b, (_, E, (_, d, (_, e, here))))) =
    part_of (begun a (λ _. refl)) (g_word a (g_part (part_of (begun b (λ _. refl))
    (g_word b (g_part (E (begun d (λ _. refl)) (begun d (λ _. refl))).0 g_done))) (g_word d (g_word e g_done))))
form_back ts r judge_type_as (_, a, (_, b, (_, E, (_, c, (_, A, (_, d, (_, e, here))))))) =
    part_of (begun a (λ _. refl)) (g_word a (g_part (part_of (begun b (λ _. refl))
    (g_word b (g_part (E (begun c (λ _. refl)) (begun c (λ _. refl))).0 (g_word c (g_part (A (begun d (λ _. refl))) g_done)))))
    (g_word d (g_word e g_done))))
form_back ts r judge_subtype_as (_, a, (_, b, (_, E, (_, c, (_, A, (_, f, (_, B, (_, d, (_, e, here))))))))) =
    part_of (begun a (λ _. refl)) (g_word a (g_part (part_of (begun b (λ _. refl))
    (g_word b (g_part (E (begun c (λ _. refl)) (begun c (λ _. refl))).0
    (g_word c (g_part (A (begun f (λ _. refl))) (g_word f (g_part (B (begun d (λ _. refl))) g_done)))))))
    (g_word d (g_word e g_done))))
form_back ts r judge_term_as (_, a, (_, b, (_, E, (_, c, (_, t, (_, f, (_, A, (_, d, (_, e, here))))))))) =
    part_of (begun a (λ _. refl)) (g_word a (g_part (part_of (begun b (λ _. refl))
    (g_word b (g_part (E (begun c (λ _. refl)) (begun c (λ _. refl))).0
    (g_word c (g_part (t.0 (begun f (λ _. refl))) (g_word f (g_part (A (begun d (λ _. refl))) g_done)))))))
    (g_word d (g_word e g_done))))
form_back ts r no_binding here = λ b n. (part_of b g_done, n)
form_back ts r type_binding_as (_, x, (_, b, (_, A, (_, E, here)))) =
    λ m n. let k = E m n in (
      part_of (begun x (λ _. refl)) (g_name x (g_part (part_of (begun b (λ _. refl))
          (g_word b (g_part (A k.1) g_done))) (g_end (g_part k.0 g_done)))),
      begun x (λ _. refl),
    )
form_back ts r term_binding_as (_, x, (_, b, (_, A, (_, E, here)))) =
    λ m n. let k = E m n in (
      part_of (begun x (λ _. refl)) (g_name x (g_part (part_of (begun b (λ _. refl))
          (g_word b (g_part (A k.1) g_done))) (g_end (g_part k.0 g_done)))),
      begun x (λ _. refl),
    )
form_back ts r top_as (_, a, here) = part_of (begun a (λ _. refl)) (g_word a (g_begin (g_end g_done)))
form_back ts r name_as (_, x, here) = part_of (begun_at x (λ _. refl)) (g_name_at x (g_begin (g_end g_done)))
form_back ts r braced_type (_, a, (_, A, (_, b, here))) =
    part_of (begun a (λ _. refl)) (g_word a (g_begin (g_part (A (begun b (λ _. refl))) (g_word b g_done))))
form_back ts r left_type_as (_, A, here) = λ n. only_type n A
form_back ts r all_as (_, a, (_, b, (_, x, (_, c, (_, A, (_, d, (_, B, here))))))) =
    λ n. only_type n (part_of (begun a (λ _. refl)) (g_word a (g_begin (g_word b (g_name x (g_part (part_of (begun c (λ _. refl))
    (g_word c (g_part (A (begun d (λ _. refl))) (g_word d (g_part (B n) g_done))))) (g_end g_done)))))))
form_back ts r all_unbounded_as (_, a, (_, b, (_, x, (_, d, (_, B, here))))) =
    λ n. only_type n (part_of (begun a (λ _. refl)) (g_word a (g_begin (g_word b (g_name x (g_part (part_of (begun d (λ _. refl))
    (g_word d (g_part (B n) g_done))) (g_end g_done)))))))
form_back ts r rec_as (_, a, (_, b, (_, x, (_, d, (_, B, here))))) =
    λ n. only_type n (part_of (begun a (λ _. refl)) (g_word a (g_begin (g_word b (g_name x (g_word d (g_part (B n) (g_end g_done))))))))
form_back ts r arrow_as (_, A, (_, a, (_, B, here))) =
    λ n. type_with A (part_of (begun a (λ _. refl)) (g_word a (g_part (B n) (g_end g_done))))
form_back ts r top_term_as (_, a, here) =
    (λ s v k. term_with (part_of (begun_at a (λ _. refl)) (g_at a (g_begin (g_end g_done)))) k, first_at a (λ _. refl) (λ _. refl))
form_back ts r term_name_as (_, x, here) =
    (λ s v k. term_with (part_of (begun_at x (λ _. refl)) (g_name_at x (g_begin (g_end g_done)))) k, first_at x (λ _. refl) (λ _. refl))
form_back ts r fold_as (_, a, (_, b, (_, c, (_, A, (_, d, (_, e, (_, t, (_, f, here)))))))) = (
  λ s v k. term_with (part_of (begun_at a (λ _. refl)) (g_at a (g_begin (g_word b (g_word c (g_part (A (begun d (λ _. refl)))
      (g_word d (g_word e (g_part (t.0 (begun f (λ _. refl))) (g_word f (g_end g_done))))))))))) k,
  first_at a (λ _. refl) (λ _. refl),
)
form_back ts r unfold_as (_, a, (_, b, (_, t, (_, f, here)))) = (
  λ s v k. term_with (part_of (begun_at a (λ _. refl)) (g_at a (g_begin (g_word b (g_part (t.0 (begun f (λ _. refl)))
      (g_word f (g_end g_done))))))) k,
  first_at a (λ _. refl) (λ _. refl),
)
form_back ts r braced_term (_, a, (_, t, (_, b, here))) = (
  λ s v k. term_with (part_of (begun a (λ _. refl)) (g_word a (g_begin (g_part (t.0 (begun b (λ _. refl))) (g_word b g_done))))) k,
  (begun a (λ _. refl), begun a (λ _. refl)),
)
form_back ts r appl_as (_, f, (_, a, (_, t, (_, b, here)))) = (
  λ s v k. f.0 s _ (part_of (begun_at a (λ _. refl)) (g_at a (g_part (part_of t.1.1 (g_part (t.0 (begun b (λ _. refl))) g_done))
      (g_word b (g_end (g_part k g_done)))))),
  f.1,
)
form_back ts r appl2_as (_, f, (_, a, (_, c, (_, A, (_, b, here))))) = (
  λ s v k. f.0 s _ (part_of (begun_at a (λ _. refl)) (g_at a (g_part (part_of (begun c (λ _. refl)) (g_word c (g_part (A (begun b (λ _. refl))) g_done)))
      (g_word b (g_end (g_part k g_done)))))),
  f.1,
)
form_back ts r left_term_as (_, a, here) = (λ n. a.0 _ (λ b. b) (part_of n g_done), a.1)
form_back ts r fun_as (_, a, (_, b, (_, x, (_, c, (_, A, (_, d, (_, t, here))))))) = (
  λ n. only_term n (part_of (begun_at a (λ _. refl)) (g_at a (g_begin (g_word b (g_name x (g_part (part_of (begun c (λ _. refl))
      (g_word c (g_part (A (begun d (λ _. refl))) (g_word d (g_part (t.0 n) g_done))))) (g_end g_done))))))),
  first_at a (λ _. refl) (λ _. refl),
)
form_back ts r fun2_as (_, a, (_, b, (_, x, (_, c, (_, A, (_, d, (_, t, here))))))) = (
  λ n. only_term n (part_of (begun_at a (λ _. refl)) (g_at a (g_begin (g_word b (g_name x (g_part (part_of (begun c (λ _. refl))
      (g_word c (g_part (A (begun d (λ _. refl))) (g_word d (g_part (t.0 n) g_done))))) (g_end g_done))))))),
  first_at a (λ _. refl) (λ _. refl),
)
form_back ts r fun2_unbounded_as (_, a, (_, b, (_, x, (_, d, (_, t, here))))) = (
  λ n. only_term n (part_of (begun_at a (λ _. refl)) (g_at a (g_begin (g_word b (g_name x (g_part (part_of (begun d (λ _. refl))
      (g_word d (g_part (t.0 n) g_done))) (g_end g_done))))))),
  first_at a (λ _. refl) (λ _. refl),
)
form_back ts r rec_term_as (_, a, (_, b, (_, x, (_, c, (_, A, (_, d, (_, t, here))))))) = (
  λ n. only_term n (part_of (begun_at a (λ _. refl)) (g_at a (g_begin (g_word b (g_name x (g_word c (g_part (A (begun d (λ _. refl)))
      (g_word d (g_part (t.0 n) (g_end g_done)))))))))),
  first_at a (λ _. refl) (λ _. refl),
)

back : {ps : List Piece} {ts r : List Item} → Written ps ts r → Backs ps ts r
back nothing = here
back (a_word e h) = (_, is e, back h)
back (a_word_at e f h) = (_, is_word e f, back h)
back (formed f h k) = (_, form_back _ _ f (back h), back k)

phrase_back : {ts r : List Item} {p : NamedPhrase} → Backs (phrase p ∷ []) ts r → Part Kind.phrase ts r p
phrase_back (_, p, here) = p

pub written_spells : {items : List Item} {p : NamedPhrase} → WrittenPhrase items p → (es : List Event) × Spells items es p
written_spells {items} {p} h =
    let k = phrase_back (back h) in
    let g = k.gives.given 0 0 in
    (g.0 ++ [], by k.row k.is g.1 done)

-- The grammar of rows derives just what is written in the forms.
pub spells_iff : (items : List Item) (p : NamedPhrase) → ((es : List Event) × Spells items es p) ↔ WrittenPhrase items p
spells_iff items p = (λ h. spells_written h.1, written_spells)
