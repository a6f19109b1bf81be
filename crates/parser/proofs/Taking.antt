-- What is looked at or taken decides the row; and what a part's first byte is.
use Rattle.std.proofs.Common.{◌≡◌, ℕ, suc, ◌+◌, Bool, true, false, List, [], ◌∷◌, length, Option, Some, None, Result, Ok, Err, if◌then◌else◌, refl, ap, ◌∙◌, sym, subst, add-one, true≢false}
use Rattle.std.proofs.lemmas.Option.{none-some}
use Rattle.lexer.specs.Coming.{to_come, used}
use Rattle.lexer.specs.Items.{Item, ends}
use Rattle.lexer.specs.declared.token.Token.{Token}
use Rattle.lexer.specs.declared.token.Word.{Word}
use Rattle.lexer.specs.declared.tokens.Tokens.{Tokens}
use Rattle.grammar.specs.Notation.{Kind, Val, on, own, inner, Guard, the, Given, taken, same_word, Sym, one, part, Action, apply, Row, row}
use Rattle.grammar.specs.Derives.{choose, next_byte}
use Rattle.grammar.specs.Reading.{Limits}
use Rattle.grammar.specs.Steps.{ReadsPart, Stops, Takes, not_allowed, no_row, in_part, after_part}
use Rattle.grammar.specs.declared.fault.SyntaxFault.{SyntaxFault}
use Rattle.grammar.proofs.Steps.{stops_part}
use Rattle.grammar.proofs.Words.{same_word_is, chosen}
use Rattle.parser.proofs.Told.{Told, told_row, told_token, told_part, at_error, no_row_told}
use Rattle.parser.specs.Parsing.{items, placed, limits, Looked, TakesWord, Uses, Refuses, Parsed}
use Rattle.parser.specs.declared.parser.Parser.{Parser}

pub looks_fails : {X : Type 0} (K : Kind) (d q : ℕ) (old new : Parser) (Laid : Val K → X → Type 0) (r : Result X SyntaxFault) {e : SyntaxFault} → r ≡ Err e
    → Looked (items old) (Err e) → Parsed K d q old new Laid r
looks_fails K d q old new Laid r i h = no_row_told K d q old new Laid r (Err h.0) h.1 i h.2 refl (sym h.3)

pub first_byte : (ts : List Item) (t : Token) → Looked ts (Ok t) → next_byte 0 ts ≡ t.byte
first_byte ts t h = ap (next_byte 0) h.1

pub uses_looked : (g : Guard) (x : Given g) (t : Token) (old new : List Item) → Looked old (Ok t) → new ≡ used old → ends t.word ≡ false → taken g t ≡ Some x
    → Uses g x old new
uses_looked g x t old new h u e k = (t, subst (λ y. old ≡ Ok t ∷ y) (sym (u ∙ h.2 e)) h.1, k)

taken_yes : (w : Word) (old new : List Item) → TakesWord w old new (Ok true) → Uses (the w) tt old new
taken_yes w old new h = (h.0, subst (λ y. old ≡ Ok h.0 ∷ y) (sym h.4) h.2, ap (λ b. if b then Some tt else None) h.3)

pub take_uses : (w : Word) (old new : List Item) (b : Bool) → b ≡ true → TakesWord w old new (Ok b) → Uses (the w) tt old new
take_uses w old new true e h = taken_yes w old new h
take_uses w old new false e h = absurd (true≢false (sym e))

-- another word stands there
pub take_leaves : (w : Word) (old new : List Item) (b : Bool) → b ≡ false → TakesWord w old new (Ok b)
    → (t : Token) × (more : List Item) × (old ≡ Ok t ∷ more) × (taken (the w) t ≡ None) × (new ≡ old)
take_leaves w old new true e h = absurd (true≢false e)
take_leaves w old new false e h = (h.0, h.1, h.2, ap (λ b. if b then Some tt else None) h.3, h.4)

abbrev first_item : Item → List Item → Item
first_item i [] = i
first_item i (x ∷ xs) = x

pub refuses_first : (g : Guard) (ts : List Item) (i : Item) (more : List Item) (e : SyntaxFault) → ts ≡ i ∷ more → Refuses g ts e
    → (Takes g i → ⊥) × (not_allowed i ≡ e)
refuses_first g ts i more e h u =
    let j = ap (first_item i) (sym u.2 ∙ h) in
    (subst (λ x. Takes g x → ⊥) j u.3, subst (λ x. not_allowed x ≡ e) j u.4)

none_of : (g : Guard) (t : Token) (o : Option (Given g)) → taken g t ≡ o → (Takes g (Ok t) → ⊥) → taken g t ≡ None
none_of g t None e h = e
none_of g t (Some x) e h = absurd (h (x, e))

pub none_taken : (g : Guard) (t : Token) → (Takes g (Ok t) → ⊥) → taken g t ≡ None
none_taken g t h = none_of g t (taken g t) refl h

-- as few items are left
pub uses_shorter : (g : Guard) (x : Given g) (old new : List Item) → Uses g x old new → length old ≡ suc (length new)
uses_shorter g x old new u = ap length u.1

is_word : (w : Word) (t : Token) (b : Bool) → same_word w t.word ≡ b → ◌≡◌ {A = Option (Given (the w))} (if b then Some tt else None) (Some tt) → w ≡ t.word
is_word w t true e h = same_word_is w t.word e
is_word w t false e h = absurd (none-some tt h)

pub uses_word : (w : Word) (t : Token) → taken (the w) t ≡ Some tt → t.word ≡ w
uses_word w t h = sym (is_word w t (same_word w t.word) refl h)

-- the row that a word begins
pub row_looked : {K : Kind} {ρ : Row K} (w : Word) (t : Token) (old : List Item) → Looked old (Ok t) → t.word ≡ w
    → ((b : ℕ) → choose K (Ok (record { word = w; byte = b }) ∷ []) ≡ Some ρ) → choose K old ≡ Some ρ
row_looked {K} {ρ} w t old h e k = ap (choose K) h.1 ∙ chosen t h.0 w e (k t.byte)

pub row_used : {K : Kind} {ρ : Row K} (w : Word) (old new : List Item) → Uses (the w) tt old new
    → ((b : ℕ) → choose K (Ok (record { word = w; byte = b }) ∷ []) ≡ Some ρ) → choose K old ≡ Some ρ
row_used {K} {ρ} w old new u k = ap (choose K) u.1 ∙ chosen u.0 new w (uses_word w u.0 u.2) (k u.0.byte)

-- the first token of a row, which was looked at
pub told_first : {X : Type 0} (K : Kind) {g : Guard} {ss : List Sym} {f : Action (one g ∷ ss) (Val K)} (x : Given g) (d q : ℕ) (old new : Parser)
    (Laid : Val K → X → Type 0) (r : Result X SyntaxFault) (w : Word) (t : Token) (next : Tokens) → Looked (items old) (Ok t) → t.word ≡ w → ends w ≡ false
    → to_come next ≡ used (items old) → ((b : ℕ) → choose K (Ok (record { word = w; byte = b }) ∷ []) ≡ Some (row (one g ∷ ss) f)) → taken g t ≡ Some x
    → Told K d q ss (apply g ss (Val K) f x) (record { tokens = next; tree = old.tree }) new Laid r → Parsed K d q old new Laid r
told_first K {g} x d q old new Laid r w t next h i e u k y z =
    told_row K d q old new Laid r (row_looked w t (items old) h i k)
    (told_token g x old (record { tokens = next; tree = old.tree }) (uses_looked g x t (items old) (to_come next) h u (ap ends i ∙ e) y) refl z)

-- the first token of a row, which was taken
pub told_taken : {X : Type 0} (K : Kind) {ss : List Sym} {f : Action ss (Val K)} (d q : ℕ) (old p1 new : Parser) (Laid : Val K → X → Type 0)
    (r : Result X SyntaxFault) (w : Word) → Uses (the w) tt (items old) (items p1) → p1.tree ≡ old.tree
    → ((b : ℕ) → choose K (Ok (record { word = w; byte = b }) ∷ []) ≡ Some (row (one (the w) ∷ ss) f))
    → Told K d q ss f p1 new Laid r → Parsed K d q old new Laid r
told_taken K d q old p1 new Laid r w u t k z = told_row K d q old new Laid r (row_used w (items old) (items p1) u k) (told_token (the w) tt old p1 u t z)

-- the first byte of a part that a row begins
some_byte : (K : Kind) (q : ℕ) (ts : List Item) (o : Option (Row K)) (ρ : Row K) → choose K ts ≡ o → o ≡ Some ρ → next_byte 0 ts ≡ next_byte q ts
some_byte K q [] o ρ e h = absurd (none-some ρ (e ∙ h))
some_byte K q (Err f ∷ ts) o ρ e h = absurd (none-some ρ (e ∙ h))
some_byte K q (Ok t ∷ ts) o ρ e h = refl

same_byte : (K : Kind) (q : ℕ) (ts : List Item) (ρ : Row K) → choose K ts ≡ Some ρ → next_byte 0 ts ≡ next_byte q ts
same_byte K q ts ρ e = some_byte K q ts (choose K ts) ρ refl e

pub part_own : {l : Limits} {K : Kind} {d c : ℕ} (q : ℕ) {ts r : List Item} {n : ℕ} {v : Val K} → ReadsPart l K d c (next_byte 0 ts) ts r n v
    → ReadsPart l K d c (next_byte q ts) ts r n v
part_own {l} {K} {d} {c} q {ts} {r} {n} {v} h = subst (λ y. ReadsPart l K d c y ts r n v) (same_byte K q ts h.row h.chosen) h

pub part_inner : {l : Limits} {K : Kind} {d c : ℕ} (q : ℕ) {ts r : List Item} {n : ℕ} {v : Val K} → ReadsPart l K (d + 1) c (next_byte 0 ts) ts r n v
    → ReadsPart l K (suc d) c (next_byte q ts) ts r n v
part_inner {l} {K} {d} {c} q {ts} {r} {n} {v} h = subst (λ y. ReadsPart l K y c (next_byte q ts) ts r n v) (add-one d) (part_own q h)

stops_byte : {l : Limits} {K : Kind} {d c : ℕ} (p : ℕ) {ts : List Item} {e : SyntaxFault} → Stops l d c (next_byte 0 ts) (part on K ∷ []) ts e
    → Stops l d c (next_byte p ts) (part on K ∷ []) ts e
stops_byte p (no_row e f) = no_row e f
stops_byte {l} {K} {d} {c} p {ts} {e = x} (in_part ρ i h) = in_part ρ i (subst (λ y. Stops l d c y ρ.symbols ts x) (same_byte K p ts ρ i) h)
stops_byte p (after_part h k) = elim k [ ]

pub stops_own : {l : Limits} {K : Kind} {d c q : ℕ} {ss : List Sym} {ts : List Item} {e : SyntaxFault} → Stops l d c (next_byte 0 ts) (part on K ∷ []) ts e
    → Stops l d c q (part own K ∷ ss) ts e
stops_own {q = q} h = stops_part (stops_byte q h)

pub stops_inner : {l : Limits} {K : Kind} {d c q : ℕ} {ss : List Sym} {ts : List Item} {e : SyntaxFault} → Stops l (d + 1) c (next_byte 0 ts) (part on K ∷ []) ts e
    → Stops l d c q (part inner K ∷ ss) ts e
stops_inner {l} {K} {d} {c} {q} {ss} {ts} {e} h =
    stops_part (subst (λ y. Stops l y c (next_byte q ts) (part on K ∷ []) ts e) (add-one d) (stops_byte q h))

pub told_inner : {X : Type 0} {K M : Kind} {d q : ℕ} {ss : List Sym} {f : Val M → Action ss (Val K)} (p p1 : Parser) {p2 : Parser}
    {Laid : Val K → X → Type 0} {r : Result X SyntaxFault} {u : Val M}
    → ReadsPart (limits p) M (d + 1) (placed p) (next_byte 0 (items p)) (items p) (items p1) (placed p1) u → limits p1 ≡ limits p
    → Told K d q ss (f u) p1 p2 Laid r → Told K d q (part inner M ∷ ss) f p p2 Laid r
told_inner {q = q} p p1 h e z = told_part p p1 (part_inner q h) e z

pub told_inner_stops : {X : Type 0} {K M : Kind} {d q : ℕ} {ss : List Sym} {f : Val M → Action ss (Val K)} {p p2 : Parser}
    {Laid : Val K → X → Type 0} {r : Result X SyntaxFault} {e : SyntaxFault} → r ≡ Err e
    → Stops (limits p) (d + 1) (placed p) (next_byte 0 (items p)) (part on M ∷ []) (items p) e → Told K d q (part inner M ∷ ss) f p p2 Laid r
told_inner_stops i h = at_error i (stops_inner h)

pub told_own : {X : Type 0} {K M : Kind} {d q : ℕ} {ss : List Sym} {f : Val M → Action ss (Val K)} (p p1 : Parser) {p2 : Parser}
    {Laid : Val K → X → Type 0} {r : Result X SyntaxFault} {u : Val M}
    → ReadsPart (limits p) M d (placed p) (next_byte 0 (items p)) (items p) (items p1) (placed p1) u → limits p1 ≡ limits p
    → Told K d q ss (f u) p1 p2 Laid r → Told K d q (part own M ∷ ss) f p p2 Laid r
told_own {q = q} p p1 h e z = told_part p p1 (part_own q h) e z

pub told_own_stops : {X : Type 0} {K M : Kind} {d q : ℕ} {ss : List Sym} {f : Val M → Action ss (Val K)} {p p2 : Parser}
    {Laid : Val K → X → Type 0} {r : Result X SyntaxFault} {e : SyntaxFault} → r ≡ Err e
    → Stops (limits p) d (placed p) (next_byte 0 (items p)) (part on M ∷ []) (items p) e → Told K d q (part own M ∷ ss) f p p2 Laid r
told_own_stops i h = at_error i (stops_own h)
