-- The items of a source as the lexicon has them, and as they are read.
use Rattle.std.proofs.Common.{◌≡◌, ℕ, zero, suc, ◌<◌, ◌≤◌, Bool, true, false, List, [], ◌∷◌, length, arith, refl, ◌∙◌, ap, sym, subst, inl, inr, Ok, Err, Result}
use Rattle.std.specs.Prelude.{◌≢◌, ◌⊎◌, not, ◌&&◌}
use Rattle.std.specs.Borrow.{Bor}
use Rattle.lexer.specs.Classes.{is_blank}
use Rattle.lexer.specs.Lexicon.{byte_of, BeginsIn, Space, blank, comment, ended, Reads, token}
use Rattle.lexer.specs.Faults.{Faulty, in_space, in_word}
use Rattle.lexer.specs.Items.{Item, Taken, Takes, taken, taken_behind, taken_word, item_of, ends, behind_with, items_within, items_from, items}
use Rattle.lexer.specs.Lexed.{ItemsOf, at_end, at_fault, going_on, Lexed, OneToken, OneFault, Tells}
use Rattle.lexer.specs.Coming.{is_last, ordinary}
use Rattle.lexer.specs.declared.fault.LexicalFault.{LexicalFault}
use Rattle.lexer.specs.declared.token.Token.{Token}
use Rattle.lexer.specs.declared.token.Word.{Word}
use Rattle.lexer.specs.declared.token.Word.TheVariants.{End}
use Rattle.lexer.proofs.Skipping.{not_false, not_true}
use Rattle.lexer.proofs.LexiconSpace.{space-skips, fault-in-space, SpaceEnds, space_ends}
use Rattle.lexer.proofs.LexiconWords.{word-read, fault-read, WordEnds, word_ends}

pub reads-taken : {whole : ℕ} {bs rest : List ℕ} {t : Token} → Reads whole bs t rest → taken whole bs ≡ Ok (record { token = t; rest = rest })
reads-taken {whole = whole} (token {behind = at} s w) = ap (taken_behind whole) (space-skips s whole) ∙ ap (taken_word (byte_of whole at)) (word-read w (byte_of whole at))

pub faulty-taken : {whole : ℕ} {bs : List ℕ} {fault : LexicalFault} → Faulty whole bs fault → taken whole bs ≡ Err fault
faulty-taken {whole = whole} (in_space f) = ap (taken_behind whole) (fault-in-space f)
faulty-taken {whole = whole} (in_word {behind = at} s f) = ap (taken_behind whole) (space-skips s whole) ∙ ap (taken_word (byte_of whole at)) (fault-read f)

no_space_behind : {bs rest : List ℕ} → Space bs rest → BeginsIn is_blank rest → ⊥
no_space_behind (blank k s) h = no_space_behind s h
no_space_behind (comment c s) h = no_space_behind s h
no_space_behind (ended o n) h = n h

-- one of the two is so everywhere in a source
pub data Either (whole : ℕ) (bs : List ℕ) : Type 0 where
  a_token : (t : Token) (rest : List ℕ) → Reads whole bs t rest → (t.word ≡ End) ⊎ (length rest < length bs) → Either whole bs
  a_fault : (fault : LexicalFault) → Faulty whole bs fault → Either whole bs

behind_space : (whole : ℕ) (bs at : List ℕ) → Space bs at → length at ≤ length bs → WordEnds (byte_of whole at) at → Either whole bs
behind_space whole bs at s l (inl (w, rest, r, inl e)) = a_token _ rest (token s r) (inl e)
behind_space whole bs at s l (inl (w, rest, r, inr e)) = a_token _ rest (token s r) (inr (omega arith))
behind_space whole bs at s l (inr (fault, f)) = a_fault fault (in_word s f)

next : (whole : ℕ) (bs : List ℕ) → SpaceEnds whole bs → Either whole bs
next whole bs (inl (at, s, l)) = behind_space whole bs at s l (word_ends (byte_of whole at) at (no_space_behind s))
next whole bs (inr (fault, f)) = a_fault fault (in_space f)

pub either : (whole : ℕ) (bs : List ℕ) → Either whole bs
either whole bs = next whole bs (space_ends whole bs)

ends-true : (w : Word) → ends w ≡ true → w ≡ End
ends-true End e = refl
ends-true _ e = absurd (not_false e)

ends_not : (w : Word) → (w ≢ End) → ends w ≡ false
ends_not w n = not_true (ends w) (λ t. n (ends-true w t))

-- what is behind an item, by the word of its token
behind-end : (more : List ℕ → List Item) (t : Taken) → t.token.word ≡ End → behind_with more (Ok t) ≡ []
behind-end more t e = ap (λ (w : Word). elim (ends w) as (λ _. List Item) [ true ↦ [] | false ↦ more t.rest ]) e

behind-more : (more : List ℕ → List Item) (t : Taken) → ends t.token.word ≡ false → behind_with more (Ok t) ≡ more t.rest
behind-more more t e = ap (λ (b : Bool). elim b as (λ _. List Item) [ true ↦ [] | false ↦ more t.rest ]) e

same_token : (f g : List ℕ → List Item) (t : Taken) → f t.rest ≡ g t.rest → behind_with f (Ok t) ≡ behind_with g (Ok t)
same_token f g t e = ap (λ (x : List Item). elim (ends t.token.word) as (λ _. List Item) [ true ↦ [] | false ↦ x ]) e

same_end : (f g : List ℕ → List Item) (t : Taken) → t.token.word ≡ End → behind_with f (Ok t) ≡ behind_with g (Ok t)
same_end f g t e = behind-end f t e ∙ sym (behind-end g t e)

same_behind : (whole : ℕ) (bs : List ℕ) (f g : List ℕ → List Item) → ((rest : List ℕ) → length rest < length bs → f rest ≡ g rest) → Either whole bs
    → behind_with f (taken whole bs) ≡ behind_with g (taken whole bs)
same_behind whole bs f g h (a_token t rest r (inl e)) =
    ap (behind_with f) (reads-taken r) ∙ same_end f g (record { token = t; rest = rest }) e ∙ sym (ap (behind_with g) (reads-taken r))
same_behind whole bs f g h (a_token t rest r (inr l)) =
    ap (behind_with f) (reads-taken r) ∙ same_token f g (record { token = t; rest = rest }) (h rest l) ∙ sym (ap (behind_with g) (reads-taken r))
same_behind whole bs f g h (a_fault fault r) = ap (behind_with f) (faulty-taken r) ∙ sym (ap (behind_with g) (faulty-taken r))

-- a larger count gives no more
items_within-same : (m n whole : ℕ) (bs : List ℕ) → length bs < m → length bs < n → items_within m whole bs ≡ items_within n whole bs
items_within-same zero n whole bs k l = absurd (omega arith)
items_within-same (suc m) zero whole bs k l = absurd (omega arith)
items_within-same (suc m) (suc n) whole bs k l =
    ap (λ (b : List Item). item_of (taken whole bs) ∷ b)
    (same_behind whole bs (items_within m whole) (items_within n whole) (λ rest s. items_within-same m n whole rest (omega arith) (omega arith)) (either whole bs))

pub items_enough : (most whole : ℕ) (bs : List ℕ) → length bs < most → items_within most whole bs ≡ items_from whole bs
unfolding items_from
items_enough most whole bs l = items_within-same most (suc (length bs)) whole bs l (omega arith)

abbrev ok_taken : Token → List ℕ → Result Taken LexicalFault
ok_taken t rest = Ok (record { token = t; rest = rest })

-- where a token is read, it is what the lexicon gives, and where none is, the lexicon gives none
same_taken : (whole : ℕ) (bs : List ℕ) (t u : Token) (rest more : List ℕ) → taken whole bs ≡ ok_taken t rest → taken whole bs ≡ ok_taken u more → (u ≡ t) × (more ≡ rest)
same_taken whole bs t u rest more e f =
    let o : ok_taken u more ≡ ok_taken t rest = sym f ∙ e in
    let same : ◌≡◌ {A = Taken} (record { token = u; rest = more }) (record { token = t; rest = rest }) = cc o in
    (ap (λ (x : Taken). x.token) same, ap (λ (x : Taken). x.rest) same)

not_both_taken : (whole : ℕ) (bs : List ℕ) (t : Token) (rest : List ℕ) (fault : LexicalFault) → taken whole bs ≡ ok_taken t rest → taken whole bs ≡ Err fault → ⊥
not_both_taken whole bs t rest fault e f = let o : ok_taken t rest ≡ Err fault = sym e ∙ f in cc

one_token : (whole : ℕ) (bs : List ℕ) (t : Token) (rest : List ℕ) → taken whole bs ≡ ok_taken t rest → OneToken whole bs t rest
one_token whole bs t rest e = record {
  given = go (either whole bs);
  only = λ u more r. same_taken whole bs t u rest more e (reads-taken r);
  sound = λ fault f. not_both_taken whole bs t rest fault e (faulty-taken f);
}
  where
    go : Either whole bs → Reads whole bs t rest
    go (a_token u more r d) = let s = same_taken whole bs t u rest more e (reads-taken r) in subst (λ (x : Token). Reads whole bs x rest) s.0 (subst (Reads whole bs u) s.1 r)
    go (a_fault fault f) = absurd (not_both_taken whole bs t rest fault e (faulty-taken f))

one_fault : (whole : ℕ) (bs : List ℕ) (fault : LexicalFault) → taken whole bs ≡ Err fault → OneFault whole bs fault
one_fault whole bs fault e = record {
  wrong = go (either whole bs);
  only = λ other f. same_fault other f;
  none = λ t rest r. not_both_taken whole bs t rest fault (reads-taken r) e;
}
  where
    same_fault : (other : LexicalFault) → Faulty whole bs other → other ≡ fault
    same_fault other f = let o : ◌≡◌ {A = Result Taken LexicalFault} (Err other) (Err fault) = sym (faulty-taken f) ∙ e in cc

    go : Either whole bs → Faulty whole bs fault
    go (a_token t rest r d) = absurd (not_both_taken whole bs t rest fault (reads-taken r) e)
    go (a_fault other f) = subst (Faulty whole bs) (same_fault other f) f

pub told : (whole : ℕ) (bs : List ℕ) (r : Result (Token × Bor (List ℕ)) LexicalFault) → Takes (taken whole bs) r → Tells whole bs r
told whole bs (Ok (t, rest)) e = one_token whole bs t rest.now e
told whole bs (Err fault) e = one_fault whole bs fault e

shorter_than : {whole : ℕ} {bs rest : List ℕ} {t : Token} → Reads whole bs t rest → (t.word ≢ End) → Either whole bs → length rest < length bs
shorter_than {whole = whole} {bs = bs} {rest = rest} {t = t} r n (a_token u more q d) = go d
  where
    same : (u ≡ t) × (more ≡ rest)
    same = same_taken whole bs t u rest more (reads-taken r) (reads-taken q)

    go : (u.word ≡ End) ⊎ (length more < length bs) → length rest < length bs
    go (inl f) = absurd (n (sym (ap (λ (x : Token). x.word) same.0) ∙ f))
    go (inr l) = let m : length more ≡ length rest = ap length same.1 in omega arith
shorter_than {whole = whole} {bs = bs} {rest = rest} {t = t} r n (a_fault fault q) = absurd (not_both_taken whole bs t rest fault (reads-taken r) (faulty-taken q))

pub items_only : {whole : ℕ} {bs : List ℕ} {is : List Item} → ItemsOf whole bs is → is ≡ items_from whole bs
unfolding items_from
items_only {whole = whole} {bs = bs} (at_end {rest = rest} {token = t} r e) =
    let more : List ℕ → List Item = items_within (length bs) whole in
    sym (ap (λ x. item_of x ∷ behind_with more x) (reads-taken r) ∙ ap (λ (z : List Item). Ok t ∷ z) (behind-end more (record { token = t; rest = rest }) e))
items_only {whole = whole} {bs = bs} (at_fault f) =
    let more : List ℕ → List Item = items_within (length bs) whole in
    sym (ap (λ x. item_of x ∷ behind_with more x) (faulty-taken f))
items_only {whole = whole} {bs = bs} (going_on {rest = rest} {token = t} r n h) =
    let more : List ℕ → List Item = items_within (length bs) whole in
    let l = shorter_than r n (either whole bs) in
    sym (ap (λ x. item_of x ∷ behind_with more x) (reads-taken r)
    ∙ ap (λ (z : List Item). Ok t ∷ z) (behind-more more (record { token = t; rest = rest }) (ends_not _ n) ∙ items_enough (length bs) whole rest l ∙ sym (items_only h)))

-- whatever the words, there are items
items_step : (most whole : ℕ) (bs : List ℕ) → ((rest : List ℕ) → length rest < length bs → ItemsOf whole rest (items_within most whole rest))
    → Either whole bs → ItemsOf whole bs (items_within (suc most) whole bs)
items_step most whole bs h (a_token t rest r d) = go (ends t.word) refl d
  where
    e : items_within (suc most) whole bs ≡ Ok t ∷ behind_with (items_within most whole) (ok_taken t rest)
    e = ap (λ x. item_of x ∷ behind_with (items_within most whole) x) (reads-taken r)

    go : (b : Bool) → ends t.word ≡ b → (t.word ≡ End) ⊎ (length rest < length bs) → ItemsOf whole bs (items_within (suc most) whole bs)
    go true q d =
        let w = ends-true t.word q in
        subst (ItemsOf whole bs) (sym (e ∙ ap (λ (z : List Item). Ok t ∷ z) (behind-end (items_within most whole) (record { token = t; rest = rest }) w))) (at_end r w)
    go false q (inl f) = absurd (not_false (sym q ∙ ap ends f))
    go false q (inr l) =
        subst (ItemsOf whole bs) (sym (e ∙ ap (λ (z : List Item). Ok t ∷ z) (behind-more (items_within most whole) (record { token = t; rest = rest }) q)))
        (going_on r (λ w. not_false (sym q ∙ ap ends w)) (h rest l))
items_step most whole bs h (a_fault fault f) =
    subst (ItemsOf whole bs) (sym (ap (λ x. item_of x ∷ behind_with (items_within most whole) x) (faulty-taken f))) (at_fault f)

items_given : (most whole : ℕ) (bs : List ℕ) → length bs < most → ItemsOf whole bs (items_within most whole bs)
items_given zero whole bs l = absurd (omega arith)
items_given (suc most) whole bs l = items_step most whole bs (λ rest s. items_given most whole rest (omega arith)) (either whole bs)

pub items_of : (whole : ℕ) (bs : List ℕ) → ItemsOf whole bs (items_from whole bs)
unfolding items_from
items_of whole bs = items_given (suc (length bs)) whole bs (omega arith)

pub lexed : (source : List ℕ) → Lexed source (items source)
lexed source = record { gives = items_of (length source) source; only = λ others h. items_only h }

-- only the last item is an end or a fault
pub ordinary-cons : (x : Item) (is : List Item) → is_last x ≡ false → ordinary is ≡ true → ordinary (x ∷ is) ≡ true
ordinary-cons x [] l o = absurd (not_false o)
ordinary-cons x (y ∷ is) l o = ap (λ (b : Bool). not b && ordinary (y ∷ is)) l ∙ o

ordinary_of : {whole : ℕ} {bs : List ℕ} {is : List Item} → ItemsOf whole bs is → ordinary is ≡ true
ordinary_of (at_end r e) = ap ends e
ordinary_of (at_fault f) = refl
ordinary_of (going_on {token = t} {items = is} r n h) = ordinary-cons (Ok t) is (ends_not t.word n) (ordinary_of h)

pub ordinary-from : (whole : ℕ) (bs : List ℕ) → ordinary (items_from whole bs) ≡ true
ordinary-from whole bs = ordinary_of (items_of whole bs)

pub ordinary_next : (x : Item) (whole : ℕ) (bs : List ℕ) → ordinary (x ∷ elim (is_last x) as (λ _. List Item) [ true ↦ [] | false ↦ items_from whole bs ]) ≡ true
ordinary_next x whole bs = go (is_last x) refl
  where
    go : (b : Bool) → is_last x ≡ b → ordinary (x ∷ elim b as (λ _. List Item) [ true ↦ [] | false ↦ items_from whole bs ]) ≡ true
    go true e = e
    go false e = ordinary-cons x (items_from whole bs) e (ordinary-from whole bs)

-- what is to come, from what was taken
pub next_taken : (whole : ℕ) (bs : List ℕ) (t : Token) (rest : List ℕ) → taken whole bs ≡ Ok (record { token = t; rest = rest })
    → Ok t ∷ elim (ends t.word) as (λ _. List Item) [ true ↦ [] | false ↦ items_from whole rest ] ≡ items_from whole bs
unfolding items_from
next_taken whole bs t rest e =
    let more : List ℕ → List Item = items_within (length bs) whole in
    let enough = same_behind whole bs more (items_from whole) (λ r l. items_enough (length bs) whole r l) (either whole bs) in
    sym (ap (λ (z : List Item). item_of (taken whole bs) ∷ z) enough ∙ ap (λ x. item_of x ∷ behind_with (items_from whole) x) e)
