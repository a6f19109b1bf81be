-- Reading always ends, with what is read or with a stop.
use Rattle.std.proofs.Common.{◌≡◌, ℕ, zero, suc, pred, ◌+◌, ◌*◌, ◌<◌, ◌≤◌, ◌⊎◌, inl, inr, T, Bool, true, false, not, ◌&&◌, ◌||◌, cond, List, [], ◌∷◌, length, Option, Some, None, Ok, Err, nat_lt, refl, ap, ◌∙◌, sym, subst, true≢false, arith}
use Rattle.std.proofs.lemmas.Bool.{ltb-true}
use Rattle.std.proofs.lemmas.Option.{none-some}
use Rattle.lexer.specs.Items.{Item}
use Rattle.lexer.specs.declared.token.Token.{Token}
use Rattle.lexer.specs.declared.token.Word.{Word}
use Rattle.lexer.specs.declared.token.Word.TheVariants.{End, Name as Named}
use Rattle.grammar.specs.Grammar.{rows, other}
use Rattle.grammar.specs.Notation.{Kind, phrase, env, type, arrow_rest, term, args, argument, Val, Mode, Guard, the, at, a_name, name_at, Given, same_word, taken, Sym, one, begins, whole, part, Action, apply, Row}
use Rattle.grammar.specs.Derives.{choose, under, from, Event, Derives, done, token, begin, end, by}
use Rattle.grammar.specs.Reading.{Limits, Ended, at_end, later}
use Rattle.syntax.specs.Named.{NamedPhrase}
use Rattle.grammar.specs.Steps.{Reads, Stops}
use Rattle.grammar.specs.declared.fault.SyntaxFault.{SyntaxFault}
use Rattle.grammar.proofs.Read.{Outcome, got, stop, spent, and_then, if_some, where_none, read, Told, told}
use Rattle.grammar.proofs.Words.{same_word_is}
use Rattle.grammar.proofs.Table.{both, optional, eats, all_rows, row_is, Skips, eats_or_skips}

-- how many items are used

-- behind a part that may use none, something else does
behind_optional : (M : Kind) (b : Bool) → T (optional M) → T (not (optional M) || b) → T b
behind_optional env b o h = h
behind_optional arrow_rest b o h = h
behind_optional args b o h = h
behind_optional M b o h = elim o [ ]

pub no_longer : {K : Kind} {d q : ℕ} {ss : List Sym} {f : Action ss (Val K)} {ts r : List Item} {es : List Event} {v : Val K} → Derives K d q ss f ts es r v
    → length r ≤ length ts
no_longer done = omega arith
no_longer (token e h) = let i = no_longer h in omega (arith, i)
no_longer (begin h) = no_longer h
no_longer (end h) = no_longer h
no_longer (by ρ e h k) = let i = no_longer h in let j = no_longer k in omega (arith, i, j)

pub shorter : {K : Kind} {d q : ℕ} {ss : List Sym} {f : Action ss (Val K)} {ts r : List Item} {es : List Event} {v : Val K} → Derives K d q ss f ts es r v
    → T (eats ss) → length r < length ts
shorter done e = elim e [ ]
shorter (token x h) e = let i = no_longer h in omega (arith, i)
shorter (begin h) e = shorter h e
shorter (end h) e = shorter h e
shorter (by {M = M} {ss = ss} {ts = ts} {s} {r} ρ x h k) e = go (eats_or_skips ts x) (λ a. shorter h a) (λ a. shorter k a)
  where
    go : T (eats ρ.symbols) ⊎ Skips ρ → (T (eats ρ.symbols) → length s < length ts) → (T (eats ss) → length r < length s) → length r < length ts
    go (inl a) i j = let x = i a in let y = no_longer k in omega (arith, x, y)
    go (inr a) i j = let x = no_longer h in let y = j (behind_optional M (eats ss) a.skipped e) in omega (arith, x, y)

-- how much fuel the kinds take where no item is used

abbrev rank : Kind → ℕ
rank phrase = 3
rank argument = 3
rank term = 2
rank type = 2
rank K = 1

rank_pos : (K : Kind) → 1 ≤ rank K
rank_pos phrase = omega arith
rank_pos K = omega arith

abbrev leads : ℕ → List Sym → Bool
leads n [] = true
leads n (one g ∷ ss) = true
leads n (begins ∷ ss) = leads n ss
leads n (whole ∷ ss) = leads n ss
leads n (part m K ∷ ss) = nat_lt (rank K) (suc n) && (not (optional K) || leads n ss)

all_lead : (ss : List Sym) → T (leads 3 ss)
all_lead [] = tt
all_lead (one g ∷ ss) = tt
all_lead (begins ∷ ss) = all_lead ss
all_lead (whole ∷ ss) = all_lead ss
all_lead (part m K ∷ ss) = go K (all_lead ss)
  where
    go : (K : Kind) → T (leads 3 ss) → T (nat_lt (rank K) 4 && (not (optional K) || leads 3 ss))
    go env h = h
    go arrow_rest h = h
    go args h = h
    go K h = tt

rows_lead : (K : Kind) → T (all_rows (leads (pred (rank K))) (rows K) (other K))
rows_lead phrase = tt
rows_lead K = tt

-- where End stands in rows

abbrev is_end : Word → Bool
is_end End = true
is_end w = false

abbrev end_guard : Guard → Bool
end_guard (the w) = is_end w
end_guard (at w) = is_end w
end_guard g = false

abbrev is_phrase : Kind → Bool
is_phrase phrase = true
is_phrase K = false

-- neither End nor a phrase
abbrev inside : List Sym → Bool
inside [] = true
inside (one g ∷ ss) = not (end_guard g) && inside ss
inside (begins ∷ ss) = inside ss
inside (whole ∷ ss) = inside ss
inside (part m K ∷ ss) = not (is_phrase K) && inside ss

-- End, at the end
abbrev closes : List Sym → Bool
closes [] = false
closes (one g ∷ []) = end_guard g
closes (one g ∷ s ∷ ss) = not (end_guard g) && closes (s ∷ ss)
closes (begins ∷ ss) = closes ss
closes (whole ∷ ss) = closes ss
closes (part m K ∷ ss) = not (is_phrase K) && closes ss

rows_inside : (K : Kind) → T (not (is_phrase K)) → T (all_rows inside (rows K) (other K))
rows_inside phrase e = elim e [ ]
rows_inside K e = tt

some_test : {A : Type 0} (b : Bool) (x : A) {y : A} → cond b (Some x) None ≡ Some y → b ≡ true
some_test true x e = refl
some_test false x e = absurd (none-some _ e)

token_end : (g : Guard) (t : Token) (x : Given g) → taken g t ≡ Some x → is_end t.word ≡ end_guard g
token_end (the w) t x e = ap is_end (sym (same_word_is w t.word (some_test (same_word w t.word) _ e)))
token_end (at w) t x e = ap is_end (sym (same_word_is w t.word (some_test (same_word w t.word) _ e)))
token_end a_name t x e = go t.word refl
  where
    go : (w : Word) → t.word ≡ w → is_end t.word ≡ false
    go (Named y) h = ap is_end h
    go w h = absurd (none-some x (rw h at e))
token_end name_at t x e = go t.word refl
  where
    go : (w : Word) → t.word ≡ w → is_end t.word ≡ false
    go (Named y) h = ap is_end h
    go w h = absurd (none-some x (rw h at e))

is_false : (b : Bool) → T (not b) → b ≡ false
is_false true e = elim e [ ]
is_false false e = refl

is_true : (b : Bool) → T b → b ≡ true
is_true true e = refl
is_true false e = elim e [ ]

word_end : (w : Word) → is_end w ≡ true → w ≡ End
word_end End e = refl
word_end w e = absurd (true≢false (sym e))

ended_later : {t : Token} {ts : List Item} → Ended (Ok t ∷ ts) → is_end t.word ≡ false → Ended ts
ended_later (at_end e) h = absurd (true≢false (sym (ap is_end e) ∙ h))
ended_later (later n e) h = e

ended_last : {t : Token} {ts : List Item} → Ended (Ok t ∷ ts) → is_end t.word ≡ true → ts ≡ []
ended_last (at_end e) h = refl
ended_last {t} (later n e) h = absurd (n (word_end t.word h))

-- the function is not spent, and P holds of what it leaves
abbrev Leaves : (P : List Item → Type 0) {A : Type 0} → Outcome A → Type 0
Leaves P (got r n v) = P r
Leaves P (stop e) = Unit {0}
Leaves P spent = ⊥

try_token : (P : List Item → Type 0) {A B : Type 0} (o : Option A) (x : Outcome B) (k : A → Outcome B) → Leaves P x
    → ((a : A) → o ≡ Some a → Leaves P (k a)) → Leaves P (if_some o x k)
try_token P None x k h i = h
try_token P (Some a) x k h i = i a refl

try_test : (P : List Item → Type 0) {A : Type 0} (b : Bool) (x y : Outcome A) → Leaves P x → Leaves P y → Leaves P (elim b [ true ↦ x | false ↦ y ])
try_test P true x y h i = h
try_test P false x y h i = i

try_row : (P : List Item → Type 0) {A B : Type 0} (ts : List Item) (o : Option A) (k : A → Outcome B) → Ended ts
    → ((a : A) → o ≡ Some a → Leaves P (k a)) → Leaves P (if_some o (where_none ts) k)
try_row P [] None k h i = elim h [ ]
try_row P (t ∷ ts) None k h i = tt
try_row P ts (Some a) k h i = i a refl

try_part : (P : List Item → Type 0) (l : Limits) (K : Kind) (d c q : ℕ) (ss : List Sym) (f : Action ss (Val K)) (ts : List Item) {B : Type 0}
    (o : Outcome (Val K)) (k : List Item → ℕ → Val K → Outcome B) → Told l K d c q ss f ts o → Leaves Ended o
    → ((s : List Item) (n : ℕ) (u : Val K) → Reads l K d c q ss f ts s n u → Ended s → Leaves P (k s n u)) → Leaves P (and_then o k)
try_part P l K d c q ss f ts (got s n u) k h i j = j s n u h i
try_part P l K d c q ss f ts (stop e) k h i j = tt
try_part P l K d c q ss f ts spent k h i j = i

-- the fuel that is left behind a part
left_over : (M : Kind) (ss : List Sym) (j n : ℕ) → T (not (optional M) || leads j ss) → {ρ : Row M} {d q : ℕ} (ts s : List Item) {es : List Event} {u : Val M}
    → choose M ts ≡ Some ρ → Derives M d q ρ.symbols ρ.action ts es s u → 3 * length ts + j ≤ n → (i : ℕ) × T (leads i ss) × (3 * length s + i ≤ n)
left_over M ss j n h {ρ} ts s e x le = go (eats_or_skips ts e)
  where
    go : T (eats ρ.symbols) ⊎ Skips ρ → (i : ℕ) × T (leads i ss) × (3 * length s + i ≤ n)
    go (inl a) = let y = shorter x a in (3, all_lead ss, omega (arith, y, le))
    go (inr a) = let y = no_longer x in (j, behind_optional M (leads j ss) a.skipped h, omega (arith, y, le))

within_fuel : (M : Kind) (j : ℕ) (b : Bool) → T (nat_lt (rank M) (suc j) && b) → rank M ≤ j
within_fuel M j b h = let a = ltb-true (rank M) (suc j) (is_true _ (both (nat_lt (rank M) (suc j)) b h).0) in omega (arith, a)

going : (n : ℕ) (l : Limits) (K : Kind) (d c q : ℕ) (ss : List Sym) (f : Action ss (Val K)) (ts : List Item) → T (inside ss) → Ended ts → (j : ℕ)
    → T (leads j ss) → 3 * length ts + j ≤ n → Leaves Ended (read n l K d c q ss f ts)
going n l K d c q [] f ts i e j h le = e
going n l K d c q (one g ∷ ss) f [] i e j h le = elim e [ ]
going n l K d c q (one g ∷ ss) f (Err x ∷ ts) i e j h le = tt
going n l K d c q (one g ∷ ss) f (Ok t ∷ ts) i e j h le =
    let k = both (not (end_guard g)) (inside ss) i in
    try_token Ended (taken g t) _ _ tt
    (λ x p. going n l K d c q ss (apply g ss (Val K) f x) ts k.1 (ended_later e (token_end g t x p ∙ is_false (end_guard g) k.0)) 3 (all_lead ss) (omega (arith, le)))
going n l K d c q (begins ∷ ss) f ts i e j h le = try_test Ended (nat_lt d l.levels) _ _ (going n l K d c q ss f ts i e j h le) tt
going n l K d c q (whole ∷ ss) f ts i e j h le = try_test Ended (nat_lt c l.places) _ _ (going n l K d (suc c) q ss f ts i e j h le) tt
going zero l K d c q (part m M ∷ ss) f ts i e j h le = let a = within_fuel M j _ h in let b = rank_pos M in absurd (omega (arith, a, b, le))
going (suc n) l K d c q (part m M ∷ ss) f ts i e j h le =
    let a = within_fuel M j _ h in
    let b = rank_pos M in
    let k = both (not (is_phrase M)) (inside ss) i in
    try_row Ended ts (choose M ts) _ e
    (λ ρ p.
    try_part Ended l M (under m d) c (from m q ts) ρ.symbols ρ.action ts _ _ (told n l M (under m d) c (from m q ts) ρ.symbols ρ.action ts)
    (going n l M (under m d) c (from m q ts) ρ.symbols ρ.action ts (row_is inside ts (rows_inside M k.0) p) e (pred (rank M))
    (row_is (leads (pred (rank M))) ts (rows_lead M) p) (omega (arith, a, b, le)))
    (λ s k' u r z.
    let o = left_over M ss j (suc n) (both (nat_lt (rank M) (suc j)) _ h).1 ts s p r.derived le in
    going (suc n) l K d k' q ss (f u) s k.1 z o.0 o.1 o.2))

-- the symbols of a phrase are read to the end
closing : (n : ℕ) (l : Limits) (K : Kind) (d c q : ℕ) (ss : List Sym) (f : Action ss (Val K)) (ts : List Item) → T (closes ss) → Ended ts → (j : ℕ)
    → T (leads j ss) → 3 * length ts + j ≤ n → Leaves (λ r. r ≡ []) (read n l K d c q ss f ts)
closing n l K d c q [] f ts i e j h le = elim i [ ]
closing n l K d c q (one g ∷ []) f [] i e j h le = elim e [ ]
closing n l K d c q (one g ∷ []) f (Err x ∷ ts) i e j h le = tt
closing n l K d c q (one g ∷ []) f (Ok t ∷ ts) i e j h le =
    try_token (λ r. r ≡ []) (taken g t) _ _ tt (λ x p. ended_last e (token_end g t x p ∙ is_true (end_guard g) i))
closing n l K d c q (one g ∷ s ∷ ss) f [] i e j h le = elim e [ ]
closing n l K d c q (one g ∷ s ∷ ss) f (Err x ∷ ts) i e j h le = tt
closing n l K d c q (one g ∷ s ∷ ss) f (Ok t ∷ ts) i e j h le =
    let k = both (not (end_guard g)) (closes (s ∷ ss)) i in
    try_token (λ r. r ≡ []) (taken g t) _ _ tt
    (λ x p. closing n l K d c q (s ∷ ss) (apply g (s ∷ ss) (Val K) f x) ts k.1 (ended_later e (token_end g t x p ∙ is_false (end_guard g) k.0)) 3 (all_lead (s ∷ ss)) (omega (arith, le)))
closing n l K d c q (begins ∷ ss) f ts i e j h le = try_test (λ r. r ≡ []) (nat_lt d l.levels) _ _ (closing n l K d c q ss f ts i e j h le) tt
closing n l K d c q (whole ∷ ss) f ts i e j h le = try_test (λ r. r ≡ []) (nat_lt c l.places) _ _ (closing n l K d (suc c) q ss f ts i e j h le) tt
closing zero l K d c q (part m M ∷ ss) f ts i e j h le = let a = within_fuel M j _ h in let b = rank_pos M in absurd (omega (arith, a, b, le))
closing (suc n) l K d c q (part m M ∷ ss) f ts i e j h le =
    let a = within_fuel M j _ h in
    let b = rank_pos M in
    let k = both (not (is_phrase M)) (closes ss) i in
    try_row (λ r. r ≡ []) ts (choose M ts) _ e
    (λ ρ p.
    try_part (λ r. r ≡ []) l M (under m d) c (from m q ts) ρ.symbols ρ.action ts _ _ (told n l M (under m d) c (from m q ts) ρ.symbols ρ.action ts)
    (going n l M (under m d) c (from m q ts) ρ.symbols ρ.action ts (row_is inside ts (rows_inside M k.0) p) e (pred (rank M))
    (row_is (leads (pred (rank M))) ts (rows_lead M) p) (omega (arith, a, b, le)))
    (λ s k' u r z.
    let o = left_over M ss j (suc n) (both (nat_lt (rank M) (suc j)) _ h).1 ts s p r.derived le in
    closing (suc n) l K d k' q ss (f u) s k.1 z o.0 o.1 o.2))

only_passed_on : (P : List Item → Type 0) {A : Type 0} (o : Outcome A) → Leaves P o → Leaves P (and_then o (λ s k u. got s k u))
only_passed_on P (got r n v) h = h
only_passed_on P (stop e) h = tt
only_passed_on P spent h = h

phrase_left : (n : ℕ) (l : Limits) (ts : List Item) → Ended ts → 3 * length ts + 3 ≤ n
    → Leaves (λ r. r ≡ []) (read n l phrase 0 0 0 (part Mode.on phrase ∷ []) (λ p. p) ts)
phrase_left zero l ts e le = absurd (omega (arith, le))
phrase_left (suc n) l ts e le =
    try_row (λ r. r ≡ []) ts (choose phrase ts) _ e
    (λ ρ p.
    only_passed_on (λ r. r ≡ []) _
    (closing n l phrase 0 0 0 ρ.symbols ρ.action ts (row_is closes ts tt p) e 2 (row_is (leads 2) ts (rows_lead phrase) p) (omega (arith, le))))

-- what is read, or where reading stops: fuel is what makes it end
pub data Result_of (l : Limits) (ts : List Item) : Type 0 where
  reads : (n : ℕ) (p : NamedPhrase) → Reads l phrase 0 0 0 (part Mode.on phrase ∷ []) (λ p. p) ts [] n p → Result_of l ts
  stops : (e : SyntaxFault) → Stops l 0 0 0 (part Mode.on phrase ∷ []) ts e → Result_of l ts

result_of : (l : Limits) (ts : List Item) (o : Outcome NamedPhrase) → Told l phrase 0 0 0 (part Mode.on phrase ∷ []) (λ p. p) ts o → Leaves (λ r. r ≡ []) o
    → Result_of l ts
result_of l ts (got r n v) h e = reads n v (subst (λ r. Reads l phrase 0 0 0 (part Mode.on phrase ∷ []) (λ p. p) ts r n v) e h)
result_of l ts (stop e) h i = stops e h
result_of l ts spent h i = absurd i

pub total : (l : Limits) (ts : List Item) → Ended ts → Result_of l ts
total l ts e =
    result_of l ts _ (told (3 * length ts + 3) l phrase 0 0 0 (part Mode.on phrase ∷ []) (λ p. p) ts) (phrase_left (3 * length ts + 3) l ts e (omega arith))
