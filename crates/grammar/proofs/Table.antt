-- What the rows of the grammar have in common, each checked kind by kind.
use Rattle.std.proofs.Common.{◌≡◌, Bool, true, false, not, ◌&&◌, ◌||◌, T, ◌⊎◌, inl, inr, List, [], ◌∷◌, Option, Some, None, Ok, if◌then◌else◌, is_some, refl}
use Rattle.lexer.specs.Items.{Item}
use Rattle.lexer.specs.declared.token.Token.{Token}
use Rattle.lexer.specs.declared.token.Word.{Word}
use Rattle.lexer.specs.declared.token.Word.TheVariants.{Name as Named}
use Rattle.grammar.specs.Notation.{Kind, phrase, let_type_rest, let_term_rest, judged, env, binding_rest, type, type_base, all_rest, arrow_rest, term, term_base, fun_rest, args, argument, Guard, the, at, a_name, name_at, takes, Sym, one, begins, whole, part, Row, row, Entry}
use Rattle.grammar.specs.Grammar.{rows, other}
use Rattle.grammar.specs.Derives.{pick, choose}
use Rattle.grammar.proofs.Rows.{OfEntries, OfOther, of_chosen}

pub both : (a b : Bool) → T (a && b) → T a × T b
both true true h = (tt, tt)
both true false h = elim h [ ]
both false b h = elim h [ ]

-- tokens that may stand

abbrev pub sample_word : Guard → Word
sample_word (the w) = w
sample_word (at w) = w
sample_word a_name = Named (record { bytes = 97 ∷ 0 ∷ 0 ∷ 0 ∷ 0 ∷ 0 ∷ 0 ∷ 0 ∷ 0 ∷ 0 ∷ 0 ∷ 0 ∷ 0 ∷ 0 ∷ [] })
sample_word name_at = Named (record { bytes = 97 ∷ 0 ∷ 0 ∷ 0 ∷ 0 ∷ 0 ∷ 0 ∷ 0 ∷ 0 ∷ 0 ∷ 0 ∷ 0 ∷ 0 ∷ 0 ∷ [] })

abbrev pub sample : Guard → Token
sample g = record { word = sample_word g; byte = 0 }

pub what_is : {A : Type 0} (o : Option A) → T (is_some o) → (x : A) × (o ≡ Some x)
what_is None h = elim h [ ]
what_is (Some x) h = (x, refl)

-- tokens that continue no part

abbrev pub quiet : {K : Kind} → List (Entry K) → Token → Bool
quiet [] t = true
quiet (e ∷ es) t = not (takes e.first t) && quiet es t

pick_quiet : {K : Kind} (es : List (Entry K)) (t : Token) (o : Option (Row K)) → T (quiet es t) → pick es t o ≡ o
pick_quiet [] t o h = refl
pick_quiet {K} (e ∷ es) t o h = go (takes e.first t) h (pick_quiet es t o)
  where
    go : (b : Bool) → T (not b && quiet es t) → (T (quiet es t) → pick es t o ≡ o)
        → (if b then Some (row (one e.first ∷ e.others) e.action) else pick es t o) ≡ o
    go true h k = elim h [ ]
    go false h k = k h

abbrev pub calm : Token → Bool
calm t = quiet (rows env) t && (quiet (rows arrow_rest) t && quiet (rows args) t)

abbrev pub Calm : List Item → Type 0
Calm ts = (choose env ts ≡ other env) × (choose arrow_rest ts ≡ other arrow_rest) × (choose args ts ≡ other args)

pub is_calm : (t : Token) (ts : List Item) → T (calm t) → Calm (Ok t ∷ ts)
is_calm t ts h =
    let a = both (quiet (rows env) t) (quiet (rows arrow_rest) t && quiet (rows args) t) h in
    let b = both (quiet (rows arrow_rest) t) (quiet (rows args) t) a.1 in
    (pick_quiet (rows env) t (other env) a.0, pick_quiet (rows arrow_rest) t (other arrow_rest) b.0, pick_quiet (rows args) t (other args) b.1)

-- tests of rows

-- may be nothing
abbrev pub optional : Kind → Bool
optional env = true
optional arrow_rest = true
optional args = true
optional _ = false

-- cannot be nothing
abbrev pub eats : List Sym → Bool
eats [] = false
eats (one g ∷ ss) = true
eats (begins ∷ ss) = eats ss
eats (whole ∷ ss) = eats ss
eats (part m M ∷ ss) = not (optional M) || eats ss

-- what can stand behind a part: a token that continues no part, after optional parts; or nothing, if b
abbrev pub tail : (b : Bool) → List Sym → Bool
tail b [] = b
tail b (one g ∷ ss) = calm (sample g)
tail b (begins ∷ ss) = tail b ss
tail b (whole ∷ ss) = tail b ss
tail b (part m M ∷ ss) = optional M && tail b ss

-- each guard lets some token stand, and each part can be ended
abbrev pub neat : (b : Bool) → List Sym → Bool
neat b [] = true
neat b (one g ∷ ss) = takes g (sample g) && neat b ss
neat b (begins ∷ ss) = neat b ss
neat b (whole ∷ ss) = neat b ss
neat b (part m M ∷ ss) = tail b ss && neat b ss

-- a phrase ends with a token of its own
abbrev pub open_ended : Kind → Bool
open_ended phrase = false
open_ended _ = true

abbrev pub all_rows : {K : Kind} → (List Sym → Bool) → List (Entry K) → Option (Row K) → Bool
all_rows p [] None = true
all_rows p [] (Some ρ) = p ρ.symbols
all_rows p (e ∷ es) o = p (one e.first ∷ e.others) && all_rows p es o

of_entries : {K : Kind} (p : List Sym → Bool) (es : List (Entry K)) (o : Option (Row K)) → T (all_rows p es o) → OfEntries (λ ρ. T (p ρ.symbols)) es
of_entries p [] o h = tt
of_entries p (e ∷ es) o h = let k = both (p (one e.first ∷ e.others)) (all_rows p es o) h in (k.0, of_entries p es o k.1)

of_other : {K : Kind} (p : List Sym → Bool) (es : List (Entry K)) (o : Option (Row K)) → T (all_rows p es o) → OfOther (λ ρ. T (p ρ.symbols)) o
of_other p [] None h = tt
of_other p [] (Some ρ) h = h
of_other p (e ∷ es) o h = of_other p es o (both (p (one e.first ∷ e.others)) (all_rows p es o) h).1

pub row_is : {M : Kind} (p : List Sym → Bool) {ρ : Row M} (ts : List Item) → T (all_rows p (rows M) (other M)) → choose M ts ≡ Some ρ
    → T (p ρ.symbols)
row_is {M} p ts h e = of_chosen (λ ρ. T (p ρ.symbols)) ts (of_entries p (rows M) (other M) h) (of_other p (rows M) (other M) h) e

pub all_neat : (M : Kind) → T (all_rows (neat (open_ended M)) (rows M) (other M))
all_neat phrase = tt
all_neat let_type_rest = tt
all_neat let_term_rest = tt
all_neat judged = tt
all_neat env = tt
all_neat binding_rest = tt
all_neat type = tt
all_neat type_base = tt
all_neat all_rest = tt
all_neat arrow_rest = tt
all_neat term = tt
all_neat term_base = tt
all_neat fun_rest = tt
all_neat args = tt
all_neat argument = tt

pub row_neat : {M : Kind} {ρ : Row M} (ts : List Item) → choose M ts ≡ Some ρ → T (neat (open_ended M) ρ.symbols)
row_neat {M} ts e = row_is (neat (open_ended M)) ts (all_neat M) e

-- the part is nothing, and is nothing before all that continues no part
pub record Skips {M : Kind} (ρ : Row M) : Type 0 where
  pub skipped : T (optional M)
  pub is_nothing : ρ.symbols ≡ []
  pub stays : (ts : List Item) → Calm ts → choose M ts ≡ Some ρ

-- a part that is chosen uses an item, or is nothing

abbrev Either : {M : Kind} → Row M → Type 0
Either ρ = T (eats ρ.symbols) ⊎ Skips ρ

entries_eat : {M : Kind} (es : List (Entry M)) → OfEntries Either es
entries_eat [] = tt
entries_eat (e ∷ es) = (inl tt, entries_eat es)

skips : {M : Kind} {ρ : Row M} → T (optional M) → ρ.symbols ≡ [] → ((ts : List Item) → Calm ts → choose M ts ≡ Some ρ) → Either ρ
skips o e h = inr (record { skipped = o; is_nothing = e; stays = h })

other_row : (M : Kind) → OfOther Either (other M)
other_row env = skips tt refl (λ ts c. c.0)
other_row arrow_rest = skips tt refl (λ ts c. c.1)
other_row args = skips tt refl (λ ts c. c.2)
other_row phrase = inl tt
other_row type = inl tt
other_row term = inl tt
other_row argument = inl tt
other_row M = tt

pub eats_or_skips : {M : Kind} {ρ : Row M} (ts : List Item) → choose M ts ≡ Some ρ → T (eats ρ.symbols) ⊎ Skips ρ
eats_or_skips {M} ts e = of_chosen Either ts (entries_eat (rows M)) (other_row M) e
