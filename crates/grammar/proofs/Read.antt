-- Reading as a function: with enough fuel it tells what is read, or where reading stops.
use Rattle.std.proofs.Common.{◌≡◌, ℕ, zero, suc, ◌<◌, Bool, true, false, List, [], ◌∷◌, Option, Some, None, Ok, Err, nat_lt, refl, ◌∙◌, sym}
use Rattle.std.proofs.lemmas.Bool.{ltb-true, ltb-false}
use Rattle.std.proofs.lemmas.Option.{none-some}
use Rattle.lexer.specs.Items.{Item}
use Rattle.lexer.specs.declared.token.Token.{Token}
use Rattle.grammar.specs.Notation.{Kind, Val, Mode, Guard, Given, taken, Sym, one, begins, whole, part, Action, apply, Row}
use Rattle.grammar.specs.Derives.{choose, under, from}
use Rattle.grammar.specs.Reading.{Limits}
use Rattle.grammar.specs.Steps.{Reads, ReadsPart, not_allowed, Stops, no_token, no_row, too_deep, tree_full, after_token, after_begin, after_end, in_part, after_part}
use Rattle.grammar.specs.declared.fault.SyntaxFault.{SyntaxFault}
use Rattle.grammar.specs.declared.fault.SyntaxFault.TheVariants.{Lexical, Unexpected, TooDeep, TreeFull}
use Rattle.grammar.proofs.Steps.{reads_done, reads_token, reads_begin, reads_end, reads_part, part_reads}

pub data Outcome (A : Type 0) : Type 0 where
  got : (left : List Item) (n : ℕ) → A → Outcome A
  stop : SyntaxFault → Outcome A
  -- the fuel does not last, or the items end too early
  spent : Outcome A

abbrev pub and_then : {A B : Type 0} → Outcome A → (List Item → ℕ → A → Outcome B) → Outcome B
and_then (got r n x) k = k r n x
and_then (stop e) k = stop e
and_then spent k = spent

abbrev pub if_some : {A B : Type 0} → Option A → Outcome B → (A → Outcome B) → Outcome B
if_some None o k = o
if_some (Some x) o k = k x

abbrev pub where_none : {A : Type 0} → List Item → Outcome A
where_none [] = spent
where_none (i ∷ ts) = stop (not_allowed i)

abbrev pub read : (fuel : ℕ) → Limits → (K : Kind) (d c q : ℕ) (ss : List Sym) → Action ss (Val K) → List Item → Outcome (Val K)
read n l K d c q [] v ts = got ts c v
read n l K d c q (one g ∷ ss) f [] = spent
read n l K d c q (one g ∷ ss) f (Err e ∷ ts) = stop (Lexical e)
read n l K d c q (one g ∷ ss) f (Ok t ∷ ts) = if_some (taken g t) (stop (Unexpected t.byte)) (λ x. read n l K d c q ss (apply g ss (Val K) f x) ts)
read n l K d c q (begins ∷ ss) f ts = elim (nat_lt d l.levels) [ true ↦ read n l K d c q ss f ts | false ↦ stop (TooDeep q) ]
read n l K d c q (whole ∷ ss) f ts = elim (nat_lt c l.places) [ true ↦ read n l K d (suc c) q ss f ts | false ↦ stop (TreeFull q) ]
read zero l K d c q (part m M ∷ ss) f ts = spent
read (suc n) l K d c q (part m M ∷ ss) f ts =
    if_some (choose M ts) (where_none ts)
    (λ ρ. and_then (read n l M (under m d) c (from m q ts) ρ.symbols ρ.action ts) (λ s k u. read (suc n) l K d k q ss (f u) s))

abbrev pub Told : (l : Limits) (K : Kind) (d c q : ℕ) (ss : List Sym) → Action ss (Val K) → List Item → Outcome (Val K) → Type 0
Told l K d c q ss f ts (got r n v) = Reads l K d c q ss f ts r n v
Told l K d c q ss f ts (stop e) = Stops l d c q ss ts e
Told l K d c q ss f ts spent = Unit {0}

token_told : (l : Limits) (K : Kind) (d c q : ℕ) (g : Guard) (ss : List Sym) (f : Action (one g ∷ ss) (Val K)) (t : Token) (ts : List Item) (x : Given g)
    (o : Outcome (Val K)) → taken g t ≡ Some x → Told l K d c q ss (apply g ss (Val K) f x) ts o → Told l K d c q (one g ∷ ss) f (Ok t ∷ ts) o
token_told l K d c q g ss f t ts x (got r n v) e h = reads_token e h
token_told l K d c q g ss f t ts x (stop s) e h = after_token e h
token_told l K d c q g ss f t ts x spent e h = tt

try_token : (l : Limits) (K : Kind) (d c q : ℕ) (g : Guard) (ss : List Sym) (f : Action (one g ∷ ss) (Val K)) (t : Token) (ts : List Item)
    (k : Given g → Outcome (Val K)) → ((x : Given g) → Told l K d c q ss (apply g ss (Val K) f x) ts (k x)) → (o : Option (Given g)) → taken g t ≡ o
    → Told l K d c q (one g ∷ ss) f (Ok t ∷ ts) (if_some o (stop (Unexpected t.byte)) k)
try_token l K d c q g ss f t ts k h None e = no_token (λ y. none-some y.0 (sym e ∙ y.1)) refl
try_token l K d c q g ss f t ts k h (Some x) e = token_told l K d c q g ss f t ts x (k x) e (h x)

begin_told : (l : Limits) (K : Kind) (d c q : ℕ) (ss : List Sym) (f : Action ss (Val K)) (ts : List Item) (o : Outcome (Val K)) → d < l.levels
    → Told l K d c q ss f ts o → Told l K d c q (begins ∷ ss) f ts o
begin_told l K d c q ss f ts (got r n v) lt h = reads_begin lt h
begin_told l K d c q ss f ts (stop s) lt h = after_begin lt h
begin_told l K d c q ss f ts spent lt h = tt

end_told : (l : Limits) (K : Kind) (d c q : ℕ) (ss : List Sym) (f : Action ss (Val K)) (ts : List Item) (o : Outcome (Val K)) → c < l.places
    → Told l K d (suc c) q ss f ts o → Told l K d c q (whole ∷ ss) f ts o
end_told l K d c q ss f ts (got r n v) lt h = reads_end lt h
end_told l K d c q ss f ts (stop s) lt h = after_end lt h
end_told l K d c q ss f ts spent lt h = tt

try_begin : (l : Limits) (K : Kind) (d c q : ℕ) (ss : List Sym) (f : Action ss (Val K)) (ts : List Item) (o : Outcome (Val K)) → Told l K d c q ss f ts o
    → (b : Bool) → nat_lt d l.levels ≡ b → Told l K d c q (begins ∷ ss) f ts (elim b [ true ↦ o | false ↦ stop (TooDeep q) ])
try_begin l K d c q ss f ts o h true e = begin_told l K d c q ss f ts o (ltb-true d l.levels e) h
try_begin l K d c q ss f ts o h false e = too_deep (ltb-false d l.levels e)

try_end : (l : Limits) (K : Kind) (d c q : ℕ) (ss : List Sym) (f : Action ss (Val K)) (ts : List Item) (o : Outcome (Val K)) → Told l K d (suc c) q ss f ts o
    → (b : Bool) → nat_lt c l.places ≡ b → Told l K d c q (whole ∷ ss) f ts (elim b [ true ↦ o | false ↦ stop (TreeFull q) ])
try_end l K d c q ss f ts o h true e = end_told l K d c q ss f ts o (ltb-true c l.places e) h
try_end l K d c q ss f ts o h false e = tree_full (ltb-false c l.places e)

part_told : (l : Limits) (K M : Kind) (d c q n : ℕ) (m : Mode) (ss : List Sym) (f : Val M → Action ss (Val K)) (ts s : List Item) (u : Val M)
    (o : Outcome (Val K)) → ReadsPart l M (under m d) c (from m q ts) ts s n u → Told l K d n q ss (f u) s o → Told l K d c q (part m M ∷ ss) f ts o
part_told l K M d c q n m ss f ts s u (got r k v) h i = reads_part h i
part_told l K M d c q n m ss f ts s u (stop e) h i = after_part h i
part_told l K M d c q n m ss f ts s u spent h i = tt

try_part : (l : Limits) (K M : Kind) (d c q : ℕ) (m : Mode) (ss : List Sym) (f : Val M → Action ss (Val K)) (ts : List Item) (ρ : Row M) → choose M ts ≡ Some ρ
    → (k : List Item → ℕ → Val M → Outcome (Val K)) → ((s : List Item) (n : ℕ) (u : Val M) → Told l K d n q ss (f u) s (k s n u))
    → (o : Outcome (Val M)) → Told l M (under m d) c (from m q ts) ρ.symbols ρ.action ts o
    → Told l K d c q (part m M ∷ ss) f ts (and_then o k)
try_part l K M d c q m ss f ts ρ e k h (got s n u) i = part_told l K M d c q n m ss f ts s u (k s n u) (part_reads e i) (h s n u)
try_part l K M d c q m ss f ts ρ e k h (stop x) i = in_part ρ e i
try_part l K M d c q m ss f ts ρ e k h spent i = tt

try_row : (l : Limits) (K M : Kind) (d c q : ℕ) (m : Mode) (ss : List Sym) (f : Val M → Action ss (Val K)) (ts : List Item)
    (k : Row M → Outcome (Val K)) → ((ρ : Row M) → choose M ts ≡ Some ρ → Told l K d c q (part m M ∷ ss) f ts (k ρ))
    → (o : Option (Row M)) → choose M ts ≡ o → Told l K d c q (part m M ∷ ss) f ts (if_some o (where_none ts) k)
try_row l K M d c q m ss f [] k h None e = tt
try_row l K M d c q m ss f (i ∷ ts) k h None e = no_row e refl
try_row l K M d c q m ss f ts k h (Some ρ) e = h ρ e

-- the function tells what is so
pub told : (fuel : ℕ) (l : Limits) (K : Kind) (d c q : ℕ) (ss : List Sym) (f : Action ss (Val K)) (ts : List Item)
    → Told l K d c q ss f ts (read fuel l K d c q ss f ts)
told n l K d c q [] v ts = reads_done
told n l K d c q (one g ∷ ss) f [] = tt
told n l K d c q (one g ∷ ss) f (Err e ∷ ts) = no_token (λ y. y) refl
told n l K d c q (one g ∷ ss) f (Ok t ∷ ts) =
    try_token l K d c q g ss f t ts _ (λ x. told n l K d c q ss (apply g ss (Val K) f x) ts) (taken g t) refl
told n l K d c q (begins ∷ ss) f ts = try_begin l K d c q ss f ts _ (told n l K d c q ss f ts) (nat_lt d l.levels) refl
told n l K d c q (whole ∷ ss) f ts = try_end l K d c q ss f ts _ (told n l K d (suc c) q ss f ts) (nat_lt c l.places) refl
told zero l K d c q (part m M ∷ ss) f ts = tt
told (suc n) l K d c q (part m M ∷ ss) f ts =
    try_row l K M d c q m ss f ts _
    (λ ρ e. try_part l K M d c q m ss f ts ρ e _ (λ s k u. told (suc n) l K d k q ss (f u) s) _ (told n l M (under m d) c (from m q ts) ρ.symbols ρ.action ts))
    (choose M ts) refl
