-- What a function promises of the symbols that it has still to read: a line for each step of its code.
use Rattle.std.proofs.Common.{◌≡◌, ℕ, suc, ◌<◌, ◌≤◌, List, [], ◌∷◌, ◌++◌, length, Some, None, Result, Ok, Err, MatchResult, refl, ap, ◌∙◌, sym, subst, add-one}
use Rattle.std.proofs.lemmas.List.{length-append}
use Rattle.std.proofs.lemmas.Result.{err_from_is_err_and}
use Rattle.std.specs.Result.{IsErrAnd}
use Rattle.lexer.specs.Coming.{to_come}
use Rattle.lexer.specs.Items.{Item}
use Rattle.grammar.specs.Notation.{Kind, Val, Mode, on, Guard, Given, Sym, one, begins, whole, part, Action, apply, Row}
use Rattle.grammar.specs.Derives.{choose, under, from}
use Rattle.grammar.specs.Reading.{Limits}
use Rattle.grammar.specs.Steps.{Reads, ReadsPart, Stops, not_allowed, no_token, no_row, too_deep, tree_full, after_token, after_begin, after_end, after_part}
use Rattle.grammar.specs.declared.fault.SyntaxFault.{SyntaxFault}
use Rattle.grammar.specs.declared.fault.SyntaxFault.TheVariants.{TooDeep, TreeFull}
use Rattle.grammar.proofs.Steps.{reads_done, reads_token, reads_begin, reads_end, reads_part, part_reads, part_stops, stops_part}
use Rattle.syntax.specs.declared.node.Node.{Node}
use Rattle.parser.specs.Parsing.{items, nodes, placed, limits, Uses, Refuses, Parsed}
use Rattle.parser.specs.declared.parser.Parser.{Parser}

-- at depth d and with first byte q the symbols ss are read, and what is answered is what Laid says of the value; or reading them stops
pub data Told {X : Type 0} (K : Kind) (d q : ℕ) (ss : List Sym) (f : Action ss (Val K)) (old new : Parser) (Laid : Val K → X → Type 0)
    : Result X SyntaxFault → Type 0 where
  told : {v : Val K} {x : X} → Reads (limits old) K d (placed old) q ss f (items old) (items new) (placed new) v → Laid v x → Told K d q ss f old new Laid (Ok x)
  stopped : {e : SyntaxFault} → Stops (limits old) d (placed old) q ss (items old) e → Told K d q ss f old new Laid (Err e)

pub move_reads : {l k : Limits} {K : Kind} {d b c q : ℕ} {ss : List Sym} {f : Action ss (Val K)} {ts r : List Item} {n : ℕ} {v : Val K} → l ≡ k → b ≡ c
    → Reads l K d b q ss f ts r n v → Reads k K d c q ss f ts r n v
move_reads {l = l} {K = K} {d} {c = c} {q} {ss} {f} {ts} {r} {n} {v} e i h =
    subst (λ y. Reads y K d c q ss f ts r n v) e (subst (λ y. Reads l K d y q ss f ts r n v) i h)

pub move_stops : {l k : Limits} {d b c q : ℕ} {ss : List Sym} {ts : List Item} {x : SyntaxFault} → l ≡ k → b ≡ c → Stops l d b q ss ts x → Stops k d c q ss ts x
move_stops {l = l} {d = d} {c = c} {q} {ss} {ts} {x} e i h = subst (λ y. Stops y d c q ss ts x) e (subst (λ y. Stops l d y q ss ts x) i h)

pub at_items : {l : Limits} {K : Kind} {d c q : ℕ} {ss : List Sym} {f : Action ss (Val K)} {ts us r : List Item} {n : ℕ} {v : Val K} → ts ≡ us
    → Reads l K d c q ss f us r n v → Reads l K d c q ss f ts r n v
at_items {l} {K} {d} {c} {q} {ss} {f} {ts} {us} {r} {n} {v} e h = subst (λ y. Reads l K d c q ss f y r n v) (sym e) h

pub stops_at : {l : Limits} {d c q : ℕ} {ss : List Sym} {ts us : List Item} {x : SyntaxFault} → ts ≡ us → Stops l d c q ss us x → Stops l d c q ss ts x
stops_at {l} {d} {c} {q} {ss} {ts} {us} {x} e h = subst (λ y. Stops l d c q ss y x) (sym e) h

pub at_error : {X : Type 0} {K : Kind} {d q : ℕ} {ss : List Sym} {f : Action ss (Val K)} {p p2 : Parser} {Laid : Val K → X → Type 0} {r : Result X SyntaxFault}
    {e : SyntaxFault} → r ≡ Err e → Stops (limits p) d (placed p) q ss (items p) e → Told K d q ss f p p2 Laid r
at_error {X} {K} {d} {q} {ss} {f} {p} {p2} {Laid} i h = subst (λ y. Told K d q ss f p p2 Laid y) (sym i) (stopped h)

-- where neither the items nor the tree have changed
pub told_same : {X : Type 0} {K : Kind} {d q : ℕ} {ss : List Sym} {f : Action ss (Val K)} (p p1 : Parser) {p2 : Parser} {Laid : Val K → X → Type 0}
    {r : Result X SyntaxFault} → items p1 ≡ items p → p1.tree ≡ p.tree → Told K d q ss f p1 p2 Laid r → Told K d q ss f p p2 Laid r
told_same p p1 i t (told h l) =
    told (at_items (sym i) (move_reads (ap (λ y. limits (record p1 { tree = y })) t) (ap (λ y. placed (record p1 { tree = y })) t) h)) l
told_same p p1 i t (stopped h) =
    stopped (stops_at (sym i) (move_stops (ap (λ y. limits (record p1 { tree = y })) t) (ap (λ y. placed (record p1 { tree = y })) t) h))

-- the row of a kind is taken
pub told_row : {X : Type 0} (K : Kind) {ρ : Row K} (d q : ℕ) (old new : Parser) (Laid : Val K → X → Type 0) (r : Result X SyntaxFault)
    → choose K (items old) ≡ Some ρ → Told K d q ρ.symbols ρ.action old new Laid r → Parsed K d q old new Laid r
told_row K d q old new Laid (Ok x) e (told {v = v} h l) = (v, part_reads e h, l)
told_row K d q old new Laid (Err x) e (stopped h) = part_stops e h

-- no row may be taken
pub no_row_told : {X : Type 0} (K : Kind) (d q : ℕ) (old new : Parser) (Laid : Val K → X → Type 0) (r : Result X SyntaxFault) (i : Item) (more : List Item)
    {e : SyntaxFault} → r ≡ Err e → items old ≡ i ∷ more → choose K (i ∷ more) ≡ None → not_allowed i ≡ e → Parsed K d q old new Laid r
no_row_told {X} K d q old new Laid r i more j h n e = subst (λ y. Parsed K d q old new Laid y) (sym j) (stops_at h (no_row n e))

pub told_done : {X : Type 0} {K : Kind} {d q : ℕ} {p : Parser} {Laid : Val K → X → Type 0} (v : Val K) (x : X) → Laid v x → Told K d q [] v p p Laid (Ok x)
told_done v x l = told reads_done l

-- a token is used; nothing is laid
pub told_token : {X : Type 0} {K : Kind} {d q : ℕ} (g : Guard) {ss : List Sym} {f : Action (one g ∷ ss) (Val K)} (x : Given g) (p p1 : Parser) {p2 : Parser}
    {Laid : Val K → X → Type 0} {r : Result X SyntaxFault} → Uses g x (items p) (items p1) → p1.tree ≡ p.tree
    → Told K d q ss (apply g ss (Val K) f x) p1 p2 Laid r → Told K d q (one g ∷ ss) f p p2 Laid r
told_token g x p p1 u t (told h l) =
    told (at_items u.1 (reads_token u.2 (move_reads (ap (λ y. limits (record p1 { tree = y })) t) (ap (λ y. placed (record p1 { tree = y })) t) h))) l
told_token g x p p1 u t (stopped h) =
    stopped (stops_at u.1 (after_token u.2 (move_stops (ap (λ y. limits (record p1 { tree = y })) t) (ap (λ y. placed (record p1 { tree = y })) t) h)))

pub told_refused : {X : Type 0} {K : Kind} {d q : ℕ} {g : Guard} {ss : List Sym} {f : Action (one g ∷ ss) (Val K)} {p p2 : Parser}
    {Laid : Val K → X → Type 0} {r : Result X SyntaxFault} {e : SyntaxFault} → r ≡ Err e → Refuses g (items p) e → Told K d q (one g ∷ ss) f p p2 Laid r
told_refused i u = at_error i (stops_at u.2 (no_token u.3 u.4))

pub told_begin : {X : Type 0} {K : Kind} {d q : ℕ} {ss : List Sym} {f : Action ss (Val K)} {p p2 : Parser}
    {Laid : Val K → X → Type 0} {r : Result X SyntaxFault} → d < 128 → Told K d q ss f p p2 Laid r → Told K d q (begins ∷ ss) f p p2 Laid r
told_begin lt (told h l) = told (reads_begin lt h) l
told_begin lt (stopped h) = stopped (after_begin lt h)

pub told_too_deep : {X : Type 0} {K : Kind} {d q : ℕ} {ss : List Sym} {f : Action ss (Val K)} {p p2 : Parser}
    {Laid : Val K → X → Type 0} {r : Result X SyntaxFault} {e : SyntaxFault} (first : ℕ) → first ≡ q → r ≡ Err e → (128 ≤ d) × (e ≡ TooDeep first)
    → Told K d q (begins ∷ ss) f p p2 Laid r
told_too_deep {d = d} {q} {ss} {p = p} {e = e} first i j h =
    at_error j (subst (λ y. Stops (limits p) d (placed p) q (begins ∷ ss) (items p) y) (sym (h.1 ∙ ap TooDeep i)) (too_deep h.0))

-- a thing is whole: its node takes the next place
abbrev pub Whole : (first : ℕ) → Node → (old new : Parser) → Result ℕ SyntaxFault → Type 0
Whole first x old new r =
    MatchResult r (λ n. (n ≡ placed old) × (n < (limits old).places) × (nodes new ≡ nodes old ++ x ∷ [])) (λ e. ((limits old).places ≤ placed old) × (e ≡ TreeFull first))

one_more : (old new : Parser) (x : Node) → nodes new ≡ nodes old ++ x ∷ [] → placed new ≡ suc (placed old)
one_more old new x h = ap length h ∙ length-append (nodes old) (x ∷ []) ∙ add-one (placed old)

pub told_full : {X : Type 0} {K : Kind} {d q : ℕ} {ss : List Sym} {f : Action ss (Val K)} {p p2 : Parser}
    {Laid : Val K → X → Type 0} {r : Result X SyntaxFault} {e : SyntaxFault} (first : ℕ) → first ≡ q → r ≡ Err e
    → ((limits p).places ≤ placed p) × (e ≡ TreeFull first) → Told K d q (whole ∷ ss) f p p2 Laid r
told_full {d = d} {q} {ss} {p = p} {e = e} first i j h =
    at_error j (subst (λ y. Stops (limits p) d (placed p) q (whole ∷ ss) (items p) y) (sym (h.1 ∙ ap TreeFull i)) (tree_full h.0))

pub told_whole : {X : Type 0} {K : Kind} {d q : ℕ} {ss : List Sym} {f : Action ss (Val K)} (p p1 : Parser) {p2 : Parser}
    {Laid : Val K → X → Type 0} {r : Result X SyntaxFault} (n : ℕ) (x : Node) → (n ≡ placed p) × (n < (limits p).places) × (nodes p1 ≡ nodes p ++ x ∷ [])
    → p1.tokens ≡ p.tokens → limits p1 ≡ limits p → Told K d q ss f p1 p2 Laid r → Told K d q (whole ∷ ss) f p p2 Laid r
told_whole p p1 n x h t e (told i l) =
    told (reads_end (subst (λ y. y < (limits p).places) h.0 h.1) (at_items (sym (ap to_come t)) (move_reads e (one_more p p1 x h.2) i))) l
told_whole p p1 n x h t e (stopped i) =
    stopped (after_end (subst (λ y. y < (limits p).places) h.0 h.1) (stops_at (sym (ap to_come t)) (move_stops e (one_more p p1 x h.2) i)))

-- the last symbol, and the answer to it is what is answered
pub told_last : {K : Kind} {d q : ℕ} {v : Val K} (p p1 : Parser) {Laid : Val K → ℕ → Type 0} (r : Result ℕ SyntaxFault) (first : ℕ) (x : Node) → first ≡ q
    → Whole first x p p1 r → p1.tokens ≡ p.tokens → limits p1 ≡ limits p
    → ((n : ℕ) → n ≡ placed p → nodes p1 ≡ nodes p ++ x ∷ [] → Laid v n) → Told K d q (whole ∷ []) v p p1 Laid r
told_last {v = v} p p1 (Ok n) first x i h t e l = told_whole p p1 n x h t e (told_done v n (l n h.0 h.2))
told_last p p1 (Err s) first x i h t e l = told_full first i refl h

-- a part is read
pub told_part : {X : Type 0} {K M : Kind} {d q : ℕ} {m : Mode} {ss : List Sym} {f : Val M → Action ss (Val K)} (p p1 : Parser) {p2 : Parser}
    {Laid : Val K → X → Type 0} {r : Result X SyntaxFault} {u : Val M}
    → ReadsPart (limits p) M (under m d) (placed p) (from m q (items p)) (items p) (items p1) (placed p1) u → limits p1 ≡ limits p
    → Told K d q ss (f u) p1 p2 Laid r → Told K d q (part m M ∷ ss) f p p2 Laid r
told_part p p1 h e (told i l) = told (reads_part h (move_reads e refl i)) l
told_part p p1 h e (stopped i) = stopped (after_part h (move_stops e refl i))

pub told_part_stops : {X : Type 0} {K M : Kind} {d q : ℕ} {m : Mode} {ss : List Sym} {f : Val M → Action ss (Val K)} {p p2 : Parser}
    {Laid : Val K → X → Type 0} {r : Result X SyntaxFault} {e : SyntaxFault} → r ≡ Err e
    → Stops (limits p) (under m d) (placed p) (from m q (items p)) (part on M ∷ []) (items p) e → Told K d q (part m M ∷ ss) f p p2 Laid r
told_part_stops i h = at_error i (stops_part h)

-- the last part, and the answer to it is what is answered
pub told_rest : {X : Type 0} {K M : Kind} {d q : ℕ} {f : Val M → Val K} (p p1 : Parser) {Laid : Val K → X → Type 0} (Laid1 : Val M → X → Type 0)
    (r : Result X SyntaxFault) (first : ℕ) → first ≡ q → Parsed M d first p p1 Laid1 r → ((u : Val M) (x : X) → Laid1 u x → Laid (f u) x)
    → Told K d q (part on M ∷ []) f p p1 Laid r
told_rest {M = M} {d} {q} {f} p p1 Laid1 (Ok x) first i h l =
    told (reads_part (subst (λ y. ReadsPart (limits p) M d (placed p) y (items p) (items p1) (placed p1) h.0) i h.1) reads_done) (l h.0 x h.2)
told_rest {M = M} {d} {q} p p1 Laid1 (Err e) first i h l =
    told_part_stops refl (subst (λ y. Stops (limits p) d (placed p) y (part on M ∷ []) (items p) e) i h)

-- what a `?` gives back
pub same_error : {X : Type 0} (r : Result X SyntaxFault) (e : SyntaxFault) → IsErrAnd r (λ y. y ≡ e) → r ≡ Err e
same_error r e h = let p = err_from_is_err_and r h in p.1 ∙ ap Err p.2
