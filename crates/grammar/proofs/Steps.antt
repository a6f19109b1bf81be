-- One step more: for functions that read by the grammar, a line for each way through their code.
use Rattle.std.proofs.Common.{◌≡◌, ℕ, suc, ◌<◌, List, [], ◌∷◌, ◌++◌, Some, None, Ok, refl, ap, ◌∙◌, sym, subst}
use Rattle.lexer.specs.Items.{Item}
use Rattle.lexer.specs.declared.token.Token.{Token}
use Rattle.grammar.specs.Notation.{Kind, Val, Mode, Guard, Given, taken, Sym, one, begins, whole, part, Action, apply, Row}
use Rattle.grammar.specs.Derives.{choose, under, from, Event, began, ended, done, token, begin, end, by}
use Rattle.grammar.specs.Reading.{Limits, count, Within}
use Rattle.grammar.specs.Steps.{Reads, ReadsPart, not_allowed, Stops, no_row, in_part, after_part, StopsPart}
use Rattle.grammar.specs.declared.fault.SyntaxFault.{SyntaxFault}

pub count_append : (c : ℕ) (es hs : List Event) → count c (es ++ hs) ≡ count (count c es) hs
count_append c [] hs = refl
count_append c (began d q ∷ es) hs = count_append c es hs
count_append c (ended q ∷ es) hs = count_append (suc c) es hs

pub within_append : (l : Limits) (c : ℕ) (es hs : List Event) → Within l c es → Within l (count c es) hs → Within l c (es ++ hs)
within_append l c [] hs w v = v
within_append l c (began d q ∷ es) hs w v = (w.0, within_append l c es hs w.1 v)
within_append l c (ended q ∷ es) hs w v = (w.0, within_append l (suc c) es hs w.1 v)

-- what is read

pub reads_done : {l : Limits} {K : Kind} {d c q : ℕ} {ts : List Item} {v : Val K} → Reads l K d c q [] v ts ts c v
reads_done = record { events = []; derived = done; within = tt; counted = refl }

pub reads_token : {l : Limits} {K : Kind} {d c q : ℕ} {g : Guard} {ss : List Sym} {f : Action (one g ∷ ss) (Val K)} {t : Token} {x : Given g}
    {ts r : List Item} {n : ℕ} {v : Val K} → taken g t ≡ Some x → Reads l K d c q ss (apply g ss (Val K) f x) ts r n v
    → Reads l K d c q (one g ∷ ss) f (Ok t ∷ ts) r n v
reads_token e h = record { events = h.events; derived = token e h.derived; within = h.within; counted = h.counted }

pub reads_begin : {l : Limits} {K : Kind} {d c q : ℕ} {ss : List Sym} {f : Action ss (Val K)} {ts r : List Item} {n : ℕ} {v : Val K}
    → d < l.levels → Reads l K d c q ss f ts r n v → Reads l K d c q (begins ∷ ss) f ts r n v
reads_begin {d = d} {q = q} lt h = record { events = began d q ∷ h.events; derived = begin h.derived; within = (lt, h.within); counted = h.counted }

pub reads_end : {l : Limits} {K : Kind} {d c q : ℕ} {ss : List Sym} {f : Action ss (Val K)} {ts r : List Item} {n : ℕ} {v : Val K}
    → c < l.places → Reads l K d (suc c) q ss f ts r n v → Reads l K d c q (whole ∷ ss) f ts r n v
reads_end {q = q} lt h = record { events = ended q ∷ h.events; derived = end h.derived; within = (lt, h.within); counted = h.counted }

pub reads_part : {l : Limits} {K M : Kind} {d c q : ℕ} {m : Mode} {ss : List Sym} {f : Val M → Action ss (Val K)} {ts s r : List Item} {n k : ℕ}
    {u : Val M} {v : Val K} → ReadsPart l M (under m d) c (from m q ts) ts s n u → Reads l K d n q ss (f u) s r k v
    → Reads l K d c q (part m M ∷ ss) f ts r k v
reads_part {l} {c = c} {n = n} h k =
    let i = h.reads in
    record {
      events = i.events ++ k.events;
      derived = by h.row h.chosen i.derived k.derived;
      within = within_append l c i.events k.events i.within (subst (λ a. Within l a k.events) (sym i.counted) k.within);
      counted = count_append c i.events k.events ∙ ap (λ a. count a k.events) i.counted ∙ k.counted;
    }

pub part_reads : {l : Limits} {K : Kind} {d c q : ℕ} {ts r : List Item} {n : ℕ} {v : Val K} {ρ : Row K} → choose K ts ≡ Some ρ
    → Reads l K d c q ρ.symbols ρ.action ts r n v → ReadsPart l K d c q ts r n v
part_reads {ρ = ρ} e h = record { row = ρ; chosen = e; reads = h }

-- where reading stops

pub part_stops : {l : Limits} {K : Kind} {d c q : ℕ} {ts : List Item} {e : SyntaxFault} {ρ : Row K} → choose K ts ≡ Some ρ
    → Stops l d c q ρ.symbols ts e → StopsPart l K d c q ts e
part_stops {ρ = ρ} e h = in_part ρ e h

pub part_no_row : {l : Limits} {K : Kind} {d c q : ℕ} {i : Item} {ts : List Item} → choose K (i ∷ ts) ≡ None
    → StopsPart l K d c q (i ∷ ts) (not_allowed i)
part_no_row e = no_row e refl

pub stops_part : {l : Limits} {K : Kind} {d c q : ℕ} {m : Mode} {ss : List Sym} {ts : List Item} {e : SyntaxFault}
    → StopsPart l K (under m d) c (from m q ts) ts e → Stops l d c q (part m K ∷ ss) ts e
stops_part (no_row e f) = no_row e f
stops_part (in_part ρ e h) = in_part ρ e h
stops_part (after_part h k) = elim k [ ]
