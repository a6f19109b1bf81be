-- A list of items has one answer at most.
use Rattle.std.proofs.Common.{◌≡◌, ℕ, suc, ◌⊎◌, List, [], ◌∷◌, ◌++◌, Result, Ok, Err, refl, ap, ◌∙◌, sym, subst, inl, inr, append_assoc}
use Rattle.lexer.specs.Items.{Item}
use Rattle.syntax.specs.Named.{NamedPhrase}
use Rattle.grammar.specs.Derives.{Event, began, ended, Spells}
use Rattle.grammar.specs.Reading.{Limits, count, Fits, Within, Begins, FirstWrong, NoneBeyond, FirstBeyond, Answered}
use Rattle.grammar.specs.Steps.{not_allowed}
use Rattle.grammar.specs.declared.fault.SyntaxFault.{SyntaxFault}
use Rattle.grammar.specs.declared.fault.SyntaxFault.TheVariants.{Lexical, Unexpected, TooDeep, TreeFull}
use Rattle.grammar.proofs.Unique.{unique}
use Rattle.grammar.specs.Written.{WrittenPhrase}
use Rattle.grammar.proofs.Events.{Prefix, met_all, met_first, comparable}
use Rattle.grammar.proofs.Stopping.{within_first}
use Rattle.grammar.proofs.ToWritten.{spells_written}
use Rattle.grammar.proofs.FromWritten.{written_spells}

head_or : {A : Type 0} → A → List A → A
head_or x [] = x
head_or x (y ∷ ys) = y

tail_of : {A : Type 0} → List A → List A
tail_of [] = []
tail_of (y ∷ ys) = ys

pub same_head : {A : Type 0} {x y : A} {xs ys : List A} → x ∷ xs ≡ y ∷ ys → x ≡ y
unfolding head_or
same_head {x = x} e = ap (head_or x) e

pub same_tail : {A : Type 0} {x y : A} {xs ys : List A} → x ∷ xs ≡ y ∷ ys → xs ≡ ys
unfolding tail_of
same_tail e = ap tail_of e

abbrev IsEmpty : {A : Type 0} → List A → Type 0
IsEmpty [] = Unit {0}
IsEmpty (x ∷ xs) = ⊥

pub not_empty : {A B : Type 0} {x : A} {xs : List A} → [] ≡ x ∷ xs → B
not_empty e = absurd (subst IsEmpty e tt)

not_behind : {A B : Type 0} (xs : List A) (x : A) (ys : List A) → [] ≡ xs ++ x ∷ ys → B
not_behind [] x ys e = not_empty e
not_behind (y ∷ xs) x ys e = not_empty e

-- the items

-- two places in one list: the same, or one before the other
abbrev Split : {A : Type 0} → (u : List A) → A → (w : List A) → A → Type 0
Split {A} u i w j = (i ≡ j) ⊎ (((x : List A) × (w ≡ u ++ i ∷ x)) ⊎ ((x : List A) × (u ≡ w ++ j ∷ x)))

split : {A : Type 0} (u w : List A) (i j : A) (v x : List A) → u ++ i ∷ v ≡ w ++ j ∷ x → Split u i w j
split [] [] i j v x e = inl (same_head e)
split [] (b ∷ w) i j v x e = inr (inl (w, ap (λ a. a ∷ w) (sym (same_head e))))
split (a ∷ u) [] i j v x e = inr (inr (u, ap (λ b. b ∷ u) (same_head e)))
split (a ∷ u) (b ∷ w) i j v x e = go (split u w i j v x (same_tail e))
  where
    go : Split u i w j → Split (a ∷ u) i (b ∷ w) j
    go (inl h) = inl h
    go (inr (inl h)) = inr (inl (h.0, ap (λ c. c ∷ w) (sym (same_head e)) ∙ ap (λ y. a ∷ y) h.1))
    go (inr (inr h)) = inr (inr (h.0, ap (λ c. c ∷ u) (same_head e) ∙ ap (λ y. b ∷ y) h.1))

begins_before : (u w : List Item) (i : Item) (x : List Item) → w ≡ u ++ i ∷ x → Begins w → Begins (u ++ i ∷ [])
begins_before u w i x e b =
    (x ++ b.0, b.1, subst (λ y. WrittenPhrase y b.1) (ap (λ y. y ++ b.0) e ∙ append_assoc u (i ∷ x) b.0 ∙ sym (append_assoc u (i ∷ []) (x ++ b.0))) b.2)

pub one_wrong : {items : List Item} {i j : Item} → FirstWrong items i → FirstWrong items j → i ≡ j
one_wrong {i = i} {j} f g = go (split f.0 g.0 i j f.1 g.1 (sym f.2 ∙ g.2))
  where
    go : Split f.0 i g.0 j → i ≡ j
    go (inl e) = e
    go (inr (inl h)) = absurd (f.4 (begins_before f.0 g.0 i h.0 h.1 g.3))
    go (inr (inr h)) = absurd (g.4 (begins_before g.0 f.0 j h.0 h.1 f.3))

not_wrong : {items : List Item} {i : Item} {es : List Event} {p : NamedPhrase} → Spells items es p → FirstWrong items i → ⊥
not_wrong {i = i} {es} {p} s f = f.4 (f.1, p, subst (λ y. WrittenPhrase y p) (f.2 ∙ sym (append_assoc f.0 (i ∷ []) f.1)) (spells_written s))

-- the events

within_at : (l : Limits) (c : ℕ) (es : List Event) (e : Event) (hs : List Event) → Within l c (es ++ e ∷ hs) → Fits l (count c es) e
within_at l c [] e hs w = w.0
within_at l c (began d q ∷ es) e hs w = within_at l c es e hs w.1
within_at l c (ended q ∷ es) e hs w = within_at l (suc c) es e hs w.1

not_within : (l : Limits) (c : ℕ) (es : List Event) (e : Event) {all : List Event} → Prefix (es ++ e ∷ []) all → Within l c all → (Fits l (count c es) e → ⊥) → ⊥
not_within l c es e p w n =
    n (within_at l c es e p.others (subst (Within l c) (p.is ∙ append_assoc es (e ∷ []) p.others) w))

-- of two lists that end with an event beyond the limits
one_event : (l : Limits) (c : ℕ) (es hs : List Event) (e h : Event) (ks : List Event) → Within l c es → Within l c hs → (Fits l (count c es) e → ⊥)
    → hs ++ h ∷ [] ≡ es ++ e ∷ ks → e ≡ h
one_event l c [] [] e h ks w v n p = sym (same_head p)
one_event l c [] (b ∷ hs) e h ks w v n p = absurd (n (subst (Fits l c) (same_head p) v.0))
one_event l c (a ∷ es) [] e h ks w v n p = not_behind es e ks (same_tail p)
one_event l c (a ∷ es) (b ∷ hs) e h ks w v n p =
    one_event l (count c (a ∷ [])) es hs e h ks w.1 (subst (λ x. Within l (count c (x ∷ [])) hs) (same_head p) v.1) (λ f. n (go a f)) (same_tail p)
  where
    go : (a : Event) → Fits l (count (count c (a ∷ [])) es) e → Fits l (count c (a ∷ es)) e
    go (began d q) f = f
    go (ended q) f = f

pub one_beyond : {l : Limits} {items : List Item} {e h : Event} → FirstBeyond l items e → FirstBeyond l items h → e ≡ h
one_beyond {l} {e = e} {h} x y = go (comparable x.1 y.1)
  where
    go : Prefix (x.0 ++ e ∷ []) (y.0 ++ h ∷ []) ⊎ Prefix (y.0 ++ h ∷ []) (x.0 ++ e ∷ []) → e ≡ h
    go (inl p) = one_event l 0 x.0 y.0 e h p.others x.2 y.2 x.3 (p.is ∙ append_assoc x.0 (e ∷ []) p.others)
    go (inr p) = sym (one_event l 0 y.0 x.0 h e p.others y.2 x.2 y.3 (p.is ∙ append_assoc y.0 (h ∷ []) p.others))

not_beyond : {l : Limits} {items : List Item} {e : Event} {es : List Event} {p : NamedPhrase} → Spells items es p → Within l 0 es → FirstBeyond l items e → ⊥
not_beyond {l} {e = e} s w x = not_within l 0 x.0 e (met_first x.1 s) w x.3

none_beyond : {l : Limits} {items : List Item} {e : Event} → NoneBeyond l items → FirstBeyond l items e → ⊥
none_beyond {l} {items} {e} n x = x.3 (within_at l 0 x.0 e [] (n (x.0 ++ e ∷ []) x.1))

-- the answer

abbrev pub fault_of : Event → SyntaxFault
fault_of (began depth byte) = TooDeep byte
fault_of (ended byte) = TreeFull byte

pub data View (l : Limits) (items : List Item) (a : Result NamedPhrase SyntaxFault) : Type 0 where
  is_read : (p : NamedPhrase) (es : List Event) → Ok p ≡ a → Spells items es p → Within l 0 es → View l items a
  is_wrong : (i : Item) → Err (not_allowed i) ≡ a → FirstWrong items i → NoneBeyond l items → View l items a
  is_beyond : (e : Event) → Err (fault_of e) ≡ a → FirstBeyond l items e → View l items a

pub viewed : (l : Limits) (items : List Item) (a : Result NamedPhrase SyntaxFault) → Answered l items a → View l items a
viewed l items (Ok p) x = let s = written_spells x.0 in is_read p s.0 refl s.1 (x.1 s.0 (met_all s.1))
viewed l items (Err (Lexical f)) x = is_wrong (Err f) refl x.0 x.1
viewed l items (Err (Unexpected k)) x = is_wrong (Ok x.0) (ap (λ k. Err (Unexpected k)) x.1) x.2 x.3
viewed l items (Err (TooDeep k)) x = is_beyond (began x.0 k) refl x.1
viewed l items (Err (TreeFull k)) x = is_beyond (ended k) refl x

pub spelled_answered : (l : Limits) (items : List Item) (p : NamedPhrase) {es : List Event} → Spells items es p → Within l 0 es → Answered l items (Ok p)
spelled_answered l items p s w =
    (spells_written s, λ hs m. let k = met_first m s in within_first l 0 hs k.others (subst (Within l 0) k.is w))

pub answered_wrong : (l : Limits) (items : List Item) (i : Item) → FirstWrong items i → NoneBeyond l items → Answered l items (Err (not_allowed i))
answered_wrong l items (Ok t) f n = (t, refl, f, n)
answered_wrong l items (Err e) f n = (f, n)

pub answered_beyond : (l : Limits) (items : List Item) (e : Event) → FirstBeyond l items e → Answered l items (Err (fault_of e))
answered_beyond l items (began d k) x = (d, x)
answered_beyond l items (ended k) x = x

one_view : {l : Limits} {items : List Item} {a b : Result NamedPhrase SyntaxFault} → View l items a → View l items b → a ≡ b
one_view (is_read p es e s w) (is_read p' es' e' s' w') = sym e ∙ ap Ok (unique s s').value ∙ e'
one_view (is_read p es e s w) (is_wrong i e' f n) = absurd (not_wrong s f)
one_view (is_read p es e s w) (is_beyond x e' f) = absurd (not_beyond s w f)
one_view (is_wrong i e f n) (is_read p es e' s w) = absurd (not_wrong s f)
one_view (is_wrong i e f n) (is_wrong j e' f' n') = sym e ∙ ap (λ k. Err (not_allowed k)) (one_wrong f f') ∙ e'
one_view (is_wrong i e f n) (is_beyond x e' f') = absurd (none_beyond n f')
one_view (is_beyond x e f) (is_read p es e' s w) = absurd (not_beyond s w f)
one_view (is_beyond x e f) (is_wrong i e' f' n) = absurd (none_beyond n f)
one_view (is_beyond x e f) (is_beyond y e' f') = sym e ∙ ap (λ k. Err (fault_of k)) (one_beyond f f') ∙ e'

pub one_answer : (l : Limits) (items : List Item) (a b : Result NamedPhrase SyntaxFault) → Answered l items a → Answered l items b → a ≡ b
one_answer l items a b x y = one_view (viewed l items a x) (viewed l items b y)
