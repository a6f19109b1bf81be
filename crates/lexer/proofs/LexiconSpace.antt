-- Space as the lexicon has it, and as it is skipped.
use Rattle.std.proofs.Common.{◌≡◌, ℕ, zero, suc, ◌+◌, ◌<◌, ◌≤◌, true, false, List, [], ◌∷◌, length, get_or, arith, refl, ◌∙◌, ap, ap₂, sym, subst, inl, inr, Ok, Err}
use Rattle.std.specs.Prelude.{◌≢◌, ◌⊎◌, codes, nat_eq}
use Rattle.std.proofs.lemmas.Bool.{eqb-true, cases_lt}
use Rattle.std.proofs.lemmas.Bool.Decides.{eqb_tells}
use Rattle.lexer.specs.Skipping.{skipped, opens, closes}
use Rattle.lexer.specs.Lexicon.{byte_of, BeginsWith, BeginsIn, Comment, closing, opening, other, Space, blank, comment, ended}
use Rattle.lexer.specs.Faults.{CommentFault, not_closed, not_legal, too_deep, in_opened, behind_opened, behind_other, SpaceFault, behind_blank, in_comment, behind_comment}
use Rattle.lexer.specs.Classes.{class_of, is_blank}
use Rattle.lexer.specs.declared.class.Class.{Class}
use Rattle.lexer.specs.declared.class.Class.TheVariants.{Blank, Letter, Digit, Special, Delimiter, Reserved, Illegal}
use Rattle.lexer.specs.declared.fault.LexicalFault.{LexicalFault}
use Rattle.lexer.proofs.Skipping.{not_both, not_false, not_true, blank_opens_nothing, inner, byte, illegal, deep, not_illegal, first, blank as blank_skipped, no_space}

-- the two bytes of a mark do not stand next
not_opens : (b : ℕ) (bs : List ℕ) → (BeginsWith (codes "(*") (b ∷ bs) → ⊥) → opens b (get_or bs 0 0) ≡ false
not_opens b [] h = not_both (nat_eq b 40) false (λ p q. absurd (not_false q))
not_opens b (c ∷ bs) h = not_both _ _ (λ p q. h (bs, ap₂ (λ (x y : ℕ). x ∷ y ∷ bs) (eqb-true b 40 p) (eqb-true c 42 q)))

not_closes : (b : ℕ) (bs : List ℕ) → (BeginsWith (codes "*)") (b ∷ bs) → ⊥) → closes b (get_or bs 0 0) ≡ false
not_closes b [] h = not_both (nat_eq b 42) false (λ p q. absurd (not_false q))
not_closes b (c ∷ bs) h = not_both _ _ (λ p q. h (bs, ap₂ (λ (x y : ℕ). x ∷ y ∷ bs) (eqb-true b 42 p) (eqb-true c 41 q)))

opens_nothing : (bs : List ℕ) → (BeginsWith (codes "(*") bs → ⊥) → opens (get_or bs 0 0) (get_or bs 1 0) ≡ false
opens_nothing [] h = refl
opens_nothing (b ∷ bs) h = not_opens b bs h

no_blank : (bs : List ℕ) → (BeginsIn is_blank bs → ⊥) → 1 ≤ length bs → is_blank (class_of (get_or bs 0 0)) ≡ false
no_blank [] h l = absurd (omega arith)
no_blank (b ∷ bs) h l = not_true _ (λ t. h (b, bs, refl, t))

pub comment-skips : {n : ℕ} {bs rest : List ℕ} → Comment n bs rest → (whole start : ℕ) (opened : List ℕ) → suc (length opened) ≡ n
    → skipped whole (start ∷ opened) bs ≡ skipped whole opened rest
comment-skips closing whole start opened e = refl
comment-skips (opening {bs = bs} d c more) whole start opened e =
    inner whole start opened (40 ∷ 42 ∷ bs) (omega arith) refl refl (omega arith) ∙ comment-skips c whole _ (start ∷ opened) (ap suc e) ∙ comment-skips more whole start opened e
comment-skips (other {b = b} {bs = bs} o k l more) whole start opened e =
    byte whole start opened (b ∷ bs) (omega arith) (not_opens b bs o) (not_closes b bs k) (not_illegal _ l) ∙ comment-skips more whole start opened e

pub fault-stops : {whole n start : ℕ} {bs : List ℕ} {fault : LexicalFault} → CommentFault whole n start bs fault → (opened : List ℕ) → suc (length opened) ≡ n
    → skipped whole (start ∷ opened) bs ≡ Err fault
fault-stops not_closed opened e = refl
fault-stops {whole = whole} {start = start} (not_legal {b = b} {bs = bs} k) opened e = illegal whole start opened (b ∷ bs) (omega arith) k
fault-stops {whole = whole} {start = start} (too_deep {bs = bs} d) opened e = deep whole start opened (40 ∷ 42 ∷ bs) (omega arith) refl refl (omega arith)
fault-stops {whole = whole} {start = start} (in_opened {bs = bs} d f) opened e =
    inner whole start opened (40 ∷ 42 ∷ bs) (omega arith) refl refl (omega arith) ∙ fault-stops f (start ∷ opened) (ap suc e)
fault-stops {whole = whole} {start = start} (behind_opened {bs = bs} d c f) opened e =
    inner whole start opened (40 ∷ 42 ∷ bs) (omega arith) refl refl (omega arith) ∙ comment-skips c whole _ (start ∷ opened) (ap suc e) ∙ fault-stops f opened e
fault-stops {whole = whole} {start = start} (behind_other {b = b} {bs = bs} o k l f) opened e =
    byte whole start opened (b ∷ bs) (omega arith) (not_opens b bs o) (not_closes b bs k) (not_illegal _ l) ∙ fault-stops f opened e

pub space-skips : {bs rest : List ℕ} → Space bs rest → (whole : ℕ) → skipped whole [] bs ≡ Ok rest
space-skips (blank {b = b} {bs = bs} k s) whole = blank_skipped whole (b ∷ bs) (omega arith) (blank_opens_nothing b (get_or bs 0 0) k) (ap is_blank k) ∙ space-skips s whole
space-skips (comment {bs = bs} c s) whole = first whole (40 ∷ 42 ∷ bs) (omega arith) refl refl ∙ comment-skips c whole _ [] refl ∙ space-skips s whole
space-skips (ended {bs = bs} o k) whole = no_space whole bs (opens_nothing bs o) (no_blank bs k)

pub fault-in-space : {whole : ℕ} {bs : List ℕ} {fault : LexicalFault} → SpaceFault whole bs fault → skipped whole [] bs ≡ Err fault
fault-in-space {whole = whole} (behind_blank {b = b} {bs = bs} k s) =
    blank_skipped whole (b ∷ bs) (omega arith) (blank_opens_nothing b (get_or bs 0 0) k) (ap is_blank k) ∙ fault-in-space s
fault-in-space {whole = whole} (in_comment {bs = bs} f) = first whole (40 ∷ 42 ∷ bs) (omega arith) refl refl ∙ fault-stops f [] refl
fault-in-space {whole = whole} (behind_comment {bs = bs} c s) =
    first whole (40 ∷ 42 ∷ bs) (omega arith) refl refl ∙ comment-skips c whole _ [] refl ∙ fault-in-space s

-- one of the two is so of every comment, and of all space
begins_with : (x y : ℕ) (bs : List ℕ) → BeginsWith (x ∷ y ∷ []) bs ⊎ (BeginsWith (x ∷ y ∷ []) bs → ⊥)
begins_with x y [] = inr (λ h. let e : [] ≡ x ∷ y ∷ h.0 = h.1 in cc)
begins_with x y (b ∷ []) = inr (λ h. let e : b ∷ [] ≡ x ∷ y ∷ h.0 = h.1 in cc)
begins_with x y (b ∷ c ∷ bs) = go (eqb_tells b x) (eqb_tells c y)
  where
    go : ((nat_eq b x ≡ true) × (b ≡ x)) ⊎ ((nat_eq b x ≡ false) × (b ≢ x)) → ((nat_eq c y ≡ true) × (c ≡ y)) ⊎ ((nat_eq c y ≡ false) × (c ≢ y))
        → BeginsWith (x ∷ y ∷ []) (b ∷ c ∷ bs) ⊎ (BeginsWith (x ∷ y ∷ []) (b ∷ c ∷ bs) → ⊥)
    go (inl p) (inl q) = inl (bs, ap₂ (λ (u v : ℕ). u ∷ v ∷ bs) p.1 q.1)
    go (inl p) (inr q) = inr (λ h. q.1 (let e : b ∷ c ∷ bs ≡ x ∷ y ∷ h.0 = h.1 in cc))
    go (inr p) _ = inr (λ h. p.1 (let e : b ∷ c ∷ bs ≡ x ∷ y ∷ h.0 = h.1 in cc))

is_class : (k : Class) → ((k ≡ Illegal) ⊎ (k ≢ Illegal)) × ((k ≡ Blank) ⊎ (is_blank k ≡ false))
is_class Blank = (inr (λ e. absurd (let u : Blank ≡ Illegal = e in cc)), inl refl)
is_class Letter = (inr (λ e. absurd (let u : Letter ≡ Illegal = e in cc)), inr refl)
is_class Digit = (inr (λ e. absurd (let u : Digit ≡ Illegal = e in cc)), inr refl)
is_class Special = (inr (λ e. absurd (let u : Special ≡ Illegal = e in cc)), inr refl)
is_class Delimiter = (inr (λ e. absurd (let u : Delimiter ≡ Illegal = e in cc)), inr refl)
is_class Reserved = (inr (λ e. absurd (let u : Reserved ≡ Illegal = e in cc)), inr refl)
is_class Illegal = (inl refl, inr refl)

abbrev CommentEnds : (whole n start : ℕ) → List ℕ → Type 0
CommentEnds whole n start bs = ((rest : List ℕ) × Comment n bs rest × (length rest < length bs)) ⊎ ((fault : LexicalFault) × CommentFault whole n start bs fault)

module _ (most whole : ℕ) (shorter : (n start : ℕ) (bs : List ℕ) → length bs < most → CommentEnds whole n start bs) where
  behind : (n start : ℕ) (bs mid : List ℕ) → length bs + 1 < most → length mid < length bs → n < 128 → Comment (suc n) bs mid → CommentEnds whole n start mid
      → CommentEnds whole n start (40 ∷ 42 ∷ bs)
  behind n start bs mid l s d c (inl (rest, k, t)) = inl (rest, opening d c k, omega arith)
  behind n start bs mid l s d c (inr (fault, f)) = inr (fault, behind_opened d c f)

  opened_one : (n start : ℕ) (bs : List ℕ) → length bs + 1 < most → n < 128 → CommentEnds whole (suc n) (byte_of whole (40 ∷ 42 ∷ bs)) bs
      → CommentEnds whole n start (40 ∷ 42 ∷ bs)
  opened_one n start bs l d (inl (mid, c, t)) = behind n start bs mid l t d c (shorter n start mid (omega arith))
  opened_one n start bs l d (inr (fault, f)) = inr (fault, in_opened d f)

  opens_one : (n start : ℕ) (bs : List ℕ) → length bs + 1 < most → (n < 128) ⊎ (128 ≤ n) → CommentEnds whole n start (40 ∷ 42 ∷ bs)
  opens_one n start bs l (inr d) = inr (_, too_deep d)
  opens_one n start bs l (inl d) = opened_one n start bs l d (shorter (suc n) _ bs (omega arith))

  passes_one : (n start b : ℕ) (bs : List ℕ) → (BeginsWith (codes "(*") (b ∷ bs) → ⊥) → (BeginsWith (codes "*)") (b ∷ bs) → ⊥)
      → (class_of b ≢ Illegal) → CommentEnds whole n start bs → CommentEnds whole n start (b ∷ bs)
  passes_one n start b bs o k l (inl (rest, c, t)) = inl (rest, other o k l c, omega arith)
  passes_one n start b bs o k l (inr (fault, f)) = inr (fault, behind_other o k l f)

  byte_ends : (n start b : ℕ) (bs : List ℕ) → length bs < most → (BeginsWith (codes "(*") (b ∷ bs) → ⊥) → (BeginsWith (codes "*)") (b ∷ bs) → ⊥)
      → (class_of b ≡ Illegal) ⊎ (class_of b ≢ Illegal) → CommentEnds whole n start (b ∷ bs)
  byte_ends n start b bs l o k (inl e) = inr (_, not_legal e)
  byte_ends n start b bs l o k (inr e) = passes_one n start b bs o k e (shorter n start bs l)

  comment_step : (n start : ℕ) (bs : List ℕ) → length bs < suc most → BeginsWith (codes "(*") bs ⊎ (BeginsWith (codes "(*") bs → ⊥)
      → BeginsWith (codes "*)") bs ⊎ (BeginsWith (codes "*)") bs → ⊥) → CommentEnds whole n start bs
  comment_step n start bs l (inl (rest, e)) k =
      let s : length bs ≡ length (40 ∷ 42 ∷ rest) = ap length e in
      subst (CommentEnds whole n start) (sym e) (opens_one n start rest (omega arith) (cases_lt n 128))
  comment_step n start bs l (inr o) (inl (rest, e)) = subst (CommentEnds whole n start) (sym e) (inl (rest, closing, omega arith))
  comment_step n start [] l (inr o) (inr k) = inr (_, not_closed)
  comment_step n start (b ∷ bs) l (inr o) (inr k) = byte_ends n start b bs (omega arith) o k (is_class (class_of b)).0

comment_ends : (most whole n start : ℕ) (bs : List ℕ) → length bs < most → CommentEnds whole n start bs
comment_ends zero whole n start bs l = absurd (omega arith)
comment_ends (suc most) whole n start bs l = comment_step most whole (comment_ends most whole) n start bs l (begins_with 40 42 bs) (begins_with 42 41 bs)

abbrev pub SpaceEnds : (whole : ℕ) → List ℕ → Type 0
SpaceEnds whole bs = ((rest : List ℕ) × Space bs rest × (length rest ≤ length bs)) ⊎ ((fault : LexicalFault) × SpaceFault whole bs fault)

module _ (most whole : ℕ) (shorter : (bs : List ℕ) → length bs < most → SpaceEnds whole bs) where
  behind_one : (bs mid : List ℕ) → length mid < length bs → Comment 1 bs mid → SpaceEnds whole mid → SpaceEnds whole (40 ∷ 42 ∷ bs)
  behind_one bs mid s c (inl (rest, k, t)) = inl (rest, comment c k, omega arith)
  behind_one bs mid s c (inr (fault, f)) = inr (fault, behind_comment c f)

  comment_first : (bs : List ℕ) → length bs + 1 < most → CommentEnds whole 1 (byte_of whole (40 ∷ 42 ∷ bs)) bs → SpaceEnds whole (40 ∷ 42 ∷ bs)
  comment_first bs l (inl (mid, c, t)) = behind_one bs mid t c (shorter mid (omega arith))
  comment_first bs l (inr (fault, f)) = inr (fault, in_comment f)

  blank_first : (b : ℕ) (bs : List ℕ) → class_of b ≡ Blank → SpaceEnds whole bs → SpaceEnds whole (b ∷ bs)
  blank_first b bs k (inl (rest, c, t)) = inl (rest, blank k c, omega arith)
  blank_first b bs k (inr (fault, f)) = inr (fault, behind_blank k f)

  byte_first : (b : ℕ) (bs : List ℕ) → length bs < most → (BeginsWith (codes "(*") (b ∷ bs) → ⊥) → (class_of b ≡ Blank) ⊎ (is_blank (class_of b) ≡ false) → SpaceEnds whole (b ∷ bs)
  byte_first b bs l o (inl k) = blank_first b bs k (shorter bs l)
  byte_first b bs l o (inr k) = inl (b ∷ bs, ended o (λ h. not_false (sym k ∙ subst (λ (c : ℕ). is_blank (class_of c) ≡ true) (sym (let e : b ∷ bs ≡ h.0 ∷ h.1 = h.2 in cc)) h.3)), omega arith)

  space_step : (bs : List ℕ) → length bs < suc most → BeginsWith (codes "(*") bs ⊎ (BeginsWith (codes "(*") bs → ⊥) → SpaceEnds whole bs
  space_step bs l (inl (rest, e)) =
      let s : length bs ≡ length (40 ∷ 42 ∷ rest) = ap length e in
      subst (SpaceEnds whole) (sym e) (comment_first rest (omega arith) (comment_ends (suc (length rest)) whole 1 _ rest (omega arith)))
  space_step [] l (inr o) = inl ([], ended o (λ h. let e : [] ≡ h.0 ∷ h.1 = h.2 in cc), omega arith)
  space_step (b ∷ bs) l (inr o) = byte_first b bs (omega arith) o (is_class (class_of b)).1

space_ends_within : (most whole : ℕ) (bs : List ℕ) → length bs < most → SpaceEnds whole bs
space_ends_within zero whole bs l = absurd (omega arith)
space_ends_within (suc most) whole bs l = space_step most whole (space_ends_within most whole) bs l (begins_with 40 42 bs)

pub space_ends : (whole : ℕ) (bs : List ℕ) → SpaceEnds whole bs
space_ends whole bs = space_ends_within (suc (length bs)) whole bs (omega arith)
