-- How the skipping of space goes on, by what the next two bytes are.
use Rattle.std.proofs.Common.{◌≡◌, ℕ, ◌+◌, ◌<◌, ◌≤◌, true, false, List, [], ◌∷◌, length, take, drop, get_or, sym, ◌-◌, length-drop, arith, refl, ◌∙◌, ap, ap₂, subst, Ok, Err}
use Rattle.std.specs.Prelude.{◌≢◌, ◌&&◌, Bool, IsTrue, nat_eq}
use Rattle.std.proofs.lemmas.Bool.{eqb-true}
use Rattle.std.proofs.lemmas.List.{take_all}
use Rattle.std.proofs.lemmas.Grind.{common_steps}
use Rattle.lexer.specs.Skipping.{skipped, opens, closes}
use Rattle.lexer.specs.Lexicon.{byte_of}
use Rattle.lexer.specs.Classes.{class_of, is_blank, is_illegal}
use Rattle.lexer.specs.declared.fault.LexicalFault.TheVariants.{NoToken, DeepComment}
use Rattle.lexer.specs.declared.class.Class.{Class}
use Rattle.lexer.specs.declared.class.Class.TheVariants.{Blank, Letter, Digit, Special, Delimiter, Reserved, Illegal}

pub not_both : (p q : Bool) → (p ≡ true → q ≡ true → ⊥) → (p && q) ≡ false
not_both false q h = refl
not_both true false h = refl
not_both true true h = absurd (h refl refl)

pub not_false : false ≡ true → ⊥
not_false e = cc

pub not_true : (b : Bool) → (IsTrue b → ⊥) → b ≡ false
not_true false h = refl
not_true true h = absurd (h refl)

-- the bytes of the marks are neither Blank nor Illegal
class_of-open : (b : ℕ) → b ≡ 40 → class_of b ≡ Delimiter
unfolding class_of
class_of-open b e = subst (λ (x : ℕ). class_of x ≡ Delimiter) (sym e) refl

class_of-star : (b : ℕ) → b ≡ 42 → class_of b ≡ Special
unfolding class_of
class_of-star b e = subst (λ (x : ℕ). class_of x ≡ Special) (sym e) refl

pub blank_opens_nothing : (b c : ℕ) → class_of b ≡ Blank → opens b c ≡ false
blank_opens_nothing b c k = not_both (nat_eq b 40) (nat_eq c 42) (λ p q. let d : Delimiter ≡ Blank = sym (class_of-open b (eqb-true b 40 p)) ∙ k in cc)

illegal_opens_nothing : (b c : ℕ) → class_of b ≡ Illegal → opens b c ≡ false
illegal_opens_nothing b c k = not_both (nat_eq b 40) (nat_eq c 42) (λ p q. let d : Delimiter ≡ Illegal = sym (class_of-open b (eqb-true b 40 p)) ∙ k in cc)

illegal_closes_nothing : (b c : ℕ) → class_of b ≡ Illegal → closes b c ≡ false
illegal_closes_nothing b c k = not_both (nat_eq b 42) (nat_eq c 41) (λ p q. let d : Special ≡ Illegal = sym (class_of-star b (eqb-true b 42 p)) ∙ k in cc)

tail_all : (k n : ℕ) (s : List ℕ) → n ≡ length s → take (n - k) (drop k s) ≡ drop k s
tail_all k n s e = take_all (n - k) (drop k s) (omega (arith, length-drop k s))

pub inner : (whole first : ℕ) (opened bs : List ℕ) → 2 ≤ length bs → get_or bs 0 0 ≡ 40 → get_or bs 1 0 ≡ 42 → length opened + 1 < 128
    → skipped whole (first ∷ opened) bs ≡ skipped whole (byte_of whole bs ∷ first ∷ opened) (drop 2 bs)
inner whole first opened [] n e f d = absurd (omega arith)
inner whole first opened (b ∷ []) n e f d = absurd (omega arith)
inner whole first opened (b ∷ c ∷ bs) n e f d = grind (arith, common_steps)

pub at_inner : (n here whole first : ℕ) (opened bs : List ℕ) → 2 ≤ length bs → get_or bs 0 0 ≡ 40 → get_or bs 1 0 ≡ 42 → length opened + 1 < 128 → n ≡ length bs
    → here ≡ byte_of whole bs → skipped whole (first ∷ opened) bs ≡ skipped whole (here ∷ first ∷ opened) (take (n - 2) (drop 2 bs))
at_inner n here whole first opened bs l e f d q h =
    inner whole first opened bs l e f d ∙ ap₂ (λ (o : ℕ) (b : List ℕ). skipped whole (o ∷ first ∷ opened) b) (sym h) (sym (tail_all 2 n bs q))

pub close : (whole first : ℕ) (opened bs : List ℕ) → 2 ≤ length bs → get_or bs 0 0 ≡ 42 → get_or bs 1 0 ≡ 41
    → skipped whole (first ∷ opened) bs ≡ skipped whole opened (drop 2 bs)
close whole first opened [] n e f = absurd (omega arith)
close whole first opened (b ∷ []) n e f = absurd (omega arith)
close whole first opened (b ∷ c ∷ bs) n e f = grind (arith, common_steps)

pub at_close : (n whole first : ℕ) (opened bs : List ℕ) → 2 ≤ length bs → get_or bs 0 0 ≡ 42 → get_or bs 1 0 ≡ 41 → n ≡ length bs
    → skipped whole (first ∷ opened) bs ≡ skipped whole opened (take (n - 2) (drop 2 bs))
at_close n whole first opened bs l e f q = close whole first opened bs l e f ∙ ap (skipped whole opened) (sym (tail_all 2 n bs q))

pub not_illegal : (k : Class) → (k ≢ Illegal) → is_illegal k ≡ false
not_illegal Blank z = refl
not_illegal Letter z = refl
not_illegal Digit z = refl
not_illegal Special z = refl
not_illegal Delimiter z = refl
not_illegal Reserved z = refl
not_illegal Illegal z = absurd (z refl)

-- one byte that is no part of a mark
pub byte : (whole first : ℕ) (opened bs : List ℕ) → 1 ≤ length bs → opens (get_or bs 0 0) (get_or bs 1 0) ≡ false → closes (get_or bs 0 0) (get_or bs 1 0) ≡ false
    → is_illegal (class_of (get_or bs 0 0)) ≡ false → skipped whole (first ∷ opened) bs ≡ skipped whole (first ∷ opened) (drop 1 bs)
byte whole first opened [] n x y z = absurd (omega arith)
byte whole first opened (b ∷ []) n x y z = grind (arith, common_steps)
byte whole first opened (b ∷ c ∷ bs) n x y z = grind (arith, common_steps)

pub at_byte : (n whole first : ℕ) (opened bs : List ℕ) → 1 ≤ length bs → opens (get_or bs 0 0) (get_or bs 1 0) ≡ false → closes (get_or bs 0 0) (get_or bs 1 0) ≡ false
    → (class_of (get_or bs 0 0) ≢ Illegal) → n ≡ length bs → skipped whole (first ∷ opened) bs ≡ skipped whole (first ∷ opened) (take (n - 1) (drop 1 bs))
at_byte n whole first opened bs l x y z q = byte whole first opened bs l x y (not_illegal _ z) ∙ ap (skipped whole (first ∷ opened)) (sym (tail_all 1 n bs q))

-- what is wrong in a comment
pub illegal : (whole first : ℕ) (opened bs : List ℕ) → 1 ≤ length bs → class_of (get_or bs 0 0) ≡ Illegal → skipped whole (first ∷ opened) bs ≡ Err (NoToken (byte_of whole bs))
illegal whole first opened [] n x = absurd (omega arith)
illegal whole first opened (b ∷ []) n x = grind (arith, common_steps)
illegal whole first opened (b ∷ c ∷ bs) n x =
    let o = illegal_opens_nothing b c x in
    let k = illegal_closes_nothing b c x in
    grind (arith, common_steps)

pub deep : (whole first : ℕ) (opened bs : List ℕ) → 2 ≤ length bs → get_or bs 0 0 ≡ 40 → get_or bs 1 0 ≡ 42 → 128 ≤ length opened + 1
    → skipped whole (first ∷ opened) bs ≡ Err (DeepComment (byte_of whole bs))
deep whole first opened [] n e f d = absurd (omega arith)
deep whole first opened (b ∷ []) n e f d = absurd (omega arith)
deep whole first opened (b ∷ c ∷ bs) n e f d = grind (arith, common_steps)

-- outside of comments
pub first : (whole : ℕ) (bs : List ℕ) → 2 ≤ length bs → get_or bs 0 0 ≡ 40 → get_or bs 1 0 ≡ 42 → skipped whole [] bs ≡ skipped whole (byte_of whole bs ∷ []) (drop 2 bs)
first whole [] n e f = absurd (omega arith)
first whole (b ∷ []) n e f = absurd (omega arith)
first whole (b ∷ c ∷ bs) n e f = grind (arith, common_steps)

pub at_first : (n here whole : ℕ) (bs : List ℕ) → 2 ≤ length bs → get_or bs 0 0 ≡ 40 → get_or bs 1 0 ≡ 42 → n ≡ length bs
    → here ≡ byte_of whole bs → skipped whole [] bs ≡ skipped whole (here ∷ []) (take (n - 2) (drop 2 bs))
at_first n here whole bs l e f q h =
    first whole bs l e f ∙ ap₂ (λ (o : ℕ) (b : List ℕ). skipped whole (o ∷ []) b) (sym h) (sym (tail_all 2 n bs q))

pub blank : (whole : ℕ) (bs : List ℕ) → 1 ≤ length bs → opens (get_or bs 0 0) (get_or bs 1 0) ≡ false → is_blank (class_of (get_or bs 0 0)) ≡ true
    → skipped whole [] bs ≡ skipped whole [] (drop 1 bs)
blank whole [] n x y = absurd (omega arith)
blank whole (b ∷ []) n x y = grind (arith, common_steps)
blank whole (b ∷ c ∷ bs) n x y = grind (arith, common_steps)

pub at_blank : (n whole : ℕ) (bs : List ℕ) → 1 ≤ length bs → opens (get_or bs 0 0) (get_or bs 1 0) ≡ false → class_of (get_or bs 0 0) ≡ Blank
    → n ≡ length bs → skipped whole [] bs ≡ skipped whole [] (take (n - 1) (drop 1 bs))
at_blank n whole bs l x y q = blank whole bs l x (ap is_blank y) ∙ ap (skipped whole []) (sym (tail_all 1 n bs q))

pub not_blank : (k : Class) → (k ≢ Blank) → is_blank k ≡ false
not_blank Blank z = absurd (z refl)
not_blank Letter z = refl
not_blank Digit z = refl
not_blank Special z = refl
not_blank Delimiter z = refl
not_blank Reserved z = refl
not_blank Illegal z = refl

pub no_space : (whole : ℕ) (bs : List ℕ) → opens (get_or bs 0 0) (get_or bs 1 0) ≡ false → (1 ≤ length bs → is_blank (class_of (get_or bs 0 0)) ≡ false)
    → skipped whole [] bs ≡ Ok bs
no_space whole [] x y = refl
no_space whole (b ∷ []) x y = let z : is_blank (class_of b) ≡ false = y (omega arith) in grind (arith, common_steps)
no_space whole (b ∷ c ∷ bs) x y = let z : is_blank (class_of b) ≡ false = y (omega arith) in grind (arith, common_steps)

pub at_end_of_space : (whole : ℕ) (bs : List ℕ) → opens (get_or bs 0 0) (get_or bs 1 0) ≡ false → (1 ≤ length bs → class_of (get_or bs 0 0) ≢ Blank)
    → skipped whole [] bs ≡ Ok bs
at_end_of_space whole bs x y = no_space whole bs x (λ l. not_blank _ (y l))
