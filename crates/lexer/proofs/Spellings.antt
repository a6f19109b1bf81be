-- Names and their spellings.
use Rattle.std.proofs.Common.{◌≡◌, ◌↔◌, ℕ, zero, suc, ◌-◌, ◌≤◌, true, List, [], ◌∷◌, ◌++◌, length, replicate, refl, ap, ap₂, sym, subst, ◌∙◌, arith, All, IsTrue, Some}
use Rattle.std.proofs.lemmas.Slice.Eq.{bytes_eq-Decides}
use Rattle.std.proofs.lemmas.Grind.{common_steps}
use Rattle.lexer.specs.Classes.{class_of, in_word}
use Rattle.lexer.specs.Names.{same, kept, name_spelled, IsSpelling}
use Rattle.lexer.specs.declared.name.Name.{Name}
use Rattle.lexer.proofs.Skipping.{not_false}

-- `same` is equality
pub same_is : (v w : Name) → IsTrue (same v w) ↔ (v ≡ w)
same_is v w = let d = bytes_eq-Decides v.bytes w.bytes in (λ t. ap (λ (b : List ℕ). record { bytes = b }) (d.0 t), λ e. d.1 (ap (λ (n : Name). n.bytes) e))

-- what is in front of the zeros is fixed by the whole, if there are none in it
zero_illegal : (b : ℕ) → b ≡ 0 → IsTrue (in_word (class_of b)) → ⊥
unfolding class_of
zero_illegal b e t = not_false (subst (λ (c : ℕ). in_word (class_of c) ≡ true) e t)

abbrev Legal : List ℕ → Type 0
Legal bs = All (λ b. IsTrue (in_word (class_of b))) bs

padding-same : (v w : List ℕ) (m n : ℕ) → Legal v → Legal w → v ++ replicate m 0 ≡ w ++ replicate n 0 → v ≡ w
padding-same [] [] m n p q e = refl
padding-same [] (b ∷ w) zero n p q e = cc
padding-same [] (b ∷ w) (suc m) n p q e = let z : b ≡ 0 = cc in absurd (zero_illegal b z (q 0 0 (omega arith)))
padding-same (b ∷ v) [] m zero p q e = cc
padding-same (b ∷ v) [] m (suc n) p q e = let z : b ≡ 0 = cc in absurd (zero_illegal b z (p 0 0 (omega arith)))
padding-same (b ∷ v) (c ∷ w) m n p q e =
    let h : b ≡ c = cc in
    let t : v ++ replicate m 0 ≡ w ++ replicate n 0 = cc in
    ap₂ ◌∷◌ h (padding-same v w m n (λ k d l. p (suc k) d (omega arith)) (λ k d l. q (suc k) d (omega arith)) t)

spelled : (v : List ℕ) → length v ≤ 14 → name_spelled v ≡ Some (kept v)
spelled v l = grind (arith, common_steps)

pub kept-same : (v w : List ℕ) → IsSpelling v → IsSpelling w → name_spelled v ≡ name_spelled w → v ≡ w
kept-same v w p q e =
    let k : Some (kept v) ≡ Some (kept w) = sym (spelled v p.short) ∙ e ∙ spelled w q.short in
    let n : kept v ≡ kept w = cc k in
    padding-same v w (14 - length v) (14 - length w) p.letters_and_digits q.letters_and_digits (ap (λ (n : Name). n.bytes) n)
