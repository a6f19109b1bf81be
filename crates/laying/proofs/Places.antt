-- What stands for a node, by those before it.
use Rattle.std.proofs.Common.{◌≡◌, ℕ, zero, suc, ◌+◌, ◌<◌, ◌≤◌, List, [], ◌∷◌, ◌++◌, length, take, drop, get_or, refl, ap, sym, ◌∙◌, arith}
use Rattle.std.proofs.Math.Seq.{split_at}
use Rattle.std.proofs.lemmas.List.{take-append-drop, length-take-le}
use Rattle.judge.specs.Goals.{Placed}
use Rattle.actions.specs.Terms.{placed}
use Rattle.laying.specs.Nodes.{on_line, node_at}
use Rattle.laying.specs.Places.{standing_on, standing}
use Rattle.laying.specs.declared.place.Place.{Place}
use Rattle.laying.proofs.Types.{added, first_added, one_longer}

pub standing_length : (ps : List Placed) (xs : List Place) → length (standing_on ps xs) ≡ length ps + length xs
standing_length ps [] = omega arith
standing_length ps (x ∷ xs) =
    let p = placed (node_at ps) x.term in omega (arith, standing_length (ps ++ p ∷ []) xs, one_longer ps p)

pub kept : (ps : List Placed) (xs : List Place) (i : ℕ) → i < length ps → node_at (standing_on ps xs) i ≡ node_at ps i
kept ps [] i h = refl
kept ps (x ∷ xs) i h =
    let p = placed (node_at ps) x.term in kept (ps ++ p ∷ []) xs i (omega (arith, h, one_longer ps p)) ∙ first_added ps p i h

standing_append : (ps : List Placed) (xs ys : List Place) → standing_on ps (xs ++ ys) ≡ standing_on (standing_on ps xs) ys
standing_append ps [] ys = refl
standing_append ps (x ∷ xs) ys = standing_append (ps ++ placed (node_at ps) x.term ∷ []) xs ys

-- beyond all nodes
pub beyond : (ps : List Placed) (i : ℕ) → length ps ≤ i → node_at ps i ≡ on_line 0
beyond [] i h = refl
beyond (p ∷ ps) zero h = absurd (let z : ⊥ = omega (arith, h) in z)
beyond (p ∷ ps) (suc i) h = beyond ps i (omega (arith, h))

module _ (xs : List Place) (i : ℕ) (h : i ≤ length xs) where
  long : length (standing (take i xs)) ≡ i
  long = let e = standing_length [] (take i xs) in let f = length-take-le i xs h in omega (arith, e, f)

  -- those before a node stand as they stand without the others
  pub earlier : (c : ℕ) → c < i → node_at (standing xs) c ≡ node_at (standing (take i xs)) c
  earlier c less =
      ap (λ ys. node_at (standing ys) c) (sym (take-append-drop i xs)) ∙ ap (λ ps. node_at ps c) (standing_append [] (take i xs) (drop i xs))
      ∙ kept (standing (take i xs)) (drop i xs) c (omega (arith, long, less))

  -- and none of the others stands with them
  pub later : (c : ℕ) → i ≤ c → node_at (standing xs) (length xs) ≡ node_at (standing (take i xs)) c
  later c more =
      beyond (standing xs) (length xs) (let e = standing_length [] xs in omega (arith, e))
      ∙ sym (beyond (standing (take i xs)) c (omega (arith, long, more)))

  pub own : (x : Place) → i < length xs → x ≡ get_or xs i x → node_at (standing xs) i ≡ placed (node_at (standing (take i xs))) x.term
  own x less e =
      ap (λ ys. node_at (standing ys) i) (split_at xs i x less ∙ ap (λ y. take i xs ++ y ∷ drop (suc i) xs) (sym e)) ∙ ap (λ ps. node_at ps i) (standing_append [] (take i xs) (x ∷ drop (suc i) xs))
      ∙ kept (standing (take i xs) ++ p ∷ []) (drop (suc i) xs) i (omega (arith, long, one_longer (standing (take i xs)) p))
      ∙ ap (node_at (standing (take i xs) ++ p ∷ [])) (sym long) ∙ added (standing (take i xs)) p
    where
      p : Placed
      p = placed (node_at (standing (take i xs))) x.term
