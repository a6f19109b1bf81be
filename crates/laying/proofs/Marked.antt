-- The nodes of a tree before which an omitted bound stands are those that its nodes name.
use Rattle.std.proofs.Common.{◌≡◌, ℕ, suc, ◌+◌, ◌<◌, ◌≤◌, Bool, true, false, List, [], ◌∷◌, ◌++◌, refl, ap, sym, ◌∙◌, arith}
use Rattle.std.specs.Prelude.{◌||◌, ◌==◌}
use Rattle.std.proofs.lemmas.Bool.{eq-eqb, eqb-true}
use Rattle.scope.specs.Scoped.{ScopedType, top, var, defined, arrow, all, all_unbounded, rec, ScopedTerm, top_term, term_var, fun, appl, fun2, fun2_unbounded, appl2, fold_term, unfold_term, rec_term}
use Rattle.scope.specs.ScopedLayout.{type_places, type_node, type_nodes, term_places, term_node, term_nodes}
use Rattle.syntax.specs.declared.node.Node.{Node}
use Rattle.syntax.specs.declared.node.Node.TheVariants.{Arrow, All, AllUnbounded, RecType, Fun, Appl, Fun2, Fun2Unbounded, Appl2, Fold, Unfold, RecTerm}
use Rattle.laying.specs.Nodes.{opens_at, opens}
use Rattle.laying.proofs.Types.{Marks, type_some}
use Rattle.laying.proofs.Terms.{Marks_term, term_some}

or_assoc : (a b c : Bool) → (a || (b || c)) ≡ ((a || b) || c)
or_assoc true b c = refl
or_assoc false b c = refl

pub or_none : (a : Bool) → (a || false) ≡ a
or_none true = refl
or_none false = refl

or_any : (a : Bool) → (a || true) ≡ true
or_any true = refl
or_any false = refl

apart : (n i : ℕ) → n < i → (n == i) ≡ false
apart n i h = go (n == i) refl
  where
    go : (b : Bool) → (n == i) ≡ b → b ≡ false
    go true e = absurd (let z : ⊥ = omega (arith, eqb-true n i e, h) in z)
    go false e = refl

unequal : (n i : ℕ) → i < n → (n == i) ≡ false
unequal n i h = go (n == i) refl
  where
    go : (b : Bool) → (n == i) ≡ b → b ≡ false
    go true e = absurd (let z : ⊥ = omega (arith, eqb-true n i e, h) in z)
    go false e = refl

pub opens_append : (xs ys : List Node) (i : ℕ) → opens (xs ++ ys) i ≡ (opens xs i || opens ys i)
opens_append [] ys i = refl
opens_append (x ∷ xs) ys i = ap (λ b. opens_at x i || b) (opens_append xs ys i) ∙ or_assoc (opens_at x i) (opens xs i) (opens ys i)

-- of three parts
opens_three : (xs ys : List Node) (z : Node) (i : ℕ) → opens (xs ++ ys ++ z ∷ []) i ≡ ((opens xs i || opens ys i) || (opens_at z i || false))
opens_three xs ys z i = opens_append (xs ++ ys) (z ∷ []) i ∙ ap (λ b. b || (opens_at z i || false)) (opens_append xs ys i)

none_three : (xs ys : List Node) (z : Node) (i : ℕ) → opens xs i ≡ false → opens ys i ≡ false → opens_at z i ≡ false → opens (xs ++ ys ++ z ∷ []) i ≡ false
none_three xs ys z i e f g = opens_three xs ys z i ∙ (λ j. (e j || f j) || (g j || false))

none_two : (xs : List Node) (z : Node) (i : ℕ) → opens xs i ≡ false → opens_at z i ≡ false → opens (xs ++ z ∷ []) i ≡ false
none_two xs z i e g = opens_append xs (z ∷ []) i ∙ (λ j. e j || (g j || false))

pub above : (n : ℕ) (A : ScopedType ℕ) (i : ℕ) → i < n → opens (type_nodes n A) i ≡ false
above n top i h = refl
above n (var k) i h = refl
above n (defined x) i h = refl
above n (arrow A B) i h = none_three (type_nodes n A) (type_nodes (n + type_places A) B) _ i (above n A i h) (above (n + type_places A) B i (omega (arith, h))) refl
above n (all A B) i h = none_three (type_nodes n A) (type_nodes (n + type_places A) B) _ i (above n A i h) (above (n + type_places A) B i (omega (arith, h))) refl
above n (all_unbounded B) i h = none_two (type_nodes n B) _ i (above n B i h) (unequal n i h)
above n (rec B) i h = none_two (type_nodes n B) _ i (above n B i h) refl

pub below : (n : ℕ) (A : ScopedType ℕ) (i : ℕ) → n + type_places A ≤ suc i → opens (type_nodes n A) i ≡ false
below n top i h = refl
below n (var k) i h = refl
below n (defined x) i h = refl
below n (arrow A B) i h = none_three (type_nodes n A) (type_nodes (n + type_places A) B) _ i (below n A i (omega (arith, h))) (below (n + type_places A) B i (omega (arith, h))) refl
below n (all A B) i h = none_three (type_nodes n A) (type_nodes (n + type_places A) B) _ i (below n A i (omega (arith, h))) (below (n + type_places A) B i (omega (arith, h))) refl
below n (all_unbounded B) i h = none_two (type_nodes n B) _ i (below n B i (omega (arith, h))) (apart n i (omega (arith, h, type_some B)))
below n (rec B) i h = none_two (type_nodes n B) _ i (below n B i (omega (arith, h))) refl

pub above_term : (n : ℕ) (a : ScopedTerm ℕ) (i : ℕ) → i < n → opens (term_nodes n a) i ≡ false
above_term n (top_term byte) i h = refl
above_term n (term_var byte v) i h = refl
above_term n (fun byte A a) i h = none_three (type_nodes n A) (term_nodes (n + type_places A) a) _ i (above n A i h) (above_term (n + type_places A) a i (omega (arith, h))) refl
above_term n (appl byte c a) i h = none_three (term_nodes n c) (term_nodes (n + term_places c) a) _ i (above_term n c i h) (above_term (n + term_places c) a i (omega (arith, h))) refl
above_term n (fun2 byte A a) i h = none_three (type_nodes n A) (term_nodes (n + type_places A) a) _ i (above n A i h) (above_term (n + type_places A) a i (omega (arith, h))) refl
above_term n (appl2 byte c A) i h = none_three (term_nodes n c) (type_nodes (n + term_places c) A) _ i (above_term n c i h) (above (n + term_places c) A i (omega (arith, h))) refl
above_term n (fold_term byte A a) i h = none_three (type_nodes n A) (term_nodes (n + type_places A) a) _ i (above n A i h) (above_term (n + type_places A) a i (omega (arith, h))) refl
above_term n (rec_term byte A a) i h = none_three (type_nodes n A) (term_nodes (n + type_places A) a) _ i (above n A i h) (above_term (n + type_places A) a i (omega (arith, h))) refl
above_term n (fun2_unbounded byte c) i h = none_two (term_nodes n c) _ i (above_term n c i h) (unequal n i h)
above_term n (unfold_term byte c) i h = none_two (term_nodes n c) _ i (above_term n c i h) refl

pub below_term : (n : ℕ) (a : ScopedTerm ℕ) (i : ℕ) → n + term_places a ≤ suc i → opens (term_nodes n a) i ≡ false
below_term n (top_term byte) i h = refl
below_term n (term_var byte v) i h = refl
below_term n (fun byte A a) i h = none_three (type_nodes n A) (term_nodes (n + type_places A) a) _ i (below n A i (omega (arith, h))) (below_term (n + type_places A) a i (omega (arith, h))) refl
below_term n (appl byte c a) i h = none_three (term_nodes n c) (term_nodes (n + term_places c) a) _ i (below_term n c i (omega (arith, h))) (below_term (n + term_places c) a i (omega (arith, h))) refl
below_term n (fun2 byte A a) i h = none_three (type_nodes n A) (term_nodes (n + type_places A) a) _ i (below n A i (omega (arith, h))) (below_term (n + type_places A) a i (omega (arith, h))) refl
below_term n (appl2 byte c A) i h = none_three (term_nodes n c) (type_nodes (n + term_places c) A) _ i (below_term n c i (omega (arith, h))) (below (n + term_places c) A i (omega (arith, h))) refl
below_term n (fold_term byte A a) i h = none_three (type_nodes n A) (term_nodes (n + type_places A) a) _ i (below n A i (omega (arith, h))) (below_term (n + type_places A) a i (omega (arith, h))) refl
below_term n (rec_term byte A a) i h = none_three (type_nodes n A) (term_nodes (n + type_places A) a) _ i (below n A i (omega (arith, h))) (below_term (n + type_places A) a i (omega (arith, h))) refl
below_term n (fun2_unbounded byte c) i h = none_two (term_nodes n c) _ i (below_term n c i (omega (arith, h))) (apart n i (omega (arith, h, term_some c)))
below_term n (unfold_term byte c) i h = none_two (term_nodes n c) _ i (below_term n c i (omega (arith, h))) refl

module _ (marked : ℕ → Bool) where
  -- of these nodes, numbered from n, those are marked that are named, and the first if so is b
  abbrev pub Named_only : Bool → ℕ → (places : ℕ) → List Node → Type 0
  Named_only b n places xs = (marked n ≡ (opens xs n || b)) × ((i : ℕ) → n < i → i < n + places → marked i ≡ opens xs i)

  first_three : (b : Bool) (n p q : ℕ) (xs ys : List Node) (z : Node) → ((i : ℕ) → opens_at z i ≡ false) → ((i : ℕ) → i < n + p → opens ys i ≡ false) → 1 ≤ p
      → Named_only b n (p + q + 1) (xs ++ ys ++ z ∷ []) → Named_only b n p xs
  first_three b n p q xs ys z never low some (first, more) = (
    first ∙ ap (λ c. c || b) (opens_three xs ys z n ∙ (λ j. (opens xs n || low n (omega (arith, some)) j) || (never n j || false)) ∙ or_none (opens xs n || false) ∙ or_none (opens xs n)),
    λ i h k. more i h (omega (arith, k)) ∙ opens_three xs ys z i ∙ (λ j. (opens xs i || low i k j) || (never i j || false)) ∙ or_none (opens xs i || false) ∙ or_none (opens xs i),
  )

  second_three : (b : Bool) (n p q : ℕ) (xs ys : List Node) (z : Node) → ((i : ℕ) → opens_at z i ≡ false) → ((i : ℕ) → n + p ≤ suc i → opens xs i ≡ false) → 1 ≤ p → 1 ≤ q
      → Named_only b n (p + q + 1) (xs ++ ys ++ z ∷ []) → Named_only false (n + p) q ys
  second_three b n p q xs ys z never high some more_some (first, more) = (
    more (n + p) (omega (arith, some)) (omega (arith, more_some)) ∙ opens_three xs ys z (n + p) ∙ (λ j. (high (n + p) (omega arith) j || opens ys (n + p)) || (never (n + p) j || false)),
    λ i h k. more i (omega (arith, h)) (omega (arith, k)) ∙ opens_three xs ys z i ∙ (λ j. (high i (omega (arith, h)) j || opens ys i) || (never i j || false)) ∙ or_none (opens ys i),
  )

  own_three : (b : Bool) (n p q : ℕ) (xs ys : List Node) (z : Node) → ((i : ℕ) → opens_at z i ≡ false) → ((i : ℕ) → n + p ≤ suc i → opens xs i ≡ false)
      → ((i : ℕ) → n + p + q ≤ suc i → opens ys i ≡ false) → 1 ≤ p
      → Named_only b n (p + q + 1) (xs ++ ys ++ z ∷ []) → marked (n + p + q) ≡ false
  own_three b n p q xs ys z never high higher some (first, more) =
      more (n + p + q) (omega (arith, some)) (omega arith) ∙ none_three xs ys z (n + p + q) (high (n + p + q) (omega arith)) (higher (n + p + q) (omega arith)) (never (n + p + q))

  first_two : (b : Bool) (n p : ℕ) (xs : List Node) (z : Node) → ((i : ℕ) → opens_at z i ≡ false) → Named_only b n (p + 1) (xs ++ z ∷ []) → Named_only b n p xs
  first_two b n p xs z never (first, more) = (
    first ∙ ap (λ c. c || b) (opens_append xs (z ∷ []) n ∙ (λ j. opens xs n || (never n j || false)) ∙ or_none (opens xs n)),
    λ i h k. more i h (omega (arith, k)) ∙ opens_append xs (z ∷ []) i ∙ (λ j. opens xs i || (never i j || false)) ∙ or_none (opens xs i),
  )

  own_two : (b : Bool) (n p : ℕ) (xs : List Node) (z : Node) → ((i : ℕ) → n < i → opens_at z i ≡ false) → ((i : ℕ) → n + p ≤ suc i → opens xs i ≡ false) → 1 ≤ p
      → Named_only b n (p + 1) (xs ++ z ∷ []) → marked (n + p) ≡ false
  own_two b n p xs z never high some (first, more) =
      more (n + p) (omega (arith, some)) (omega arith) ∙ none_two xs z (n + p) (high (n + p) (omega arith)) (never (n + p) (omega (arith, some)))

  named_first : (b : Bool) (n p : ℕ) (xs : List Node) (z : Node) → opens_at z n ≡ true → Named_only b n (p + 1) (xs ++ z ∷ []) → marked n ≡ true
  named_first b n p xs z here (first, more) =
      first ∙ ap (λ c. c || b) (opens_append xs (z ∷ []) n ∙ (λ j. opens xs n || (here j || false)) ∙ or_any (opens xs n))

  named_two : (b : Bool) (n p : ℕ) (xs : List Node) (z : Node) → opens_at z n ≡ true → ((i : ℕ) → n < i → opens_at z i ≡ false)
      → Named_only b n (p + 1) (xs ++ z ∷ []) → Named_only true n p xs
  named_two b n p xs z here never (first, more) = (
    named_first b n p xs z here (first, more) ∙ sym (or_any (opens xs n)),
    λ i h k. more i h (omega (arith, k)) ∙ opens_append xs (z ∷ []) i ∙ (λ j. opens xs i || (never i h j || false)) ∙ or_none (opens xs i),
  )

  pub marks_type : (A : ScopedType ℕ) (b : Bool) (n : ℕ) → Named_only b n (type_places A) (type_nodes n A) → Marks marked b n A
  marks_type top b n (first, more) = first
  marks_type (var k) b n (first, more) = first
  marks_type (defined x) b n (first, more) = first
  marks_type (arrow A B) b n h =
      let m = n + type_places A in let xs = type_nodes n A in let ys = type_nodes m B in let z = Arrow (type_node n A) (type_node m B) in (
        marks_type A b n (first_three b n (type_places A) (type_places B) xs ys z (λ i. refl) (λ i k. above m B i k) (type_some A) h),
        marks_type B false m (second_three b n (type_places A) (type_places B) xs ys z (λ i. refl) (λ i k. below n A i k) (type_some A) (type_some B) h),
        own_three b n (type_places A) (type_places B) xs ys z (λ i. refl) (λ i k. below n A i k) (λ i k. below m B i k) (type_some A) h,
      )
  marks_type (all A B) b n h =
      let m = n + type_places A in let xs = type_nodes n A in let ys = type_nodes m B in let z = All (type_node n A) (type_node m B) in (
        marks_type A b n (first_three b n (type_places A) (type_places B) xs ys z (λ i. refl) (λ i k. above m B i k) (type_some A) h),
        marks_type B false m (second_three b n (type_places A) (type_places B) xs ys z (λ i. refl) (λ i k. below n A i k) (type_some A) (type_some B) h),
        own_three b n (type_places A) (type_places B) xs ys z (λ i. refl) (λ i k. below n A i k) (λ i k. below m B i k) (type_some A) h,
      )
  marks_type (all_unbounded B) b n h =
      let xs = type_nodes n B in let z = AllUnbounded n (type_node n B) in (
        named_first b n (type_places B) xs z (eq-eqb n n refl) h,
        marks_type B true n (named_two b n (type_places B) xs z (eq-eqb n n refl) (λ i k. apart n i k) h),
        own_two b n (type_places B) xs z (λ i k. apart n i k) (λ i k. below n B i k) (type_some B) h,
      )
  marks_type (rec B) b n h =
      let xs = type_nodes n B in let z = RecType (type_node n B) in (
        marks_type B b n (first_two b n (type_places B) xs z (λ i. refl) h),
        own_two b n (type_places B) xs z (λ i k. refl) (λ i k. below n B i k) (type_some B) h,
      )

  pub marks_term : (a : ScopedTerm ℕ) (b : Bool) (n : ℕ) → Named_only b n (term_places a) (term_nodes n a) → Marks_term marked b n a
  marks_term (top_term byte) b n (first, more) = first
  marks_term (term_var byte v) b n (first, more) = first
  marks_term (fun byte A a) b n h =
      let m = n + type_places A in let xs = type_nodes n A in let ys = term_nodes m a in let z = Fun byte (type_node n A) (term_node m a) in (
        marks_type A b n (first_three b n (type_places A) (term_places a) xs ys z (λ i. refl) (λ i k. above_term m a i k) (type_some A) h),
        marks_term a false m (second_three b n (type_places A) (term_places a) xs ys z (λ i. refl) (λ i k. below n A i k) (type_some A) (term_some a) h),
        own_three b n (type_places A) (term_places a) xs ys z (λ i. refl) (λ i k. below n A i k) (λ i k. below_term m a i k) (type_some A) h,
      )
  marks_term (appl byte c a) b n h =
      let m = n + term_places c in let xs = term_nodes n c in let ys = term_nodes m a in let z = Appl byte (term_node n c) (term_node m a) in (
        marks_term c b n (first_three b n (term_places c) (term_places a) xs ys z (λ i. refl) (λ i k. above_term m a i k) (term_some c) h),
        marks_term a false m (second_three b n (term_places c) (term_places a) xs ys z (λ i. refl) (λ i k. below_term n c i k) (term_some c) (term_some a) h),
        own_three b n (term_places c) (term_places a) xs ys z (λ i. refl) (λ i k. below_term n c i k) (λ i k. below_term m a i k) (term_some c) h,
      )
  marks_term (fun2 byte A a) b n h =
      let m = n + type_places A in let xs = type_nodes n A in let ys = term_nodes m a in let z = Fun2 byte (type_node n A) (term_node m a) in (
        marks_type A b n (first_three b n (type_places A) (term_places a) xs ys z (λ i. refl) (λ i k. above_term m a i k) (type_some A) h),
        marks_term a false m (second_three b n (type_places A) (term_places a) xs ys z (λ i. refl) (λ i k. below n A i k) (type_some A) (term_some a) h),
        own_three b n (type_places A) (term_places a) xs ys z (λ i. refl) (λ i k. below n A i k) (λ i k. below_term m a i k) (type_some A) h,
      )
  marks_term (appl2 byte c A) b n h =
      let m = n + term_places c in let xs = term_nodes n c in let ys = type_nodes m A in let z = Appl2 byte (term_node n c) (type_node m A) in (
        marks_term c b n (first_three b n (term_places c) (type_places A) xs ys z (λ i. refl) (λ i k. above m A i k) (term_some c) h),
        marks_type A false m (second_three b n (term_places c) (type_places A) xs ys z (λ i. refl) (λ i k. below_term n c i k) (term_some c) (type_some A) h),
        own_three b n (term_places c) (type_places A) xs ys z (λ i. refl) (λ i k. below_term n c i k) (λ i k. below m A i k) (term_some c) h,
      )
  marks_term (fold_term byte A a) b n h =
      let m = n + type_places A in let xs = type_nodes n A in let ys = term_nodes m a in let z = Fold byte (type_node n A) (term_node m a) in (
        marks_type A b n (first_three b n (type_places A) (term_places a) xs ys z (λ i. refl) (λ i k. above_term m a i k) (type_some A) h),
        marks_term a false m (second_three b n (type_places A) (term_places a) xs ys z (λ i. refl) (λ i k. below n A i k) (type_some A) (term_some a) h),
        own_three b n (type_places A) (term_places a) xs ys z (λ i. refl) (λ i k. below n A i k) (λ i k. below_term m a i k) (type_some A) h,
      )
  marks_term (rec_term byte A a) b n h =
      let m = n + type_places A in let xs = type_nodes n A in let ys = term_nodes m a in let z = RecTerm byte (type_node n A) (term_node m a) in (
        marks_type A b n (first_three b n (type_places A) (term_places a) xs ys z (λ i. refl) (λ i k. above_term m a i k) (type_some A) h),
        marks_term a false m (second_three b n (type_places A) (term_places a) xs ys z (λ i. refl) (λ i k. below n A i k) (type_some A) (term_some a) h),
        own_three b n (type_places A) (term_places a) xs ys z (λ i. refl) (λ i k. below n A i k) (λ i k. below_term m a i k) (type_some A) h,
      )
  marks_term (fun2_unbounded byte c) b n h =
      let xs = term_nodes n c in let z = Fun2Unbounded byte n (term_node n c) in (
        named_first b n (term_places c) xs z (eq-eqb n n refl) h,
        marks_term c true n (named_two b n (term_places c) xs z (eq-eqb n n refl) (λ i k. apart n i k) h),
        own_two b n (term_places c) xs z (λ i k. apart n i k) (λ i k. below_term n c i k) (term_some c) h,
      )
  marks_term (unfold_term byte c) b n h =
      let xs = term_nodes n c in let z = Unfold byte (term_node n c) in (
        marks_term c b n (first_two b n (term_places c) xs z (λ i. refl) h),
        own_two b n (term_places c) xs z (λ i k. refl) (λ i k. below_term n c i k) (term_some c) h,
      )
