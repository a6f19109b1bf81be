-- Each place that is taken is one node of the tree.
use Rattle.std.proofs.Common.{◌≡◌, ℕ, suc, ◌+◌, List, [], ◌∷◌, ◌++◌, length, refl, ap, ap₂, ◌∙◌, sym, subst, length-append, arith}
use Rattle.lexer.specs.Items.{Item}
use Rattle.lexer.specs.declared.name.Name.{Name}
use Rattle.syntax.specs.Layout.{type_places, term_places, type_nodes, term_nodes, binding_places, binding_nodes, env_places, env_nodes, nodes}
use Rattle.syntax.specs.Named.{NamedType, top, name, arrow, all, all_unbounded, rec, NamedTerm, top_term, term_name, fun, appl, fun2, fun2_unbounded, appl2, fold_term, unfold_term, rec_term, Binding, type_binding, term_binding, NamedPhrase, let_type, let_type_unbounded, let_term, let_term_untyped, of_type, of_term, judge_env, judge_type, judge_subtype, judge_term}
use Rattle.grammar.specs.Grammar.{rows, other}
use Rattle.grammar.specs.Notation.{Kind, phrase, let_type_rest, let_term_rest, judged, env, binding_rest, type, type_base, all_rest, arrow_rest, term, term_base, fun_rest, args, argument, Val, Given, Sym, one, begins, whole, part, Action, apply, Row}
use Rattle.grammar.specs.Derives.{Event, began, ended, Derives, done, token, begin, end, by, Spells}
use Rattle.grammar.specs.Reading.{count}
use Rattle.grammar.proofs.Rows.{OfEntries, OfOther, of_chosen}
use Rattle.grammar.proofs.Steps.{count_append}

-- as many nodes as places

two : {A : Type 0} (xs ys : List A) {m n : ℕ} → length xs ≡ m → length ys ≡ n → length (xs ++ ys) ≡ m + n
two xs ys h k = length-append xs ys ∙ ap₂ (λ m n. m + n) h k

three : {A : Type 0} (xs ys zs : List A) {m n o : ℕ} → length xs ≡ m → length ys ≡ n → length zs ≡ o → length (xs ++ ys ++ zs) ≡ m + n + o
three xs ys zs h k i = two (xs ++ ys) zs (two xs ys h k) i

type_length : (types : List Name) (n : ℕ) (A : NamedType) → length (type_nodes types n A) ≡ type_places A
type_length types n top = refl
type_length types n (name byte w) = refl
type_length types n (arrow A B) =
    let h = type_length types n A in let k = type_length types (n + type_places A) B in three _ _ _ h k refl
type_length types n (all w A B) =
    let h = type_length types n A in let k = type_length (w ∷ types) (n + type_places A) B in three _ _ _ h k refl
type_length types n (all_unbounded w B) = let h = type_length (w ∷ types) n B in two _ _ h refl
type_length types n (rec w B) = let h = type_length (w ∷ types) n B in two _ _ h refl

term_length : (types terms : List Name) (n : ℕ) (a : NamedTerm) → length (term_nodes types terms n a) ≡ term_places a
term_length types terms n (top_term byte) = refl
term_length types terms n (term_name byte w) = refl
term_length types terms n (fun byte w A b) =
    let h = type_length types n A in let k = term_length types (w ∷ terms) (n + type_places A) b in three _ _ _ h k refl
term_length types terms n (appl byte b a) =
    let h = term_length types terms n b in let k = term_length types terms (n + term_places b) a in three _ _ _ h k refl
term_length types terms n (fun2 byte w A b) =
    let h = type_length types n A in let k = term_length (w ∷ types) terms (n + type_places A) b in three _ _ _ h k refl
term_length types terms n (fun2_unbounded byte w b) = let h = term_length (w ∷ types) terms n b in two _ _ h refl
term_length types terms n (appl2 byte b A) =
    let h = term_length types terms n b in let k = type_length types (n + term_places b) A in three _ _ _ h k refl
term_length types terms n (fold_term byte A a) =
    let h = type_length types n A in let k = term_length types terms (n + type_places A) a in three _ _ _ h k refl
term_length types terms n (unfold_term byte a) = let h = term_length types terms n a in two _ _ h refl
term_length types terms n (rec_term byte w A b) =
    let h = type_length types n A in let k = term_length types (w ∷ terms) (n + type_places A) b in three _ _ _ h k refl

binding_length : (n : ℕ) (b : Binding) → length (binding_nodes n b) ≡ binding_places b
binding_length n (type_binding w A) = let h = type_length [] n A in two _ _ h refl
binding_length n (term_binding w A) = let h = type_length [] n A in two _ _ h refl

env_length : (n : ℕ) (E : List Binding) → length (env_nodes n E) ≡ env_places E
env_length n [] = refl
env_length n (b ∷ E) = let h = binding_length n b in let k = env_length (n + binding_places b) E in two _ _ h k

abbrev phrase_places : NamedPhrase → ℕ
phrase_places (let_type w B A) = type_places B + type_places A
phrase_places (let_type_unbounded w A) = type_places A
phrase_places (let_term w A b) = type_places A + term_places b
phrase_places (let_term_untyped w b) = term_places b
phrase_places (of_type A) = type_places A
phrase_places (of_term a) = term_places a
phrase_places (judge_env E) = env_places E
phrase_places (judge_type E A) = env_places E + type_places A
phrase_places (judge_subtype E A B) = env_places E + type_places A + type_places B
phrase_places (judge_term E a A) = env_places E + term_places a + type_places A

phrase_length : (p : NamedPhrase) → length (nodes p) ≡ phrase_places p
phrase_length (let_type w B A) = let h = type_length [] 0 B in let k = type_length [] (type_places B) A in two _ _ h k
phrase_length (let_type_unbounded w A) = type_length [] 0 A
phrase_length (let_term w A b) = let h = type_length [] 0 A in let k = term_length [] [] (type_places A) b in two _ _ h k
phrase_length (let_term_untyped w b) = term_length [] [] 0 b
phrase_length (of_type A) = type_length [] 0 A
phrase_length (of_term a) = term_length [] [] 0 a
phrase_length (judge_env E) = env_length 0 E
phrase_length (judge_type E A) = let h = env_length 0 E in let k = type_length [] (env_places E) A in two _ _ h k
phrase_length (judge_subtype E A B) =
    let g = env_length 0 E in
    let h = type_length [] (env_places E) A in
    let k = type_length [] (env_places E + type_places A) B in
    three _ _ _ g h k
phrase_length (judge_term E a A) =
    let g = env_length 0 E in
    let h = term_length [] [] (env_places E) a in
    let k = type_length [] (env_places E + term_places a) A in
    three _ _ _ g h k

-- what is read for a kind, where k places were taken
abbrev Takes : (K : Kind) → Val K → (k : ℕ) → Type 0
Takes phrase p k = phrase_places p ≡ k
Takes let_type_rest v k = (x : Name) → phrase_places (v x) ≡ k
Takes let_term_rest v k = (x : Name) → phrase_places (v x) ≡ k
Takes judged p k = phrase_places p ≡ k
Takes env E k = env_places E ≡ k
Takes binding_rest v k = (x : Name) → binding_places (v x) ≡ k + 1
Takes type A k = type_places A ≡ k
Takes type_base A k = type_places A ≡ k
Takes all_rest v k = (x : Name) → type_places (v x) ≡ k + 1
Takes arrow_rest v k = (A : NamedType) → type_places (v A) ≡ type_places A + k
Takes term a k = term_places a ≡ k
Takes term_base a k = term_places a ≡ k
Takes fun_rest v k = (byte : ℕ) (x : Name) → term_places (v byte x) ≡ k + 1
Takes args v k = (b : NamedTerm) → term_places (v b) ≡ term_places b + k
Takes argument v k = (byte : ℕ) (b : NamedTerm) → term_places (v byte b) ≡ term_places b + k + 1

-- what is made of the symbols, if n places were taken before them
abbrev Sums : (K : Kind) (ss : List Sym) → Action ss (Val K) → (n : ℕ) → Type 0
Sums K [] v n = Takes K v n
Sums K (one g ∷ ss) f n = (x : Given g) → Sums K ss (apply g ss (Val K) f x) n
Sums K (begins ∷ ss) f n = Sums K ss f n
Sums K (whole ∷ ss) f n = Sums K ss f (suc n)
Sums K (part m M ∷ ss) f n = (u : Val M) (k : ℕ) → Takes M u k → Sums K ss (f u) (n + k)

abbrev Row_sums : {K : Kind} → Row K → Type 0
Row_sums {K} ρ = Sums K ρ.symbols ρ.action 0

entries_sum : (K : Kind) → OfEntries Row_sums (rows K)
entries_sum phrase = (
  (λ _ x v k h _ _. h x ∙ omega arith),
  (
    (λ _ x v k h _ _. h x ∙ omega arith),
    (
      (λ _ A k h _ _. h ∙ omega arith),
      ((λ _ p k h _ _. h ∙ omega arith), tt),
    ),
  ),
)
entries_sum let_type_rest = ((λ _ B j g _ A k h x. omega (arith, g, h)), ((λ _ A k h x. omega (arith, h)), tt))
entries_sum let_term_rest = ((λ _ A j g _ b k h x. omega (arith, g, h)), ((λ _ b k h x. omega (arith, h)), tt))
entries_sum judged = (
  (λ _ E k h. omega (arith, h)),
  (
    (λ _ E j g _ A k h. omega (arith, g, h)),
    (
      (λ _ E i f _ A j g _ B k h. omega (arith, f, g, h)),
      ((λ _ E i f _ a j g _ A k h. omega (arith, f, g, h)), tt),
    ),
  ),
)
entries_sum env = ((λ x b j g E k h. let i = g x in omega (arith, i, h)), tt)
entries_sum binding_rest = ((λ _ A k h x. omega (arith, h)), ((λ _ A k h x. omega (arith, h)), tt))
entries_sum type = tt
entries_sum type_base = (
  (λ _. refl),
  (
    (λ _. refl),
    (
      (λ _ _ x v k h. let i = h x in omega (arith, i)),
      (
        (λ _ _ x _ B k h. omega (arith, h)),
        ((λ _ A k h _. omega (arith, h)), tt),
      ),
    ),
  ),
)
entries_sum all_rest = ((λ _ A j g _ B k h x. omega (arith, g, h)), ((λ _ B k h x. omega (arith, h)), tt))
entries_sum arrow_rest = ((λ _ B k h A. omega (arith, h)), tt)
entries_sum term = tt
entries_sum term_base = (
  (λ byte. refl),
  (
    (λ _. refl),
    (
      (λ byte _ x v k h. let i = h byte x in omega (arith, i)),
      (
        (λ byte _ _ A j g _ _ a k h _. omega (arith, g, h)),
        (
          (λ byte _ a k h _. omega (arith, h)),
          (
            (λ byte _ x _ A j g _ b k h. omega (arith, g, h)),
            ((λ _ a k h _. omega (arith, h)), tt),
          ),
        ),
      ),
    ),
  ),
)
entries_sum fun_rest =
    ((λ _ A j g _ b k h byte x. omega (arith, g, h)), ((λ _ A j g _ b k h byte x. omega (arith, g, h)), ((λ _ b k h byte x. omega (arith, h)), tt)))
entries_sum args = ((λ byte v j g _ w k h b. let i = g byte b in let m = h (v byte b) in omega (arith, i, m)), tt)
entries_sum argument = ((λ _ A k h byte b. omega (arith, h)), tt)

other_sums : (K : Kind) → OfOther Row_sums (other K)
other_sums phrase = λ a k h _ _. omega (arith, h)
other_sums env = refl
other_sums type = λ A j g v k h. let i = h A in omega (arith, g, i)
other_sums arrow_rest = λ A. omega arith
other_sums term = λ a j g v k h. let i = h a in omega (arith, g, i)
other_sums args = λ b. omega arith
other_sums argument = λ a k h byte b. omega (arith, h)
other_sums K = tt

count_from : (n : ℕ) (es : List Event) → count n es ≡ n + count 0 es
count_from n [] = omega arith
count_from n (began d q ∷ es) = count_from n es
count_from n (ended q ∷ es) = let h = count_from (suc n) es in let k = count_from 1 es in omega (arith, h, k)

sums : {K : Kind} {d q : ℕ} {ss : List Sym} {f : Action ss (Val K)} {ts r : List Item} {es : List Event} {v : Val K} → Derives K d q ss f ts es r v
    → (n : ℕ) → Sums K ss f n → Takes K v (count n es)
sums done n s = s
sums (token {x = x} e h) n s = sums h n (s x)
sums (begin h) n s = sums h n s
sums (end h) n s = sums h (suc n) s
sums {K} (by {M = M} {ts = ts} {es = es} {hs} {u} {v} ρ e h k) n s =
    let i = sums h 0 (of_chosen Row_sums ts (entries_sum M) (other_sums M) e) in
    let j = sums k (n + count 0 es) (s u (count 0 es) i) in
    subst (Takes K v) (ap (λ a. count a hs) (sym (count_from n es)) ∙ sym (count_append n es hs)) j

-- a phrase takes as many places as its tree has nodes
pub places_taken : {items : List Item} {es : List Event} {p : NamedPhrase} → Spells items es p → count 0 es ≡ length (nodes p)
places_taken {p = p} s = sym (sums s 0 (λ p k h. h ∙ omega arith)) ∙ sym (phrase_length p)
