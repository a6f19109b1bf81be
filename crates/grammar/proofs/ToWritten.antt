-- What the rows derive is written in the forms.
use Rattle.std.proofs.Common.{◌≡◌, ℕ, ◌⊎◌, List, [], ◌∷◌, ◌++◌, Option, Some, Ok, refl, ◌∙◌, sym, subst, inl, inr}
use Rattle.std.proofs.lemmas.Option.{same_Some}
use Rattle.lexer.specs.Items.{Item}
use Rattle.lexer.specs.declared.name.Name.{Name}
use Rattle.lexer.specs.declared.token.Token.{Token}
use Rattle.lexer.specs.declared.token.Word.TheVariants.{All, LetType, LetTerm, Judge, Fun, Open, Close, Semicolon, Name as Named, End}
use Rattle.syntax.specs.Named.{NamedType, NamedTerm, Binding, NamedPhrase}
use Rattle.grammar.specs.Grammar.{rows, other}
use Rattle.grammar.specs.Notation.{Kind, let_type_rest, let_term_rest, judged, binding_rest, type_base, all_rest, arrow_rest, term_base, fun_rest, args, argument, Val, Guard, the, at, a_name, name_at, Given, taken, Sym, one, begins, whole, part, Action, apply, Row}
use Rattle.grammar.specs.Derives.{choose, Event, Derives, done, token, begin, end, by, Spells}
use Rattle.grammar.specs.Written.{Piece, word, word_at, phrase, env, type, left_type, term, left_term, Form, let_type_as, let_type_unbounded_as, let_term_as, let_term_untyped_as, of_type_as, of_term_as, judge_env_as, judge_type_as, judge_subtype_as, judge_term_as, no_binding, type_binding_as, term_binding_as, top_as, name_as, braced_type, left_type_as, all_as, all_unbounded_as, rec_as, arrow_as, top_term_as, term_name_as, fold_as, unfold_as, braced_term, appl_as, appl2_as, left_term_as, fun_as, fun2_as, fun2_unbounded_as, rec_term_as, Written, nothing, a_word, a_word_at, formed, WrittenPhrase}
use Rattle.grammar.proofs.Rows.{OfEntries, OfOther, of_chosen}
use Rattle.grammar.proofs.Words.{word_of_the, byte_of_at, word_of_at, word_of_name, word_of_name_at, byte_of_name_at}

-- what does not go on with an arrow, with an argument
abbrev pub NoArrow : List Item → Type 0
NoArrow ts = choose arrow_rest ts ≡ other arrow_rest

abbrev pub NoArgument : List Item → Type 0
NoArgument ts = choose args ts ≡ other args

append : {ps qs : List Piece} {ts s r : List Item} → Written ps ts s → Written qs s r → Written (ps ++ qs) ts r
append nothing k = k
append (a_word e h) k = a_word e (append h k)
append (a_word_at e f h) k = a_word_at e f (append h k)
append (formed f h i) k = formed f h (append i k)

form : {p : Piece} {ps : List Piece} {ts r : List Item} → Form p ps → Written ps ts r → Written (p ∷ []) ts r
form f h = formed f h nothing

-- pieces that make something of the kind
record Fragment (ts r : List Item) (Makes : List Piece → Type 0) : Type 0 where
  pieces : List Piece
  written : Written pieces ts r
  makes : Makes pieces

fragment : {ts r : List Item} {Makes : List Piece → Type 0} {ps : List Piece} → Written ps ts r → Makes ps → Fragment ts r Makes
fragment {ps = ps} h m = record { pieces = ps; written = h; makes = m }

-- what it means that a part of a kind was read as v from the items before r
abbrev Means : (K : Kind) → Val K → (ts r : List Item) → Type 0
Means Kind.phrase p ts r = Written (phrase p ∷ []) ts r
Means let_type_rest v ts r = (x : Name) → Fragment ts r (λ ps. Form (phrase (v x)) (word LetType ∷ word (Named x) ∷ (ps ++ (word Semicolon ∷ word End ∷ []))))
Means let_term_rest v ts r = (x : Name) → Fragment ts r (λ ps. Form (phrase (v x)) (word LetTerm ∷ word (Named x) ∷ (ps ++ (word Semicolon ∷ word End ∷ []))))
Means judged p ts r = Fragment ts r (λ ps. Form (phrase p) (word Judge ∷ (ps ++ (word Semicolon ∷ word End ∷ []))))
Means Kind.env E ts r = Written (env E ∷ []) ts r
Means binding_rest v ts r = (x : Name) (E : List Binding) → Fragment ts r (λ ps. Form (env (v x ∷ E)) (word (Named x) ∷ (ps ++ (env E ∷ []))))
Means Kind.type A ts r = Written (type A ∷ []) ts r × NoArrow r
Means type_base A ts r = Written (left_type A ∷ []) ts r ⊎ (Written (type A ∷ []) ts r × NoArrow r)
Means all_rest v ts r = NoArrow r × ((x : Name) → Fragment ts r (λ ps. Form (type (v x)) (word All ∷ word Open ∷ word (Named x) ∷ ps)))
Means arrow_rest v ts r =
    NoArrow r × ((A : NamedType) → Fragment ts r (λ ps. Form (type (v A)) (left_type A ∷ ps))) × (NoArrow ts → ((A : NamedType) → A ≡ v A) × (ts ≡ r))
Means Kind.term a ts r = Written (term a ∷ []) ts r × NoArgument r
Means term_base a ts r = Written (left_term a ∷ []) ts r ⊎ (Written (term a ∷ []) ts r × NoArgument r)
Means fun_rest v ts r =
    NoArgument r × ((byte : ℕ) (x : Name) → Fragment ts r (λ ps. Form (term (v byte x)) (word_at Fun byte ∷ word Open ∷ word (Named x) ∷ ps)))
Means args v ts r =
    NoArgument r × ((a : NamedTerm) (us : List Item) → Written (left_term a ∷ []) us ts → Written (left_term (v a) ∷ []) us r)
    × (NoArgument ts → ((a : NamedTerm) → a ≡ v a) × (ts ≡ r))
Means argument v ts r =
    (byte : ℕ) (b : NamedTerm) → Fragment ts r (λ ps. Form (left_term (v byte b)) (left_term b ∷ word_at Open byte ∷ (ps ++ (word Close ∷ []))))

-- the token that a guard lets stand
abbrev piece : (g : Guard) → Given g → Piece
piece (the w) x = word w
piece (at w) byte = word_at w byte
piece a_name x = word (Named x)
piece name_at x = word_at (Named x.1) x.0

stands : (g : Guard) (x : Given g) (t : Token) (ts : List Item) → taken g t ≡ Some x → Written (piece g x ∷ []) (Ok t ∷ ts) ts
stands (the w) x t ts e = a_word (word_of_the t w e) nothing
stands (at w) x t ts e = a_word_at (word_of_at t w e) (byte_of_at t w e) nothing
stands a_name x t ts e = a_word (word_of_name t e) nothing
stands name_at x t ts e = a_word_at (word_of_name_at t e) (byte_of_name_at t e) nothing

-- what is made of the symbols that stand at t, if those from ts to t have been read
abbrev Builds : (K : Kind) (ts : List Item) (ss : List Sym) → Action ss (Val K) → (t : List Item) → Type 0
Builds K ts [] v t = Means K v ts t
Builds K ts (one g ∷ ss) f t = (x : Given g) (s : List Item) → Written (piece g x ∷ []) t s → Builds K ts ss (apply g ss (Val K) f x) s
Builds K ts (begins ∷ ss) f t = Builds K ts ss f t
Builds K ts (whole ∷ ss) f t = Builds K ts ss f t
Builds K ts (part m M ∷ ss) f t = (u : Val M) (s : List Item) → Means M u t s → Builds K ts ss (f u) s

abbrev RowBuilds : {K : Kind} → List Item → Row K → Type 0
RowBuilds {K} ts ρ = choose K ts ≡ Some ρ → Builds K ts ρ.symbols ρ.action ts

abbrev IsNone : {A : Type 0} → List A → Type 0
IsNone [] = Unit {0}
IsNone (x ∷ xs) = ⊥

-- the row of an arrow or an argument is not chosen where there is none
not_both : {K : Kind} {B : Type 0} {o : Option (Row K)} {ρ σ : Row K} → o ≡ Some ρ → o ≡ Some σ → IsNone σ.symbols → (IsNone ρ.symbols → ⊥) → B
not_both {K} {ρ = ρ} {σ} e f h n = absurd (n (subst (λ (y : Row K). IsNone y.symbols) (same_Some σ ρ (sym f ∙ e)) h))

entries_build : (K : Kind) (ts : List Item) → OfEntries (RowBuilds ts) (rows K)
entries_build Kind.phrase ts = (
  (λ e _ s w x s2 w2 v s3 h _ s4 w4 _ s5 w5. let m = h x in form m.makes (append w (append w2 (append m.written (append w4 w5))))),
  (
    (λ e _ s w x s2 w2 v s3 h _ s4 w4 _ s5 w5. let m = h x in form m.makes (append w (append w2 (append m.written (append w4 w5))))),
    (
      (λ e _ s w A s2 h _ s3 w3 _ s4 w4. form of_type_as (append w (append h.0 (append w3 w4)))),
      ((λ e _ s w p s2 m _ s3 w3 _ s4 w4. form m.makes (append w (append m.written (append w3 w4)))), tt),
    ),
  ),
)
entries_build let_type_rest ts = (
  (λ e _ s w B s2 h _ s3 w3 A s4 k x. fragment (append w (append h.0 (append w3 k.0))) let_type_as),
  ((λ e _ s w A s2 h x. fragment (append w h.0) let_type_unbounded_as), tt),
)
entries_build let_term_rest ts = (
  (λ e _ s w A s2 h _ s3 w3 b s4 k x. fragment (append w (append h.0 (append w3 k.0))) let_term_as),
  ((λ e _ s w b s2 h x. fragment (append w h.0) let_term_untyped_as), tt),
)
entries_build judged ts = (
  (λ e _ s w E s2 h. fragment (append w h) judge_env_as),
  (
    (λ e _ s w E s2 h _ s3 w3 A s4 k. fragment (append w (append h (append w3 k.0))) judge_type_as),
    (
      (λ e _ s w E s2 h _ s3 w3 A s4 k _ s5 w5 B s6 i. fragment (append w (append h (append w3 (append k.0 (append w5 i.0))))) judge_subtype_as),
      ((λ e _ s w E s2 h _ s3 w3 a s4 k _ s5 w5 A s6 i. fragment (append w (append h (append w3 (append k.0 (append w5 i.0))))) judge_term_as), tt),
    ),
  ),
)
entries_build Kind.env ts = ((λ e x s w b s2 h E s3 k. let m = h x E in form m.makes (append w (append m.written k))), tt)
entries_build binding_rest ts =
    ((λ e _ s w A s2 h x E. fragment (append w h.0) type_binding_as), ((λ e _ s w A s2 h x E. fragment (append w h.0) term_binding_as), tt))
entries_build Kind.type ts = tt
entries_build type_base ts = (
  (λ e _ s w. inl (form top_as w)),
  (
    (λ e x s w. inl (form name_as w)),
    (
      (λ e _ s w _ s2 w2 x s3 w3 v s4 h. let m = h.1 x in inr (form m.makes (append w (append w2 (append w3 m.written))), h.0)),
      (
        (λ e _ s w _ s2 w2 x s3 w3 _ s4 w4 B s5 h. inr (form rec_as (append w (append w2 (append w3 (append w4 h.0)))), h.1)),
        ((λ e _ s w A s2 h _ s3 w3. inl (form braced_type (append w (append h.0 w3)))), tt),
      ),
    ),
  ),
)
entries_build all_rest ts = (
  (λ e _ s w A s2 h _ s3 w3 B s4 k. (k.1, λ x. fragment (append w (append h.0 (append w3 k.0))) all_as)),
  ((λ e _ s w B s2 h. (h.1, λ x. fragment (append w h.0) all_unbounded_as)), tt),
)
entries_build arrow_rest ts = ((λ e _ s w B s2 h. (h.1, λ A. fragment (append w h.0) arrow_as, λ n. not_both e n tt (λ x. x))), tt)
entries_build Kind.term ts = tt
entries_build term_base ts = (
  (λ e byte s w. inl (form top_term_as w)),
  (
    (λ e x s w. inl (form term_name_as w)),
    (
      (λ e byte s w _ s2 w2 x s3 w3 v s4 h. let m = h.1 byte x in inr (form m.makes (append w (append w2 (append w3 m.written))), h.0)),
      (
        (λ e byte s w _ s2 w2 _ s3 w3 A s4 h _ s5 w5 _ s6 w6 a s7 k _ s8 w8.
            inl (form fold_as (append w (append w2 (append w3 (append h.0 (append w5 (append w6 (append k.0 w8))))))))),
        (
          (λ e byte s w _ s2 w2 a s3 h _ s4 w4. inl (form unfold_as (append w (append w2 (append h.0 w4))))),
          (
            (λ e byte s w _ s2 w2 x s3 w3 _ s4 w4 A s5 h _ s6 w6 b s7 k.
                inr (form rec_term_as (append w (append w2 (append w3 (append w4 (append h.0 (append w6 k.0)))))), k.1)),
            ((λ e _ s w a s2 h _ s3 w3. inl (form braced_term (append w (append h.0 w3)))), tt),
          ),
        ),
      ),
    ),
  ),
)
entries_build fun_rest ts = (
  (λ e _ s w A s2 h _ s3 w3 b s4 k. (k.1, λ byte x. fragment (append w (append h.0 (append w3 k.0))) fun_as)),
  (
    (λ e _ s w A s2 h _ s3 w3 b s4 k. (k.1, λ byte x. fragment (append w (append h.0 (append w3 k.0))) fun2_as)),
    ((λ e _ s w b s2 h. (h.1, λ byte x. fragment (append w h.0) fun2_unbounded_as)), tt),
  ),
)
entries_build args ts = (
  (λ e byte s w v s2 h _ s3 w3 more s4 k. (
    k.0,
    λ a us z. let m = h byte a in k.1 (v byte a) us (form m.makes (append z (append w (append m.written w3)))),
    λ n. not_both e n tt (λ x. x),
  )),
  tt,
)
entries_build argument ts = ((λ e _ s w A s2 h byte b. fragment (append w h.0) appl2_as), tt)

type_builds : (ts : List Item) (A : NamedType) (s : List Item) → Means type_base A ts s → (v : NamedType → NamedType) (r : List Item) → Means arrow_rest v s r
    → Means Kind.type (v A) ts r
type_builds ts A s (inl w) v r k = let m = k.1 A in (form m.makes (append w m.written), k.0)
type_builds ts A s (inr h) v r k =
    let m = k.2 h.1 in (subst (λ B. Written (type B ∷ []) ts r) (m.0 A) (subst (λ y. Written (type A ∷ []) ts y) m.1 h.0), k.0)

term_builds : (ts : List Item) (a : NamedTerm) (s : List Item) → Means term_base a ts s → (v : NamedTerm → NamedTerm) (r : List Item) → Means args v s r
    → Means Kind.term (v a) ts r
term_builds ts a s (inl w) v r k = (form left_term_as (k.1 a ts w), k.0)
term_builds ts a s (inr h) v r k =
    let m = k.2 h.1 in (subst (λ b. Written (term b ∷ []) ts r) (m.0 a) (subst (λ y. Written (term a ∷ []) ts y) m.1 h.0), k.0)

other_builds : (K : Kind) (ts : List Item) → OfOther (RowBuilds ts) (other K)
other_builds Kind.phrase ts = λ e a s h _ s2 w2 _ s3 w3. form of_term_as (append h.0 (append w2 w3))
other_builds Kind.env ts = λ e. form no_binding nothing
other_builds Kind.type ts = λ e. type_builds ts
other_builds arrow_rest ts = λ e. (e, λ A. fragment nothing left_type_as, λ n. (λ A. refl, refl))
other_builds Kind.term ts = λ e. term_builds ts
other_builds args ts = λ e. (e, λ a us w. w, λ n. (λ a. refl, refl))
other_builds argument ts = λ e a s h byte b. fragment h.0 appl_as
other_builds K ts = tt

builds : {K : Kind} {d q : ℕ} (us : List Item) {ss : List Sym} {f : Action ss (Val K)} {ts r : List Item} {es : List Event} {v : Val K}
    → Derives K d q ss f ts es r v → Builds K us ss f ts → Means K v us r
builds us done b = b
builds us (token {g = g} {t = t} {x = x} {ts = ts} e h) b = builds us h (b x ts (stands g x t ts e))
builds us (begin h) b = builds us h b
builds us (end h) b = builds us h b
builds us (by {M = M} {ts = ts} {s = s} {u = u} ρ e h k) b =
    builds us k (b u s (builds ts h (of_chosen (RowBuilds ts) ts (entries_build M ts) (other_builds M ts) e e)))

pub spells_written : {items : List Item} {es : List Event} {p : NamedPhrase} → Spells items es p → WrittenPhrase items p
spells_written {items} s = builds items s (λ p r h. h)
