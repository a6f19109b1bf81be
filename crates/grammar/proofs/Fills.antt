-- Every list of symbols of the grammar matches some items: a shortest part of each kind.
use Rattle.std.proofs.Common.{◌≡◌, ℕ, Bool, T, List, [], ◌∷◌, ◌++◌, Some, Ok, refl, sym, subst, append_assoc}
use Rattle.lexer.specs.Items.{Item}
use Rattle.lexer.specs.declared.token.Word.{Word}
use Rattle.lexer.specs.declared.token.Word.TheVariants.{Top, TopTerm, Colon, Equal, Close, Semicolon, End}
use Rattle.grammar.specs.Notation.{Kind, phrase, let_type_rest, let_term_rest, judged, env, binding_rest, type, type_base, all_rest, arrow_rest, term, term_base, fun_rest, args, argument, Mode, own, the, taken, takes, Sym, one, begins, whole, part, Row}
use Rattle.grammar.specs.Grammar.{env_word}
use Rattle.grammar.specs.Derives.{choose, under, from, Event, began, ended}
use Rattle.grammar.proofs.Matches.{Matches, m_done, m_token, m_begin, m_end, m_by}
use Rattle.grammar.proofs.Table.{both, sample, what_is, Calm, is_calm, optional, tail, neat}

abbrev pub word : Word → Item
word w = Ok (record { word = w; byte = 0 })

abbrev pub least : Kind → List Item
least phrase = word Colon ∷ word Top ∷ word Semicolon ∷ word End ∷ []
least let_type_rest = word Equal ∷ word Top ∷ []
least let_term_rest = word Equal ∷ word TopTerm ∷ []
least judged = word env_word ∷ []
least env = []
least binding_rest = word Colon ∷ word Top ∷ []
least type = word Top ∷ []
least type_base = word Top ∷ []
least all_rest = word Close ∷ word Top ∷ []
least arrow_rest = []
least term = word TopTerm ∷ []
least term_base = word TopTerm ∷ []
least fun_rest = word Close ∷ word TopTerm ∷ []
least args = []
least argument = word TopTerm ∷ []

-- the symbols match the items up to the rest, and meet some events
abbrev pub Matched : (d q : ℕ) → List Sym → List Item → List Item → Type 0
Matched d q ss ts r = (es : List Event) × Matches d q ss ts es r

pub record Filled (M : Kind) (ts r : List Item) : Type 0 where
  pub row : Row M
  pub chosen : choose M ts ≡ Some row
  pub matched : (d q : ℕ) → Matched d q row.symbols ts r

then_token : {d q : ℕ} {w : Word} {ss : List Sym} {ts r : List Item} → taken (the w) (record { word = w; byte = 0 }) ≡ Some tt
    → Matched d q ss ts r → Matched d q (one (the w) ∷ ss) (word w ∷ ts) r
then_token e h = (h.0, m_token e h.1)

then_part : {d q : ℕ} {m : Mode} {M : Kind} {ss : List Sym} {ts s r : List Item} → Filled M ts s → Matched d q ss s r
    → Matched d q (part m M ∷ ss) ts r
then_part {d} {q} {m} {ts = ts} f h = let k = f.matched (under m d) (from m q ts) in (k.0 ++ h.0, m_by f.row f.chosen k.1 h.1)

nothing : {d q : ℕ} {r : List Item} → Matched d q [] r r
nothing = ([], m_done)

module _ (r : List Item) (c : Calm r) where
  fill_arrow_rest : Filled arrow_rest r r
  fill_arrow_rest = record { row = _; chosen = c.1; matched = λ d q. nothing }

  fill_args : Filled args r r
  fill_args = record { row = _; chosen = c.2; matched = λ d q. nothing }

  fill_env : Filled env r r
  fill_env = record { row = _; chosen = c.0; matched = λ d q. nothing }

  fill_type_base : Filled type_base (least type_base ++ r) r
  fill_type_base = record { row = _; chosen = refl; matched = λ d q. (_, m_token refl (m_begin (m_end m_done))) }

  fill_term_base : Filled term_base (least term_base ++ r) r
  fill_term_base = record { row = _; chosen = refl; matched = λ d q. (_, m_token refl (m_begin (m_end m_done))) }

  fill_type : Filled type (least type ++ r) r
  fill_type = record { row = _; chosen = refl; matched = λ d q. then_part fill_type_base (then_part fill_arrow_rest nothing) }

  fill_term : Filled term (least term ++ r) r
  fill_term = record { row = _; chosen = refl; matched = λ d q. then_part fill_term_base (then_part fill_args nothing) }

pub fill_phrase : (r : List Item) → Filled phrase (least phrase ++ r) r
fill_phrase r = record {
  row = _;
  chosen = refl;
  matched = λ d q.
      let h = then_part {d = d} {q = q} {m = own} {M = type} (fill_type (word Semicolon ∷ word End ∷ r) (refl, refl, refl)) (then_token refl (then_token refl nothing)) in
      (h.0, m_token refl h.1);
}

fills : (M : Kind) (r : List Item) → Calm r → Filled M (least M ++ r) r
fills phrase r c = fill_phrase r
fills let_type_rest r c = record { row = _; chosen = refl; matched = λ d q. then_token refl (then_part (fill_type r c) nothing) }
fills let_term_rest r c = record { row = _; chosen = refl; matched = λ d q. then_token refl (then_part (fill_term r c) nothing) }
fills judged r c = record { row = _; chosen = refl; matched = λ d q. then_token refl (then_part (fill_env r c) nothing) }
fills env r c = fill_env r c
fills binding_rest r c = record { row = _; chosen = refl; matched = λ d q. then_token refl (then_part (fill_type r c) nothing) }
fills type r c = fill_type r c
fills type_base r c = fill_type_base r c
fills all_rest r c = record { row = _; chosen = refl; matched = λ d q. then_token refl (then_part (fill_type r c) nothing) }
fills arrow_rest r c = fill_arrow_rest r c
fills term r c = fill_term r c
fills term_base r c = fill_term_base r c
fills fun_rest r c = record { row = _; chosen = refl; matched = λ d q. then_token refl (then_part (fill_term r c) nothing) }
fills args r c = fill_args r c
fills argument r c = record { row = _; chosen = refl; matched = λ d q. then_part (fill_term r c) nothing }

-- items that the symbols match
abbrev pub filler : List Sym → List Item
filler [] = []
filler (one g ∷ ss) = Ok (sample g) ∷ filler ss
filler (begins ∷ ss) = filler ss
filler (whole ∷ ss) = filler ss
filler (part m M ∷ ss) = least M ++ filler ss

skips_least : (M : Kind) → T (optional M) → least M ≡ []
skips_least env h = refl
skips_least arrow_rest h = refl
skips_least args h = refl
skips_least _ h = absurd h

-- what can stand behind a part continues no part
pub calm_filler : (b : Bool) (ss : List Sym) (r : List Item) → T (tail b ss) → (T b → Calm r) → Calm (filler ss ++ r)
calm_filler b [] r h c = c h
calm_filler b (one g ∷ ss) r h c = is_calm (sample g) (filler ss ++ r) h
calm_filler b (begins ∷ ss) r h c = calm_filler b ss r h c
calm_filler b (whole ∷ ss) r h c = calm_filler b ss r h c
calm_filler b (part m M ∷ ss) r h c =
    let k = both (optional M) (tail b ss) h in
    subst (λ a. Calm ((a ++ filler ss) ++ r)) (sym (skips_least M k.0)) (calm_filler b ss r k.1 c)

pub fill : (b : Bool) {d q : ℕ} (ss : List Sym) (r : List Item) → T (neat b ss) → (T b → Calm r)
    → (es : List Event) × Matches d q ss (filler ss ++ r) es r
fill b [] r h c = nothing
fill b (one g ∷ ss) r h c =
    let k = both (takes g (sample g)) (neat b ss) h in
    let i = fill b ss r k.1 c in
    (i.0, m_token (what_is (taken g (sample g)) k.0).1 i.1)
fill b {d} {q} (begins ∷ ss) r h c = let i = fill b {d = d} {q = q} ss r h c in (began d q ∷ i.0, m_begin i.1)
fill b {d} {q} (whole ∷ ss) r h c = let i = fill b {d = d} {q = q} ss r h c in (ended q ∷ i.0, m_end i.1)
fill b {d} {q} (part m M ∷ ss) r h c =
    let k = both (tail b ss) (neat b ss) h in
    subst (λ a. Matched d q (part m M ∷ ss) a r) (sym (append_assoc (least M) (filler ss) r))
    (then_part (fills M (filler ss ++ r) (calm_filler b ss r k.0 c)) (fill b ss r k.1 c))
