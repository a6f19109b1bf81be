-- Which test a range of codes comes to.
use Rattle.std.proofs.Common.{◌≡◌, ℕ, ◌≤◌, true, false, [], None, leb, unwrap_or, sym, ap, ◌∙◌, ⊎_elim, arith}
use Rattle.checker.specs.Columns.{row, kinds, named}
use Rattle.checker.specs.Decide.{At, in_range, numbered_variable, follows, subtype, typed}
use Rattle.lines.specs.declared.line.Line.{Line}
use Rattle.std.proofs.lemmas.Bool.{le-leb, lt-leb, ne_eqb, and_from, and_left, and_right, cases_lt, cases_eq, cond-false}

pub inside : (low high c : ℕ) → low ≤ c → c ≤ high → in_range low high c ≡ true
inside low high c h k = and_from (leb low c) (leb c high) (le-leb low c h) (le-leb c high k)

pub outside : (low high c : ℕ) → (low ≤ c → c ≤ high → ⊥) → in_range low high c ≡ false
outside low high c h =
    ⊎_elim (λ below. and_left (leb low c) (leb c high) (lt-leb low c below))
    (λ above. and_right (leb low c) (leb c high) (lt-leb c high (⊎_elim (λ k. k) (λ k. absurd (h above k)) (cases_lt high c)))) (cases_lt c low)

-- a code outside all of these
pub record Other (c : ℕ) : Type 0 where
  pub types : 10 ≤ c → c ≤ 14 → ⊥
  pub terms : 20 ≤ c → c ≤ 28 → ⊥
  pub envs : 30 ≤ c → c ≤ 32 → ⊥
  pub raise : c ≡ 40 → ⊥
  pub put : c ≡ 41 → ⊥
  pub variable : 42 ≤ c → c ≤ 43 → ⊥
  pub env : c ≡ 50 → ⊥
  pub formed : c ≡ 51 → ⊥
  pub subtype : 60 ≤ c → c ≤ 66 → ⊥
  pub typed : 70 ≤ c → c ≤ 79 → ⊥
  pub let_type : c ≡ 91 → ⊥
  pub let_term : c ≡ 92 → ⊥

-- a code outside all of these names no line
row_other : (c : ℕ) → Other c → (c ≡ 90 → ⊥) → row c ≡ None
row_other c n x =
    simp (
      ne_eqb c 10 (λ e. n.types (omega arith) (omega arith)),
      ne_eqb c 11 (λ e. n.types (omega arith) (omega arith)),
      outside 12 13 c (λ h k. n.types (omega arith) (omega arith)),
      ne_eqb c 14 (λ e. n.types (omega arith) (omega arith)),
      ne_eqb c 20 (λ e. n.terms (omega arith) (omega arith)),
      ne_eqb c 21 (λ e. n.terms (omega arith) (omega arith)),
      ne_eqb c 22 (λ e. n.terms (omega arith) (omega arith)),
      ne_eqb c 23 (λ e. n.terms (omega arith) (omega arith)),
      ne_eqb c 24 (λ e. n.terms (omega arith) (omega arith)),
      ne_eqb c 25 (λ e. n.terms (omega arith) (omega arith)),
      ne_eqb c 26 (λ e. n.terms (omega arith) (omega arith)),
      ne_eqb c 27 (λ e. n.terms (omega arith) (omega arith)),
      ne_eqb c 28 (λ e. n.terms (omega arith) (omega arith)),
      ne_eqb c 30 (λ e. n.envs (omega arith) (omega arith)),
      outside 31 32 c (λ h k. n.envs (omega arith) (omega arith)),
      ne_eqb c 40 n.raise,
      ne_eqb c 41 n.put,
      outside 42 43 c n.variable,
      ne_eqb c 50 n.env,
      ne_eqb c 51 n.formed,
      outside 60 66 c n.subtype,
      outside 70 79 c n.typed,
      ne_eqb c 90 x,
      ne_eqb c 91 n.let_type,
      ne_eqb c 92 n.let_term,
    )

pub named_other : (L : At) (l : Line) → Other l.code → true ≡ named L (kinds l.code) l
named_other L l n =
    ⊎_elim (λ e. ap (λ c. named L (kinds c) l) (sym e)) (λ x. ap (λ r. named L (unwrap_or r []) l) (sym (row_other l.code n x))) (cases_eq l.code 90)

module _ (L : At) (d E : ℕ) (l : Line) where
  pub follows_10_14 : 10 ≤ l.code → l.code ≤ 14 → follows L d E l ≡ numbered_variable 11 l
  follows_10_14 h k = let c = l.code in simp (inside 10 14 c h k)

  pub follows_20_28 : 20 ≤ l.code → l.code ≤ 28 → follows L d E l ≡ numbered_variable 21 l
  follows_20_28 h k = let c = l.code in simp (outside 10 14 c (omega arith), inside 20 28 c h k)

  pub follows_30_32 : 30 ≤ l.code → l.code ≤ 32 → follows L d E l ≡ true
  follows_30_32 h k = let c = l.code in simp (outside 10 14 c (omega arith), outside 20 28 c (omega arith), inside 30 32 c h k)

  pub follows_60_66 : 60 ≤ l.code → l.code ≤ 66 → follows L d E l ≡ subtype L l
  follows_60_66 h k = let c = l.code in simp (outside 10 14 c (omega arith), outside 20 28 c (omega arith), outside 30 32 c (omega arith), ne_eqb c 40 (omega arith), ne_eqb c 41 (omega arith), ne_eqb c 42 (omega arith), ne_eqb c 43 (omega arith), ne_eqb c 50 (omega arith), ne_eqb c 51 (omega arith), inside 60 66 c h k)

  pub follows_70_79 : 70 ≤ l.code → l.code ≤ 79 → follows L d E l ≡ typed L l
  follows_70_79 h k = let c = l.code in simp (outside 10 14 c (omega arith), outside 20 28 c (omega arith), outside 30 32 c (omega arith), ne_eqb c 40 (omega arith), ne_eqb c 41 (omega arith), ne_eqb c 42 (omega arith), ne_eqb c 43 (omega arith), ne_eqb c 50 (omega arith), ne_eqb c 51 (omega arith), outside 60 66 c (omega arith), inside 70 79 c h k)

  pub follows_other : Other l.code → (l.code ≡ 90 → ⊥) → false ≡ follows L d E l
  follows_other n x =
      let c = l.code in
      sym (cond-false _ _ _ (outside 10 14 c n.types) ∙ cond-false _ _ _ (outside 20 28 c n.terms) ∙ cond-false _ _ _ (outside 30 32 c n.envs) ∙ cond-false _ _ _ (ne_eqb c 40 n.raise) ∙ cond-false _ _ _ (ne_eqb c 41 n.put) ∙ cond-false _ _ _ (ne_eqb c 42 (λ e. n.variable (omega arith) (omega arith))) ∙ cond-false _ _ _ (ne_eqb c 43 (λ e. n.variable (omega arith) (omega arith))) ∙ cond-false _ _ _ (ne_eqb c 50 n.env) ∙ cond-false _ _ _ (ne_eqb c 51 n.formed) ∙ cond-false _ _ _ (outside 60 66 c n.subtype) ∙ cond-false _ _ _ (outside 70 79 c n.typed) ∙ cond-false _ _ _ (ne_eqb c 90 x) ∙ cond-false _ _ _ (ne_eqb c 91 n.let_type) ∙ cond-false _ _ _ (ne_eqb c 92 n.let_term))
