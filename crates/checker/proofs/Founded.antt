-- A line that passes the test of cause 5 follows from the lines before it.
use Rattle.std.proofs.Common.{◌≡◌, ℕ, zero, suc, ◌+◌, ◌-◌, ◌≤◌, Bool, true, false, cond, not, ◌&&◌, T, eqb, ltb, leb, Some, refl, add-one, arith}
use Rattle.checker.proofs.Reading.{reading}
use Rattle.checker.proofs.Sessions.{Tracked}
use Rattle.checker.specs.Decide.{At, in_range, raises, puts, bound_is, typing_is, is_env, is_type, is_sub, has_type, binds_term, binds_type, raise_by, put_by, bound_by, typing_by, env_by, formed_by, follows}
use Rattle.lines.specs.declared.line.Line.{Line}
use Rattle.rules.proofs.Codes.{line_of, says}
use Rattle.rules.specs.Follows.{Raises, Puts, BoundIs, TypingIs, IsEnv, IsType, IsSub, Has, Follows}
use Rattle.rules.specs.Statements.{top', var', arrow', all', rec', top_term', var_term', fun', appl', fun2', appl2', fold_term', unfold_term', rec_term', with_term', with_type', SubRule, s_refl, s_trans, s_var, s_top, s_arrow, s_all, HasRule, h_subsumed, h_var, h_top, h_fun, h_appl, h_fun2, h_appl2, h_fold, h_unfold, h_rec, Statement, type_line, term_line, env_line, raising, putting, bound_line, typing_line, env_judged, type_judged, sub_judged, has_judged, name_line, let_type, let_term, table, coded, statement, Get}
use Rattle.rules.specs.declared.all_code.AllCode.TheVariants.{Equal, Least}
use Rattle.std.proofs.lemmas.Bool.{and_parts, eqb-true as eq, eqb-false, leb-true, leb-false, ltb-true, ltb-false, false≢true, not-true}

infixl 35 ◌and◌
◌and◌ : {b c : Bool} {P Q : Type 0} → (b ≡ true → P) → (c ≡ true → Q) → (b && c) ≡ true → P × Q
◌and◌ {b} {c} f g e = let h = and_parts b c e in (f h.0, g h.1)

whether : {P : Type 0} (b x y : Bool) → (b ≡ true → x ≡ true → P) → (b ≡ false → y ≡ true → P) → cond b x y ≡ true → P
whether true x y f g h = f refl h
whether false x y f g h = g refl h

-- the tests of code after code; none is left
case : {P : Type 0} (c k : ℕ) (x y : Bool) → (c ≡ k → x ≡ true → P) → (y ≡ true → P) → cond (eqb c k) x y ≡ true → P
case c k x y f g = whether (eqb c k) x y (λ e. f (eq c k e)) (λ _. g)

none : {P : Type 0} → false ≡ true → P
none e = absurd (false≢true e)

nonzero : (n : ℕ) → not (eqb n 0) ≡ true → n ≡ 0 → ⊥
nonzero n h = eqb-false n 0 (not-true (eqb n 0) h)

to-T : (b : Bool) → b ≡ true → T b
to-T b e = rw e tt

range : (low high c : ℕ) → in_range low high c ≡ true → (low ≤ c) × (c ≤ high)
range low high c = leb-true low c and leb-true c high

sub_said : (l : Line) (n : ℕ) → n ≤ 6 → l.code ≡ 60 + n → (s : SubRule) × (statement l ≡ Some (sub_judged s l.c1 l.c2 l.c3 l.c4 l.c5))
sub_said l zero h e = (s_refl, says l 60 e)
sub_said l (suc zero) h e = (s_trans, says l 61 e)
sub_said l (suc (suc zero)) h e = (s_var, says l 62 e)
sub_said l (suc (suc (suc zero))) h e = (s_top, says l 63 e)
sub_said l (suc (suc (suc (suc zero)))) h e = (s_arrow, says l 64 e)
sub_said l (suc (suc (suc (suc (suc zero))))) h e = (s_all Equal, says l 65 e)
sub_said l (suc (suc (suc (suc (suc (suc zero)))))) h e = (s_all Least, says l 66 e)
sub_said l (suc (suc (suc (suc (suc (suc (suc n))))))) h e = absurd (omega arith)

has_said : (l : Line) (n : ℕ) → n ≤ 9 → l.code ≡ 70 + n
    → (h : HasRule) × (statement l ≡ Some (has_judged h l.c1 l.c2 l.c3 l.c4 l.c5 l.c6))
has_said l zero h e = (h_subsumed, says l 70 e)
has_said l (suc zero) h e = (h_var, says l 71 e)
has_said l (suc (suc zero)) h e = (h_top, says l 72 e)
has_said l (suc (suc (suc zero))) h e = (h_fun, says l 73 e)
has_said l (suc (suc (suc (suc zero)))) h e = (h_appl, says l 74 e)
has_said l (suc (suc (suc (suc (suc zero))))) h e = (h_fun2, says l 75 e)
has_said l (suc (suc (suc (suc (suc (suc zero)))))) h e = (h_appl2, says l 76 e)
has_said l (suc (suc (suc (suc (suc (suc (suc zero))))))) h e = (h_fold, says l 77 e)
has_said l (suc (suc (suc (suc (suc (suc (suc (suc zero)))))))) h e = (h_unfold, says l 78 e)
has_said l (suc (suc (suc (suc (suc (suc (suc (suc (suc zero))))))))) h e = (h_rec, says l 79 e)
has_said l (suc (suc (suc (suc (suc (suc (suc (suc (suc (suc n)))))))))) h e = absurd (omega arith)

module _ (L : At) where
  abbrev G : Get
  G = reading L

  shape : (n c : ℕ) → eqb (L n).code c ≡ true → G n ≡ coded c (table (L n))
  shape n c h = says (L n) c (eq (L n).code c h)

  raises_yes : (p A j C : ℕ) → raises L p A j C ≡ true → Raises G p A j C
  raises_yes p A j C h =
      let t = (shape p 40 and eq (L p).c1 A and eq (L p).c2 j and eq (L p).c3 C) h in ((L p).c4, (L p).c5, (cc))

  puts_yes : (p B j A C : ℕ) → puts L p B j A C ≡ true → Puts G p B j A C
  puts_yes p B j A C h =
      let t = (shape p 41 and eq (L p).c1 B and eq (L p).c2 j and eq (L p).c3 A and eq (L p).c4 C) h in ((L p).c5, (L p).c6, (L p).c7, (cc))

  bound_is_yes : (p E k B : ℕ) → bound_is L p E k B ≡ true → BoundIs G p E k B
  bound_is_yes p E k B h =
      let t = (shape p 42 and eq (L p).c1 E and eq (L p).c2 k and eq (L p).c3 B) h in ((L p).c4, (L p).c5, (cc))

  typing_is_yes : (p E k A : ℕ) → typing_is L p E k A ≡ true → TypingIs G p E k A
  typing_is_yes p E k A h =
      let t = (shape p 43 and eq (L p).c1 E and eq (L p).c2 k and eq (L p).c3 A) h in ((L p).c4, (L p).c5, (cc))

  is_env_yes : (p E : ℕ) → is_env L p E ≡ true → IsEnv G p E
  is_env_yes p E h = let t = (shape p 50 and eq (L p).c1 E) h in ((L p).c2, (cc))

  is_type_yes : (p E A : ℕ) → is_type L p E A ≡ true → IsType G p E A
  is_type_yes p E A h = let t = (shape p 51 and eq (L p).c1 E and eq (L p).c2 A) h in ((L p).c3, (L p).c4, (cc))

  is_sub_yes : (p E A B : ℕ) → is_sub L p E A B ≡ true → IsSub G p E A B
  is_sub_yes p E A B h =
      let t = (range 60 66 (L p).code and eq (L p).c1 E and eq (L p).c2 A and eq (L p).c3 B) h in
      let s = sub_said (L p) ((L p).code - 60) (omega arith) (omega arith) in (s.0, (L p).c4, (L p).c5, (cc))

  has_type_yes : (p E a A : ℕ) → has_type L p E a A ≡ true → Has G p E a A
  has_type_yes p E a A h =
      let t = (range 70 79 (L p).code and eq (L p).c1 E and eq (L p).c2 a and eq (L p).c3 A) h in
      let s = has_said (L p) ((L p).code - 70) (omega arith) (omega arith) in (s.0, (L p).c4, (L p).c5, (L p).c6, (cc))

  binds_term_yes : (F E A : ℕ) → binds_term L F E A ≡ true → G F ≡ Some (env_line (with_term' E A))
  binds_term_yes F E A h = let t = (shape F 31 and eq (L F).c1 E and eq (L F).c2 A) h in cc

  binds_type_yes : (F E A : ℕ) → binds_type L F E A ≡ true → G F ≡ Some (env_line (with_type' E A))
  binds_type_yes F E A h = let t = (shape F 32 and eq (L F).c1 E and eq (L F).c2 A) h in cc

  raise_var_yes : (A j C : ℕ) → (L A).code ≡ 11 → cond (leb (L A).c1 j) (eqb C A) (eqb (L C).code 11 && eqb (L C).c1 ((L A).c1 + 1)) ≡ true
      → Follows G (raising A j C 0 0)
  raise_var_yes A j C e =
      whether (leb (L A).c1 j) _ _ (λ low t. rw (eq _ _ t) (Follows.raise_low (says (L A) 11 e) (leb-true _ _ low)))
      (λ high t. let h = (shape C 11 and eq (L C).c1 ((L A).c1 + 1)) t in let n : (L C).c1 ≡ suc (L A).c1 = omega arith in
      Follows.raise_high (says (L A) 11 e) (leb-false _ _ high) (cc))

  raise_yes : (A j C p q : ℕ) (l : Line) → raise_by L (L A) (line_of (raising A j C p q) l) ≡ true → Follows G (raising A j C p q)
  raise_yes A j C p q l =
      case (L A).code 10 _ _ (λ e t. let h = (eq C A and eq p 0 and eq q 0) t in rw (h.0.0, h.0.1, h.1) (Follows.raise_top (says (L A) 10 e)))
      (case (L A).code 11 _ _ (λ e t. let h = (eq p 0 and eq q 0 and (λ c. c)) t in rw (h.0.0, h.0.1) (raise_var_yes A j C e h.1))
      (case (L A).code 12 _ _ (λ e t. let h = (shape C 12 and raises_yes _ _ _ _ and raises_yes _ _ _ _) t in
      Follows.raise_arrow (says (L A) 12 e) h.0.0 h.0.1 h.1)
      (case (L A).code 13 _ _ (λ e t. let h = (shape C 13 and raises_yes _ _ _ _ and raises_yes _ _ _ _) t in
      Follows.raise_all (says (L A) 13 e) h.0.0 h.0.1 (rw add-one at h.1))
      (case (L A).code 14 _ _ (λ e t. let h = (shape C 14 and raises_yes _ _ _ _ and eq q 0) t in
      rw h.1 (Follows.raise_rec (says (L A) 14 e) h.0.0 (rw add-one at h.0.1))) none))))

  put_var_yes : (B j A C : ℕ) → (L B).code ≡ 11
      → cond (ltb (L B).c1 j) (eqb C B) (cond (eqb (L B).c1 j) (eqb C A) (eqb (L C).code 11 && eqb ((L C).c1 + 1) (L B).c1)) ≡ true
      → Follows G (putting B j A C 0 0 0)
  put_var_yes B j A C e =
      let v = says (L B) 11 e in
      whether (ltb (L B).c1 j) _ _ (λ low t. rw (eq _ _ t) (Follows.put_low v (ltb-true _ _ low)))
      (λ from. whether (eqb (L B).c1 j) _ _ (λ here t. let k = eq _ _ here in let f : G B ≡ Some (type_line (var' j)) = cc in rw (eq C A t) (Follows.put_here f))
      (λ apart t. let h = (shape C 11 and eq ((L C).c1 + 1) (L B).c1) t in let n : (L B).c1 ≡ suc (L C).c1 = omega arith in
      let m = ltb-false (L B).c1 j from in let o = eqb-false (L B).c1 j apart in Follows.put_high (cc) (omega arith) h.0))

  put_yes : (B j A C p q r : ℕ) (l : Line) → put_by L (L B) (line_of (putting B j A C p q r) l) ≡ true → Follows G (putting B j A C p q r)
  put_yes B j A C p q r l =
      case (L B).code 10 _ _ (λ e t. let h = (eq C B and (eq p 0 and eq q 0 and eq r 0)) t in
      rw (h.0, h.1.0.0, h.1.0.1, h.1.1) (Follows.put_top (says (L B) 10 e)))
      (case (L B).code 11 _ _ (λ e t. let h = ((eq p 0 and eq q 0 and eq r 0) and (λ c. c)) t in
      rw (h.0.0.0, h.0.0.1, h.0.1) (put_var_yes B j A C e h.1))
      (case (L B).code 12 _ _ (λ e t. let h = (shape C 12 and puts_yes _ _ _ _ _ and puts_yes _ _ _ _ _ and eq r 0) t in
      rw h.1 (Follows.put_arrow (says (L B) 12 e) h.0.0.0 h.0.0.1 h.0.1))
      (case (L B).code 13 _ _ (λ e t. let h = (shape C 13 and puts_yes _ _ _ _ _ and raises_yes _ _ _ _ and puts_yes _ _ _ _ _) t in
      Follows.put_all (says (L B) 13 e) h.0.0.0 h.0.0.1 h.0.1 (rw add-one at h.1))
      (case (L B).code 14 _ _ (λ e t. let h = (shape C 14 and raises_yes _ _ _ _ and puts_yes _ _ _ _ _ and eq r 0) t in
      rw h.1 (Follows.put_rec (says (L B) 14 e) h.0.0.0 h.0.0.1 (rw add-one at h.0.1))) none))))

  bound_yes : (E k B p q : ℕ) (l : Line) → bound_by L (L E) (line_of (bound_line E k B p q) l) ≡ true → Follows G (bound_line E k B p q)
  bound_yes E k B p q l =
      case (L E).code 31 _ _ (λ e t. let h = (bound_is_yes _ _ _ _ and eq q 0) t in rw h.1 (Follows.bound_past_term (says (L E) 31 e) h.0))
      (case (L E).code 32 _ _ (λ e. case p 0 _ _
      (λ z t. let h = (eq k 1 and raises_yes _ _ _ _) t in rw (z, h.0) (Follows.bound_last (says (L E) 32 e) h.1))
      (λ t. let h = (shape p 42 and eq (L p).c1 (L E).c1 and eq ((L p).c2 + 1) k and raises_yes _ _ _ _) t in
      let n : k ≡ suc (L p).c2 = omega arith in let f : BoundIs G p (L E).c1 (L p).c2 (L p).c3 = ((L p).c4, (L p).c5, (cc)) in
      rw n (Follows.bound_past_type (says (L E) 32 e) f h.1))) none)

  typing_yes : (E k A p q : ℕ) (l : Line) → typing_by L (L E) (line_of (typing_line E k A p q) l) ≡ true → Follows G (typing_line E k A p q)
  typing_yes E k A p q l =
      case (L E).code 31 _ _ (λ e. case p 0 _ _
      (λ z t. let h = (eq k 1 and eq A (L E).c2 and eq q 0) t in
      rw (z, h.0.0, h.0.1, h.1) (Follows.typing_last (says (L E) 31 e)))
      (λ t. let h = (shape p 43 and eq (L p).c1 (L E).c1 and eq ((L p).c2 + 1) k and eq (L p).c3 A and eq q 0) t in
      let n : k ≡ suc (L p).c2 = omega arith in let f : TypingIs G p (L E).c1 (L p).c2 A = ((L p).c4, (L p).c5, (cc)) in
      rw (n, h.1) (Follows.typing_past_term (says (L E) 31 e) f)))
      (case (L E).code 32 _ _ (λ e t. let h = (typing_is_yes _ _ _ _ and raises_yes _ _ _ _) t in
      Follows.typing_past_type (says (L E) 32 e) h.0 h.1) none)

  env_yes : (E p : ℕ) (l : Line) → env_by L (L E) (line_of (env_judged E p) l) ≡ true → Follows G (env_judged E p)
  env_yes E p l =
      case (L E).code 30 _ _ (λ e t. rw (eq p 0 t) (Follows.env_empty (says (L E) 30 e)))
      (case (L E).code 31 _ _ (λ e t. Follows.env_term (says (L E) 31 e) (is_type_yes _ _ _ t))
      (case (L E).code 32 _ _ (λ e t. Follows.env_type (says (L E) 32 e) (is_type_yes _ _ _ t)) none))

  type_yes : (E A p q : ℕ) (l : Line) → formed_by L (L A) (line_of (type_judged E A p q) l) ≡ true → Follows G (type_judged E A p q)
  type_yes E A p q l =
      case (L A).code 10 _ _ (λ e t. let h = (is_env_yes _ _ and eq q 0) t in rw h.1 (Follows.type_top (says (L A) 10 e) h.0))
      (case (L A).code 11 _ _ (λ e t. let h = (is_env_yes _ _ and bound_is_yes _ _ _ _) t in Follows.type_var (says (L A) 11 e) h.0 h.1)
      (case (L A).code 12 _ _ (λ e t. let h = (is_type_yes _ _ _ and is_type_yes _ _ _) t in Follows.type_arrow (says (L A) 12 e) h.0 h.1)
      (case (L A).code 13 _ _ (λ e t. let h = (is_type_yes _ _ _ and binds_type_yes _ _ _ and eq q 0) t in
      rw h.1 (Follows.type_all (says (L A) 13 e) h.0.1 h.0.0))
      (case (L A).code 14 _ _ (λ e t. let h = (is_type_yes _ _ _ and binds_type_yes _ _ _ and shape _ 10 and eq q 0) t in
      rw h.1 (Follows.type_rec (says (L A) 14 e) h.0.0.1 h.0.1 h.0.0.0)) none))))

  module _ (d E : ℕ) (kept : Tracked G d E) where
    pub founded : (s : Statement) (l : Line) → follows L d E (line_of s l) ≡ true → Follows G s
    founded (type_line top') l t = Follows.a_type tt
    founded (type_line (var' k)) l t = let n = nonzero k t in Follows.a_type (omega arith)
    founded (type_line (arrow' A B)) l t = Follows.a_type tt
    founded (type_line (all' A B)) l t = Follows.a_type tt
    founded (type_line (rec' B)) l t = Follows.a_type tt
    founded (term_line top_term') l t = Follows.a_term tt
    founded (term_line (var_term' k)) l t = let n = nonzero k t in Follows.a_term (omega arith)
    founded (term_line (fun' A b)) l t = Follows.a_term tt
    founded (term_line (appl' b a)) l t = Follows.a_term tt
    founded (term_line (fun2' A b)) l t = Follows.a_term tt
    founded (term_line (appl2' b A)) l t = Follows.a_term tt
    founded (term_line (fold_term' A a)) l t = Follows.a_term tt
    founded (term_line (unfold_term' a)) l t = Follows.a_term tt
    founded (term_line (rec_term' A b)) l t = Follows.a_term tt
    founded (env_line e) l t = Follows.an_env
    founded (raising A j C p q) l t = raise_yes A j C p q l t
    founded (putting B j A C p q r) l t = put_yes B j A C p q r l t
    founded (bound_line E k B p q) l t = bound_yes E k B p q l t
    founded (typing_line E k A p q) l t = typing_yes E k A p q l t
    founded (env_judged E p) l t = env_yes E p l t
    founded (type_judged E A p q) l t = type_yes E A p q l t
    founded (sub_judged s_refl E A B p q) l t =
        let h = (eq A B and is_type_yes _ _ _ and eq q 0) t in rw (← h.0.0, h.1) (Follows.sub_refl h.0.1)
    founded (sub_judged s_trans E A B p q) l t =
        let h = (is_sub_yes _ _ _ _ and is_sub_yes _ _ _ _) t in Follows.sub_trans h.0 h.1
    founded (sub_judged s_var E A B p q) l t =
        let h = (shape A 11 and is_env_yes _ _ and bound_is_yes _ _ _ _) t in Follows.sub_var h.0.0 h.0.1 h.1
    founded (sub_judged s_top E A B p q) l t =
        let h = (shape B 10 and is_type_yes _ _ _ and eq q 0) t in rw h.1 (Follows.sub_top h.0.0 h.0.1)
    founded (sub_judged s_arrow E A B p q) l t =
        let h = (shape A 12 and shape B 12 and is_sub_yes _ _ _ _ and is_sub_yes _ _ _ _) t in
        Follows.sub_arrow h.0.0.0 h.0.0.1 h.0.1 h.1
    founded (sub_judged (s_all Equal) E A B p q) l t =
        let h = (shape A 13 and shape B 13 and eq _ _ and is_sub_yes _ _ _ _ and binds_type_yes _ _ _ and eq q 0) t in
        let f : G B ≡ Some (type_line (all' (L A).c1 (L B).c2)) = cc in
        rw h.1 (Follows.sub_all_same Equal refl h.0.0.0.0.0 f h.0.1 refl h.0.0.1)
    founded (sub_judged (s_all Least) E A B p q) l t =
        let h = (shape A 13 and shape B 13 and is_sub_yes _ _ _ _ and is_sub_yes _ _ _ _ and binds_type_yes _ _ _) t in
        Follows.sub_all_below Least refl h.0.0.0.0 h.0.0.0.1 h.0.0.1 h.1 refl h.0.1
    founded (has_judged h_subsumed E a A p q r) l t =
        let h = (has_type_yes _ _ _ _ and is_sub_yes _ _ _ _ and eq r 0) t in rw h.1 (Follows.has_subsumed h.0.0 h.0.1)
    founded (has_judged h_var E a A p q r) l t =
        let h = (shape a 21 and is_env_yes _ _ and typing_is_yes _ _ _ _ and eq r 0) t in
        rw h.1 (Follows.has_var h.0.0.0 h.0.0.1 h.0.1)
    founded (has_judged h_top E a A p q r) l t =
        let h = (shape a 20 and shape A 10 and is_env_yes _ _ and eq q 0 and eq r 0) t in
        rw (h.0.1, h.1) (Follows.has_top h.0.0.0.0 h.0.0.0.1 h.0.0.1)
    founded (has_judged h_fun E a A p q r) l t =
        let h = (shape a 22 and shape A 12 and eq _ _ and has_type_yes _ _ _ _ and binds_term_yes _ _ _ and eq q 0 and eq r 0) t in
        let f : G A ≡ Some (type_line (arrow' (L a).c1 (L A).c2)) = cc in
        rw (h.0.1, h.1) (Follows.has_fun h.0.0.0.0.0.0 f h.0.0.1 h.0.0.0.1)
    founded (has_judged h_appl E a A p q r) l t =
        let h = (shape a 23 and has_type_yes _ _ _ _ and shape _ 12 and eq _ _ and has_type_yes _ _ _ _ and eq r 0) t in
        let f : G (L p).c3 ≡ Some (type_line (arrow' (L (L p).c3).c1 A)) = cc in
        rw h.1 (Follows.has_appl h.0.0.0.0.0 f h.0.0.0.0.1 h.0.1)
    founded (has_judged h_fun2 E a A p q r) l t =
        let h = (shape a 24 and shape A 13 and eq _ _ and has_type_yes _ _ _ _ and binds_type_yes _ _ _ and eq q 0 and eq r 0) t in
        let f : G A ≡ Some (type_line (all' (L a).c1 (L A).c2)) = cc in
        rw (h.0.1, h.1) (Follows.has_fun2 h.0.0.0.0.0.0 f h.0.0.1 h.0.0.0.1)
    founded (has_judged h_appl2 E a A p q r) l t =
        let h = (shape a 25 and has_type_yes _ _ _ _ and shape _ 13 and is_sub_yes _ _ _ _ and puts_yes _ _ _ _ _) t in
        Follows.has_appl2 h.0.0.0.0 h.0.0.1 h.0.0.0.1 h.0.1 h.1
    founded (has_judged h_fold E a A p q r) l t =
        let h = (shape a 26 and eq _ _ and shape A 14 and puts_yes _ _ _ _ _ and has_type_yes _ _ _ _ and eq r 0) t in
        let f : G a ≡ Some (term_line (fold_term' A (L a).c2)) = cc in
        rw h.1 (Follows.has_fold f h.0.0.0.1 h.0.0.1 h.0.1)
    founded (has_judged h_unfold E a A p q r) l t =
        let h = (shape a 27 and has_type_yes _ _ _ _ and shape _ 14 and puts_yes _ _ _ _ _ and eq r 0) t in
        rw h.1 (Follows.has_unfold h.0.0.0.0 h.0.0.1 h.0.0.0.1 h.0.1)
    founded (has_judged h_rec E a A p q r) l t =
        let h = (shape a 28 and eq _ _ and has_type_yes _ _ _ _ and binds_term_yes _ _ _ and eq q 0 and eq r 0) t in
        let f : G a ≡ Some (term_line (rec_term' A (L a).c2)) = cc in
        rw (h.0.1, h.1) (Follows.has_rec f h.0.0.1 h.0.0.0.1)
    founded (name_line n₁ n₂ n₃ n₄ n₅ n₆ n₇) l t = Follows.a_name (to-T _ t)
    founded (let_type name B A p F previous) l t =
        let h = (nonzero E and eq previous d and eq F E and is_sub_yes _ _ _ _) t in
        rw (h.0.0.1, h.0.1) (Follows.define_type (kept.there h.0.0.0) h.1)
    founded (let_term name A b p F previous) l t =
        let h = (nonzero E and eq previous d and has_type_yes _ _ _ _ and binds_term_yes _ _ _) t in
        rw h.0.0.1 (Follows.define_term (kept.there h.0.0.0) h.1 h.0.1)
