-- Which lines may be put: their columns name what stands, and they follow.
use Rattle.std.proofs.Common.{ℕ, T}
use Rattle.rules.specs.Faults.{admitted}
use Rattle.rules.specs.Follows.{TypeNumbered, TermNumbered, Follows, a_type, a_term, an_env}
use Rattle.rules.specs.Meaning.{TypeAt, TypeOf, TermAt, TermOf, EnvAt, EnvOf}
use Rattle.rules.specs.Quantifiers.{Rule}
use Rattle.rules.specs.Statements.{TypeLine, TermLine, EnvLine, SubRule, HasRule, type_line, term_line, env_line, raising, putting, bound_line, typing_line, env_judged, type_judged, sub_judged, has_judged}
use Rattle.rules.specs.Syntax.{Ty, Tm, Env}
use Rattle.rules.proofs.Write.{env_premises, type_premises, sub_premises, has_premises}
use Rattle.rules.proofs.WriteParts.{raising_premises, putting_premises, bound_premises, typing_premises}
use Rattle.rules.proofs.Writing.{Listing, gets, type_name, term_name, env_name, type_names, term_names, env_names}
use Rattle.judge.proofs.Valid.{Okay, Layable}

module _ {R : Rule} (L : Listing R) where
  pub okay_type : {t : TypeLine} {A : Ty} → TypeNumbered t → TypeOf (gets L) t A → Layable R L (type_line t)
  okay_type n x = record { okay = record { admits = tt; named = type_names L.lines x; follows = a_type n }; nothing = tt }

  pub okay_term : {t : TermLine} {a : Tm} → TermNumbered t → TermOf (gets L) t a → Layable R L (term_line t)
  okay_term n x = record { okay = record { admits = tt; named = term_names L.lines x; follows = a_term n }; nothing = tt }

  pub okay_env : {e : EnvLine} {E : Env} → EnvOf (gets L) e E → Layable R L (env_line e)
  okay_env x = record { okay = record { admits = tt; named = env_names L.lines x; follows = an_env }; nothing = tt }

  pub okay_raising : {A j C p q : ℕ} {X Z : Ty} → Follows (gets L) (raising A j C p q) → TypeAt (gets L) A X → TypeAt (gets L) C Z
      → Okay R L (raising A j C p q)
  okay_raising f a c =
      let (p, q) = raising_premises L.lines f in
      record { admits = tt; named = (type_name L.lines a, (tt, (type_name L.lines c, (p, (q, tt))))); follows = f }

  pub okay_putting : {B j A C p q r : ℕ} {Y X Z : Ty} → Follows (gets L) (putting B j A C p q r) → TypeAt (gets L) B Y → TypeAt (gets L) A X
      → TypeAt (gets L) C Z → Okay R L (putting B j A C p q r)
  okay_putting f b a c =
      let (p, q, r) = putting_premises L.lines f in
      record {
        admits = tt;
        named = (type_name L.lines b, (tt, (type_name L.lines a, (type_name L.lines c, (p, (q, (r, tt)))))));
        follows = f;
      }

  pub okay_bound : {E k B p q : ℕ} {Γ : Env} {Y : Ty} → Follows (gets L) (bound_line E k B p q) → EnvAt (gets L) E Γ → TypeAt (gets L) B Y
      → Okay R L (bound_line E k B p q)
  okay_bound f e b =
      let (p, q) = bound_premises L.lines f in
      record { admits = tt; named = (env_name L.lines e, (tt, (type_name L.lines b, (p, (q, tt))))); follows = f }

  pub okay_typing : {E k A p q : ℕ} {Γ : Env} {X : Ty} → Follows (gets L) (typing_line E k A p q) → EnvAt (gets L) E Γ → TypeAt (gets L) A X
      → Okay R L (typing_line E k A p q)
  okay_typing f e a =
      let (p, q) = typing_premises L.lines f in
      record { admits = tt; named = (env_name L.lines e, (tt, (type_name L.lines a, (p, (q, tt))))); follows = f }

  pub okay_is_env : {E p : ℕ} {Γ : Env} → Follows (gets L) (env_judged E p) → EnvAt (gets L) E Γ → Okay R L (env_judged E p)
  okay_is_env f e = record { admits = tt; named = (env_name L.lines e, (env_premises L.lines f, tt)); follows = f }

  pub okay_is_type : {E A p q : ℕ} {Γ : Env} {X : Ty} → Follows (gets L) (type_judged E A p q) → EnvAt (gets L) E Γ → TypeAt (gets L) A X
      → Okay R L (type_judged E A p q)
  okay_is_type f e a =
      let (p, q) = type_premises L.lines f in
      record { admits = tt; named = (env_name L.lines e, (type_name L.lines a, (p, (q, tt)))); follows = f }

  pub okay_sub : {s : SubRule} {E A B p q : ℕ} {Γ : Env} {X Y : Ty} → T (admitted R (sub_judged s E A B p q))
      → Follows (gets L) (sub_judged s E A B p q) → EnvAt (gets L) E Γ → TypeAt (gets L) A X → TypeAt (gets L) B Y
      → Okay R L (sub_judged s E A B p q)
  okay_sub t f e a b =
      let (p, q) = sub_premises L.lines f in
      record { admits = t; named = (env_name L.lines e, (type_name L.lines a, (type_name L.lines b, (p, (q, tt))))); follows = f }

  pub okay_has : {h : HasRule} {E a A p q r : ℕ} {Γ : Env} {t : Tm} {X : Ty} → Follows (gets L) (has_judged h E a A p q r) → EnvAt (gets L) E Γ
      → TermAt (gets L) a t → TypeAt (gets L) A X → Okay R L (has_judged h E a A p q r)
  okay_has f e a x =
      let (p, q, r) = has_premises L.lines f in
      record { admits = tt; named = (env_name L.lines e, (term_name L.lines a, (type_name L.lines x, (p, (q, (r, tt)))))); follows = f }
