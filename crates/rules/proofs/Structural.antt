-- Derivable subtyping under weakening, narrowing and substitution, by the tries.
use Rattle.rules.specs.Syntax.{Ty, lift, put, Env, with_term, with_type, depth}
use Rattle.rules.specs.Quantifiers.{Rule}
use Rattle.rules.specs.Derivations.{is_type, is_sub, Derivable, env_term, env_type}
use Rattle.rules.specs.Laws.{Chains, Admitted}
use Rattle.rules.specs.Scopes.{scoped_lift}
use Rattle.rules.specs.Weaken.{weaken_type, weaken_term}
use Rattle.rules.specs.Transitive.{transitive}
use Rattle.rules.specs.Narrow.{narrow, instance}
use Rattle.rules.proofs.Agree.{derivable_regular, env_derivable, type_derivable, sub_derivable, tried}

pub type_under_type : {R : Rule} {E : Env} {A C : Ty} → Derivable R (is_type E C) → Derivable R (is_type E A)
    → Derivable R (is_type (with_type E C) (lift 0 A))
type_under_type {E = E} {A} {C} c d = type_derivable (lift 0 A) (env_type c) (scoped_lift (depth E) A (derivable_regular d).1)

pub type_under_term : {R : Rule} {E : Env} {A C : Ty} → Derivable R (is_type E C) → Derivable R (is_type E A)
    → Derivable R (is_type (with_term E C) A)
type_under_term {A = A} c d = type_derivable A (env_term c) (derivable_regular d).1

module _ {R : Rule} (chains : Chains R) (admitted : Admitted R) where
  pub sub_under_type : {E : Env} {A B C : Ty} → Derivable R (is_type E C) → Derivable R (is_sub E A B)
      → Derivable R (is_sub (with_type E C) (lift 0 A) (lift 0 B))
  sub_under_type {C = C} c d = sub_derivable (env_type c) (weaken_type C (tried chains admitted d))

  pub sub_under_term : {E : Env} {A B C : Ty} → Derivable R (is_type E C) → Derivable R (is_sub E A B)
      → Derivable R (is_sub (with_term E C) A B)
  sub_under_term {C = C} c d = sub_derivable (env_term c) (weaken_term C (tried chains admitted d))

  pub sub_narrow : {E : Env} {A B C D : Ty} → Derivable R (is_sub E C A) → Derivable R (is_sub (with_type E A) B D)
      → Derivable R (is_sub (with_type E C) B D)
  sub_narrow {E} {C = C} s d =
      let (f, w, v) = derivable_regular s in
      sub_derivable (env_type (type_derivable C (env_derivable E f) w))
      (narrow (transitive chains) (tried chains admitted s) (tried chains admitted d))

  pub sub_put : {E : Env} {B C D X : Ty} → Derivable R (is_sub E X C) → Derivable R (is_sub (with_type E C) B D)
      → Derivable R (is_sub E (put 1 X B) (put 1 X D))
  sub_put {E} s d =
      sub_derivable (env_derivable E (derivable_regular s).0)
      (instance (transitive chains) (tried chains admitted s) (tried chains admitted d))
