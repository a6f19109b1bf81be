-- Environments whose bindings have types of what stands before them; what they bind are types of them.
use Rattle.std.proofs.Common.{ℕ}
use Rattle.rules.specs.Syntax.{Ty, Env, empty, with_term, with_type, Bound, bound_here, bound_past_type, bound_past_term, Typing, typing_here, typing_past_term, typing_past_type, depth, Within}
use Rattle.rules.specs.Scopes.{scoped_lift}

abbrev pub Formed : Env → Type 0
Formed empty = Unit {0}
Formed (with_term E A) = Formed E × Within E A
Formed (with_type E A) = Formed E × Within E A

pub bound_formed : {E : Env} {k : ℕ} {A : Ty} → Bound E k A → Formed E → Within E A
bound_formed (bound_here {E = E} {A = A}) f = scoped_lift (depth E) A f.1
bound_formed (bound_past_type {E = E} {B = B} b) f = scoped_lift (depth E) B (bound_formed b f.0)
bound_formed (bound_past_term b) f = bound_formed b f.0

pub typing_formed : {E : Env} {k : ℕ} {A : Ty} → Typing E k A → Formed E → Within E A
typing_formed typing_here f = f.1
typing_formed (typing_past_term t) f = typing_formed t f.0
typing_formed (typing_past_type {E = E} {A = A} t) f = scoped_lift (depth E) A (typing_formed t f.0)
