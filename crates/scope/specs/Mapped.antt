-- A scoped phrase with other names for types: what Let names stand for is replaced, as a line by the type that it says.
use Rattle.std.specs.Prelude.{List, map}
use Rattle.scope.specs.Definitions as definitions
use Rattle.scope.specs.Definitions.{Definition}
use Rattle.scope.specs.Scoped.{ScopedType, top, var, defined, arrow, all, all_unbounded, rec, ScopedTerm, top_term, term_var, fun, appl, fun2, fun2_unbounded, appl2, fold_term, unfold_term, rec_term, ScopedBinding, type_binding, term_binding, ScopedPhrase, let_type, let_type_unbounded, let_term, let_term_untyped, of_type, of_term, judge_env, judge_type, judge_subtype, judge_term}

module _ {X Y : Type 0} where
  abbrev pub map_type : (X → Y) → ScopedType X → ScopedType Y
  map_type f top = top
  map_type f (var k) = var k
  map_type f (defined x) = defined (f x)
  map_type f (arrow A B) = arrow (map_type f A) (map_type f B)
  map_type f (all A B) = all (map_type f A) (map_type f B)
  map_type f (all_unbounded B) = all_unbounded (map_type f B)
  map_type f (rec B) = rec (map_type f B)

  abbrev pub map_term : (X → Y) → ScopedTerm X → ScopedTerm Y
  map_term f (top_term byte) = top_term byte
  map_term f (term_var byte k) = term_var byte k
  map_term f (fun byte A b) = fun byte (map_type f A) (map_term f b)
  map_term f (appl byte b a) = appl byte (map_term f b) (map_term f a)
  map_term f (fun2 byte A b) = fun2 byte (map_type f A) (map_term f b)
  map_term f (fun2_unbounded byte b) = fun2_unbounded byte (map_term f b)
  map_term f (appl2 byte b A) = appl2 byte (map_term f b) (map_type f A)
  map_term f (fold_term byte A a) = fold_term byte (map_type f A) (map_term f a)
  map_term f (unfold_term byte a) = unfold_term byte (map_term f a)
  map_term f (rec_term byte A b) = rec_term byte (map_type f A) (map_term f b)

  abbrev pub map_binding : (X → Y) → ScopedBinding X → ScopedBinding Y
  map_binding f (type_binding w A) = type_binding w (map_type f A)
  map_binding f (term_binding w A) = term_binding w (map_type f A)

  abbrev pub map_env : (X → Y) → List (ScopedBinding X) → List (ScopedBinding Y)
  map_env f E = map (map_binding f) E

  abbrev pub map_phrase : (X → Y) → ScopedPhrase X → ScopedPhrase Y
  map_phrase f (let_type w B A) = let_type w (map_type f B) (map_type f A)
  map_phrase f (let_type_unbounded w A) = let_type_unbounded w (map_type f A)
  map_phrase f (let_term w A b) = let_term w (map_type f A) (map_term f b)
  map_phrase f (let_term_untyped w b) = let_term_untyped w (map_term f b)
  map_phrase f (of_type A) = of_type (map_type f A)
  map_phrase f (of_term a) = of_term (map_term f a)
  map_phrase f (judge_env E) = judge_env (map_env f E)
  map_phrase f (judge_type E A) = judge_type (map_env f E) (map_type f A)
  map_phrase f (judge_subtype E A B) = judge_subtype (map_env f E) (map_type f A) (map_type f B)
  map_phrase f (judge_term E a A) = judge_term (map_env f E) (map_term f a) (map_type f A)

  abbrev pub map_definition : (X → Y) → Definition X → Definition Y
  map_definition f (definitions.let_type w x) = definitions.let_type w (f x)
  map_definition f (definitions.let_term w) = definitions.let_term w
  map_definition f definitions.let_unnamed = definitions.let_unnamed
