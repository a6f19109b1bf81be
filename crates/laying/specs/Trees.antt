-- A phrase whose names are looked up, as it is judged: an omitted bound is Top, and a Let name stands for its line.
use Rattle.std.specs.Prelude.{ℕ, List, [], ◌∷◌}
use Rattle.judge.specs.Phrases as judge
use Rattle.scope.specs.Scoped.{ScopedType, top, var, defined, arrow, all, all_unbounded, rec, ScopedTerm, top_term, term_var, fun, appl, fun2, fun2_unbounded, appl2, fold_term, unfold_term, rec_term, ScopedBinding, type_binding, term_binding}

abbrev pub judged_type : ScopedType ℕ → judge.ScopedType
judged_type top = judge.scoped_top
judged_type (var k) = judge.scoped_var k
judged_type (defined line) = judge.scoped_line line
judged_type (arrow A B) = judge.scoped_arrow (judged_type A) (judged_type B)
judged_type (all A B) = judge.scoped_all (judged_type A) (judged_type B)
judged_type (all_unbounded B) = judge.scoped_all judge.scoped_top (judged_type B)
judged_type (rec B) = judge.scoped_rec (judged_type B)

abbrev pub judged_term : ScopedTerm ℕ → judge.ScopedTerm
judged_term (top_term byte) = judge.scoped_top_term byte
judged_term (term_var byte k) = judge.scoped_var_term byte k
judged_term (fun byte A b) = judge.scoped_fun byte (judged_type A) (judged_term b)
judged_term (appl byte b a) = judge.scoped_appl byte (judged_term b) (judged_term a)
judged_term (fun2 byte A b) = judge.scoped_fun2 byte (judged_type A) (judged_term b)
judged_term (fun2_unbounded byte b) = judge.scoped_fun2 byte judge.scoped_top (judged_term b)
judged_term (appl2 byte b A) = judge.scoped_appl2 byte (judged_term b) (judged_type A)
judged_term (fold_term byte A a) = judge.scoped_fold byte (judged_type A) (judged_term a)
judged_term (unfold_term byte a) = judge.scoped_unfold byte (judged_term a)
judged_term (rec_term byte A b) = judge.scoped_rec_term byte (judged_type A) (judged_term b)

abbrev pub judged_bindings : List (ScopedBinding ℕ) → List judge.Binding
judged_bindings [] = []
judged_bindings (type_binding w A ∷ bs) = judge.of_type (judged_type A) ∷ judged_bindings bs
judged_bindings (term_binding w A ∷ bs) = judge.of_term (judged_type A) ∷ judged_bindings bs
