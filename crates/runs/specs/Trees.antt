-- Phrases whose names are looked up, as the judge takes them: a Let name stands for the type on a line, and an omitted bound is Top.
use Rattle.std.specs.Prelude.{ℕ, List, map}
use Rattle.judge.specs.Phrases as judge
use Rattle.judge.specs.Phrases.{Phrase}
use Rattle.scope.specs.Scoped as scope
use Rattle.scope.specs.Scoped.{ScopedType, ScopedTerm, ScopedBinding, ScopedPhrase}

abbrev pub type_judged : ScopedType ℕ → judge.ScopedType
type_judged scope.top = judge.scoped_top
type_judged (scope.var k) = judge.scoped_var k
type_judged (scope.defined n) = judge.scoped_line n
type_judged (scope.arrow A B) = judge.scoped_arrow (type_judged A) (type_judged B)
type_judged (scope.all A B) = judge.scoped_all (type_judged A) (type_judged B)
type_judged (scope.all_unbounded B) = judge.scoped_all judge.scoped_top (type_judged B)
type_judged (scope.rec B) = judge.scoped_rec (type_judged B)

abbrev pub term_judged : ScopedTerm ℕ → judge.ScopedTerm
term_judged (scope.top_term byte) = judge.scoped_top_term byte
term_judged (scope.term_var byte k) = judge.scoped_var_term byte k
term_judged (scope.fun byte A b) = judge.scoped_fun byte (type_judged A) (term_judged b)
term_judged (scope.appl byte b a) = judge.scoped_appl byte (term_judged b) (term_judged a)
term_judged (scope.fun2 byte A b) = judge.scoped_fun2 byte (type_judged A) (term_judged b)
term_judged (scope.fun2_unbounded byte b) = judge.scoped_fun2 byte judge.scoped_top (term_judged b)
term_judged (scope.appl2 byte b A) = judge.scoped_appl2 byte (term_judged b) (type_judged A)
term_judged (scope.fold_term byte A a) = judge.scoped_fold byte (type_judged A) (term_judged a)
term_judged (scope.unfold_term byte a) = judge.scoped_unfold byte (term_judged a)
term_judged (scope.rec_term byte A b) = judge.scoped_rec_term byte (type_judged A) (term_judged b)

abbrev pub binding_judged : ScopedBinding ℕ → judge.Binding
binding_judged (scope.type_binding w A) = judge.of_type (type_judged A)
binding_judged (scope.term_binding w A) = judge.of_term (type_judged A)

abbrev pub env_judged : List (ScopedBinding ℕ) → List judge.Binding
env_judged E = map binding_judged E

abbrev pub phrase_judged : ScopedPhrase ℕ → Phrase
phrase_judged (scope.let_type w B A) = judge.let_type_phrase w.bytes (type_judged B) (type_judged A)
phrase_judged (scope.let_type_unbounded w A) = judge.let_type_phrase w.bytes judge.scoped_top (type_judged A)
phrase_judged (scope.let_term w A b) = judge.let_term_phrase w.bytes (type_judged A) (term_judged b)
phrase_judged (scope.let_term_untyped w b) = judge.let_untyped_phrase w.bytes (term_judged b)
phrase_judged (scope.of_type A) = judge.type_phrase (type_judged A)
phrase_judged (scope.of_term a) = judge.term_phrase (term_judged a)
phrase_judged (scope.judge_env E) = judge.judge_env (env_judged E)
phrase_judged (scope.judge_type E A) = judge.judge_type (env_judged E) (type_judged A)
phrase_judged (scope.judge_subtype E A B) = judge.judge_subtype (env_judged E) (type_judged A) (type_judged B)
phrase_judged (scope.judge_term E a A) = judge.judge_term (env_judged E) (term_judged a) (type_judged A)
