-- What the records of the search mean to the judge. Terms are the trees of the nodes with their numbers.
use Rattle.std.specs.Prelude.{◌≡◌, ℕ, ◌<◌, ◌≤◌, length, List, [], ◌∷◌, Some, None, Option}
use Rattle.rules.specs.Statements as rules
use Rattle.judge.specs.Goals as judge
use Rattle.judge.specs.Goals.{Placed, Plan}
use Rattle.judge.specs.Loop as loop
use Rattle.judge.specs.Loop.{after, action}
use Rattle.actions.specs.declared.told.Found.{Found}
use Rattle.actions.specs.declared.told.Told.{Told}
use Rattle.actions.specs.declared.told.Told.TheVariants.{Nothing, One, Two, Three, Four, Five}
use Rattle.actions.specs.declared.goal.Goal.{Goal}
use Rattle.actions.specs.declared.statement.Statement.{Statement}
use Rattle.actions.specs.declared.statement.SubRule.{SubRule}
use Rattle.actions.specs.declared.statement.HasRule.{HasRule}
use Rattle.actions.specs.declared.action.Action.{Action}
use Rattle.actions.specs.declared.shown.TypeLine.{TypeLine}
use Rattle.actions.specs.declared.shown.EnvLine.{EnvLine}

abbrev pub pair : Found → ℕ × ℕ
pair a = (a.line, a.result)

abbrev pub answers : Told → List (ℕ × ℕ)
answers Nothing = []
answers (One a) = pair a ∷ []
answers (Two a b) = pair a ∷ pair b ∷ []
answers (Three a b c) = pair a ∷ pair b ∷ pair c ∷ []
answers (Four a b c d) = pair a ∷ pair b ∷ pair c ∷ pair d ∷ []
answers (Five a b c d e) = pair a ∷ pair b ∷ pair c ∷ pair d ∷ pair e ∷ []

-- there is room for an answer
abbrev pub Spare : Told → Type 0
Spare told = length (answers told) < 5

abbrev pub type_of : TypeLine → rules.TypeLine
type_of TypeLine.Top = rules.top'
type_of (TypeLine.Var k) = rules.var' k
type_of (TypeLine.Arrow a b) = rules.arrow' a b
type_of (TypeLine.All a b) = rules.all' a b
type_of (TypeLine.Rec b) = rules.rec' b

abbrev pub type_shown : Option TypeLine → Option rules.TypeLine
type_shown None = None
type_shown (Some shown) = Some (type_of shown)

abbrev pub env_shown : Option EnvLine → Option rules.EnvLine
env_shown None = None
env_shown (Some EnvLine.Empty) = Some rules.empty'
env_shown (Some (EnvLine.WithTerm E A)) = Some (rules.with_term' E A)
env_shown (Some (EnvLine.WithType E A)) = Some (rules.with_type' E A)

abbrev pub sub_rule : SubRule → rules.SubRule
sub_rule SubRule.Refl = rules.s_refl
sub_rule SubRule.Trans = rules.s_trans
sub_rule SubRule.Var = rules.s_var
sub_rule SubRule.Top = rules.s_top
sub_rule SubRule.Arrow = rules.s_arrow
sub_rule (SubRule.All c) = rules.s_all c

abbrev pub has_rule : HasRule → rules.HasRule
has_rule HasRule.Subsumed = rules.h_subsumed
has_rule HasRule.Var = rules.h_var
has_rule HasRule.Top = rules.h_top
has_rule HasRule.Fun = rules.h_fun
has_rule HasRule.Appl = rules.h_appl
has_rule HasRule.Fun2 = rules.h_fun2
has_rule HasRule.Appl2 = rules.h_appl2
has_rule HasRule.Fold = rules.h_fold
has_rule HasRule.Unfold = rules.h_unfold
has_rule HasRule.Rec = rules.h_rec

abbrev pub stated : Statement → rules.Statement
stated Statement.TypeTop = rules.type_line rules.top'
stated (Statement.TypeVar k) = rules.type_line (rules.var' k)
stated (Statement.Arrow a b) = rules.type_line (rules.arrow' a b)
stated (Statement.All a b) = rules.type_line (rules.all' a b)
stated (Statement.Rec b) = rules.type_line (rules.rec' b)
stated Statement.TopTerm = rules.term_line rules.top_term'
stated (Statement.TermVar k) = rules.term_line (rules.var_term' k)
stated (Statement.Fun A b) = rules.term_line (rules.fun' A b)
stated (Statement.Appl b a) = rules.term_line (rules.appl' b a)
stated (Statement.Fun2 A b) = rules.term_line (rules.fun2' A b)
stated (Statement.Appl2 b A) = rules.term_line (rules.appl2' b A)
stated (Statement.FoldTerm A a) = rules.term_line (rules.fold_term' A a)
stated (Statement.UnfoldTerm a) = rules.term_line (rules.unfold_term' a)
stated (Statement.RecTerm A b) = rules.term_line (rules.rec_term' A b)
stated (Statement.EnvTerm E A) = rules.env_line (rules.with_term' E A)
stated (Statement.EnvType E A) = rules.env_line (rules.with_type' E A)
stated (Statement.Raising A j C p q) = rules.raising A j C p q
stated (Statement.Putting B j A C p q r) = rules.putting B j A C p q r
stated (Statement.Bound E k B p q) = rules.bound_line E k B p q
stated (Statement.Typing E k A p q) = rules.typing_line E k A p q
stated (Statement.IsEnv E p) = rules.env_judged E p
stated (Statement.IsType E A p q) = rules.type_judged E A p q
stated (Statement.IsSub s E A B p q) = rules.sub_judged (sub_rule s) E A B p q
stated (Statement.Has h E a A p q r) = rules.has_judged (has_rule h) E a A p q r

-- the term of each node
abbrev pub Terms : Type 0
Terms = ℕ → Placed

abbrev pub sought : Terms → Goal → judge.Goal
sought t (Goal.Raising A j) = judge.seek_raising A j
sought t (Goal.Putting B j A) = judge.seek_putting B j A
sought t (Goal.Bound E k) = judge.seek_bound E k
sought t (Goal.Typing E k) = judge.seek_typing E k
sought t (Goal.Env E) = judge.seek_env E
sought t (Goal.«Type» E A) = judge.seek_type E A
sought t (Goal.Sub E A B) = judge.seek_sub E A B
sought t (Goal.Var E A) = judge.seek_var E A
sought t (Goal.Term E n) = judge.seek_term E (t n)
sought t (Goal.Subsumed E a B p q) = judge.seek_subsumed E a B p q
sought t (Goal.Exposing x) = judge.exposing x.most x.env (t x.node) x.p x.t

-- the plain number of a 40 or 41
abbrev pub plain_number : Goal → ℕ
plain_number (Goal.Raising A j) = j
plain_number (Goal.Putting B j A) = j
plain_number other = 0

-- a line can hold it
abbrev pub Fits : Goal → Type 0
Fits g = plain_number g ≤ 65535

abbrev pub done : Terms → Action → loop.Action
done t (Action.Ask g) = loop.to_ask (sought t g)
done t (Action.Lay s) = loop.to_lay (stated s)
done t (Action.Become x) = loop.to_become (sought t (Goal.Exposing x))
done t Action.Pay = loop.to_pay
done t (Action.Close s) = loop.to_close (stated s)
done t Action.Fail = loop.to_fail

-- this is what the plan does after these answers
abbrev pub Does : Action → Plan → Told → Type 0
Does a p told = (t : Terms) → done t a ≡ action (after p (answers told))
