-- Plans that go on as they are to.
use Rattle.std.proofs.Common.{◌≡◌, ℕ, List, Ok, Err, Result, sym, ◌∙◌, subst}
use Rattle.lines.specs.declared.line.Line.{Line}
use Rattle.rules.specs.Statements.{Statement}
use Rattle.judge.specs.Goals.{Placed, Plan, lay}
use Rattle.judge.specs.Seeking.{run}
use Rattle.actions.specs.Actions.{Terms}
use Rattle.actions.specs.Terms.{placed}
use Rattle.search.specs.Searches.{limits, state, Laid as LaidLine}
use Rattle.search.specs.declared.fault.JudgeFault.{JudgeFault}
use Rattle.laying.specs.Goes.{Goes}
use Rattle.laying.specs.Nodes.{on_line}
use Rattle.laying.specs.declared.stand.Laid.{Laid}

-- a line first, and then a plan
pub line_then : (room room' : ℕ) (xs ys zs : List Line) (u : Statement) (a : ℕ) (p : ℕ → (ℕ → Placed → Plan) → Plan) (t : Terms) (r : Result Laid JudgeFault)
    → LaidLine room xs ys u (Ok a) → room' ≡ room → Goes room' ys zs (p a) t r → Goes room xs zs (λ k. lay u (λ a. p a k)) t r
line_then room room' xs ys zs u a p t (Ok x) l e h = λ most steps seeks k.
    l most steps (λ n s. run (limits most room) seeks (p n k) s) ∙ subst (λ room. Goes room ys zs (p a) t (Ok x)) e h most steps seeks k
line_then room room' xs ys zs u a p t (Err f) l e h = λ most steps seeks k.
    l most steps (λ n s. run (limits most room) seeks (p n k) s) ∙ subst (λ room. Goes room ys zs (p a) t (Err f)) e h most steps seeks k

-- a binding's line
pub env_then : (room : ℕ) (xs ys : List Line) (u : Statement) (n : ℕ) (t : Terms) (x : Laid) → LaidLine room xs ys u (Ok n) → x.env ≡ n → placed t x.term ≡ on_line n
    → Goes room xs ys (λ k. lay u (λ n. k n (on_line n))) t (Ok x)
env_then room xs ys u n t x l e f = λ most steps seeks k.
    l most steps (λ n s. run (limits most room) seeks (k n (on_line n)) s) ∙ sym (λ i. run (limits most room) seeks (k (e i) (f i)) (state ys steps))

-- no line
pub none_put : (room : ℕ) (xs : List Line) (E n : ℕ) (t : Terms) (x : Laid) → x.env ≡ E → placed t x.term ≡ on_line n → Goes room xs xs (λ k. k E (on_line n)) t (Ok x)
none_put room xs E n t x e f = λ most steps seeks k. sym (λ i. run (limits most room) seeks (k (e i) (f i)) (state xs steps))
