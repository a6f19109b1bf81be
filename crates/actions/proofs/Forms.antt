-- The plan of a node's term, by the form of the node.
use Rattle.std.proofs.Common.{◌≡◌, ℕ, ap, sym, ◌∙◌, subst}
use Rattle.rules.specs.Statements.{Get}
use Rattle.judge.specs.Loop.{after, action}
use Rattle.judge.specs.Plans.{term_plan}
use Rattle.actions.specs.Actions.{Terms, answers, done}
use Rattle.actions.specs.Terms.{placed, formed}
use Rattle.actions.specs.declared.action.Action.{Action}
use Rattle.actions.specs.declared.told.Told.{Told}
use Rattle.actions.specs.declared.tree.Term.{Term}
use Rattle.actions.specs.declared.tree.Form.{Form}

pub by_form : (t : Terms) (n : ℕ) (m : Term) (f : Form) → t n ≡ placed t m → m.form ≡ f → (a : Action) (G : Get) (E : ℕ) (told : Told)
    → done t a ≡ action (after (term_plan G E (formed t m.byte m.line f)) (answers told)) → done t a ≡ action (after (term_plan G E (t n)) (answers told))
by_form t n m f e is a G E told h =
    subst (λ w. done t a ≡ action (after (term_plan G E w) (answers told))) (sym (e ∙ ap (formed t m.byte m.line) is)) h
