use Rattle.std.proofs.Common.{Ok, sym, subst}
use Rattle.rules.specs.Statements.{top', arrow', all', rec', fun', appl', fun2', appl2', fold_term', unfold_term', rec_term', with_term', with_type', type_line, term_line, env_line}
use Rattle.judge.specs.Goals.{fun_placed, appl_placed, fun2_placed, appl2_placed, fold_placed, unfold_placed, rec_placed, lay}
use Rattle.laying.specs.Goes.{Goes}
use Rattle.laying.specs.Nodes.{node_laid, node_at, node_line, on_line}
use Rattle.laying.specs.Places.{standing as stands}
use Rattle.laying.proofs.Going.{line_then, env_then, none_put}
use Rattle.laying.proofs.node.lay_node.Goals as goal

pub returns-in-Top-clause-cases : goal.returns-in-Top-clause-cases
returns-in-Top-clause-cases g c =
    let ps = stands c.args.tree.places.now in let t = node_at ps in let room = g.S.LineStore.most c.args.store.now in
    let xs = g.S.LineStore.lines c.args.store.now in let ys = g.S.LineStore.lines c.stand.new.store in let E = c.args.env in
    subst (λ x. Goes room xs ys (node_laid E ps x) t c.stand.result) (sym c.in-Top.is)
    (c.stand.ensures.cases t)

pub returns-in-TypeVar-clause-cases : goal.returns-in-TypeVar-clause-cases
returns-in-TypeVar-clause-cases g c =
    let ps = stands c.args.tree.places.now in let t = node_at ps in let room = g.S.LineStore.most c.args.store.now in
    let xs = g.S.LineStore.lines c.args.store.now in let ys = g.S.LineStore.lines c.stand-in-TypeVar.new.store in let E = c.args.env in
    subst (λ x. Goes room xs ys (node_laid E ps x) t c.stand-in-TypeVar.result) (sym c.in-TypeVar.is)
    (c.stand-in-TypeVar.ensures.cases t)

pub returns-in-TopTerm-clause-cases : goal.returns-in-TopTerm-clause-cases
returns-in-TopTerm-clause-cases g c =
    let ps = stands c.args.tree.places.now in let t = node_at ps in let room = g.S.LineStore.most c.args.store.now in
    let xs = g.S.LineStore.lines c.args.store.now in let ys = g.S.LineStore.lines c.stand-in-TopTerm.new.store in let E = c.args.env in
    subst (λ x. Goes room xs ys (node_laid E ps x) t c.stand-in-TopTerm.result) (sym c.in-TopTerm.is)
    (c.stand-in-TopTerm.ensures.cases t)

pub returns-in-Arrow-clause-cases : goal.returns-in-Arrow-clause-cases
returns-in-Arrow-clause-cases g c =
    let ps = stands c.args.tree.places.now in let t = node_at ps in let room = g.S.LineStore.most c.args.store.now in
    let xs = g.S.LineStore.lines c.args.store.now in let ys = g.S.LineStore.lines c.stand-in-Arrow.new.store in let E = c.args.env in
    subst (λ x. Goes room xs ys (node_laid E ps x) t c.stand-in-Arrow.result) (sym c.in-Arrow.is)
    (subst (λ p. Goes room xs ys p t c.stand-in-Arrow.result) (λ i k. lay (type_line (arrow' (c.line-a.ensures i) (c.line-b.ensures i))) (λ n. k E (on_line n))) (c.stand-in-Arrow.ensures.cases t))

pub returns-in-All-clause-cases : goal.returns-in-All-clause-cases
returns-in-All-clause-cases g c =
    let ps = stands c.args.tree.places.now in let t = node_at ps in let room = g.S.LineStore.most c.args.store.now in
    let xs = g.S.LineStore.lines c.args.store.now in let ys = g.S.LineStore.lines c.stand-in-All.new.store in let E = c.args.env in
    subst (λ x. Goes room xs ys (node_laid E ps x) t c.stand-in-All.result) (sym c.in-All.is)
    (subst (λ p. Goes room xs ys p t c.stand-in-All.result) (λ i k. lay (type_line (all' (c.line-a-in-All.ensures i) (c.line-b-in-All.ensures i))) (λ n. k E (on_line n))) (c.stand-in-All.ensures.cases t))

pub returns-in-RecType-clause-cases : goal.returns-in-RecType-clause-cases
returns-in-RecType-clause-cases g c =
    let ps = stands c.args.tree.places.now in let t = node_at ps in let room = g.S.LineStore.most c.args.store.now in
    let xs = g.S.LineStore.lines c.args.store.now in let ys = g.S.LineStore.lines c.stand-in-RecType.new.store in let E = c.args.env in
    subst (λ x. Goes room xs ys (node_laid E ps x) t c.stand-in-RecType.result) (sym c.in-RecType.is)
    (subst (λ p. Goes room xs ys p t c.stand-in-RecType.result) (λ i k. lay (type_line (rec' (c.line-b-in-RecType.ensures i))) (λ n. k E (on_line n))) (c.stand-in-RecType.ensures.cases t))

pub returns-in-Fun-clause-cases : goal.returns-in-Fun-clause-cases
returns-in-Fun-clause-cases g c =
    let ps = stands c.args.tree.places.now in let t = node_at ps in let room = g.S.LineStore.most c.args.store.now in
    let xs = g.S.LineStore.lines c.args.store.now in let ys = g.S.LineStore.lines c.stand-in-Fun.new.store in let E = c.args.env in
    subst (λ x. Goes room xs ys (node_laid E ps x) t c.stand-in-Fun.result) (sym c.in-Fun.is)
    (subst (λ p. Goes room xs ys p t c.stand-in-Fun.result) (λ i k. lay (term_line (fun' (c.line-a-in-Fun.ensures i) (c.line-b-in-Fun.ensures i))) (λ n. k E (fun_placed c.in-Fun.byte (c.line-a-in-Fun.ensures i) (t c.in-Fun.body) n))) (c.stand-in-Fun.ensures.cases t))

pub returns-in-Fun2-clause-cases : goal.returns-in-Fun2-clause-cases
returns-in-Fun2-clause-cases g c =
    let ps = stands c.args.tree.places.now in let t = node_at ps in let room = g.S.LineStore.most c.args.store.now in
    let xs = g.S.LineStore.lines c.args.store.now in let ys = g.S.LineStore.lines c.stand-in-Fun2.new.store in let E = c.args.env in
    subst (λ x. Goes room xs ys (node_laid E ps x) t c.stand-in-Fun2.result) (sym c.in-Fun2.is)
    (subst (λ p. Goes room xs ys p t c.stand-in-Fun2.result) (λ i k. lay (term_line (fun2' (c.line-a-in-Fun2.ensures i) (c.line-b-in-Fun2.ensures i))) (λ n. k E (fun2_placed c.in-Fun2.byte (c.line-a-in-Fun2.ensures i) (t c.in-Fun2.body) n))) (c.stand-in-Fun2.ensures.cases t))

pub returns-in-Fold-clause-cases : goal.returns-in-Fold-clause-cases
returns-in-Fold-clause-cases g c =
    let ps = stands c.args.tree.places.now in let t = node_at ps in let room = g.S.LineStore.most c.args.store.now in
    let xs = g.S.LineStore.lines c.args.store.now in let ys = g.S.LineStore.lines c.stand-in-Fold.new.store in let E = c.args.env in
    subst (λ x. Goes room xs ys (node_laid E ps x) t c.stand-in-Fold.result) (sym c.in-Fold.is)
    (subst (λ p. Goes room xs ys p t c.stand-in-Fold.result) (λ i k. lay (term_line (fold_term' (c.line-a-in-Fold.ensures i) (c.line-b-in-Fold.ensures i))) (λ n. k E (fold_placed c.in-Fold.byte (c.line-a-in-Fold.ensures i) (t c.in-Fold.argument) n))) (c.stand-in-Fold.ensures.cases t))

pub returns-in-RecTerm-clause-cases : goal.returns-in-RecTerm-clause-cases
returns-in-RecTerm-clause-cases g c =
    let ps = stands c.args.tree.places.now in let t = node_at ps in let room = g.S.LineStore.most c.args.store.now in
    let xs = g.S.LineStore.lines c.args.store.now in let ys = g.S.LineStore.lines c.stand-in-RecTerm.new.store in let E = c.args.env in
    subst (λ x. Goes room xs ys (node_laid E ps x) t c.stand-in-RecTerm.result) (sym c.in-RecTerm.is)
    (subst (λ p. Goes room xs ys p t c.stand-in-RecTerm.result) (λ i k. lay (term_line (rec_term' (c.line-a-in-RecTerm.ensures i) (c.line-b-in-RecTerm.ensures i))) (λ n. k E (rec_placed c.in-RecTerm.byte (c.line-a-in-RecTerm.ensures i) (t c.in-RecTerm.body) n))) (c.stand-in-RecTerm.ensures.cases t))

pub returns-in-Appl-clause-cases : goal.returns-in-Appl-clause-cases
returns-in-Appl-clause-cases g c =
    let ps = stands c.args.tree.places.now in let t = node_at ps in let room = g.S.LineStore.most c.args.store.now in
    let xs = g.S.LineStore.lines c.args.store.now in let ys = g.S.LineStore.lines c.stand-in-Appl.new.store in let E = c.args.env in
    subst (λ x. Goes room xs ys (node_laid E ps x) t c.stand-in-Appl.result) (sym c.in-Appl.is)
    (subst (λ p. Goes room xs ys p t c.stand-in-Appl.result) (λ i k. lay (term_line (appl' (c.line-b-in-Appl.ensures i) (c.line-a-in-Appl.ensures i))) (λ n. k E (appl_placed c.in-Appl.byte (t c.in-Appl.function) (t c.in-Appl.argument) n))) (c.stand-in-Appl.ensures.cases t))

pub returns-in-Appl2-clause-cases : goal.returns-in-Appl2-clause-cases
returns-in-Appl2-clause-cases g c =
    let ps = stands c.args.tree.places.now in let t = node_at ps in let room = g.S.LineStore.most c.args.store.now in
    let xs = g.S.LineStore.lines c.args.store.now in let ys = g.S.LineStore.lines c.stand-in-Appl2.new.store in let E = c.args.env in
    subst (λ x. Goes room xs ys (node_laid E ps x) t c.stand-in-Appl2.result) (sym c.in-Appl2.is)
    (subst (λ p. Goes room xs ys p t c.stand-in-Appl2.result) (λ i k. lay (term_line (appl2' (c.line-b-in-Appl2.ensures i) (c.line-a-in-Appl2.ensures i))) (λ n. k E (appl2_placed c.in-Appl2.byte (t c.in-Appl2.function) (c.line-a-in-Appl2.ensures i) n))) (c.stand-in-Appl2.ensures.cases t))

pub returns-in-Unfold-clause-cases : goal.returns-in-Unfold-clause-cases
returns-in-Unfold-clause-cases g c =
    let ps = stands c.args.tree.places.now in let t = node_at ps in let room = g.S.LineStore.most c.args.store.now in
    let xs = g.S.LineStore.lines c.args.store.now in let ys = g.S.LineStore.lines c.stand-in-Unfold.new.store in let E = c.args.env in
    subst (λ x. Goes room xs ys (node_laid E ps x) t c.stand-in-Unfold.result) (sym c.in-Unfold.is)
    (subst (λ p. Goes room xs ys p t c.stand-in-Unfold.result) (λ i k. lay (term_line (unfold_term' (c.line-b-in-Unfold.ensures i))) (λ n. k E (unfold_placed c.in-Unfold.byte (t c.in-Unfold.argument) n))) (c.stand-in-Unfold.ensures.cases t))

pub returns-in-TypeName-clause-cases : goal.returns-in-TypeName-clause-cases
returns-in-TypeName-clause-cases g c =
    let ps = stands c.args.tree.places.now in let t = node_at ps in let room = g.S.LineStore.most c.args.store.now in
    let xs = g.S.LineStore.lines c.args.store.now in let E = c.args.env in
    subst (λ x. Goes room xs xs (node_laid E ps x) t (Ok c.by_line.result)) (sym c.in-TypeName.is)
    (none_put room xs E 0 t c.by_line.result c.by_line.ensures.env (c.by_line.ensures.term t))

pub returns-in-TermName-clause-cases : goal.returns-in-TermName-clause-cases
returns-in-TermName-clause-cases g c =
    let ps = stands c.args.tree.places.now in let t = node_at ps in let room = g.S.LineStore.most c.args.store.now in
    let xs = g.S.LineStore.lines c.args.store.now in let E = c.args.env in
    subst (λ x. Goes room xs xs (node_laid E ps x) t (Ok c.by_line-in-TermName.result)) (sym c.in-TermName.is)
    (none_put room xs E 0 t c.by_line-in-TermName.result c.by_line-in-TermName.ensures.env (c.by_line-in-TermName.ensures.term t))

pub returns-in-TypeLine-clause-cases : goal.returns-in-TypeLine-clause-cases
returns-in-TypeLine-clause-cases g c =
    let ps = stands c.args.tree.places.now in let t = node_at ps in let room = g.S.LineStore.most c.args.store.now in
    let xs = g.S.LineStore.lines c.args.store.now in let E = c.args.env in
    subst (λ x. Goes room xs xs (node_laid E ps x) t (Ok c.by_line-in-TypeLine.result)) (sym c.in-TypeLine.is)
    (none_put room xs E c.in-TypeLine.line t c.by_line-in-TypeLine.result c.by_line-in-TypeLine.ensures.env (c.by_line-in-TypeLine.ensures.term t))

pub returns-in_ok-a-in-AllUnbounded-clause-cases : goal.returns-in_ok-a-in-AllUnbounded-clause-cases
returns-in_ok-a-in-AllUnbounded-clause-cases g c =
    let ps = stands c.args.tree.places.now in let t = node_at ps in let room = g.S.LineStore.most c.args.store.now in
    let xs = g.S.LineStore.lines c.args.store.now in let ys = g.S.LineStore.lines c.stand-in-AllUnbounded.new.store in let E = c.args.env in
    subst (λ x. Goes room xs ys (node_laid E ps x) t c.stand-in-AllUnbounded.result) (sym c.in-AllUnbounded.is)
    (line_then room (g.S.LineStore.most c.lay.new.store) xs (g.S.LineStore.lines c.lay.new.store) ys (type_line top') c.in_ok-a-in-AllUnbounded.a (λ a k. lay (type_line (all' a (node_line ps c.in-AllUnbounded.body))) (λ n. k E (on_line n))) t c.stand-in-AllUnbounded.result c.in_ok-a-in-AllUnbounded.ensures.cases c.in_ok-a-in-AllUnbounded.ensures.room (subst (λ p. Goes (g.S.LineStore.most c.lay.new.store) (g.S.LineStore.lines c.lay.new.store) ys p t c.stand-in-AllUnbounded.result) (λ i k. lay (type_line (all' c.in_ok-a-in-AllUnbounded.a (c.line-b-in-AllUnbounded.ensures i))) (λ n. k E (on_line n))) (c.stand-in-AllUnbounded.ensures.cases t)))

pub returns-in_ok-a-in-Fun2Unbounded-clause-cases : goal.returns-in_ok-a-in-Fun2Unbounded-clause-cases
returns-in_ok-a-in-Fun2Unbounded-clause-cases g c =
    let ps = stands c.args.tree.places.now in let t = node_at ps in let room = g.S.LineStore.most c.args.store.now in
    let xs = g.S.LineStore.lines c.args.store.now in let ys = g.S.LineStore.lines c.stand-in-Fun2Unbounded.new.store in let E = c.args.env in
    subst (λ x. Goes room xs ys (node_laid E ps x) t c.stand-in-Fun2Unbounded.result) (sym c.in-Fun2Unbounded.is)
    (line_then room (g.S.LineStore.most c.lay-in-Fun2Unbounded.new.store) xs (g.S.LineStore.lines c.lay-in-Fun2Unbounded.new.store) ys (type_line top') c.in_ok-a-in-Fun2Unbounded.a (λ a k. lay (term_line (fun2' a (node_line ps c.in-Fun2Unbounded.body))) (λ n. k E (fun2_placed c.in-Fun2Unbounded.byte a (t c.in-Fun2Unbounded.body) n))) t c.stand-in-Fun2Unbounded.result c.in_ok-a-in-Fun2Unbounded.ensures.cases c.in_ok-a-in-Fun2Unbounded.ensures.room (subst (λ p. Goes (g.S.LineStore.most c.lay-in-Fun2Unbounded.new.store) (g.S.LineStore.lines c.lay-in-Fun2Unbounded.new.store) ys p t c.stand-in-Fun2Unbounded.result) (λ i k. lay (term_line (fun2' c.in_ok-a-in-Fun2Unbounded.a (c.line-b-in-Fun2Unbounded.ensures i))) (λ n. k E (fun2_placed c.in-Fun2Unbounded.byte c.in_ok-a-in-Fun2Unbounded.a (t c.in-Fun2Unbounded.body) n))) (c.stand-in-Fun2Unbounded.ensures.cases t)))

pub returns-in_ok-line-in-TypeBinding-clause-cases : goal.returns-in_ok-line-in-TypeBinding-clause-cases
returns-in_ok-line-in-TypeBinding-clause-cases g c =
    let ps = stands c.args.tree.places.now in let t = node_at ps in let room = g.S.LineStore.most c.args.store.now in
    let xs = g.S.LineStore.lines c.args.store.now in let ys = g.S.LineStore.lines c.lay-in-TypeBinding.new.store in let E = c.args.env in
    subst (λ x. Goes room xs ys (node_laid E ps x) t (Ok c.by_line-in-TypeBinding.result)) (sym c.in-TypeBinding.is)
    (subst (λ p. Goes room xs ys p t (Ok c.by_line-in-TypeBinding.result)) (λ i k. lay (env_line (with_type' E (c.line-a-in-TypeBinding.ensures i))) (λ n. k n (on_line n))) (env_then room xs ys (env_line (with_type' E c.line-a-in-TypeBinding.result)) c.in_ok-line-in-TypeBinding.line t c.by_line-in-TypeBinding.result c.in_ok-line-in-TypeBinding.ensures.cases c.by_line-in-TypeBinding.ensures.env (c.by_line-in-TypeBinding.ensures.term t)))

pub returns-in_ok-line-in-TermBinding-clause-cases : goal.returns-in_ok-line-in-TermBinding-clause-cases
returns-in_ok-line-in-TermBinding-clause-cases g c =
    let ps = stands c.args.tree.places.now in let t = node_at ps in let room = g.S.LineStore.most c.args.store.now in
    let xs = g.S.LineStore.lines c.args.store.now in let ys = g.S.LineStore.lines c.lay-in-TermBinding.new.store in let E = c.args.env in
    subst (λ x. Goes room xs ys (node_laid E ps x) t (Ok c.by_line-in-TermBinding.result)) (sym c.in-TermBinding.is)
    (subst (λ p. Goes room xs ys p t (Ok c.by_line-in-TermBinding.result)) (λ i k. lay (env_line (with_term' E (c.line-a-in-TermBinding.ensures i))) (λ n. k n (on_line n))) (env_then room xs ys (env_line (with_term' E c.line-a-in-TermBinding.result)) c.in_ok-line-in-TermBinding.line t c.by_line-in-TermBinding.result c.in_ok-line-in-TermBinding.ensures.cases c.by_line-in-TermBinding.ensures.env (c.by_line-in-TermBinding.ensures.term t)))
