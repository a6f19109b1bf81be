use Rattle.std.proofs.Common.{sym, ◌∙◌, arith}
use Rattle.checker.proofs.Dispatch.{follows_10_14, follows_20_28, follows_30_32, follows_60_66, follows_70_79, follows_other}
use Rattle.checker.proofs.follow.follows.Goals as goal
use Rattle.checker.specs.Decide.{at}

pub returns-in-30-to-32 : goal.returns-in-30-to-32
returns-in-30-to-32 g c = sym (follows_30_32 (at c.args.before.now) c.args.session.latest c.args.session.env c.args.l (omega arith) (omega arith))

pub returns-in-20-to-28 : goal.returns-in-20-to-28
returns-in-20-to-28 g c =
    c.numbered_variable-in-20-to-28.ensures ∙ sym (follows_20_28 (at c.args.before.now) c.args.session.latest c.args.session.env c.args.l (omega arith) (omega arith))

pub returns-in-60-to-66 : goal.returns-in-60-to-66
returns-in-60-to-66 g c =
    c.subtype.ensures ∙ sym (follows_60_66 (at c.args.before.now) c.args.session.latest c.args.session.env c.args.l (omega arith) (omega arith))

pub returns-in-70-to-79 : goal.returns-in-70-to-79
returns-in-70-to-79 g c =
    c.typed.ensures ∙ sym (follows_70_79 (at c.args.before.now) c.args.session.latest c.args.session.env c.args.l (omega arith) (omega arith))

pub returns-in_default : goal.returns-in_default
returns-in_default g c =
    follows_other (at c.args.before.now) c.args.session.latest c.args.session.env c.args.l (search arith) (omega arith)

pub returns-in_default-2 : goal.returns-in_default-2
returns-in_default-2 g c =
    follows_other (at c.args.before.now) c.args.session.latest c.args.session.env c.args.l (search arith) (omega arith)

pub returns-in_default-3 : goal.returns-in_default-3
returns-in_default-3 g c =
    follows_other (at c.args.before.now) c.args.session.latest c.args.session.env c.args.l (search arith) (omega arith)

pub returns-in_default-4 : goal.returns-in_default-4
returns-in_default-4 g c =
    follows_other (at c.args.before.now) c.args.session.latest c.args.session.env c.args.l (search arith) (omega arith)

pub returns-in_default-5 : goal.returns-in_default-5
returns-in_default-5 g c =
    follows_other (at c.args.before.now) c.args.session.latest c.args.session.env c.args.l (search arith) (omega arith)

pub returns-in_default-6 : goal.returns-in_default-6
returns-in_default-6 g c =
    follows_other (at c.args.before.now) c.args.session.latest c.args.session.env c.args.l (search arith) (omega arith)

pub returns-in-10-to-14 : goal.returns-in-10-to-14
returns-in-10-to-14 g c =
    c.numbered_variable.ensures ∙ sym (follows_10_14 (at c.args.before.now) c.args.session.latest c.args.session.env c.args.l (omega arith) (omega arith))
