use Rattle.std.proofs.Common.{[], sym, ◌∙◌, arith}
use Rattle.laying.specs.Places.{standing}
use Rattle.laying.proofs.Places.{beyond, own, standing_length}
use Rattle.laying.proofs.place.LaidTreeTree.term.Goals as goal

pub returns-in-None : goal.returns-in-None
returns-in-None c =
    let xs = c.args.self.now.places.now in let e = standing_length [] xs in let h = c.in-None.ensures.lookup in
    beyond (standing xs) c.args.node (omega (arith, e, h.0))

pub returns-in-Some : goal.returns-in-Some
returns-in-Some c =
    let xs = c.args.self.now.places.now in let h = c.in-Some.ensures.lookup in
    own xs c.args.node (omega (arith, h.0)) c.in-Some.place.now (omega (arith, h.0)) h.1 ∙ sym (c.form.ensures c.in-Some.place.now.term.byte c.in-Some.place.now.term.line)
