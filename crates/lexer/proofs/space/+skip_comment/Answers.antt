use Rattle.std.proofs.Common.{rules, arith, ◌≡◌, ◌∷◌, get_or, ◌∙◌, refl}
use Rattle.lexer.proofs.Skipping.{at_inner, at_close, at_byte}
use Rattle.std.proofs.lemmas.Grind.{common_steps}
use Rattle.std.specs.Prelude.{false, ◌≢◌}
use Rattle.lexer.specs.Skipping.{opens, closes}
use Rattle.lexer.specs.Classes.{class_of}
use Rattle.lexer.specs.declared.class.Class.TheVariants.{Illegal}
use Rattle.lexer.proofs.space.+skip_comment.Goals as goal

pub returns-in_err-rest-in-40-clause-skips : goal.returns-in_err-rest-in-40-clause-skips
returns-in_err-rest-in-40-clause-skips t c = λ opened e.
    let s = c.loop-rest.rest.now in
    let l = c.loop-rest.invariant.skips opened e
    ∙ at_inner _ _ c.args.source_len c.args.opening opened s c.in-40.len_at_least (search rules) (search rules) (omega arith) refl c.byte_of-opening.ensures
    ∙ c.in_err-rest-in-40.ensures.skips (c.args.opening ∷ opened) (omega arith) in
    search rules

pub returns-in-42-clause-skips : goal.returns-in-42-clause-skips
returns-in-42-clause-skips t c = λ opened e. c.loop-rest.invariant.skips opened e ∙ at_close _ _ _ _ c.loop-rest.rest.now c.in-42.len_at_least (search rules) (search rules) refl

pub loop-rest-preserved-in_ok-rest-in-40 : goal.loop-rest-preserved-in_ok-rest-in-40
loop-rest-preserved-in_ok-rest-in-40 t c = record {
  shorter = search rules;
  skips = λ opened e.
      let s = c.loop-rest.rest.now in
      c.loop-rest.invariant.skips opened e
      ∙ at_inner _ _ c.args.source_len c.args.opening opened s c.in-40.len_at_least (search rules) (search rules) (omega arith) refl c.byte_of-opening.ensures
      ∙ c.in_ok-rest-in-40.ensures.skips (c.args.opening ∷ opened) (omega arith);
}

pub loop-rest-preserved : goal.loop-rest-preserved
loop-rest-preserved t c = record {
  shorter = search rules;
  skips = λ opened e.
      let s = c.loop-rest.rest.now in
      let o : opens (get_or s 0 0) (get_or s 1 0) ≡ false = grind (arith, common_steps) in
      let k : closes (get_or s 0 0) (get_or s 1 0) ≡ false = grind (arith, common_steps) in
      let z : class_of (get_or s 0 0) ≢ Illegal = search rules in
      c.loop-rest.invariant.skips opened e ∙ at_byte _ c.args.source_len c.args.opening opened s (search rules) o k z refl;
}
