use Rattle.std.proofs.Common.{rules, arith, ◌≡◌, [], get_or, ◌∙◌, refl}
use Rattle.std.proofs.lemmas.Grind.{common_steps}
use Rattle.std.specs.Prelude.{false}
use Rattle.lexer.specs.Skipping.{opens}
use Rattle.lexer.specs.Classes.{class_of}
use Rattle.lexer.specs.declared.class.Class.TheVariants.{Blank}
use Rattle.lexer.proofs.Skipping.{at_first, at_blank}
use Rattle.lexer.proofs.space.skip_space.Goals as goal

pub returns-in_err-rest-in-40 : goal.returns-in_err-rest-in-40
returns-in_err-rest-in-40 c =
    let s = c.loop-rest.rest.now in
    let l = c.loop-rest.invariant
    ∙ at_first _ _ c.args.source_len s c.in-40.len_at_least (search rules) (search rules) refl c.byte_of.ensures
    ∙ c.in_err-rest-in-40.ensures.skips [] (omega arith) in
    search rules

pub loop-rest-preserved-in_ok-rest-in-40 : goal.loop-rest-preserved-in_ok-rest-in-40
loop-rest-preserved-in_ok-rest-in-40 c =
    let s = c.loop-rest.rest.now in
    c.loop-rest.invariant
    ∙ at_first _ _ c.args.source_len s c.in-40.len_at_least (search rules) (search rules) refl c.byte_of.ensures
    ∙ c.in_ok-rest-in-40.ensures.skips [] (omega arith)

pub loop-rest-preserved : goal.loop-rest-preserved
loop-rest-preserved c =
    let s = c.loop-rest.rest.now in
    let o : opens (get_or s 0 0) (get_or s 1 0) ≡ false = grind (arith, common_steps) in
    let k : class_of (get_or s 0 0) ≡ Blank = search rules in
    c.loop-rest.invariant ∙ at_blank _ c.args.source_len s (search rules) o k refl
