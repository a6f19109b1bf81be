use Rattle.std.proofs.Common.{Ok, refl, ap, ◌∙◌}
use Rattle.lines.specs.declared.answer.Answer.TheVariants.{OutOfForm}
use Rattle.lexer.specs.Coming.{to_come}
use Rattle.tables.proofs.Adopting.{fits, beyond, adopted_records}
use Rattle.tables.specs.LineTables.{standing}
use Rattle.reader_rows.proofs.Reading.{shown, told}
use Rattle.reader_rows.specs.Rows.{packed, too_long, too_many, refused}
use Rattle.reader_rows.proofs.read.read_source.Goals as goal

pub returns-in-Err : goal.returns-in-Err
returns-in-Err c = too_long (c.in-Err.ensures.too_long.0 refl) (c.pack.ensures ∙ ap packed c.into.ensures) refl

pub returns-in-Err-adopt : goal.returns-in-Err-adopt
returns-in-Err-adopt c =
    let over = beyond c.new-table.result c.args.records.now c.new-table.ensures.records c.in-Err-adopt.fault.place c.in-Err-adopt.ensures.cases.0 in
    too_many over.0 (c.pack-in-Err-adopt.ensures ∙ ap packed (c.into-in-Err-adopt.ensures ∙ ap OutOfForm over.1)) refl

pub returns-in_default-places : goal.returns-in_default-places
returns-in_default-places c = refused refl refl

pub returns-in-Ok-read : goal.returns-in-Ok-read
returns-in-Ok-read c =
    let adopted = c.in_default.ensures.cases in
    let few = fits c.new-table.result c.args.records.now c.new-table.ensures.records adopted.1 in
    let lines = adopted_records c.new-table.result c.adopt.new.self c.args.records.now (Ok c.in_default.field-0) c.new-table.ensures.records few adopted in
    let h = c.in-Ok-read.ensures.answer in
    shown c.args.source.now c.args.records.now (standing c.adopt.new.self) c.args.rows.now c.show.new.rows (to_come c.in-Ok.tokens) c.deref_mut.result.now
    c.saturating_sub.result lines c.in-Ok.ensures.items (c.deref_mut.ensures.value ∙ c.in-Ok-places.ensures) c.saturating_sub.ensures h.0 c.in-Ok-read.phrase
    c.in-Ok-read.nodes.now h.1 h.2 h.3 c.show.ensures

pub returns : goal.returns
returns c =
    let adopted = c.in_default.ensures.cases in
    let few = fits c.new-table.result c.args.records.now c.new-table.ensures.records adopted.1 in
    let lines = adopted_records c.new-table.result c.adopt.new.self c.args.records.now (Ok c.in_default.field-0) c.new-table.ensures.records few adopted in
    told c.args.source.now c.args.records.now (standing c.adopt.new.self) c.args.rows.now c.args.rows.now (to_come c.in-Ok.tokens) c.deref_mut.result.now
    c.saturating_sub.result lines c.in-Ok.ensures.items (c.deref_mut.ensures.value ∙ c.in-Ok-places.ensures) c.saturating_sub.ensures c.in-Err-read.fault
    c.pack-in-Err-read.result refl c.in-Err-read.ensures.answer (c.pack-in-Err-read.ensures ∙ ap packed c.into-in-Err-read.ensures)
