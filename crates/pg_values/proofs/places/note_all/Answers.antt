use Rattle.std.proofs.Common.{arith, option_copied}
use Rattle.pg_values.proofs.Blocks.{nothing_noted, begins_one, one_noted, all_noted}
use Rattle.pg_values.proofs.places.note_all.Goals as goal

pub loop-index-init : goal.loop-index-init
loop-index-init c = nothing_noted c.args.count c.args.bytes.now c.args.places.now c.requires.row

pub overflow_sub-bytes : goal.overflow_sub-bytes
overflow_sub-bytes c = omega (arith, c.loop-index.invariant.size)

pub first_value-requires : goal.first_value-requires
first_value-requires c = begins_one c.args.count c.loop-index.index c.args.bytes.now c.loop-index.rest.now c.loop-index.places c.loop-index.invariant c.loop-index-test.true

pub loop-index-preserved : goal.loop-index-preserved
loop-index-preserved c =
    one_noted c.args.count c.loop-index.index c.args.bytes.now c.loop-index.rest.now c.loop-index.places c.loop-index.invariant c.loop-index-test.true (option_copied c.first_value.result.0) c.first_value.result.1.now c.note.new.block c.first_value.ensures
    (omega (arith, c.requires.room, c.loop-index.auto.places)) c.note.ensures.len c.note.ensures.before c.note.ensures.noted

pub returns-clause-noted : goal.returns-clause-noted
returns-clause-noted c = all_noted c.args.count c.loop-index.index c.args.bytes.now c.loop-index.rest.now c.loop-index.places c.loop-index.invariant c.loop-index-test.false
