use Rattle.std.proofs.Common.{sym, arith}
use Rattle.pg_codec.specs.Private.Lent.{lent_field}
use Rattle.pg_values.proofs.Kept.{all_lengths, no_field, one_length, text_short, past_all}
use Rattle.pg_values.proofs.text_lengths.text_lengths_at.Goals as goal

pub returns-in-Some : goal.returns-in-Some
returns-in-Some c = all_lengths c.loop.counter c.args.bytes.now c.loop.lengths.items c.loop.rest.now c.loop.invariant c.loop-test.true c.in-Some.after.now c.in-Some.ensures

pub returns-in_default-lent_field_at : goal.returns-in_default-lent_field_at
returns-in_default-lent_field_at c = no_field c.loop.counter c.args.bytes.now c.loop.lengths.items c.loop.rest.now c.loop.invariant c.loop-test.true c.in_default.ensures (sym c.in_default-lent_field_at.ensures)

pub overflow_cast-field : goal.overflow_cast-field
overflow_cast-field c =
    let short = text_short c.loop.counter c.args.bytes.now c.loop.lengths.items c.loop.rest.now c.loop.invariant (lent_field c.in-Some-lent_field_at.field) c.in-Some-lent_field_at.after.now (sym c.in-Some-lent_field_at.ensures) in
    record { fits = omega (arith, short, c.requires.short) }

pub loop-preserved : goal.loop-preserved
loop-preserved c =
    rw c.in_ok-push.ensures.items (one_length c.loop.counter c.args.bytes.now c.loop.lengths.items c.loop.rest.now c.loop.invariant c.loop-test.true c.in_default.ensures (lent_field c.in-Some-lent_field_at.field) c.in-Some-lent_field_at.after.now (sym c.in-Some-lent_field_at.ensures))

pub returns : goal.returns
returns c = past_all c.loop.counter c.args.bytes.now c.loop.lengths.items c.loop.rest.now c.loop.invariant c.loop-test.false
