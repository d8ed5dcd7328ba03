use Rattle.std.proofs.Common.{sym, ap, ◌∙◌, arith}
use Rattle.pg_copy_binary.specs.BinaryPart.{value_at}
use Rattle.pg_copy_binary.specs.Private.BinaryPart.{no_part}
use Rattle.pg_copy_binary.proofs.BinaryWalk.{begun-more, row-stuck}
use Rattle.pg_copy_binary.proofs.binary_part.find_values.Goals as goal

pub overflow_sub-at : goal.overflow_sub-at
overflow_sub-at c =
    let l = c.loop-left in
    let read = ap (value_at c.args.limit) (sym l.invariant.rest) ∙ c.in-Ok.ensures in
    (begun-more c.args.columns c.args.limit c.args.bytes.now l.at l.left _ c.in-Ok.after.now c.loop-left-test.true l.invariant.begun read).2

pub loop-left-preserved : goal.loop-left-preserved
loop-left-preserved c =
    let l = c.loop-left in
    let read = ap (value_at c.args.limit) (sym l.invariant.rest) ∙ c.in-Ok.ensures in
    let b = begun-more c.args.columns c.args.limit c.args.bytes.now l.at l.left _ c.in-Ok.after.now c.loop-left-test.true l.invariant.begun read in
    record { begun = b.0; some = omega (arith, b.1, l.invariant.some); rest = b.3 }

pub returns-in-Err-clause-found : goal.returns-in-Err-clause-found
returns-in-Err-clause-found c =
    let l = c.loop-left in
    row-stuck c.args.columns c.args.limit c.args.bytes.now l.at l.left (no_part c.in-Err.stop) c.requires.columns c.loop-left-test.true l.invariant.begun (ap (value_at c.args.limit) (sym l.invariant.rest) ∙ c.in-Err.ensures)
