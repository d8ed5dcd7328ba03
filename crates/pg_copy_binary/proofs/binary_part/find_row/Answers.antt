use Rattle.std.proofs.lemmas.Result.{err_from_is_err_and}
use Rattle.pg_copy_binary.specs.Private.BinaryPart.{no_part}
use Rattle.pg_copy_binary.proofs.BinaryWalk.{begun-start, row-incomplete, row-trailer, row-other}
use Rattle.pg_copy_binary.proofs.binary_part.find_row.Goals as goal

pub returns-in_err-count-clause-found : goal.returns-in_err-count-clause-found
returns-in_err-count-clause-found c =
    let p = err_from_is_err_and c.from_residual.result c.from_residual.ensures.1 in
    rw (p.1, p.2) (row-incomplete c.args.columns c.args.limit c.args.bytes.now (no_part c.in_err-count.field-0.0) c.in_err-count.ensures)

pub returns-then-count-clause-found : goal.returns-then-count-clause-found
returns-then-count-clause-found c = row-trailer c.args.columns c.args.limit c.args.bytes.now c.in_ok-count.count _ c.in_ok-count.ensures c.if-count.true

pub returns-then-count-columns-clause-found : goal.returns-then-count-columns-clause-found
returns-then-count-columns-clause-found c = rw c.wrong_count.ensures (row-other c.args.columns c.args.limit c.args.bytes.now c.in_ok-count.count _ c.in_ok-count.ensures c.if-count.false c.if-count-columns.true)

pub find_values-requires-2-clause-walked : goal.find_values-requires-2-clause-walked
find_values-requires-2-clause-walked c = λ lt. begun-start c.args.columns c.args.limit c.args.bytes.now c.in_ok-count.count _ c.in_ok-count.ensures c.if-count-columns.false
