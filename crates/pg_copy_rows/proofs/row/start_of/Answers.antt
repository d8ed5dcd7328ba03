use Rattle.std.proofs.Common.{sym, arith}
use Rattle.pg_copy_rows.proofs.Cuts.{start-more}
use Rattle.pg_copy_rows.proofs.row.start_of.Goals as goal

pub returns : goal.returns
returns c = sym (start-more 0 c.args.cuts.now c.args.index (omega (arith, c.if-index-eq0.false)) (omega (arith, c.requires)))
