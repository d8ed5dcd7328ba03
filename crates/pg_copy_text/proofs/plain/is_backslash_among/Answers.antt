use Rattle.std.proofs.Common.{arith}
use Rattle.pg_copy_text.proofs.BlockBits.{none_by_place}
use Rattle.pg_copy_text.proofs.plain.is_backslash_among.Goals as goal

pub returns : goal.returns
returns c none = none_by_place c.args.bytes.now (λ k l. c.loop-i.invariant k (omega (arith, l, c.loop-i-test.false)))
