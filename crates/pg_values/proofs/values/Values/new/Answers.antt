use Rattle.std.proofs.Common.{take}
use Rattle.pg_values.proofs.Blocks.{no_block, no_values}
use Rattle.pg_values.proofs.values.Values.new.Goals as goal

pub invariant_of-result : goal.invariant_of-result
invariant_of-result c = no_block c.new.result.items c.new.ensures.items

pub returns : goal.returns
returns c = no_values (take 0 c.new.result.items)
