use Rattle.std.proofs.Common.{◌≡◌, take}
use Rattle.std.specs.Prelude.{map, option_copied}
use Rattle.pg_values.specs.Private.Block.{spelled}
use Rattle.pg_values.proofs.values.Values.from_slice.Given as goal

-- the values so far
abbrev pub invariant-loop-value : goal.invariant-loop-value
invariant-loop-value l = l.block.items ≡ spelled (map option_copied (take l.value-index l.list))
