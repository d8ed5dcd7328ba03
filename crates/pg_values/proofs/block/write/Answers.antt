use Rattle.std.proofs.Common.{rules}
use Rattle.std.proofs.lemmas.Slice.{overwrites}
use Rattle.pg_values.proofs.block.write.Goals as goal

pub returns-clause-back : goal.returns-clause-back
returns-clause-back c = search (rules, overwrites)
