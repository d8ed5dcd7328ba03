use Rattle.std.proofs.Common.{sym}
use Rattle.pg_values.proofs.Blocks.{no_zero}
use Rattle.pg_values.proofs.part.CountedValuesBodyPart.has_zero.Goals as goal

pub returns : goal.returns
returns g c = sym (no_zero (g.V.ValueList.values c.args.self.now.0))
