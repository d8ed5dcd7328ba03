use Rattle.std.proofs.Common.{arith}
use Rattle.std.proofs.lemmas.Grind.{common_steps}
use Rattle.pg_backend.proofs.playing.fitting.Goals as goal

pub returns-else-fits : goal.returns-else-fits
returns-else-fits c = grind (arith, common_steps)
