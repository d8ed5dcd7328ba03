use Rattle.pgpipe_show.proofs.Escapes.{taken_out}
use Rattle.pgpipe_show.proofs.laws.nothing_else.Goals as goal

pub returns : goal.returns
returns c = taken_out
