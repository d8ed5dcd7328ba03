use Rattle.pgpipe_show.proofs.Counting.{begun}
use Rattle.pgpipe_show.proofs.summary.stream.Counting.begin.Goals as goal

pub returns-clause-begun : goal.returns-clause-begun
returns-clause-begun c = rw (c.new.ensures, c.new-2.ensures, c.first_of.ensures) (begun c.args.front)
