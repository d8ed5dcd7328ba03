use Rattle.pgpipe_show.proofs.Framings.{begun}
use Rattle.pgpipe_show.proofs.decoding.Decoding.begin.Goals as goal

pub returns-in-Frames-clause-begun : goal.returns-in-Frames-clause-begun
returns-in-Frames-clause-begun c = begun c.new.result c.new.ensures.frames
