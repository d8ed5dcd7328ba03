use Rattle.pgpipe_show.proofs.ColoredWhole.{whole_text}
use Rattle.pgpipe_show.proofs.laws.whole_text.Goals as goal

pub returns : goal.returns
returns g c = whole_text g.K.Sink.takes g.K.Sink.failures
