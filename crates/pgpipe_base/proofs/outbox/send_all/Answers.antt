use Rattle.pgpipe_base.proofs.Pieces.{puts_all_sent}
use Rattle.pgpipe_base.proofs.outbox.send_all.Goals as goal

pub returns : goal.returns
returns g c = puts_all_sent g.K.Sink.takes g.K.Sink.failures _ _ _ _ c.send_all.ensures.sends
