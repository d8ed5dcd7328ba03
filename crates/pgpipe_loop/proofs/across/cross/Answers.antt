use Rattle.std.proofs.Common.{refl, subst}
use Rattle.pg_pair.specs.Carrying.{arrival}
use Rattle.pgpipe_loop.specs.Across.{Receives}
use Rattle.pgpipe_loop.proofs.Crossing.{crosses_unsent, crosses_sent}
use Rattle.pgpipe_loop.proofs.across.cross.Goals as goal

pub returns-in-Err-clause-crosses : goal.returns-in-Err-clause-crosses
returns-in-Err-clause-crosses g c =
    crosses_unsent g.K.Sink.takes g.K.Sink.failures g.S.Source.gives g.S.Source.failures g.S.Source.has_ended _ _ _ _ _ _ _ c.send_all.ensures c.in-Err.is refl

pub returns-in-Ok-clause-crosses : goal.returns-in-Ok-clause-crosses
returns-in-Ok-clause-crosses g c =
    crosses_sent g.K.Sink.takes g.K.Sink.failures g.S.Source.gives g.S.Source.failures g.S.Source.has_ended _ _ _ _ _ _ _ c.send_all.ensures c.in-Ok.is
    (subst (λ n. Receives g.S.Source.gives g.S.Source.failures g.S.Source.has_ended n c.args.source.now (arrival c.receive_all.result c.receive_all.new.into) c.receive_all.new.source) c.requires c.receive_all.ensures.receives)
