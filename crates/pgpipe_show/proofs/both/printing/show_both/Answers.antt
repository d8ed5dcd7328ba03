use Rattle.pgpipe_show.proofs.BothSettling.{nothing_shown}
use Rattle.pgpipe_show.proofs.both.printing.show_both.Goals as goal

pub returns-in-Err : goal.returns-in-Err
returns-in-Err g c = nothing_shown g.F.Source.gives g.F.Source.failures g.F.Source.has_ended g.B.Source.gives g.B.Source.failures g.B.Source.has_ended g.K.Sink.takes g.K.Sink.failures c.args.front.now c.args.back.now c.args.sink.now
