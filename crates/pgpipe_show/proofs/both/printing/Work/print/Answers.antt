use Rattle.pgpipe_show.proofs.BothSettling.{settled, unsettled}
use Rattle.pgpipe_show.proofs.both.printing.Work.print.Goals as goal

pub returns-in-Ok : goal.returns-in-Ok
returns-in-Ok g c = rw c.answer.ensures (settled g.F.Source.gives g.F.Source.failures g.F.Source.has_ended g.B.Source.gives g.B.Source.failures g.B.Source.has_ended g.K.Sink.takes g.K.Sink.failures c.args.front.now c.args.back.now c.args.sink.now c.run-stop.new.front c.run-stop.new.back c.run-stop.new.self.page.outbox c.run-stop.new.sink c.settle.new.sink c.run-stop.result c.run-stop.ensures (rw c.collected.ensures at c.in-Ok.ensures))

pub returns-in-Err : goal.returns-in-Err
returns-in-Err g c = unsettled g.F.Source.gives g.F.Source.failures g.F.Source.has_ended g.B.Source.gives g.B.Source.failures g.B.Source.has_ended g.K.Sink.takes g.K.Sink.failures c.args.front.now c.args.back.now c.args.sink.now c.run-stop.new.front c.run-stop.new.back c.run-stop.new.self.page.outbox c.run-stop.new.sink c.settle.new.sink c.run-stop.result c.run-stop.ensures c.in-Err.field-0 (rw c.collected.ensures at c.in-Err.ensures)
