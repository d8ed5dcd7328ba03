use Rattle.pgpipe_show.proofs.Tellings.{tell_frame, tell_fits, tell_end, tell_stop}
use Rattle.pgpipe_show.proofs.both.tell.tell.Goals as goal

pub tell_frame-requires : goal.tell_frame-requires
tell_frame-requires g c = tell_fits g.S.Source.gives g.S.Source.failures g.S.Source.has_ended g.K.Sink.takes g.K.Sink.failures c.args.front c.args.turn c.args.reader.now.frames c.args.source.now c.args.page.now.outbox c.args.sink.now c.fetch.new.self.frames c.fetch.new.source (rw c.in-Ok-None.field-0-is at c.in-Ok-None.ensures) c.upcoming-kind.result c.upcoming-kind.ensures c.frame.result.now c.frame.ensures

pub returns-in-Ok-None : goal.returns-in-Ok-None
returns-in-Ok-None g c = tell_frame g.S.Source.gives g.S.Source.failures g.S.Source.has_ended g.K.Sink.takes g.K.Sink.failures c.args.front c.args.turn c.args.reader.now.frames c.args.source.now c.args.page.now.outbox c.args.sink.now c.fetch.new.self.frames c.fetch.new.source (rw c.in-Ok-None.field-0-is at c.in-Ok-None.ensures) c.upcoming-kind.result c.upcoming-kind.ensures c.frame.result.now c.frame.ensures c.tell_frame.result c.tell_frame.new.page.outbox c.tell_frame.new.sink c.tell_frame.ensures

pub returns-in-Ok-Some : goal.returns-in-Ok-Some
returns-in-Ok-Some g c = tell_end g.S.Source.gives g.S.Source.failures g.S.Source.has_ended g.K.Sink.takes g.K.Sink.failures c.args.front c.args.turn c.args.reader.now.frames c.args.source.now c.args.page.now.outbox c.args.sink.now c.fetch.new.self.frames c.fetch.new.source c.in-Ok-Some.how (rw c.in-Ok-Some.field-0-is at c.in-Ok-Some.ensures) c.after_end.result c.after_end.ensures

pub returns-in-Err : goal.returns-in-Err
returns-in-Err g c = tell_stop g.S.Source.gives g.S.Source.failures g.S.Source.has_ended g.K.Sink.takes g.K.Sink.failures c.args.front c.args.turn c.args.reader.now.frames c.args.source.now c.args.page.now.outbox c.args.sink.now c.fetch.new.self.frames c.fetch.new.source c.in-Err.stop c.in-Err.ensures
