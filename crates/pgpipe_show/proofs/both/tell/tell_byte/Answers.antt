use Rattle.std.proofs.Common.{refl, rules}
use Rattle.pgpipe_show.proofs.Tellings.{tell_reply, tell_pushed, tell_refused}
use Rattle.pgpipe_show.proofs.both.tell.tell_byte.Goals as goal

pub returns-then-is_reply : goal.returns-then-is_reply
returns-then-is_reply g c = tell_reply g.S.Source.gives g.S.Source.failures g.S.Source.has_ended g.K.Sink.takes g.K.Sink.failures c.args.request c.args.turn c.args.reader.now.frames.next c.args.source.now c.args.page.now.outbox c.args.sink.now c.args.byte (search rules) c.args.reader.now.frames.kept c.requires c.tell_reply.result c.tell_reply.new.page.outbox c.tell_reply.new.sink c.tell_reply.ensures

pub returns-in-Ok : goal.returns-in-Ok
returns-in-Ok g c = tell_pushed g.S.Source.gives g.S.Source.failures g.S.Source.has_ended g.K.Sink.takes g.K.Sink.failures c.args.request c.args.turn c.args.reader.now.frames.next c.args.source.now c.args.page.now.outbox c.args.sink.now c.args.byte (search rules) c.args.reader.now.frames c.push.new.self _ refl c.requires (search rules) c.in-Ok.ensures.ok c.tell.result c.tell.new.reader.frames.next c.tell.new.reader.frames.kept c.tell.new.source c.tell.new.page.outbox c.tell.new.sink c.tell.ensures

pub returns-in-Err : goal.returns-in-Err
returns-in-Err g c = tell_refused g.S.Source.gives g.S.Source.failures g.S.Source.has_ended g.K.Sink.takes g.K.Sink.failures c.args.request c.args.turn c.args.reader.now.frames.next c.args.source.now c.args.page.now.outbox c.args.sink.now c.args.byte c.push.new.self.next c.push.new.self.kept
