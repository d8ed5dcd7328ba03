use Rattle.pgpipe_show.proofs.Tellings.{told_after, told_none, told_by_byte}
use Rattle.pgpipe_show.proofs.both.tell.tell_answer.Goals as goal

pub returns-in-Ok-Some : goal.returns-in-Ok-Some
returns-in-Ok-Some g c =
    let b = rw c.in-Ok-Some.field-0-is at c.in-Ok-Some.ensures in
    told_after g.S.Source.gives g.S.Source.failures g.S.Source.has_ended g.K.Sink.takes g.K.Sink.failures c.args.request c.args.turn c.args.reader.now.frames.next c.args.source.now c.args.page.now.outbox c.args.sink.now c.args.reader.now.frames.kept c.requires.kept b.0 c.receive_byte.new.source b.1 c.in-Ok-Some.byte b.2.0 b.2.1 c.tell_byte.result c.tell_byte.new.reader.frames.next c.tell_byte.new.reader.frames.kept c.tell_byte.new.source c.tell_byte.new.page.outbox c.tell_byte.new.sink c.tell_byte.ensures

pub returns-in-Ok-None : goal.returns-in-Ok-None
returns-in-Ok-None g c =
    let b = rw c.in-Ok-None.field-0-is at c.in-Ok-None.ensures in
    told_none g.S.Source.gives g.S.Source.failures g.S.Source.has_ended g.K.Sink.takes g.K.Sink.failures c.args.request c.args.turn c.args.reader.now.frames.next c.args.source.now c.args.page.now.outbox c.args.sink.now c.args.reader.now.frames.kept c.requires.kept b.0 c.receive_byte.new.source b.1 c.requires.messages b.2.1 b.2.0 b.2.2 c.after_end.result c.after_end.ensures c.args.reader.now.frames.kept

pub returns-in-Err : goal.returns-in-Err
returns-in-Err g c = told_by_byte g.S.Source.gives g.S.Source.failures g.S.Source.has_ended g.K.Sink.takes g.K.Sink.failures c.args.request c.args.turn c.args.reader.now.frames.next c.args.source.now c.args.page.now.outbox c.args.sink.now c.args.reader.now.frames.kept c.requires.kept c.in-Err.ensures.0 c.receive_byte.new.source c.in-Err.ensures.1 c.in-Err.stop c.args.reader.now.frames.kept c.in-Err.ensures.2
