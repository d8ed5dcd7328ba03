use Rattle.pgpipe_show.specs.Entries.{Message}
use Rattle.pgpipe_show.proofs.Tellings.{entry_put}
use Rattle.pgpipe_show.proofs.both.page.Page.put_frame.Goals as goal

pub returns-in-Ok : goal.returns-in-Ok
returns-in-Ok g c = entry_put g.K.Sink.takes g.K.Sink.failures c.args.self.now.outbox c.args.sink.now (Message c.args.front (record { kind = c.args.kind; bytes = c.args.frame.now })) _ c.in-Ok.ensures c.put_line.result c.put_line.new.outbox c.put_line.new.sink c.put_line.ensures
