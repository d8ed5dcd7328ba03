use Rattle.pgpipe_show.specs.Entries.{Reply}
use Rattle.pgpipe_show.proofs.Tellings.{entry_put}
use Rattle.pgpipe_show.proofs.both.page.Page.put_reply.Goals as goal

pub returns : goal.returns
returns g c = entry_put g.K.Sink.takes g.K.Sink.failures c.args.self.now.outbox c.args.sink.now (Reply c.args.byte) _ c.reply_line.ensures c.put_text.result c.put_text.new.outbox c.put_text.new.sink c.put_text.ensures
