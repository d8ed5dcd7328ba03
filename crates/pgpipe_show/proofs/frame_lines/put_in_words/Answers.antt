use Rattle.pgpipe_show.specs.FrameLines.{IsLine}
use Rattle.pgpipe_show.specs.Private.Showing.{words_of}
use Rattle.pgpipe_show.proofs.Framings.{line_put}
use Rattle.pgpipe_show.proofs.frame_lines.put_in_words.Goals as goal

pub returns-in-Ok : goal.returns-in-Ok
returns-in-Ok g c = line_put g.K.Sink.takes g.K.Sink.failures c.args.outbox.now c.args.sink.now (IsLine (words_of c.args.wording.json) c.args.wording.front (record { kind = c.args.wording.kind; bytes = c.args.frame.now })) _ c.in-Ok.ensures c.put_text.result c.put_text.new.outbox c.put_text.new.sink c.put_text.ensures
