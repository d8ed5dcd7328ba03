use Rattle.std.proofs.Common.{◌++◌}
use Rattle.pgpipe_show.proofs.MessageLines.{has_put_none}
use Rattle.pgpipe_show.proofs.messages.take_messages.Goals as goal

pub returns-in-Err-clause-puts : goal.returns-in-Err-clause-puts
returns-in-Err-clause-puts g c = (c.args.spellings.stream.kept ++ c.args.piece.now, has_put_none g.M.Message.direction g.K.Sink.takes g.K.Sink.failures c.args.outbox.now c.args.sink.now (c.args.spellings.stream.kept ++ c.args.piece.now))
