use Rattle.std.proofs.Common.{rules}
use Rattle.pgpipe_show.specs.FrameLines.{IsMessageLine}
use Rattle.pgpipe_show.proofs.Framings.{known_line, line_put, other_line_of}
use Rattle.pgpipe_show.proofs.frame_lines.put_message.Goals as goal

pub returns-then-is_message : goal.returns-then-is_message
returns-then-is_message g c = line_put g.K.Sink.takes g.K.Sink.failures c.args.outbox.now c.args.sink.now (IsMessageLine g.M.Message.direction c.args.frame.now) _ (known_line g.M.Message.direction c.args.frame.now c.is_message.result c.requires.0 (search rules) c.is_message.ensures) c.put_spelled.result c.put_spelled.new.outbox c.put_spelled.new.sink c.put_spelled.ensures

pub returns-else-is_message : goal.returns-else-is_message
returns-else-is_message g c = line_put g.K.Sink.takes g.K.Sink.failures c.args.outbox.now c.args.sink.now (IsMessageLine g.M.Message.direction c.args.frame.now) _ (other_line_of g.M.Message.direction c.args.frame.now c.is_message.result (search rules) c.is_message.ensures) c.put_other.result c.put_other.new.outbox c.put_other.new.sink c.put_other.ensures
