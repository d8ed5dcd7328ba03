use Rattle.pgpipe_show.proofs.Readings.{look_frame, look_more, look_fault}
use Rattle.pgpipe_show.proofs.both.reader.Reader.look.Goals as goal

pub returns-in-Ok-true : goal.returns-in-Ok-true
returns-in-Ok-true c = look_frame c.args.self.now.frames c.next.new.self c.in-Ok-true.ensures.left (rw c.in-Ok-true.field-0-test at c.in-Ok-true.ensures.answer)

pub returns-in-Ok-false : goal.returns-in-Ok-false
returns-in-Ok-false c = look_more c.args.self.now.frames c.next.new.self c.in-Ok-false.ensures.left (rw c.in-Ok-false.field-0-test at c.in-Ok-false.ensures.answer) c.upcoming.result c.upcoming.ensures c.look_on.result c.look_on.ensures

pub returns-in-Err : goal.returns-in-Err
returns-in-Err c = look_fault c.args.self.now.frames c.next.new.self c.in-Err.ensures.left c.in-Err.fault c.in-Err.ensures.answer
