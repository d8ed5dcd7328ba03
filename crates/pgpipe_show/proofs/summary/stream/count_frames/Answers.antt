use Rattle.pgpipe_show.proofs.Counting.{at_fault, at_frame, at_open, large, shorter}
use Rattle.pgpipe_show.proofs.summary.stream.count_frames.Goals as goal

pub returns-in-Ok-false : goal.returns-in-Ok-false
returns-in-Ok-false c = λ bytes h. at_open c.frames.frames c.next.new.self c.in-Ok-false.ensures.left c.args.front bytes c.frames.summary (c.frames.invariant bytes h) (rw c.in-Ok-false.field-0-test at c.in-Ok-false.ensures.answer)

pub count_frame-requires : goal.count_frame-requires
count_frame-requires c = large c.frames.frames c.next.new.self c.in-Ok-true.ensures.left (rw c.in-Ok-true.field-0-test at c.in-Ok-true.ensures.answer) c.upcoming-kind.result c.upcoming-kind.ensures c.frame.result.now c.frame.ensures

pub frames-preserved : goal.frames-preserved
frames-preserved c = λ bytes h. at_frame c.frames.frames c.next.new.self c.in-Ok-true.ensures.left (rw c.in-Ok-true.field-0-test at c.in-Ok-true.ensures.answer) c.upcoming-kind.result c.upcoming-kind.ensures c.frame.result.now c.frame.ensures c.args.front bytes c.frames.summary (c.frames.invariant bytes h) c.count_frame.new.summary c.in-Ok.ensures.0 c.in-Ok.ensures.1 c.in-Ok.ensures.2

pub frames-smaller : goal.frames-smaller
frames-smaller c = shorter c.frames.frames c.next.new.self c.in-Ok-true.ensures.left (rw c.in-Ok-true.field-0-test at c.in-Ok-true.ensures.answer) c.upcoming-kind.result c.upcoming-kind.ensures c.frame.result.now c.frame.ensures

pub returns-in-Err : goal.returns-in-Err
returns-in-Err c = λ bytes h. rw c.fault_stop.ensures (at_fault c.frames.frames c.next.new.self c.in-Err.ensures.left c.args.front bytes c.frames.summary (c.frames.invariant bytes h) c.in-Err.fault c.in-Err.ensures.answer)
