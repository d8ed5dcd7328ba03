use Rattle.std.proofs.lemmas.Result.{err_from_is_err_and}
use Rattle.pgpipe_show.specs.FrameLines.{IsLine}
use Rattle.pgpipe_show.proofs.Framings.{at_open, at_fault, at_line, at_stop, leaves, shorter, sizes}
use Rattle.pgpipe_show.proofs.frame_lines.put_frames.Goals as goal

pub returns-in-Ok-false-clause-puts : goal.returns-in-Ok-false-clause-puts
returns-in-Ok-false-clause-puts g c = at_open g.K.Sink.takes g.K.Sink.failures c.args.line c.args.front c.args.outbox.now c.args.sink.now c.args.frames.now.next c.args.frames.now.kept c.loop-frames.frames c.loop-frames.outbox c.loop-frames.sink c.loop-frames.invariant c.next.new.self c.in-Ok-false.ensures.left (rw c.in-Ok-false.field-0-test at c.in-Ok-false.ensures.answer)

pub put_frame-requires : goal.put_frame-requires
put_frame-requires g c = sizes g.K.Sink.takes g.K.Sink.failures c.args.line c.args.front c.args.outbox.now c.args.sink.now c.args.frames.now.next c.args.frames.now.kept c.loop-frames.frames c.loop-frames.outbox c.loop-frames.sink c.loop-frames.invariant c.next.new.self c.in-Ok-true.ensures.left (rw c.in-Ok-true.field-0-test at c.in-Ok-true.ensures.answer) c.upcoming-kind.result c.upcoming-kind.ensures c.frame.result.now c.frame.ensures

pub loop-frames-preserved : goal.loop-frames-preserved
loop-frames-preserved g c = at_line g.K.Sink.takes g.K.Sink.failures c.args.line c.args.front c.args.outbox.now c.args.sink.now c.args.frames.now.next c.args.frames.now.kept c.loop-frames.frames c.loop-frames.outbox c.loop-frames.sink c.loop-frames.invariant c.next.new.self c.in-Ok-true.ensures.left (rw c.in-Ok-true.field-0-test at c.in-Ok-true.ensures.answer) c.upcoming-kind.result c.upcoming-kind.ensures c.frame.result.now c.frame.ensures c.in_ok-put_frame-in-Ok-true.field-0 c.put_frame.new.outbox c.put_frame.new.sink c.in_ok-put_frame-in-Ok-true.ensures

pub loop-frames-smaller : goal.loop-frames-smaller
loop-frames-smaller g c = shorter g.K.Sink.takes g.K.Sink.failures c.args.line c.args.front c.args.outbox.now c.args.sink.now c.args.frames.now.next c.args.frames.now.kept c.loop-frames.frames c.loop-frames.outbox c.loop-frames.sink c.loop-frames.invariant c.next.new.self c.in-Ok-true.ensures.left (rw c.in-Ok-true.field-0-test at c.in-Ok-true.ensures.answer) c.upcoming-kind.result c.upcoming-kind.ensures c.frame.result.now c.frame.ensures

pub returns-in_err-put_frame-in-Ok-true-clause-puts : goal.returns-in_err-put_frame-in-Ok-true-clause-puts
returns-in_err-put_frame-in-Ok-true-clause-puts g c =
    let p = err_from_is_err_and c.from_residual.result c.from_residual.ensures.1 in
    rw (p.1, p.2) (at_stop g.K.Sink.takes g.K.Sink.failures c.args.line c.args.front c.args.outbox.now c.args.sink.now c.args.frames.now.next c.args.frames.now.kept c.loop-frames.frames c.loop-frames.outbox c.loop-frames.sink c.loop-frames.invariant c.next.new.self c.in-Ok-true.ensures.left (rw c.in-Ok-true.field-0-test at c.in-Ok-true.ensures.answer) c.upcoming-kind.result c.upcoming-kind.ensures c.frame.result.now c.frame.ensures c.in_err-put_frame-in-Ok-true.field-0.0 c.put_frame.new.outbox c.put_frame.new.sink c.next.new.self c.in_err-put_frame-in-Ok-true.ensures)

pub returns-in-Err-clause-puts : goal.returns-in-Err-clause-puts
returns-in-Err-clause-puts g c = rw c.fault_stop.ensures (at_fault g.K.Sink.takes g.K.Sink.failures c.args.line c.args.front c.args.outbox.now c.args.sink.now c.args.frames.now.next c.args.frames.now.kept c.loop-frames.frames c.loop-frames.outbox c.loop-frames.sink c.loop-frames.invariant c.next.new.self c.in-Err.ensures.left c.in-Err.fault c.in-Err.ensures.answer)

pub returns-in_err-put_frame-in-Ok-true-clause-source : goal.returns-in_err-put_frame-in-Ok-true-clause-source
returns-in_err-put_frame-in-Ok-true-clause-source g c =
    let p = err_from_is_err_and c.from_residual.result c.from_residual.ensures.1 in
    rw (p.1, p.2) (leaves g.K.Sink.takes g.K.Sink.failures c.loop-frames.outbox c.loop-frames.sink (IsLine c.args.line c.args.front (record { kind = c.upcoming-kind.result; bytes = c.frame.result.now })) (Unit {0}) c.in_err-put_frame-in-Ok-true.field-0.0 c.put_frame.new.outbox c.put_frame.new.sink c.in_err-put_frame-in-Ok-true.ensures)
