use Rattle.std.proofs.Common.{Err, Ok, refl, subst}
use Rattle.std.proofs.lemmas.Result.{err_from_is_err_and}
use Rattle.pgpipe_frames.specs.Reader.{FramesState}
use Rattle.pgpipe_show.specs.Private.Showing.{PutsFrames}
use Rattle.pgpipe_show.proofs.Framings.{if_pushed, refused, stopped, went_on}
use Rattle.pgpipe_show.proofs.framing.take_frames.Goals as goal

pub returns-then-is_err-clause-steps : goal.returns-then-is_err-clause-steps
returns-then-is_err-clause-steps g c = λ start bytes st. refused g.K.Sink.takes g.K.Sink.failures start bytes c.args.piece.now c.args.outbox.now c.args.sink.now c.args.framing st

pub returns-in_err-put_frames-clause-steps : goal.returns-in_err-put_frames-clause-steps
returns-in_err-put_frames-clause-steps g c = λ start bytes st.
    let p = err_from_is_err_and c.from_residual.result c.from_residual.ensures.1 in
    let is = if_pushed c.push.result c.if-is_err.ensures.value c.push.ensures.ok in
    rw (p.1, p.2) (stopped g.K.Sink.takes g.K.Sink.failures start bytes c.args.piece.now c.args.outbox.now c.args.sink.now c.args.framing st c.in_err-put_frames.field-0.0 c.put_frames.new.frames c.put_frames.new.outbox c.put_frames.new.sink (subst (λ (x : FramesState). PutsFrames g.K.Sink.takes g.K.Sink.failures c.args.framing.line c.args.framing.front c.args.outbox.now c.args.sink.now x (Err c.in_err-put_frames.field-0.0) c.put_frames.new.frames c.put_frames.new.outbox c.put_frames.new.sink) is c.in_err-put_frames.ensures.puts))

pub returns-clause-steps : goal.returns-clause-steps
returns-clause-steps g c = λ start bytes st.
    let is = if_pushed c.push.result c.if-is_err.ensures.value c.push.ensures.ok in
    went_on g.K.Sink.takes g.K.Sink.failures start bytes c.args.piece.now c.args.outbox.now c.args.sink.now c.args.framing st c.in_ok-put_frames.field-0 c.put_frames.new.frames c.put_frames.new.outbox c.put_frames.new.sink (subst (λ (x : FramesState). PutsFrames g.K.Sink.takes g.K.Sink.failures c.args.framing.line c.args.framing.front c.args.outbox.now c.args.sink.now x (Ok c.in_ok-put_frames.field-0) c.put_frames.new.frames c.put_frames.new.outbox c.put_frames.new.sink) is c.in_ok-put_frames.ensures.puts) (record { alloc = c.args.framing.alloc; line = c.args.framing.line; front = c.args.framing.front; frames = c.put_frames.new.frames }) refl refl refl c.go_on.result c.go_on.ensures.side c.go_on.ensures.stands
