use Rattle.std.proofs.Common.{sym}
use Rattle.pgpipe_show.proofs.Orders.{requested}
use Rattle.pgpipe_show.proofs.Standings.{step_front, step_back, step_reply, stand_over}
use Rattle.pgpipe_show.proofs.both.printing.Work.step.Goals as goal

pub tell_answer-requires-clause-kept : goal.tell_answer-requires-clause-kept
tell_answer-requires-clause-kept g c = requested c.args.turn.stage c.args.turn.front c.args.turn.back c.in-Reply.request c.args.self.now.back.frames.kept (sym c.in-Reply.ensures) c.requires.untouched

pub returns-in-Side-true : goal.returns-in-Side-true
returns-in-Side-true g c = λ front0 back0 sink0 count st. step_front g.F.Source.gives g.F.Source.failures g.F.Source.has_ended g.B.Source.gives g.B.Source.failures g.B.Source.has_ended g.K.Sink.takes g.K.Sink.failures front0 back0 sink0 count c.args.turn c.args.self.now.front.frames.next c.args.self.now.front.frames.kept c.args.front.now c.args.self.now.back.frames.next c.args.self.now.back.frames.kept c.args.back.now c.args.self.now.page.outbox c.args.sink.now st (sym (rw c.in-Side-true.field-0-test at c.in-Side-true.ensures)) c.tell.new.reader.frames.next c.tell.new.reader.frames.kept c.tell.new.source c.tell.new.page.outbox c.tell.new.sink c.tell.result c.tell.ensures

pub returns-in-Side-false : goal.returns-in-Side-false
returns-in-Side-false g c = λ front0 back0 sink0 count st. step_back g.F.Source.gives g.F.Source.failures g.F.Source.has_ended g.B.Source.gives g.B.Source.failures g.B.Source.has_ended g.K.Sink.takes g.K.Sink.failures front0 back0 sink0 count c.args.turn c.args.self.now.front.frames.next c.args.self.now.front.frames.kept c.args.front.now c.args.self.now.back.frames.next c.args.self.now.back.frames.kept c.args.back.now c.args.self.now.page.outbox c.args.sink.now st (sym (rw c.in-Side-false.field-0-test at c.in-Side-false.ensures)) c.tell-in-Side-false.result c.tell-in-Side-false.new.reader.frames.next c.tell-in-Side-false.new.reader.frames.kept c.tell-in-Side-false.new.source c.tell-in-Side-false.new.page.outbox c.tell-in-Side-false.new.sink c.tell-in-Side-false.ensures

pub returns-in-Reply : goal.returns-in-Reply
returns-in-Reply g c = λ front0 back0 sink0 count st. step_reply g.F.Source.gives g.F.Source.failures g.F.Source.has_ended g.B.Source.gives g.B.Source.failures g.B.Source.has_ended g.K.Sink.takes g.K.Sink.failures front0 back0 sink0 count c.args.turn c.args.self.now.front.frames.next c.args.self.now.front.frames.kept c.args.front.now c.args.self.now.back.frames.next c.args.self.now.back.frames.kept c.args.back.now c.args.self.now.page.outbox c.args.sink.now st c.in-Reply.request (sym c.in-Reply.ensures) c.tell_answer.result c.tell_answer.new.reader.frames.next c.tell_answer.new.reader.frames.kept c.tell_answer.new.source c.tell_answer.new.page.outbox c.tell_answer.new.sink c.tell_answer.ensures

pub returns-in-Nobody : goal.returns-in-Nobody
returns-in-Nobody g c = λ front0 back0 sink0 count st. stand_over g.F.Source.gives g.F.Source.failures g.F.Source.has_ended g.B.Source.gives g.B.Source.failures g.B.Source.has_ended g.K.Sink.takes g.K.Sink.failures front0 back0 sink0 count c.args.turn c.args.self.now.front.frames.next c.args.self.now.front.frames.kept c.args.front.now c.args.self.now.back.frames.next c.args.self.now.back.frames.kept c.args.back.now c.args.self.now.page.outbox c.args.sink.now st c.in-Nobody.ends (sym c.in-Nobody.ensures)
