use Rattle.std.proofs.Common.{arith}
use Rattle.pgpipe_show.proofs.Standings.{stands_first, stand_endless}
use Rattle.pgpipe_show.proofs.both.printing.Work.run.Goals as goal

pub loop-init : goal.loop-init
loop-init g c = rw (c.requires.front, c.requires.back, c.requires.page, c.first-turn.ensures) (stands_first g.F.Source.gives g.F.Source.failures g.F.Source.has_ended g.B.Source.gives g.B.Source.failures g.B.Source.has_ended g.K.Sink.takes g.K.Sink.failures c.args.front.now c.args.back.now c.args.sink.now)

pub step-requires-clause-messages : goal.step-requires-clause-messages
step-requires-clause-messages g c = c.loop.invariant.back_is

pub step-requires-clause-untouched : goal.step-requires-clause-untouched
step-requires-clause-untouched g c = c.loop.invariant.untouched

pub returns-in-Err : goal.returns-in-Err
returns-in-Err g c = c.in-Err.ensures c.args.front.now c.args.back.now c.args.sink.now c.loop.counter c.loop.invariant

pub loop-preserved : goal.loop-preserved
loop-preserved g c = c.in-Ok.ensures c.args.front.now c.args.back.now c.args.sink.now c.loop.counter c.loop.invariant

pub returns : goal.returns
returns g c = stand_endless g.F.Source.gives g.F.Source.failures g.F.Source.has_ended g.B.Source.gives g.B.Source.failures g.B.Source.has_ended g.K.Sink.takes g.K.Sink.failures c.args.front.now c.args.back.now c.args.sink.now c.loop.counter c.loop.turn c.loop.self.front.frames.next c.loop.self.front.frames.kept c.loop.front c.loop.self.back.frames.next c.loop.self.back.frames.kept c.loop.back c.loop.self.page.outbox c.loop.sink c.loop.invariant (omega (arith, c.loop-test.false, c.loop.auto.counter-end))
