use Rattle.std.proofs.Common.{arith}
use Rattle.std.specs.List.{concat}
use Rattle.pgpipe_show.specs.Private.Showing.{way_of}
use Rattle.pgpipe_show.proofs.Runs.{has_room, runs_more, run_stops, run_endless}
use Rattle.pgpipe_show.proofs.Decodings.{sound_at}
use Rattle.pgpipe_show.proofs.show.Showing.run.Goals as goal

pub step-requires-clause-sound : goal.step-requires-clause-sound
step-requires-clause-sound g c =
    let r = c.loop.invariant in
    sound_at g.K.Sink.takes g.K.Sink.failures c.args.sink.now (concat r.pieces) c.loop.self.outbox c.loop.sink c.loop.decoding r.stands

pub step-requires-clause-room : goal.step-requires-clause-room
step-requires-clause-room g c = has_room g.S.Source.gives g.S.Source.failures g.K.Sink.takes g.K.Sink.failures (way_of c.args.decoding) c.args.source.now c.args.sink.now c.loop.counter c.loop.source c.loop.decoding c.loop.self.outbox c.loop.sink (omega arith) c.loop.invariant

pub returns-in-Err : goal.returns-in-Err
returns-in-Err g c =
    let r = c.loop.invariant in
    let step = c.in-Err.ensures.steps in
    run_stops g.S.Source.gives g.S.Source.failures g.K.Sink.takes g.K.Sink.failures (way_of c.args.decoding) (g.S.Source.has_ended c.step.new.source) c.args.source.now c.args.sink.now c.loop.counter c.loop.source c.loop.decoding c.loop.self.outbox c.loop.sink step.0 c.step.new.source c.in-Err.stop c.step.new.self.outbox c.step.new.sink r step.1 step.2 c.in-Err.ensures.source (step.3 c.args.sink.now (concat r.pieces) r.stands)

pub loop-preserved : goal.loop-preserved
loop-preserved g c =
    let r = c.loop.invariant in
    let step = c.in-Ok.ensures.steps in
    runs_more g.S.Source.gives g.S.Source.failures g.K.Sink.takes g.K.Sink.failures (way_of c.args.decoding) c.args.source.now c.args.sink.now c.loop.counter c.loop.source c.loop.decoding c.loop.self.outbox c.loop.sink step.0 c.step.new.source c.in-Ok.next c.step.new.self.outbox c.step.new.sink r step.1 step.2 c.in-Ok.ensures.source (step.3 c.args.sink.now (concat r.pieces) r.stands) c.in-Ok.ensures.nothing_left

pub returns : goal.returns
returns g c = run_endless g.S.Source.gives g.S.Source.failures g.K.Sink.takes g.K.Sink.failures (way_of c.args.decoding) (g.S.Source.has_ended c.loop.source) c.args.source.now c.args.sink.now c.loop.counter c.loop.source c.loop.decoding c.loop.self.outbox c.loop.sink (omega (arith, c.loop-test.false, c.loop.auto.counter-end)) c.loop.invariant
