use Rattle.std.proofs.Common.{arith}
use Rattle.pgpipe_show.proofs.Readings.{fetching_none, fetch_frame, fetch_over, fetching_more, fetch_end, fetch_stop, fetch_endless}
use Rattle.pgpipe_show.proofs.both.reader.Reader.fetch.Goals as goal

pub loop-init : goal.loop-init
loop-init g c = fetching_none g.S.Source.gives g.S.Source.failures g.S.Source.has_ended c.args.self.now.frames c.args.source.now

pub returns-in-Frame : goal.returns-in-Frame
returns-in-Frame g c = fetch_frame g.S.Source.gives g.S.Source.failures g.S.Source.has_ended c.args.self.now.frames c.args.source.now c.loop.counter c.loop.self.frames c.loop.source c.loop.invariant c.look.new.self.frames c.in-Frame.ensures

pub returns-in-Over : goal.returns-in-Over
returns-in-Over g c = fetch_over g.S.Source.gives g.S.Source.failures g.S.Source.has_ended c.args.self.now.frames c.args.source.now c.loop.counter c.loop.self.frames c.loop.source c.loop.invariant c.in-Over.how c.look.new.self.frames c.in-Over.ensures

pub loop-preserved : goal.loop-preserved
loop-preserved g c =
    let b = rw c.in-Ok-true.field-0-test at c.in-Ok-true.ensures in
    fetching_more g.S.Source.gives g.S.Source.failures g.S.Source.has_ended c.args.self.now.frames c.args.source.now c.loop.counter c.loop.self.frames c.loop.source c.loop.invariant c.look.new.self.frames c.in-Open.ensures b.0 c.receive.new.self.frames c.receive.new.source b.1 b.2

pub returns-in-Ok-false : goal.returns-in-Ok-false
returns-in-Ok-false g c =
    let b = rw c.in-Ok-false.field-0-test at c.in-Ok-false.ensures in
    fetch_end g.S.Source.gives g.S.Source.failures g.S.Source.has_ended c.args.self.now.frames c.args.source.now c.loop.counter c.loop.self.frames c.loop.source c.loop.invariant c.look.new.self.frames c.in-Open.ensures b.0 c.receive.new.self.frames c.receive.new.source b.1 c.end.result c.end.ensures b.2

pub returns-in-Err : goal.returns-in-Err
returns-in-Err g c = fetch_stop g.S.Source.gives g.S.Source.failures g.S.Source.has_ended c.args.self.now.frames c.args.source.now c.loop.counter c.loop.self.frames c.loop.source c.loop.invariant c.look.new.self.frames c.in-Open.ensures c.in-Err.ensures.0 c.receive.new.self.frames c.receive.new.source c.in-Err.ensures.1 c.in-Err.stop c.in-Err.ensures.2

pub returns : goal.returns
returns g c = fetch_endless g.S.Source.gives g.S.Source.failures g.S.Source.has_ended c.args.self.now.frames c.args.source.now c.loop.counter c.loop.self.frames c.loop.source c.loop.invariant (omega (arith, c.loop-test.false, c.loop.auto.counter-end)) c.loop.self.frames
