use Rattle.pgpipe_show.proofs.Counting.{run_stops, runs_more, runs_none}
use Rattle.pgpipe_show.proofs.summary.stream.Counting.run.Goals as goal

pub loop-init : goal.loop-init
loop-init g c = runs_none g.S.Source.gives c.args.self.now.front c.args.source.now c.args.self.now.summary c.args.self.now.frames c.args.self.now.over c.requires

pub loop-preserved : goal.loop-preserved
loop-preserved g c =
    let l = c.loop in
    let step = c.in-Ok.ensures.steps in
    runs_more g.S.Source.gives c.args.self.now.front c.args.source.now l.source l.self.front l.self.summary l.self.frames l.self.over l.invariant step.0 c.step.new.source step.1 c.step.new.self.front c.step.new.self.summary c.step.new.self.frames c.step.new.self.over c.in-Ok.ensures.side step.2

pub returns-in-Err : goal.returns-in-Err
returns-in-Err g c =
    let l = c.loop in
    let step = c.in-Err.ensures.steps in
    run_stops g.S.Source.gives c.args.self.now.front c.args.source.now l.source l.self.front l.self.summary l.self.frames l.self.over l.invariant step.0 c.step.new.source step.1 c.in-Err.stop c.step.new.self.summary step.2

pub returns : goal.returns
returns g c = (c.loop.invariant.pieces, c.loop.invariant.received, tt)
