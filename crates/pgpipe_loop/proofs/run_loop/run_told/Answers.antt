use Rattle.pgpipe_loop.specs.RunLoop.{planned_events}
use Rattle.pgpipe_loop.proofs.LoopEnds.{counts, stands_first, tells}
use Rattle.pgpipe_loop.proofs.run_loop.run_told.Goals as goal

pub returns-clause-ran : goal.returns-clause-ran
returns-clause-ran g c =
    let all = planned_events c.args.cut c.args.calls.lines in
    let ended = c.run-ran.ensures c.args.sink.now c.new.result all (stands_first g.C.Carry.carries c.args.trace g.K.Sink.takes g.K.Sink.failures c.args.sink.now c.new.result all) in
    let told = tells g.C.Carry.carries c.args.trace g.K.Sink.takes g.K.Sink.failures c.args.sink.now c.new.result all c.run-ran.result c.run-ran.new.sink ended in
    (c.new.result, told.0, c.new.ensures, told.1, told.2)

pub returns-clause-sink : goal.returns-clause-sink
returns-clause-sink g c =
    let all = planned_events c.args.cut c.args.calls.lines in
    let ended = c.run-ran.ensures c.args.sink.now c.new.result all (stands_first g.C.Carry.carries c.args.trace g.K.Sink.takes g.K.Sink.failures c.args.sink.now c.new.result all) in
    counts g.C.Carry.carries c.args.trace g.K.Sink.takes g.K.Sink.failures c.args.sink.now c.new.result all c.run-ran.result c.run-ran.new.sink ended
