use Rattle.std.proofs.Common.{arith, ◌∙◌, ap, sym, subst, Ok, Err}
use Rattle.std.specs.List.{concat}
use Rattle.pgpipe_convert.specs.Private.Converting.{file_by, HasWidth}
use Rattle.pgpipe_convert.specs.Private.Values.{RowWriting, writing_by}
use Rattle.pgpipe_convert.proofs.Converting.{steps_for, runs_more, run_stops, run_endless}
use Rattle.pgpipe_convert.proofs.Widths.{same_width}
use Rattle.pgpipe_convert.proofs.convert.Converting.run.Goals as goal

pub step-requires-clause-width : goal.step-requires-clause-width
step-requires-clause-width g c =
    let l = c.loop in
    subst (λ (w : RowWriting). HasWidth (file_by l.self.reader) w.columns) (sym l.invariant.0) (same_width (file_by c.args.self.now.reader) (file_by l.self.reader) c.args.self.now.to.columns l.invariant.1.stands.is_file c.requires.width)

pub returns-in-Err : goal.returns-in-Err
returns-in-Err g c =
    let r = c.loop.invariant.1 in
    let step = c.in-Err.ensures.steps in
    let file = file_by c.args.self.now.reader in
    let ended = g.S.Source.has_ended c.step.new.source in
    let steps = steps_for g.K.Sink.takes g.K.Sink.failures ended c.loop.self.reader c.loop.self.out.items c.loop.sink step.0 (Err c.in-Err.stop) c.step.new.self.reader c.step.new.self.out.items c.step.new.sink (writing_by c.loop.self.to) (writing_by c.args.self.now.to) (ap writing_by c.loop.invariant.0) step.3 in
    run_stops g.S.Source.gives g.S.Source.failures g.K.Sink.takes g.K.Sink.failures file (writing_by c.args.self.now.to) ended c.args.source.now c.args.sink.now c.loop.counter c.loop.source c.loop.self.reader c.loop.self.out.items c.loop.sink step.0 c.step.new.source c.in-Err.stop c.step.new.self.reader c.step.new.self.out.items c.step.new.sink r step.1 step.2 c.in-Err.ensures.source (steps file c.args.sink.now (concat r.pieces) r.stands)

pub loop-preserved : goal.loop-preserved
loop-preserved g c =
    let r = c.loop.invariant.1 in
    let step = c.in_default.ensures.steps in
    let file = file_by c.args.self.now.reader in
    let ended = g.S.Source.has_ended c.step.new.source in
    let steps = steps_for g.K.Sink.takes g.K.Sink.failures ended c.loop.self.reader c.loop.self.out.items c.loop.sink step.0 (Ok c.in_default.field-0) c.step.new.self.reader c.step.new.self.out.items c.step.new.sink (writing_by c.loop.self.to) (writing_by c.args.self.now.to) (ap writing_by c.loop.invariant.0) step.3 in
    (c.in_default.ensures.to ∙ c.loop.invariant.0, runs_more g.S.Source.gives g.S.Source.failures g.K.Sink.takes g.K.Sink.failures file (writing_by c.args.self.now.to) c.args.source.now c.args.sink.now c.loop.counter c.loop.source c.loop.self.reader c.loop.self.out.items c.loop.sink step.0 c.step.new.source c.step.new.self.reader c.step.new.self.out.items c.step.new.sink ended r step.2 c.in_default.ensures.source (steps file c.args.sink.now (concat r.pieces) r.stands) c.in_default.ensures.nothing_left)

pub returns : goal.returns
returns g c = run_endless g.S.Source.gives g.S.Source.failures g.K.Sink.takes g.K.Sink.failures (file_by c.args.self.now.reader) (writing_by c.args.self.now.to) (g.S.Source.has_ended c.loop.source) c.args.source.now c.args.sink.now c.loop.counter c.loop.source c.loop.self.reader c.loop.self.out.items c.loop.sink (omega (arith, c.loop-test.false, c.loop.auto.counter-end)) c.loop.invariant.1
