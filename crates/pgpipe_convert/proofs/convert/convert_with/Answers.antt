use Rattle.std.proofs.Common.{[], refl, sym, ap, ◌∙◌, inl}
use Rattle.std.specs.List.{concat}
use Rattle.std.proofs.lemmas.Result.{err_from_is_err_and}
use Rattle.pg_wire.specs.Link.{HasRisen}
use Rattle.pgpipe_base.proofs.Pieces.{sent_at_first, sent_on}
use Rattle.pgpipe_convert.specs.Convert.{FileWriting, AreAllConverted}
use Rattle.pgpipe_convert.specs.Private.Converting.{file_by}
use Rattle.pgpipe_convert.specs.Private.Values.{writing_by}
use Rattle.pgpipe_convert.proofs.Converting.{head_within, stands_first}
use Rattle.pgpipe_convert.proofs.Sent.{settled, unsettled}
use Rattle.pgpipe_convert.proofs.convert.convert_with.Goals as goal

pub returns-in_err-work-clause-converted : goal.returns-in_err-work-clause-converted
returns-in_err-work-clause-converted g c =
    let p = err_from_is_err_and c.from_residual.result c.from_residual.ensures.1 in
    ([], [], refl, refl, rw (p.1, p.2, c.in_err-work.ensures.refused c.in_err-work.field-0.0 refl) (inl (refl, refl)))

pub run-stop-requires-clause-begun : goal.run-stop-requires-clause-begun
run-stop-requires-clause-begun g c =
    let begun = c.in_ok-work.ensures.begun in
    let to = c.in_ok-work.work.to in
    stands_first g.K.Sink.takes g.K.Sink.failures (writing_by to) c.args.sink.now c.in_ok-work.work.reader c.in_ok-work.work.out.items (head_within to.options to.format) (begun.1 ∙ ap (λ (w : FileWriting). w.head) (sym begun.0)) begun.3 begun.4

pub returns-in-Ok-clause-converted : goal.returns-in-Ok-clause-converted
returns-in-Ok-clause-converted g c =
    let run = c.run-stop.ensures in
    let begun = c.in_ok-work.ensures.begun in
    let broke = HasRisen (g.K.Sink.failures c.args.sink.now) (g.K.Sink.failures c.settle.new.sink) in
    let sent = settled g.K.Sink.takes g.K.Sink.failures (file_by c.in_ok-work.work.reader) (writing_by c.in_ok-work.work.to) run.pieces (g.S.Source.failures c.args.source.now) (g.S.Source.failures c.run-stop.new.source) broke (g.S.Source.has_ended c.run-stop.new.source) c.args.sink.now (concat run.pieces) run.before run.earlier c.run-stop.result c.run-stop.new.self.out.items c.run-stop.new.sink c.settle.new.sink run.converted_before run.stops run.stops_source (rw c.as_slice.ensures.value at c.in-Ok.ensures) in
    (run.pieces, sent.0.0, run.received, sent.0.1, rw (c.answer.ensures, ← begun.2, ← begun.0) sent.0.2)

pub returns-clause-converted : goal.returns-clause-converted
returns-clause-converted g c =
    let run = c.run-stop.ensures in
    let begun = c.in_ok-work.ensures.begun in
    let failed = unsettled g.K.Sink.takes g.K.Sink.failures (file_by c.in_ok-work.work.reader) (writing_by c.in_ok-work.work.to) (g.S.Source.has_ended c.run-stop.new.source) c.args.sink.now (concat run.pieces) run.before run.earlier c.run-stop.result c.run-stop.new.self.out.items c.run-stop.new.sink c.in-Err.field-0 c.settle.new.sink run.converted_before run.stops (rw c.as_slice.ensures.value at c.in-Err.ensures) in
    (run.pieces, failed.0.0, run.received, failed.0.1, inl (failed.1, rw (← begun.2, ← begun.0) failed.0.2.0, rw (← begun.2, ← begun.0) failed.0.2.1))

pub returns-in_err-work-clause-at_once : goal.returns-in_err-work-clause-at_once
returns-in_err-work-clause-at_once g c = ([], [], refl, refl, sent_at_first (AreAllConverted _ _) [])

pub returns-in-Ok-clause-at_once : goal.returns-in-Ok-clause-at_once
returns-in-Ok-clause-at_once g c =
    let run = c.run-stop.ensures in
    let begun = c.in_ok-work.ensures.begun in
    let sent = settled g.K.Sink.takes g.K.Sink.failures (file_by c.in_ok-work.work.reader) (writing_by c.in_ok-work.work.to) run.pieces (g.S.Source.failures c.args.source.now) (g.S.Source.failures c.run-stop.new.source) ⊥ (g.S.Source.has_ended c.run-stop.new.source) c.args.sink.now (concat run.pieces) run.before run.earlier c.run-stop.result c.run-stop.new.self.out.items c.run-stop.new.sink c.settle.new.sink run.converted_before run.stops run.stops_source (rw c.as_slice.ensures.value at c.in-Ok.ensures) in
    (run.pieces, sent.0.0, run.received, sent.0.1, rw (← begun.2, ← begun.0) (sent_on (AreAllConverted (file_by c.in_ok-work.work.reader) (writing_by c.in_ok-work.work.to)) run.pieces run.earlier sent.0.0 sent.0.3 run.at_once))

pub returns-clause-at_once : goal.returns-clause-at_once
returns-clause-at_once g c =
    let run = c.run-stop.ensures in
    let begun = c.in_ok-work.ensures.begun in
    let failed = unsettled g.K.Sink.takes g.K.Sink.failures (file_by c.in_ok-work.work.reader) (writing_by c.in_ok-work.work.to) (g.S.Source.has_ended c.run-stop.new.source) c.args.sink.now (concat run.pieces) run.before run.earlier c.run-stop.result c.run-stop.new.self.out.items c.run-stop.new.sink c.in-Err.field-0 c.settle.new.sink run.converted_before run.stops (rw c.as_slice.ensures.value at c.in-Err.ensures) in
    (run.pieces, failed.0.0, run.received, failed.0.1, rw (← begun.2, ← begun.0) (sent_on (AreAllConverted (file_by c.in_ok-work.work.reader) (writing_by c.in_ok-work.work.to)) run.pieces run.earlier failed.0.0 failed.0.3 run.at_once))
