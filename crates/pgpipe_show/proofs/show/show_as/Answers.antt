use Rattle.std.proofs.Common.{[], refl, inl, subst}
use Rattle.std.specs.List.{concat}
use Rattle.pg_wire.specs.Link.{HasRisen}
use Rattle.pgpipe_show.proofs.Settling.{settled, unsettled, counts_none, source_counts, nothing_shown}
use Rattle.pgpipe_base.proofs.Pieces.{sent_at_first, sent_on}
use Rattle.pgpipe_show.specs.Show.{AreAllShown, ArePartlyShown, IsShownAtOnce}
use Rattle.pgpipe_show.specs.Way.{Way}
use Rattle.pgpipe_show.proofs.show.show_as.Goals as goal

pub returns-in-Err-clause-shown : goal.returns-in-Err-clause-shown
returns-in-Err-clause-shown g c = ([], [], refl, refl, nothing_shown (record { form = c.args.form; front = c.args.front }))

pub returns-in-Ok-settle-clause-shown : goal.returns-in-Ok-settle-clause-shown
returns-in-Ok-settle-clause-shown g c =
    let run = c.run-stop.ensures in
    let broke = HasRisen (g.K.Sink.failures c.args.sink.now) (g.K.Sink.failures c.settle.new.sink) in
    let sent = settled g.K.Sink.takes g.K.Sink.failures _ run.pieces (g.S.Source.failures c.args.source.now) (g.S.Source.failures c.run-stop.new.source) broke c.args.sink.now (concat run.pieces) run.earlier (g.S.Source.has_ended c.run-stop.new.source) c.run-stop.result c.run-stop.new.self.outbox c.run-stop.new.sink c.settle.new.sink run.shown_before run.stops run.stops_source (rw c.collected.ensures at c.in-Ok-settle.ensures) in
    (run.pieces, sent.0.0, run.received, sent.0.1, rw (c.answer.ensures, ← c.begin-2.ensures.side) sent.0.2)

pub returns-in-Ok-settle-clause-source : goal.returns-in-Ok-settle-clause-source
returns-in-Ok-settle-clause-source g c =
    let run = c.run-stop.ensures in
    rw c.answer.ensures (source_counts (g.S.Source.has_ended c.run-stop.new.source) (g.S.Source.failures c.args.source.now) (g.S.Source.failures c.run-stop.new.source) run.pieces c.run-stop.result run.stops_source)

pub returns-in-Ok-settle-clause-sink : goal.returns-in-Ok-settle-clause-sink
returns-in-Ok-settle-clause-sink g c =
    let run = c.run-stop.ensures in
    let sent = settled g.K.Sink.takes g.K.Sink.failures _ run.pieces (g.S.Source.failures c.args.source.now) (g.S.Source.failures c.run-stop.new.source) ⊥ c.args.sink.now (concat run.pieces) run.earlier (g.S.Source.has_ended c.run-stop.new.source) c.run-stop.result c.run-stop.new.self.outbox c.run-stop.new.sink c.settle.new.sink run.shown_before run.stops run.stops_source (rw c.collected.ensures at c.in-Ok-settle.ensures) in
    counts_none (g.K.Sink.failures c.args.sink.now) c.answer.result (g.K.Sink.failures c.settle.new.sink) sent.1

pub returns-clause-shown : goal.returns-clause-shown
returns-clause-shown g c =
    let run = c.run-stop.ensures in
    let failed = unsettled g.K.Sink.takes g.K.Sink.failures _ c.args.sink.now (concat run.pieces) run.earlier c.run-stop.result c.run-stop.new.self.outbox c.run-stop.new.sink c.in-Err-settle.field-0 c.settle.new.sink run.shown_before run.stops (rw c.collected.ensures at c.in-Err-settle.ensures) in
    (run.pieces, failed.0.0, run.received, failed.0.1, inl (failed.1, subst (λ (w : Way). ArePartlyShown w (concat run.pieces) (concat failed.0.0)) c.begin-2.ensures.side failed.0.2.0, subst (λ (w : Way). IsShownAtOnce w (concat run.pieces) (concat failed.0.0)) c.begin-2.ensures.side failed.0.2.1))

pub returns-in-Err-clause-at_once : goal.returns-in-Err-clause-at_once
returns-in-Err-clause-at_once g c = ([], [], refl, refl, sent_at_first (AreAllShown (record { form = c.args.form; front = c.args.front })) [])

pub returns-in-Ok-settle-clause-at_once : goal.returns-in-Ok-settle-clause-at_once
returns-in-Ok-settle-clause-at_once g c =
    let run = c.run-stop.ensures in
    let sent = settled g.K.Sink.takes g.K.Sink.failures _ run.pieces (g.S.Source.failures c.args.source.now) (g.S.Source.failures c.run-stop.new.source) ⊥ c.args.sink.now (concat run.pieces) run.earlier (g.S.Source.has_ended c.run-stop.new.source) c.run-stop.result c.run-stop.new.self.outbox c.run-stop.new.sink c.settle.new.sink run.shown_before run.stops run.stops_source (rw c.collected.ensures at c.in-Ok-settle.ensures) in
    (run.pieces, sent.0.0, run.received, sent.0.1, rw (← c.begin-2.ensures.side) (sent_on (AreAllShown _) run.pieces run.earlier sent.0.0 sent.0.3 run.at_once))

pub returns-clause-at_once : goal.returns-clause-at_once
returns-clause-at_once g c =
    let run = c.run-stop.ensures in
    let failed = unsettled g.K.Sink.takes g.K.Sink.failures _ c.args.sink.now (concat run.pieces) run.earlier c.run-stop.result c.run-stop.new.self.outbox c.run-stop.new.sink c.in-Err-settle.field-0 c.settle.new.sink run.shown_before run.stops (rw c.collected.ensures at c.in-Err-settle.ensures) in
    (run.pieces, failed.0.0, run.received, failed.0.1, rw (← c.begin-2.ensures.side) (sent_on (AreAllShown _) run.pieces run.earlier failed.0.0 failed.0.3 run.at_once))
