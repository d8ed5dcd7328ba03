use Rattle.std.proofs.Common.{◌≡◌, ap, rules}
use Rattle.std.proofs.lemmas.Result.{err_from_is_err_and}
use Rattle.pg_client.specs.declared.phase.Cause.TheVariants as cause
use Rattle.pg_client.specs.declared.phase.Phase.TheVariants as client
use Rattle.pg_backend.specs.Stage.{BackendState}
use Rattle.pgpipe_loop.specs.Lines.{closing_rows, text_lines}
use Rattle.pgpipe_loop.specs.Private.Turning.{serving}
use Rattle.pgpipe_loop.proofs.Turning.{closed, not_closed, turns_fail}
use Rattle.pgpipe_loop.proofs.serving.serve.Goals as goal

pub returns-in_err-phase : goal.returns-in_err-phase
returns-in_err-phase g c =
    let p = err_from_is_err_and c.from_residual.result c.from_residual.ensures.1 in
    let script_is = ap (λ (b : BackendState). b.script) c.new-backend.ensures.value in
    rw (p.1, p.2) (turns_fail g.L.Source.gives g.L.Sink.takes g.L.Source.has_ended g.L.Source.failures g.L.Sink.failures g.K.Sink.takes g.K.Sink.failures c.args.script c.args.link.now c.args.sink.now c.new-backend.result c.new-backend.ensures.history script_is c.in_err-phase.field-0.0 (serving c.take_turns.new.link c.take_turns.new.backend c.take_turns.new.sink) c.in_err-phase.ensures)

pub returns-in_err-lines : goal.returns-in_err-lines
returns-in_err-lines g c =
    let p = err_from_is_err_and c.from_residual-in_err-lines.result c.from_residual-in_err-lines.ensures.1 in
    let script_is = ap (λ (b : BackendState). b.script) c.new-backend.ensures.value in
    rw (p.1, p.2) (not_closed g.L.Source.gives g.L.Sink.takes g.L.Source.has_ended g.L.Source.failures g.L.Sink.failures g.K.Sink.takes g.K.Sink.failures c.args.script c.args.link.now c.args.sink.now c.new-backend.result c.new-backend.ensures.history script_is c.in_ok-phase.phase (serving c.take_turns.new.link c.take_turns.new.backend c.take_turns.new.sink) c.in_ok-phase.ensures)

pub returns : goal.returns
returns g c =
    let script_is = ap (λ (b : BackendState). b.script) c.new-backend.ensures.value in
    let said : c.as_slice.result.now ≡ text_lines (closing_rows c.take_turns.new.backend.log (client.Closed cause.Lost) c.in_ok-phase.phase) = search rules in
    closed g.L.Source.gives g.L.Sink.takes g.L.Source.has_ended g.L.Source.failures g.L.Sink.failures g.K.Sink.takes g.K.Sink.failures c.args.script c.args.link.now c.args.sink.now c.new-backend.result c.new-backend.ensures.history script_is c.in_ok-phase.phase (serving c.take_turns.new.link c.take_turns.new.backend c.take_turns.new.sink) c.in_ok-phase.ensures c.send_lines.result c.as_slice.result.now c.send_lines.new.sink said c.send_lines.ensures
