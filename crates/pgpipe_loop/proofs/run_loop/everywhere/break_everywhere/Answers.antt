use Rattle.std.proofs.Common.{ap, ◌∙◌}
use Rattle.std.proofs.lemmas.Result.{err_from_is_err_and}
use Rattle.pgpipe_loop.specs.Everywhere.{broken_text, first_unseen}
use Rattle.pgpipe_loop.proofs.Everywhere.{counts_part, tells_all, tells_nothing, tells_part}
use Rattle.pgpipe_loop.proofs.run_loop.everywhere.break_everywhere.Goals as goal

pub returns-in_err-all-clause-broke : goal.returns-in_err-all-clause-broke
returns-in_err-all-clause-broke g c =
    let p = err_from_is_err_and c.from_residual.result c.from_residual.ensures.1 in
    rw (p.1, p.2) (tells_nothing g.K.Sink.takes g.K.Sink.failures c.args.cut c.args.files.now c.args.sink.now)

pub returns-in_err-lines-clause-broke : goal.returns-in_err-lines-clause-broke
returns-in_err-lines-clause-broke g c =
    let p = err_from_is_err_and c.from_residual-in_err-lines.result c.from_residual-in_err-lines.ensures.1 in
    rw (p.1, p.2) (tells_nothing g.K.Sink.takes g.K.Sink.failures c.args.cut c.args.files.now c.args.sink.now)

pub returns-in_err-send_lines-clause-broke : goal.returns-in_err-send_lines-clause-broke
returns-in_err-send_lines-clause-broke g c =
    let p = err_from_is_err_and c.from_residual-in_err-send_lines.result c.from_residual-in_err-send_lines.ensures.1 in
    rw (p.1, p.2) (tells_part g.K.Sink.takes g.K.Sink.failures c.args.cut c.args.files.now c.args.sink.now c.send_lines.new.sink c.in_ok-all.all.items c.in_ok-lines.lines.items c.in_err-send_lines.field-0.0 c.in_ok-all.ensures
    (c.in_ok-lines.ensures ∙ ap broken_text c.as_slice.ensures.value) c.in_err-send_lines.ensures)

pub returns-in_err-send_lines-clause-sink : goal.returns-in_err-send_lines-clause-sink
returns-in_err-send_lines-clause-sink g c =
    let p = err_from_is_err_and c.from_residual-in_err-send_lines.result c.from_residual-in_err-send_lines.ensures.1 in
    rw (p.1, p.2) (counts_part g.K.Sink.takes g.K.Sink.failures c.args.cut c.args.files.now c.args.sink.now c.send_lines.new.sink c.in_ok-lines.lines.items c.in_err-send_lines.field-0.0 c.in_err-send_lines.ensures)

pub returns-clause-broke : goal.returns-clause-broke
returns-clause-broke g c =
    tells_all g.K.Sink.takes g.K.Sink.failures c.args.cut c.args.files.now c.args.sink.now c.send_lines.new.sink c.in_ok-all.all.items c.in_ok-lines.lines.items c.first_unseen.result c.in_ok-all.ensures
    (c.in_ok-lines.ensures ∙ ap broken_text c.as_slice.ensures.value) (c.first_unseen.ensures ∙ ap first_unseen c.as_slice-2.ensures.value) c.in_ok-send_lines.ensures

pub returns-clause-sink : goal.returns-clause-sink
returns-clause-sink g c = c.in_ok-send_lines.ensures.counted
