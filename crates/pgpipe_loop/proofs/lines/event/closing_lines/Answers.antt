use Rattle.std.proofs.Common.{◌++◌, [], ap, ◌∙◌}
use Rattle.pgpipe_loop.specs.Lines.{loaded_rows, phase_rows}
use Rattle.pgpipe_loop.specs.Private.Lines.{LineState, whole_lines, with_rows}
use Rattle.pgpipe_loop.proofs.LineWriting.{after}
use Rattle.pgpipe_loop.proofs.lines.event.closing_lines.Goals as goal

pub returns : goal.returns
returns c = c.into_text.ensures (loaded_rows 1 c.args.log.now ++ phase_rows c.args.client c.args.backend)
    (after (whole_lines []) c.put_loaded.new.lines c.put_phases.new.lines (loaded_rows 1 c.args.log.now) (phase_rows c.args.client c.args.backend)
    (c.in_ok-put_loaded.ensures ∙ ap (λ (s : LineState). with_rows s (loaded_rows 1 c.args.log.now)) c.new-lines.ensures)
    c.in_ok-put_phases.ensures)
