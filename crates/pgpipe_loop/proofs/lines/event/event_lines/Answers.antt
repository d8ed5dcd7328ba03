use Rattle.std.proofs.Common.{◌++◌, [], option_copied, ap, ◌∙◌}
use Rattle.std.specs.List.{flat_map}
use Rattle.pgpipe_loop.specs.Lines.{answer_rows, loss_rows, settled_rows}
use Rattle.pgpipe_loop.specs.Private.Lines.{LineState, whole_lines, with_rows}
use Rattle.pgpipe_loop.proofs.LineWriting.{three_put}
use Rattle.pgpipe_loop.proofs.lines.event.event_lines.Goals as goal

pub returns : goal.returns
returns c = c.into_text.ensures (flat_map settled_rows c.args.settled.now ++ answer_rows c.args.answer.now ++ loss_rows (option_copied c.args.loss))
    (three_put (whole_lines []) c.put_all_lines.new.lines c.put_answer.new.lines c.put_loss.new.lines
    (flat_map settled_rows c.args.settled.now) (answer_rows c.args.answer.now) (loss_rows (option_copied c.args.loss))
    (c.in_ok-put_all_lines.ensures ∙ ap (λ (s : LineState). with_rows s (flat_map settled_rows c.args.settled.now)) c.new-lines.ensures) c.in_ok-put_answer.ensures c.in_ok-put_loss.ensures)
