use Rattle.std.proofs.Common.{◌++◌, [], ap, ◌∙◌}
use Rattle.std.specs.List.{flat_map}
use Rattle.pgpipe_loop.specs.Lines.{answer_rows, logged_rows}
use Rattle.pgpipe_loop.specs.Private.Lines.{LineState, whole_lines, with_rows}
use Rattle.pgpipe_loop.proofs.LineWriting.{after}
use Rattle.pgpipe_loop.proofs.lines.served.turn_lines.Goals as goal

pub returns : goal.returns
returns c = c.into_text.ensures (flat_map logged_rows c.args.decided.now ++ answer_rows c.args.answer.now)
    (after (whole_lines []) c.put_all_lines.new.lines c.put_answer.new.lines
    (flat_map logged_rows c.args.decided.now) (answer_rows c.args.answer.now)
    (c.in_ok-put_all_lines.ensures ∙ ap (λ (s : LineState). with_rows s (flat_map logged_rows c.args.decided.now)) c.new-lines.ensures) c.in_ok-put_answer.ensures)
