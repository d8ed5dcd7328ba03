use Rattle.std.proofs.Common.{◌∷◌, ◌++◌, [], ap, length, map, ◌∙◌}
use Rattle.pgpipe_loop.specs.Everywhere.{broken_row, places_row}
use Rattle.pgpipe_loop.specs.Private.Lines.{LineState, whole_lines, with_rows}
use Rattle.pgpipe_loop.proofs.LineWriting.{after}
use Rattle.pgpipe_loop.proofs.run_loop.everywhere.lines_of.Goals as goal

pub returns : goal.returns
returns c = c.into_text.ensures (map broken_row c.args.all.now ++ places_row (length c.args.all.now) ∷ [])
    (after (whole_lines []) c.put_each_line.new.lines c.put_places_line.new.lines (map broken_row c.args.all.now) (places_row (length c.args.all.now) ∷ [])
    (c.in_ok-put_each_line.ensures ∙ ap (λ (s : LineState). with_rows s (map broken_row c.args.all.now)) c.new-lines.ensures) c.in_ok-put_places_line.ensures)
