use Rattle.std.proofs.Common.{◌∷◌, [], map, ap, ◌∙◌, Some, codes, List, ℕ}
use Rattle.std.specs.List.{flat_map}
use Rattle.pg_wire.specs.declared.session.Aside.{Aside}
use Rattle.pg_wire.specs.declared.session.Part.{Part}
use Rattle.pgpipe_loop.specs.Lines.{aside_row, outcome_error_rows, part_rows, request_fields, status_row}
use Rattle.pgpipe_loop.specs.Private.Lines.{with_row, with_rows}
use Rattle.pgpipe_loop.proofs.LineWriting.{five_put, on_ok}
use Rattle.pgpipe_loop.proofs.lines.settled.put_settled.Goals as goal

pub returns : goal.returns
returns c =
    let request = c.args.request.now in
    let outcome = c.args.outcome.now in
    on_ok _ _ c.put_text_line.result c.put_text_line.ensures (λ e. five_put c.args.lines.now c.put_request_line.new.lines c.put_each_line.new.lines c.put_all_lines.new.lines c.put_error.new.lines c.put_text_line.new.lines
    (Some (codes "settled") ∷ request_fields request) (status_row outcome.status) (map aside_row outcome.asides) (flat_map part_rows outcome.parts) (outcome_error_rows outcome.error)
    c.in_ok-put_request_line.ensures
    (c.in_ok-put_each_line.ensures ∙ ap (λ (xs : List Aside). with_rows c.put_request_line.new.lines (map aside_row xs)) c.as_slice.ensures)
    (c.in_ok-put_all_lines.ensures ∙ ap (λ (xs : List Part). with_rows c.put_each_line.new.lines (flat_map part_rows xs)) c.as_slice-2.ensures)
    c.in_ok-put_error.ensures
    (e ∙ ap (λ (w : List ℕ). with_row c.put_error.new.lines (Some (codes "status") ∷ Some w ∷ [])) c.status_letter.ensures))
