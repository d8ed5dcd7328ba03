use Rattle.std.proofs.Common.{◌-◌, length, drop, Some, sym, ap, ◌∙◌, arith}
use Rattle.std.proofs.lemmas.List.{take_all, length-drop}
use Rattle.pg_values.specs.Private.View.{row_of}
use Rattle.pg_message.proofs.Lendings.{row_lends}
use Rattle.pg_wire.proofs.Rests.{IsBytes-drop}
use Rattle.pgpipe_frames.specs.Reading.{body_of, tag_of}
use Rattle.pgpipe_frames.proofs.frame_text.lent_row.Goals as goal

pub returns-then-is_row : goal.returns-then-is_row
returns-then-is_row c =
    let frame = c.args.frame.now in
    let whole = take_all (length frame - 5) (drop 5 frame) (omega (arith, length-drop 5 frame)) in
    row_lends (tag_of frame) (body_of frame) (Some c.of_body.result) c.if-tag-eq68.true (IsBytes-drop 5 frame (λ i. omega (arith, c.type_inv.frame i))) (sym c.of_body.ensures ∙ ap row_of whole)
