use Rattle.std.proofs.Common.{sym, ◌∙◌}
use Rattle.pg_copy_text.specs.Text.{default_options, written_row}
use Rattle.pg_copy_text.proofs.TextRound.{writes-default}
use Rattle.pg_copy_text.proofs.text_writer.write_text_row.Goals as goal

pub returns : goal.returns
returns c =
    let w = rw c.default.ensures at c.write_fields-2.ensures in
    writes-default c.args.row.now (written_row default_options c.args.row.now) c.args.buf.now.items c.write_fields-2.result c.write_fields-2.new.buf.items (sym c.is_misfit.ensures ∙ c.if-is_misfit.false) w
