use Rattle.std.proofs.Common.{Some, refl}
use Rattle.pg_wire.specs.message.BackMessage.TheVariants.{DataRow}
use Rattle.pgpipe_texts.specs.Backend.{back_text}
use Rattle.pgpipe_frames.specs.FrameText.{IsBackText}
use Rattle.pgpipe_texts.proofs.Texts.{text_put}
use Rattle.pgpipe_frames.proofs.frame_text.put_back.Goals as goal

pub returns-in-Some : goal.returns-in-Some
returns-in-Some c =
    let row = c.in-Some.row in
    text_put (IsBackText c.args.frame.now) c.put_row.result c.args.line.now.items c.put_row.new.line.items (back_text (DataRow row)) (Some (DataRow row), c.in-Some.ensures, refl) c.put_row.ensures
