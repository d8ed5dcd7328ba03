use Rattle.pgpipe_convert.proofs.Readers.{push_binary}
use Rattle.pgpipe_convert.proofs.copy_rows.RowReader.push.Goals as goal

pub returns-in-Binary : goal.returns-in-Binary
returns-in-Binary c =
    let m = c.push-in-Binary in
    rw c.in-Binary.is (push_binary c.in-Binary.reader m.new.self c.args.piece.now m.result c.map_err-in-Binary.result (rw c.in-Binary.is at c.requires) m.ensures.call m.ensures.read c.map_err-in-Binary.ensures.cases)
