use Rattle.pgpipe_show.specs.Private.CountMap.{rows_of}
use Rattle.pgpipe_show.proofs.Tables.{table_put}
use Rattle.pgpipe_show.proofs.summary.table.put_table.Goals as goal

pub returns : goal.returns
returns c = table_put c.put_line.result c.args.summary.now (rows_of c.rows.result.now.entries) c.total.result c.args.text.now.items c.extend_from_slice.new.self.items c.put_rows.new.text.items c.put_line.new.text.items c.rows.ensures c.total.ensures c.in_ok-extend_from_slice.ensures.items c.in_ok-put_rows.ensures c.put_line.ensures
