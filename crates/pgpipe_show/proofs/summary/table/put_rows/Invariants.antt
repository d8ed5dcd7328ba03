use Rattle.std.proofs.Common.{◌≡◌, ◌++◌}
use Rattle.std.specs.List.{flat_map}
use Rattle.pgpipe_show.specs.Private.CountMap.{rows_of}
use Rattle.pgpipe_show.specs.Table.{row_line}
use Rattle.pgpipe_show.proofs.summary.table.put_rows.Given as goal

-- with the rows that are left, the text is that of all
abbrev pub invariant-rows : goal.invariant-rows
invariant-rows l = l.text.items ++ flat_map row_line (rows_of l.label-iterator) ≡ l.initial.text.items ++ flat_map row_line (rows_of l.rows.entries)
