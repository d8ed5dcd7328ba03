use Rattle.std.proofs.Common.{◌≡◌, ◌++◌, take}
use Rattle.std.specs.List.{flat_map}
use Rattle.pg_copy.specs.Binary.{binary_row}
use Rattle.test_programs.proofs.copy_files.file.write_binary_rows.Given as goal

abbrev pub invariant-loop-row : goal.invariant-loop-row
invariant-loop-row l = l.buf.items ≡ l.fn.buf.items ++ flat_map binary_row (take l.row-index l.rows)
