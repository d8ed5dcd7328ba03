use Rattle.std.proofs.Common.{◌≡◌, ◌++◌, take}
use Rattle.std.specs.List.{flat_map}
use Rattle.pg_copy.specs.Text.{default_options, written_row}
use Rattle.test_programs.proofs.copy_files.file.write_lines.Given as goal

abbrev pub invariant-loop-row : goal.invariant-loop-row
invariant-loop-row l = l.buf.items ≡ l.fn.buf.items ++ flat_map (written_row default_options) (take l.row-index l.rows)
