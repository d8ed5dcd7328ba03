use Rattle.std.proofs.Common.{◌≡◌, drop}
use Rattle.std.specs.List.{flat_map}
use Rattle.std.specs.Str.{bytes_eq}
use Rattle.pg_copy_text.specs.Text.{written_byte}
use Rattle.pg_copy_text.proofs.text_writer.is_written_as.Given as goal

abbrev pub invariant-loop-i : goal.invariant-loop-i
invariant-loop-i l = bytes_eq (flat_map (written_byte l.delimiter) (drop l.i l.text)) l.rest ≡ bytes_eq (flat_map (written_byte l.delimiter) l.text) l.bytes
