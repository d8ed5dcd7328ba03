use Rattle.std.proofs.Common.{◌≡◌, false, take}
use Rattle.pg_copy_text.specs.Text.{ends_escaped}
use Rattle.pg_copy_text.proofs.text_options.ends_escaped.Given as goal

abbrev pub invariant-loop-byte : goal.invariant-loop-byte
invariant-loop-byte l = ends_escaped false (take l.byte-index l.bytes) ≡ l.escaped
