use Rattle.std.proofs.Common.{◌≡◌, ◌+◌, length}
use Rattle.std.specs.List.{position_from}
use Rattle.pg_copy_text.specs.Text.{is_like_null}
use Rattle.pg_copy_text.proofs.text_writer.first_like_null.Given as goal

abbrev pub invariant-loop-value : goal.invariant-loop-value
invariant-loop-value l = (position_from (is_like_null l.options) l.index l.value-iterator ≡ position_from (is_like_null l.options) 0 l.row) × (l.index + length l.value-iterator ≡ length l.row)
