-- The row of a `paramtypes` whose `described` has yet to come.
use Rattle.std.specs.Prelude.{ℕ, Option, Some, None, option_map}
use Rattle.pgpipe_lines.specs.declared.answer_lines.OpenAnswer.{OpenAnswer}

-- the row that waits, if there is one
abbrev pub row_left_open : Option OpenAnswer → Option ℕ
row_left_open None = None
row_left_open (Some o) = option_map (λ t. t.row) o.types
