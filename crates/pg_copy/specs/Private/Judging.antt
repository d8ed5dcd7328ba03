-- How the length of a line is judged.
use Rattle.std.specs.Prelude.{◌-◌, ◌&&◌, not, nat_lt, Bool, true, false, Option, Some, None, Result, Ok, Err}
use Rattle.pg_copy_rows.specs.declared.fault.TextFault.{TextFault}
use Rattle.pg_copy_text.specs.declared.text_stage.TextStage.{TextStage}
use Rattle.pg_copy_text.specs.declared.text_stage.TextStage.TheVariants as stages
use Rattle.pg_copy_rows.specs.Row.{Row}
use Rattle.pg_copy.specs.declared.limit.fault.LimitedTextFault.{LimitedTextFault}
use Rattle.pg_copy.specs.declared.limit.fault.LimitedTextFault.TheVariants.{Text, LongLine}
use Rattle.pg_copy.specs.Limited.{LimitedState}

-- whether the end mark was read
abbrev pub is_marked : TextStage → Bool
is_marked stages.Lines = false
is_marked stages.Marked = true
is_marked (stages.Failed f) = false

-- whether more bytes than the limit are told to stand after the rows that were given, and after no
-- end mark
abbrev pub is_long : LimitedState → Bool
is_long s = not (is_marked s.reader.stage) && nat_lt s.limit (s.pushed - s.reader.offset)

-- what is returned where the reader without the limit returned this, and no line is too long
abbrev pub limited : Result (Option Row) TextFault → Result (Option Row) LimitedTextFault
limited (Ok row) = Ok row
limited (Err f) = Err (Text f)

-- what is returned where the reader without the limit returned this, by whether the next line is
-- too long
abbrev pub judged : Bool → Result (Option Row) TextFault → Result (Option Row) LimitedTextFault
judged long (Ok (Some row)) = Ok (Some row)
judged false (Ok None) = Ok None
judged true (Ok None) = Err LongLine
judged long (Err f) = Err (Text f)

-- the reader, once a line was judged where no row was found
abbrev pub after_judging : LimitedState → Result (Option Row) TextFault → LimitedState
after_judging s (Ok (Some row)) = s
after_judging s (Ok None) = record s { long = is_long s }
after_judging s (Err f) = s
