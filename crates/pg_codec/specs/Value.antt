-- How the values that messages carry are put together (Frontend/Backend Protocol, "Message Formats").
use Rattle.std.specs.Prelude.{ℕ, if◌then◌else◌, Bool, List}
use Rattle.pg_codec.specs.declared.value.Status.{Status}
use Rattle.pg_codec.specs.declared.value.Status.TheVariants.{Idle, InBlock, Failed}
use Rattle.pg_codec.specs.declared.value.Column.{Column}
use Rattle.pg_codec.specs.declared.value.ErrorField.{ErrorField}
use Rattle.pg_codec.specs.declared.value.CopyHead.{CopyHead}
use Rattle.pg_codec.specs.Field.{Body, ◌⨾◌, int16, int32, oid, byte1, string, nonzero, counted}

-- the byte of ReadyForQuery
abbrev pub status_byte : Status → ℕ
status_byte Idle = 73  -- I
status_byte InBlock = 84  -- T
status_byte Failed = 69  -- E

-- the overall format of a copy: 0 is text, 1 is binary
abbrev pub format_byte : Bool → ℕ
format_byte binary = if binary then 1 else 0

-- a column of RowDescription
abbrev pub column : Column → Body
column c = string c.name ⨾ oid c.table_oid ⨾ int16 c.attribute ⨾ oid c.type_oid ⨾ int16 c.size
    ⨾ int32 c.modifier ⨾ int16 c.format

-- a field of an error or a notice ("Error and Notice Message Fields")
abbrev pub error_field : ErrorField → Body
error_field f = nonzero f.code ⨾ string f.value

-- what begins a copy: the overall format, and the format of each column
abbrev pub copy_head : CopyHead → Body
copy_head head = byte1 (format_byte head.binary) ⨾ counted int16 head.formats

-- a parameter of a session: its name and its value
abbrev pub parameter : List ℕ × List ℕ → Body
parameter p = string p.0 ⨾ string p.1
