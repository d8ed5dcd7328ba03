-- The frontend's messages (Frontend/Backend Protocol, "Message Formats", those marked F).
use Rattle.std.specs.Prelude.{ℕ}
use Rattle.pg_codec.specs.declared.value.Target.{Target}
use Rattle.pg_codec.specs.declared.value.Target.TheVariants.{Statement, Portal}
use Rattle.pg_message.specs.declared.message.FrontMessage.{FrontMessage}
use Rattle.pg_message.specs.declared.message.FrontMessage.TheVariants.{Query, Parse, Bind, Describe, Close, Execute, Sync, Flush, Terminate, CopyData, CopyDone, CopyFail, Password}
use Rattle.pg_codec.specs.Field.{◌⨾◌, int16, int32, oid, byte1, byten, nothing, value, string, counted}
use Rattle.pg_message.specs.Direction.{Direction, TableRow, row, listed_in}

-- the byte that says what a Describe or a Close names
abbrev pub target_byte : Target → ℕ
target_byte Statement = 83  -- S
target_byte Portal = 80  -- P

-- Each message: its first byte, and what stands after its length field.
abbrev pub front_row : FrontMessage → TableRow
front_row (Query text) = row 81 (string text)  -- Q
front_row (Parse name text types) = row 80 (string name ⨾ string text ⨾ counted oid types)  -- P
front_row (Bind portal statement formats values result_formats) = row 66
    (string portal ⨾ string statement ⨾ counted int16 formats ⨾ counted value values
    ⨾ counted int16 result_formats)  -- B
front_row (Describe target name) = row 68 (byte1 (target_byte target) ⨾ string name)  -- D
front_row (Close target name) = row 67 (byte1 (target_byte target) ⨾ string name)  -- C
front_row (Execute portal max_rows) = row 69 (string portal ⨾ int32 max_rows)  -- E
front_row Sync = row 83 nothing  -- S
front_row Flush = row 72 nothing  -- H
front_row Terminate = row 88 nothing  -- X
front_row (CopyData bytes) = row 100 (byten bytes)  -- d
front_row CopyDone = row 99 nothing  -- c
front_row (CopyFail reason) = row 102 (string reason)  -- f
front_row (Password password) = row 112 (string password)  -- p

-- the first byte of a message
abbrev pub tag : FrontMessage → ℕ
tag m = (front_row m).tag

-- the frontend's messages, from the client to the server
abbrev pub frontend : Direction FrontMessage
frontend = listed_in front_row
