-- The backend's messages (Frontend/Backend Protocol, "Message Formats", those marked B).
use Rattle.std.specs.Prelude.{ℕ, ℤ, pos, Bool, ◌||◌}
use Rattle.std.specs.Ordering.{int_eq}
use Rattle.pg_message.specs.declared.message.BackMessage.{BackMessage}
use Rattle.pg_message.specs.declared.message.BackMessage.TheVariants.{AuthOk, AuthCleartext, AuthMd5, AuthOther, KeyData, ParameterStatus, Ready, RowDescription, DataRow, CommandComplete, EmptyQuery, ParseComplete, BindComplete, CloseComplete, NoData, PortalSuspended, ParameterDescription, ErrorResponse, NoticeResponse, Notification, CopyIn, CopyOut, CopyData, CopyDone}
use Rattle.pg_codec.specs.Field.{◌⨾◌, int32, oid, byte1, byte4, byten, nothing, value, string, counted, terminated}
pub use Rattle.pg_codec.specs.Value.{status_byte, format_byte, column, error_field, copy_head}
use Rattle.pg_message.specs.Direction.{Direction, TableRow, row, listed_in}

-- the codes of authentication requests that have a message of their own
abbrev pub is_reserved : ℤ → Bool
is_reserved code = int_eq code (pos 0) || int_eq code (pos 3) || int_eq code (pos 5)

-- Each message: its first byte, and what stands after its length field. An authentication request
-- that has a message of its own is written as another.
abbrev pub back_row : BackMessage → TableRow
back_row AuthOk = row 82 (int32 (pos 0))  -- R
back_row AuthCleartext = row 82 (int32 (pos 3))
back_row (AuthMd5 salt) = row 82 (int32 (pos 5) ⨾ byte4 salt)
back_row (AuthOther code rest) = record (row 82 (int32 code ⨾ byten rest)) {
  has_reserved_code = is_reserved code;
}
back_row (KeyData process secret) = row 75 (int32 process ⨾ int32 secret)  -- K
back_row (ParameterStatus name text) = row 83 (string name ⨾ string text)  -- S
back_row (Ready status) = row 90 (byte1 (status_byte status))  -- Z
back_row (RowDescription columns) = row 84 (counted column columns)  -- T
back_row (DataRow values) = row 68 (counted value values)  -- D
back_row (CommandComplete text) = row 67 (string text)  -- C
back_row EmptyQuery = row 73 nothing  -- I
back_row ParseComplete = row 49 nothing  -- 1
back_row BindComplete = row 50 nothing  -- 2
back_row CloseComplete = row 51 nothing  -- 3
back_row NoData = row 110 nothing  -- n
back_row PortalSuspended = row 115 nothing  -- s
back_row (ParameterDescription types) = row 116 (counted oid types)  -- t
back_row (ErrorResponse fields) = row 69 (terminated error_field fields)  -- E
back_row (NoticeResponse fields) = row 78 (terminated error_field fields)  -- N
back_row (Notification process channel payload) = row 65
    (int32 process ⨾ string channel ⨾ string payload)  -- A
back_row (CopyIn head) = row 71 (copy_head head)  -- G
back_row (CopyOut head) = row 72 (copy_head head)  -- H
back_row (CopyData bytes) = row 100 (byten bytes)  -- d
back_row CopyDone = row 99 nothing  -- c

-- the first byte of a message
abbrev pub tag : BackMessage → ℕ
tag m = (back_row m).tag

-- the backend's messages, from the server to the client
abbrev pub backend : Direction BackMessage
backend = listed_in back_row
