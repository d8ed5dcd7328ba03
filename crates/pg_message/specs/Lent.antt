-- Messages that a decoder lends: rows, errors and notices (Frontend/Backend Protocol, "Message
-- Formats").
use Rattle.std.specs.Prelude.{Bool, true, false}
use Rattle.pg_message.specs.declared.lent.Lent.{Lent}
use Rattle.pg_message.specs.declared.lent.Lent.TheVariants.{Row, Error, Notice}
use Rattle.pg_message.specs.declared.message.BackMessage.{BackMessage}
use Rattle.pg_message.specs.declared.message.BackMessage.TheVariants.{DataRow, ErrorResponse, NoticeResponse}

-- the message that is lent
abbrev pub message_of : Lent → BackMessage
message_of (Row values) = DataRow values
message_of (Error fields) = ErrorResponse fields
message_of (Notice fields) = NoticeResponse fields

-- whether a message is a row, an error or a notice
abbrev pub is_lent : BackMessage → Bool
is_lent (DataRow values) = true
is_lent (ErrorResponse fields) = true
is_lent (NoticeResponse fields) = true
is_lent _ = false
