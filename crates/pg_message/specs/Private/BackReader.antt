-- Reading the body of a backend's message, after its tag.
use Rattle.std.specs.Prelude.{ℕ, ℤ, pos, ◌==◌, if◌then◌else◌, List, [], ◌∷◌, length, Option, Some, None, is_some}
use Rattle.std.specs.Int.{w32}
use Rattle.std.specs.Ordering.{int_eq}
use Rattle.pg_message.specs.declared.backend.kind.BackKind.{BackKind}
use Rattle.pg_message.specs.declared.backend.kind.BackKind.TheVariants as kinds
use Rattle.pg_message.specs.declared.message.BackMessage.{BackMessage}
use Rattle.pg_message.specs.declared.message.BackMessage.TheVariants.{AuthOk, AuthCleartext, AuthMd5, AuthOther, KeyData, ParameterStatus, Ready, RowDescription, DataRow, CommandComplete, EmptyQuery, ParseComplete, BindComplete, CloseComplete, NoData, PortalSuspended, ParameterDescription, ErrorResponse, NoticeResponse, Notification, CopyIn, CopyOut, CopyData, CopyDone}
use Rattle.pg_codec.specs.Field.{◌⨾◌, int32, byten}
use Rattle.pg_codec.specs.Private.Reader.{pair_at, byten_at, number_at, signed_at, string_at, value_at, counted_at, column_at, terminated_at, error_field_at, choice_at, status_of_byte, copy_head_at}
use Rattle.pg_message.specs.Backend.{back_row}
use Rattle.pg_message.specs.Private.Reading.{Reading, made_of_whole, reading_by, reading, bare, with_tag}

-- an authentication request, by its code and what stands after it
abbrev pub auth_of_code : ℤ → List ℕ → Option BackMessage
auth_of_code code rest =
    if int_eq code (pos 0) then (if length rest == 0 then Some AuthOk else None)
    else if int_eq code (pos 3) then (if length rest == 0 then Some AuthCleartext else None)
    else if int_eq code (pos 5) then (if length rest == 4 then Some (AuthMd5 rest) else None)
    else Some (AuthOther code rest)

-- the authentication request of a body
abbrev pub auth_message : List ℕ → Option BackMessage
auth_message bytes = made_of_whole (λ (p : ℤ × List ℕ). auth_of_code p.0 p.1)
    (pair_at (signed_at w32) byten_at bytes)

-- each kind of message
abbrev pub back_reading : BackKind → Reading BackMessage
back_reading kinds.Auth = reading_by 82 (λ (p : ℤ × List ℕ). int32 p.0 ⨾ byten p.1)
    (pair_at (signed_at w32) byten_at) (λ p. auth_of_code p.0 p.1)
    (λ bytes. if is_some (auth_message bytes) then Some [] else None)
back_reading kinds.KeyData = reading back_row 75 (pair_at (signed_at w32) (signed_at w32))
    (λ (p : ℤ × ℤ). KeyData p.0 p.1)
back_reading kinds.ParameterStatus = reading back_row 83 (pair_at string_at string_at)
    (λ (p : List ℕ × List ℕ). ParameterStatus p.0 p.1)
back_reading kinds.Ready = reading back_row 90 (choice_at status_of_byte) Ready
back_reading kinds.RowDescription = reading back_row 84 (counted_at column_at) RowDescription
back_reading kinds.DataRow = reading back_row 68 (counted_at value_at) DataRow
back_reading kinds.CommandComplete = reading back_row 67 string_at CommandComplete
back_reading kinds.EmptyQuery = bare back_row 73 EmptyQuery
back_reading kinds.ParseComplete = bare back_row 49 ParseComplete
back_reading kinds.BindComplete = bare back_row 50 BindComplete
back_reading kinds.CloseComplete = bare back_row 51 CloseComplete
back_reading kinds.NoData = bare back_row 110 NoData
back_reading kinds.PortalSuspended = bare back_row 115 PortalSuspended
back_reading kinds.ParameterDescription = reading back_row 116 (counted_at (number_at w32))
    ParameterDescription
back_reading kinds.ErrorResponse = reading back_row 69 (terminated_at error_field_at) ErrorResponse
back_reading kinds.NoticeResponse = reading back_row 78 (terminated_at error_field_at)
    NoticeResponse
back_reading kinds.Notification = reading back_row 65
    (pair_at (pair_at (signed_at w32) string_at) string_at)
    (λ (p : (ℤ × List ℕ) × List ℕ). Notification p.0.0 p.0.1 p.1)
back_reading kinds.CopyIn = reading back_row 71 copy_head_at CopyIn
back_reading kinds.CopyOut = reading back_row 72 copy_head_at CopyOut
back_reading kinds.CopyData = reading back_row 100 byten_at CopyData
back_reading kinds.CopyDone = bare back_row 99 CopyDone

-- what a tag stands for
abbrev pub back_kind_of : ℕ → Option BackKind
back_kind_of t = with_tag back_reading t
    (kinds.Auth ∷ kinds.KeyData ∷ kinds.ParameterStatus ∷ kinds.Ready ∷ kinds.RowDescription
    ∷ kinds.DataRow ∷ kinds.CommandComplete ∷ kinds.EmptyQuery ∷ kinds.ParseComplete
    ∷ kinds.BindComplete ∷ kinds.CloseComplete ∷ kinds.NoData ∷ kinds.PortalSuspended
    ∷ kinds.ParameterDescription ∷ kinds.ErrorResponse ∷ kinds.NoticeResponse ∷ kinds.Notification
    ∷ kinds.CopyIn ∷ kinds.CopyOut ∷ kinds.CopyData ∷ kinds.CopyDone ∷ [])
