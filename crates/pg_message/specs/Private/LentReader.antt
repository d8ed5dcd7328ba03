-- Reading a body that is lent, in place.
use Rattle.std.specs.Prelude.{ℕ, ◌==◌, ◌||◌, if◌then◌else◌, Bool, List, drop, slice_index, Option, Some, None}
use Rattle.std.specs.Option.{option_map}
use Rattle.pg_message.specs.declared.lent.Lent.{Lent}
use Rattle.pg_message.specs.declared.lent.Lent.TheVariants.{Row, Error, Notice}
use Rattle.pg_message.specs.Backend.{backend}
use Rattle.pg_message.specs.Message.{IsMessage, NoMessage}
use Rattle.pg_message.specs.Lent.{message_of}
use Rattle.pg_values.specs.Private.View.{row_of, fields_of}

-- the tags of the messages that are lent
abbrev pub has_lent : ℕ → Bool
has_lent t = t == 68 || t == 69 || t == 78

-- what is lent of this tag and this body
abbrev pub lent_body : ℕ → List ℕ → Option Lent
lent_body t body =
    if t == 68 then option_map Row (row_of body)
    else if t == 69 then option_map Error (fields_of body)
    else if t == 78 then option_map Notice (fields_of body)
    else None

-- what is lent of a whole message, by its bytes
abbrev pub lent_bytes : List ℕ → Option Lent
lent_bytes bytes = lent_body (slice_index bytes 0) (drop 5 bytes)

-- What is lent is the message of this tag and this body, or there is none.
abbrev pub LendsBody : ℕ → List ℕ → Option Lent → Type 0
LendsBody t body None = NoMessage backend t body
LendsBody t body (Some lent) = IsMessage backend t body (message_of lent)
