-- Who has the turn, by the messages that were sent (Frontend/Backend Protocol, "Message Flow").
--
-- The client's turn ends where it waits: with a Query, a FunctionCall, a Sync, an answer to a request
-- for authentication, and the end of a copy that a Query began. The server's turn ends with a
-- ReadyForQuery, with a request for authentication that wants an answer, and with a CopyInResponse or
-- a CopyBothResponse, unless the client ended that copy before it waited. Each ReadyForQuery answers
-- the next Query, FunctionCall or Sync in order; a Sync that is passed over, as a copy of the extended
-- protocol began, has none.
use Rattle.std.specs.Prelude.{ℕ, ◌==◌, ◌||◌, Bool, true, false, not, if◌then◌else◌, List, Option, Some, None}
use Rattle.std.specs.Int.{w32, from_be_bytes}
use Rattle.pgpipe_frames.specs.declared.next.NextFrame.{NextFrame}
use Rattle.pgpipe_frames.specs.declared.next.NextFrame.TheVariants as next
use Rattle.pgpipe_frames.specs.Frames.{field_at}
use Rattle.pgpipe_frames.specs.Reading.{tag_of}
use Rattle.pgpipe_show.specs.declared.both.talk.Talk.{Talk}
use Rattle.pgpipe_show.specs.declared.both.talk.Talk.TheVariants.{Asking, Filling, Answering}

-- whether the client has the turn
abbrev pub is_clients : Talk → Bool
is_clients (Asking copied behind) = true
is_clients Filling = true
is_clients (Answering query copied behind) = false

-- ---- the client

-- After its message with this tag, in its turn. `copied` says that it ended a copy since its turn
-- began, and `behind` that the server owes a ReadyForQuery for what was asked before.
abbrev pub asked : Bool → Bool → ℕ → Talk
asked copied behind tag =
    if tag == 81 then Answering true false behind  -- Query
    else if tag == 83 || tag == 70 then Answering false copied behind  -- Sync, FunctionCall
    else if tag == 112 then Answering false false false  -- an answer to an authentication request
    else if tag == 99 || tag == 102 then Asking true behind  -- CopyDone, CopyFail
    else Asking copied behind

-- After its message with this tag, where it sends the data of a copy that a Query began. A Flush and a
-- Sync are passed over there. Any other message says that the client has given the copy up: the
-- server still owes the ReadyForQuery of the Query.
abbrev pub filled : ℕ → Talk
filled tag =
    if tag == 99 || tag == 102 then Answering true false false  -- CopyDone, CopyFail
    else if tag == 100 || tag == 72 || tag == 83 then Filling  -- CopyData, Flush, Sync
    else asked false true tag

-- after its message with this tag; in the server's turn nothing changes
abbrev pub after_message : Talk → ℕ → Talk
after_message (Asking copied behind) tag = asked copied behind tag
after_message Filling tag = filled tag
after_message (Answering query copied behind) tag = Answering query copied behind

-- After its frame. After a first packet the server answers.
abbrev pub talk_sent : Talk → NextFrame → List ℕ → Talk
talk_sent talk next.Packet bytes = Answering false false false
talk_sent talk next.Message bytes = after_message talk (tag_of bytes)
talk_sent talk next.Nothing bytes = after_message talk (tag_of bytes)

-- ---- the server

-- After a ReadyForQuery. Where another is owed the server goes on.
abbrev pub after_ready : Bool → Bool → Bool → Talk
after_ready query copied behind = if behind then Answering query copied false
    else Asking false false

-- After a CopyInResponse or a CopyBothResponse. The server goes on where the client has ended the copy
-- before. In the extended protocol the Sync that was sent before is passed over.
abbrev pub after_copy_in : Bool → Bool → Bool → Talk
after_copy_in query copied behind =
    if copied then Answering query false behind
    else if query then Filling
    else Asking false behind

-- whether a request for authentication of this code wants no answer: AuthenticationOk and
-- AuthenticationSASLFinal
abbrev pub is_final : ℕ → Bool
is_final code = code == 0 || code == 12

-- whether one with this field wants an answer
abbrev pub wants_answer : Option (List ℕ) → Bool
wants_answer None = false
wants_answer (Some field) = not (is_final (from_be_bytes w32 field))

-- After a request for authentication. The server still owes the ReadyForQuery of the startup.
abbrev pub after_request : Bool → Bool → Bool → Bool → Talk
after_request query copied behind wants = if wants then Asking false true
    else Answering query copied behind

-- after its message, in its turn
abbrev pub after_answer : Bool → Bool → Bool → List ℕ → Talk
after_answer query copied behind bytes =
    if tag_of bytes == 90 then after_ready query copied behind  -- ReadyForQuery
    else if tag_of bytes == 82
    then after_request query copied behind (wants_answer (field_at 5 bytes))  -- Authentication
    else if tag_of bytes == 71 || tag_of bytes == 87
    then after_copy_in query copied behind  -- CopyInResponse, CopyBothResponse
    else Answering query copied behind

-- after its message; in the client's turn nothing changes
abbrev pub talk_got : Talk → List ℕ → Talk
talk_got (Asking copied behind) bytes = Asking copied behind
talk_got Filling bytes = Filling
talk_got (Answering query copied behind) bytes = after_answer query copied behind bytes
