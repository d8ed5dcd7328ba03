-- The lines of a trace: what an event is, and what it moved.
use Rattle.std.specs.Prelude.{ℕ, zero, suc, ◌+◌, ◌-◌, nat_le, ◌&&◌, if◌then◌else◌, Bool, List, [], ◌∷◌, ◌++◌, length, take, drop, Some, codes}
use Rattle.std.specs.Fmt.{decimal}
use Rattle.std.specs.Int.{w32, from_be_bytes}
use Rattle.pg_copy.specs.Row.{Row}
use Rattle.pg_client.specs.declared.call.Call.{Call}
use Rattle.pg_client.specs.declared.call.Call.TheVariants as call
use Rattle.pg_pair.specs.declared.carry.Way.{Way}
use Rattle.pg_pair.specs.declared.carry.Way.TheVariants.{ToBackend, ToClient}
use Rattle.pg_pair.specs.declared.event.Event.{Event}
use Rattle.pg_pair.specs.declared.event.Event.TheVariants as event
use Rattle.pg_pair.specs.View.{PairView}
use Rattle.pgpipe_base.specs.Outbox.{body_text}
use Rattle.pgpipe_loop.specs.Lines.{chunk_row, request_fields}

-- ---- what an event is

-- a call as a line of CALLS has it; a group has the number of its steps
abbrev pub call_fields : Call → Row
call_fields call.Start = Some (codes "start") ∷ []
call_fields (call.Request request) = request_fields request
call_fields (call.Chunk bytes) = chunk_row bytes
call_fields call.Done = Some (codes "done") ∷ []
call_fields (call.Fail reason) = Some (codes "fail") ∷ Some reason ∷ []
call_fields call.Terminate = Some (codes "terminate") ∷ []

-- an event as a line of CALLS has it
abbrev pub event_fields : Event → Row
event_fields (event.Call c) = call_fields c
event_fields event.Step = Some (codes "step") ∷ []
event_fields (event.ToBackend n) = Some (codes "toback") ∷ Some (decimal n) ∷ []
event_fields (event.ToClient n) = Some (codes "toclient") ∷ Some (decimal n) ∷ []
event_fields event.BreakToBackend = Some (codes "breakback") ∷ []
event_fields event.BreakToClient = Some (codes "breakclient") ∷ []

-- the line `event`, with what happens
abbrev pub event_row : Event → Row
event_row e = Some (codes "event") ∷ event_fields e

-- ---- bytes as messages

-- the number of a length field that stands after so many bytes: after the tag, or at the beginning of
-- a first packet
abbrev pub length_after : ℕ → List ℕ → ℕ
length_after lead bytes = from_be_bytes w32 (take 4 (drop lead bytes))

-- whether these bytes begin with a whole message, by its length field, which says 4 at least and counts
-- itself
abbrev pub begins_whole : ℕ → List ℕ → Bool
begins_whole lead bytes = nat_le (lead + 4) (length bytes) && nat_le 4 (length_after lead bytes)
    && nat_le (lead + length_after lead bytes) (length bytes)

-- how many bytes the first message has; where none is whole, all
abbrev pub first_size : ℕ → List ℕ → ℕ
first_size lead bytes =
    if begins_whole lead bytes then lead + length_after lead bytes else length bytes

-- the name of a message: its tag, or `startup` for a client's first packet, which has none
abbrev pub message_name : ℕ → List ℕ → List ℕ
message_name zero bytes = codes "startup"
message_name (suc n) bytes = take 1 bytes

-- the verb that delivers along a way
abbrev pub way_word : Way → List ℕ
way_word ToBackend = codes "toback"
way_word ToClient = codes "toclient"

-- the line `sent` of a message, in the form of `show`: its name, its length field, and its body in
-- hexadecimal; bytes that are no whole message are a `rest`, with their number
abbrev pub sent_row : Way → ℕ → List ℕ → Row
sent_row way lead bytes = Some (codes "sent") ∷ Some (way_word way)
    ∷ (if begins_whole lead bytes
    then Some (message_name lead bytes) ∷ Some (decimal (length bytes - lead))
    ∷ Some (body_text (drop (lead + 4) bytes)) ∷ []
    else Some (codes "rest") ∷ Some (decimal (length bytes)) ∷ Some (body_text bytes) ∷ [])

-- the lines `sent` of these bytes, message by message. n only bounds the recursion: it is at least the
-- number of bytes.
abbrev pub sent_rows : ℕ → Way → ℕ → List ℕ → List Row
sent_rows zero way lead bytes = []
sent_rows (suc n) way lead [] = []
sent_rows (suc n) way lead (b ∷ bytes) =
    sent_row way lead (take (first_size lead (b ∷ bytes)) (b ∷ bytes))
    ∷ sent_rows n way 1 (drop (first_size lead (b ∷ bytes)) (b ∷ bytes))

-- ---- what an event moved

-- how many bytes stand before the length field of what is sent along a way after so many bytes: none
-- where it is a client's first packet, and else a tag
abbrev pub lead_after : Way → ℕ → ℕ
lead_after ToBackend zero = 0
lead_after _ _ = 1

-- the lines of what was sent along a way after so many bytes
abbrev pub sent_since : Way → ℕ → List ℕ → List Row
sent_since way before sent =
    sent_rows (length (drop before sent)) way (lead_after way before) (drop before sent)

-- the line `reached`, with how many bytes have reached the end of a way, if any have
abbrev pub reached_rows : Way → ℕ → List Row
reached_rows way zero = []
reached_rows way (suc n) =
    (Some (codes "reached") ∷ Some (way_word way) ∷ Some (decimal (suc n)) ∷ []) ∷ []

-- the lines of what an event moved, from pair p to q: how many bytes reached an end, and then what
-- each end sent
abbrev pub moved_rows : {C : Type 0} → PairView C → PairView C → List Row
moved_rows p q = reached_rows ToBackend (q.to_backend.reached - p.to_backend.reached)
    ++ reached_rows ToClient (q.to_client.reached - p.to_client.reached)
    ++ sent_since ToBackend (length p.to_backend.sent) q.to_backend.sent
    ++ sent_since ToClient (length p.to_client.sent) q.to_client.sent
