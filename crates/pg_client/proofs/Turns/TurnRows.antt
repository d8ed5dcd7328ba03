-- A copy in and a query, and the turns that they are, by computation.
use Rattle.std.proofs.Common.{◌≡◌, List, [], ◌∷◌, length, map, false, Some, None, refl, sym, ap, arith, ℕ}
use Rattle.pg_wire.specs.message.BackMessage.{BackMessage}
use Rattle.pg_wire.specs.message.BackMessage.TheVariants.{AuthOk, AuthCleartext, Ready, CommandComplete, NoticeResponse}
use Rattle.pg_wire.specs.message.BackMessage.TheVariants as back
use Rattle.pg_wire.specs.message.FrontMessage.TheVariants as front
use Rattle.pg_wire.specs.value.Status.TheVariants as status
use Rattle.pg_wire.specs.declared.session.Request.{Request}
use Rattle.pg_wire.specs.declared.session.Request.TheVariants.{Query}
use Rattle.pg_client.specs.declared.call.Call.{Call}
use Rattle.pg_client.specs.declared.settled.Settled.{Settled}
use Rattle.pg_client.specs.declared.call.Call.TheVariants as call
use Rattle.pg_client.specs.Session.{Happening, Did, Came, rest_in, groups_in}
use Rattle.pg_client.specs.Client.{with_ends, merged, blank, with_call, with_fed, with_heard}
use Rattle.pg_client.specs.Turns.{turns_of, messages_after}
use Rattle.pg_wire.specs.Turns.{copies_begun}
use Rattle.pg_client.specs.Answering.{calls_of, turns_in, turns_with, last_copies, copies_ended, IsCopyingSince, SettlesLast}

abbrev copy : Request
copy = Query (67 ∷ [])

abbrev select : Request
select = Query (83 ∷ [])

-- CopyInResponse
abbrev begins : BackMessage
begins = back.CopyIn (record { binary = false; formats = [] })

abbrev calls : List (Call × ℕ)
calls = (call.Start, 0) ∷ (call.Request copy, 15) ∷ (call.Chunk (97 ∷ []), 23) ∷ (call.Done, 23) ∷ (call.Request select, 37) ∷ (call.Terminate, 37) ∷ []

abbrev heard : List BackMessage
heard = AuthOk ∷ Ready status.Idle ∷ begins ∷ CommandComplete (79 ∷ 75 ∷ []) ∷ Ready status.Idle ∷ []

-- where each message ends
ends_are : with_ends 0 heard ≡ (AuthOk, 9) ∷ (Ready status.Idle, 15) ∷ (begins, 23) ∷ (CommandComplete (79 ∷ 75 ∷ []), 31) ∷ (Ready status.Idle, 37) ∷ []
ends_are = refl

-- calls stand after the messages that were whole when they were made
happened : merged calls (with_ends 0 heard) ≡ Did call.Start ∷ Came AuthOk ∷ Came (Ready status.Idle) ∷ Did (call.Request copy) ∷ Came begins ∷ Did (call.Chunk (97 ∷ [])) ∷ Did call.Done ∷ Came (CommandComplete (79 ∷ 75 ∷ [])) ∷ Came (Ready status.Idle) ∷ Did (call.Request select) ∷ Did call.Terminate ∷ []
happened = refl

-- the chunk and its end belong to the copy
turns_are : turns_of (calls_of calls) ≡ record { request = copy; copies = front.CopyData (97 ∷ []) ∷ front.CopyDone ∷ [] } ∷ record { request = select; copies = [] } ∷ []
turns_are = refl

-- a password that was asked for goes before them, and the end of the session after
all_messages : messages_after (record { user = 117 ∷ []; database = None; pairs = []; password = Some (112 ∷ []); limit = 64 }) (AuthCleartext ∷ heard) (calls_of calls)
    ≡ front.Password (112 ∷ []) ∷ front.Query (67 ∷ []) ∷ front.CopyData (97 ∷ []) ∷ front.CopyDone ∷ front.Query (83 ∷ []) ∷ front.Terminate ∷ []
all_messages = refl

chunk_added : turns_with (turns_of (call.Start ∷ call.Request copy ∷ [])) (call.Chunk (97 ∷ [])) ≡ record { request = copy; copies = front.CopyData (97 ∷ []) ∷ [] } ∷ []
chunk_added = refl

-- while the copy in is under way: one turn, no answer, and a chunk and a notice since the CopyInResponse
abbrev under_way : List Happening
under_way = Did call.Start ∷ Came AuthOk ∷ Came (Ready status.Idle) ∷ Did (call.Request copy) ∷ Came begins ∷ Did (call.Chunk (97 ∷ [])) ∷ Came (NoticeResponse []) ∷ []

one_turn : length (turns_in under_way) ≡ 1
one_turn = refl

no_answer : length (groups_in under_way) ≡ 0
no_answer = refl

one_begun : copies_begun (rest_in under_way) ≡ 1
one_begun = refl

none_ended : copies_ended (last_copies (turns_in under_way)) ≡ 0
none_ended = refl

chunks_since : IsCopyingSince under_way
chunks_since = record {
  before = Did call.Start ∷ Came AuthOk ∷ Came (Ready status.Idle) ∷ Did (call.Request copy) ∷ [];
  head = record { binary = false; formats = [] };
  later = Did (call.Chunk (97 ∷ [])) ∷ Came (NoticeResponse []) ∷ [];
  since = refl;
  chunks = (tt, (refl, tt));
}

-- a copy that was ended is answered with its request
both_answered : length (groups_in (merged calls (with_ends 0 heard))) ≡ 1
both_answered = refl

-- a call is appended with its place
call_appended : (with_call {G = Settled} (record { user = 117 ∷ []; database = None; pairs = []; password = None; limit = 64 }) call.Done (record blank { fed = 82 ∷ 0 ∷ [] })).calls ≡ (call.Done, 2) ∷ []
call_appended = refl

-- a piece stands after the rest, of which messages are heard
piece_heard : (with_heard {G = Settled} (begins ∷ []) (3 ∷ []) [] (with_fed (2 ∷ 3 ∷ []) (record blank { fed = 1 ∷ []; rest = 1 ∷ [] }))) ≡ record (blank {G = Settled}) { fed = 1 ∷ 2 ∷ 3 ∷ []; heard = begins ∷ []; rest = 3 ∷ [] }
piece_heard = refl

abbrev group : Request → Settled
group r = record { request = r; outcome = record { parts = []; error = None; status = status.Idle; asides = [] } }

-- the request that was asked last settles
last_settles : SettlesLast (copy ∷ select ∷ []) (group copy ∷ []) [] (group select ∷ [])
last_settles = record {
  fresh = group select ∷ [];
  appended = refl;
  one_at_most = omega arith;
  last = λ t e. ap (λ (ts : List Settled). copy ∷ map (λ (s : Settled). s.request) ts) e;
}

-- and no other one
other_settles : SettlesLast (copy ∷ select ∷ []) [] [] (group copy ∷ []) → ⊥
other_settles h = let e : copy ∷ select ∷ [] ≡ copy ∷ [] = h.last (group copy) (sym h.appended) in cc
