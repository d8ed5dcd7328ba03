-- Worked rows, by computation.
use Rattle.std.proofs.Common.{◌≡◌, ℕ, true, false, List, [], ◌∷◌, Option, None, Some, Result, Ok, map, take, refl, inr}
use Rattle.std.specs.Prelude.{codes}
use Rattle.pg_wire.specs.message.BackMessage.{BackMessage}
use Rattle.pg_wire.specs.message.BackMessage.TheVariants as back
use Rattle.pg_wire.specs.message.FrontMessage.{FrontMessage}
use Rattle.pg_wire.specs.message.FrontMessage.TheVariants as front
use Rattle.pg_wire.specs.value.Status.TheVariants.{Idle}
use Rattle.pg_wire.specs.declared.session.Outcome.{Outcome}
use Rattle.pg_wire.specs.declared.session.Part.TheVariants as part
use Rattle.pg_wire.specs.declared.session.Request.{Request}
use Rattle.pg_wire.specs.declared.session.Request.TheVariants.{Query}
use Rattle.pg_wire.proofs.Rows.{salted}
use Rattle.pg_client.specs.declared.call.Call.{Call}
use Rattle.pg_client.specs.declared.phase.Cause.TheVariants as cause
use Rattle.pg_client.specs.declared.stand.Stand.TheVariants as stands
use Rattle.pg_client.specs.Collected.{nothing_collected}
use Rattle.pg_client.specs.declared.settings.Settings.{Settings}
use Rattle.pg_client.specs.declared.call.Call.TheVariants as call
use Rattle.pg_client.specs.Turns.{messages_after}
use Rattle.pg_backend.specs.declared.script.Answer.{Answer}
use Rattle.pg_backend.specs.declared.script.Auth.TheVariants.{Trust, Cleartext, Md5}
use Rattle.pg_backend.specs.declared.script.Load.TheVariants as load
use Rattle.pg_backend.specs.declared.script.ScriptPart.TheVariants as script
use Rattle.pg_backend.specs.declared.stage.ClosedBy.TheVariants as ending
use Rattle.pg_backend.specs.declared.stage.BackStage.TheVariants as stage
use Rattle.pg_backend.specs.Opening.{Refused, Awaited, Admitted, admission}
use Rattle.pg_backend.specs.OwnError.{wrong_password}
use Rattle.pg_backend.specs.Session.{log_of, replies}
use Rattle.pg_pair.specs.declared.event.Applied.TheVariants as applied
use Rattle.pg_pair.specs.declared.event.Event.TheVariants as event
use Rattle.pg_pair.specs.declared.carry.CarryFault.{CarryFault}
use Rattle.pg_pair.specs.declared.carry.Way.{Way}
use Rattle.pg_pair.specs.declared.carry.Way.TheVariants.{ToBackend, ToClient}
use Rattle.pg_pair.specs.Breaking.{is_shut}
use Rattle.pg_pair.specs.Calling.{handed_after}
use Rattle.pg_pair.specs.Carrying.{delivered, is_bad}
use Rattle.pg_pair.specs.Delivering.{delivery_applied}
use Rattle.pg_pair.specs.Event.{Happens, Ran}
use Rattle.pg_backend.specs.Turns.{TookEach}
use Rattle.pg_pair.specs.Copies.{handed_for, turns_made}
use Rattle.pg_pair.specs.Headline.{answered_as, requests_of, settled_as}
use Rattle.pg_pair.specs.View.{PairView}

-- ---- what arrives of a piece

piece : List ℕ
piece = 81 ∷ 0 ∷ 13 ∷ []

whole_arrives : delivered piece (Ok piece) ≡ piece
unfolding piece
whole_arrives = refl

fewer_arrive : delivered piece (Ok (81 ∷ 0 ∷ [])) ≡ 81 ∷ 0 ∷ []
unfolding piece
fewer_arrive = refl

-- fewer bytes are nothing bad
fewer_are_good : is_bad piece (Ok (81 ∷ 0 ∷ [])) ≡ false
unfolding piece
fewer_are_good = refl

-- of a piece with a difference the bytes before it are delivered
differs : delivered piece (Ok (81 ∷ 1 ∷ 13 ∷ [])) ≡ 81 ∷ []
unfolding piece
differs = refl

difference_is_bad : is_bad piece (Ok (81 ∷ 1 ∷ 13 ∷ [])) ≡ true
unfolding piece
difference_is_bad = refl

-- what a delivery is answered: nothing moved, bytes moved, and a carrier that failed
nothing_moved : delivery_applied None false 0 ≡ applied.Nothing
nothing_moved = refl

bytes_moved : delivery_applied None false 3 ≡ applied.Done
bytes_moved = refl

carrier_failed : delivery_applied None true 1 ≡ applied.Carrier
carrier_failed = refl

-- ---- a password

-- a client of the user c that has this password, or none
abbrev named : Option (List ℕ) → Settings
named password = record { user = codes "c"; database = None; pairs = []; password = password; limit = 64 }

-- what it sends after its startup packet where it was asked this
abbrev answering : Option (List ℕ) → BackMessage → List FrontMessage
answering password question = messages_after (named password) (question ∷ []) (call.Start ∷ [])

abbrev salt : List ℕ
salt = 1 ∷ 2 ∷ 3 ∷ 4 ∷ []

right_password : admission (Cleartext (codes "ab")) (codes "c") (answering (Some (codes "ab")) back.AuthCleartext) ≡ Admitted []
right_password = refl

wrong_one : admission (Cleartext (codes "ab")) (codes "c") (answering (Some (codes "a")) back.AuthCleartext) ≡ Refused wrong_password
wrong_one = refl

no_one : admission (Cleartext (codes "ab")) (codes "c") (answering None back.AuthCleartext) ≡ Awaited
no_one = refl

right_by_md5 : admission (Md5 (codes "ab") salt) (codes "c") (answering (Some (codes "ab")) (back.AuthMd5 salt)) ≡ Admitted []
right_by_md5 = rw salted refl

-- ---- a query

select : Request
select = Query (83 ∷ [])

ok : List ℕ
ok = 79 ∷ 75 ∷ []

command : Answer
command = record { before = []; parts = script.Command ok ∷ []; error = None; status = Idle }

done : Outcome
done = record { parts = part.Command ok ∷ []; error = None; status = Idle; asides = [] }

-- the backend answers it, and logs it with the outcome
query_sent : replies (command ∷ []) (front.Query (83 ∷ []) ∷ []) ≡ back.CommandComplete ok ∷ back.Ready Idle ∷ []
unfolding command
query_sent = refl

query_logged : map answered_as (log_of (command ∷ []) (front.Query (83 ∷ []) ∷ [])) ≡ (select, done) ∷ []
unfolding command select done
query_logged = refl

-- a group that is settled with it is a beginning of the log, and so is none
query_settled : map settled_as (record { request = select; outcome = done } ∷ []) ≡ take 1 (map answered_as (log_of (command ∷ []) (front.Query (83 ∷ []) ∷ [])))
unfolding command select done
query_settled = refl

-- ---- a copy

calls : List (Call × ℕ)
calls = (call.Start, 0) ∷ (call.Request select, 15) ∷ (call.Chunk (49 ∷ []), 40) ∷ (call.Chunk (50 ∷ []), 40) ∷ (call.Done, 40) ∷ (call.Terminate, 60) ∷ []

-- the chunks that were handed over for the one request
copy_handed : handed_for (turns_made calls) ≡ ((49 ∷ []) ∷ (50 ∷ []) ∷ []) ∷ []
unfolding calls
copy_handed = refl

-- which is the one that was made
copy_asked : requests_of (turns_made calls) ≡ select ∷ []
unfolding calls
copy_asked = refl

request_hands_none : handed_after (call.Request select) [] ≡ [] ∷ []
request_hands_none = refl

chunk_handed : handed_after (call.Chunk (50 ∷ [])) (((49 ∷ []) ∷ []) ∷ []) ≡ ((49 ∷ []) ∷ (50 ∷ []) ∷ []) ∷ []
chunk_handed = refl

-- a copy that is accepted takes all of them, and one that is refused with the first chunk takes that one
accepted : Answer
accepted = record { before = []; parts = script.CopyIn (record { binary = false; formats = [] }) (load.Accept ok) ∷ []; error = None; status = Idle }

refused : Answer
refused = record { before = []; parts = script.CopyIn (record { binary = false; formats = [] }) (load.Refuse 1 []) ∷ []; error = None; status = Idle }

all_taken : map (λ l. l.loaded) (log_of (accepted ∷ []) (front.Query (83 ∷ []) ∷ front.CopyData (49 ∷ []) ∷ front.CopyData (50 ∷ []) ∷ front.CopyDone ∷ [])) ≡ ((49 ∷ []) ∷ (50 ∷ []) ∷ []) ∷ []
unfolding accepted
all_taken = refl

one_taken : map (λ l. l.loaded) (log_of (refused ∷ []) (front.Query (83 ∷ []) ∷ front.CopyData (49 ∷ []) ∷ front.CopyData (50 ∷ []) ∷ [])) ≡ ((49 ∷ []) ∷ []) ∷ []
unfolding refused
one_taken = refl

refused_took_the_first : TookEach (log_of (refused ∷ []) (front.Query (83 ∷ []) ∷ front.CopyData (49 ∷ []) ∷ front.CopyData (50 ∷ []) ∷ [])) (((49 ∷ []) ∷ (50 ∷ []) ∷ []) ∷ [])
unfolding refused
refused_took_the_first = (record { first = refl; all = λ e. absurd cc }, tt)

-- ---- breaks

-- a client and a backend as they are made, and a carrier that keeps nothing
fresh : PairView (Unit {0})
fresh = record {
  client = record { settings = record { user = 117 ∷ []; database = None; pairs = []; password = None; limit = 64 }; kept = []; held = None; known = record { stand = stands.New; keeper = record { collected = nothing_collected; settled = [] }; status = None; parameters = []; key = None }; closed = None };
  backend = record { script = record { auth = Trust; pairs = []; key = None; answers = [] }; limit = 64; left = []; stage = stage.First (record { kept = []; ended = false; fault = None }); log = [] };
  carrier = tt;
  to_backend = record { sent = []; reached = 0; broken = false };
  to_client = record { sent = []; reached = 0; broken = false };
  fed_before = [];
  settled = [];
  handed = [];
  loss = None;
}

-- the same after a break of the way to the backend, which was told
cut_off : PairView (Unit {0})
cut_off = record fresh { backend = record fresh.backend { stage = stage.Closed ending.Lost }; to_backend = record fresh.to_backend { broken = true } }

-- a carrier that nothing is known of
unknown : Unit {0} → Way → List ℕ → Result (List ℕ) CarryFault → Unit {0} → Type 0
unknown _ _ _ _ _ = ⊥

open_at_first : is_shut ToBackend fresh ≡ false
unfolding fresh
open_at_first = refl

shut_by_a_break : is_shut ToBackend cut_off ≡ true
unfolding fresh cut_off
shut_by_a_break = refl

-- the other way isn't
other_way_open : is_shut ToClient cut_off ≡ false
unfolding fresh cut_off
other_way_open = refl

-- a closed client takes nothing, though its way isn't broken
shut_by_a_close : is_shut ToClient (record fresh { client = record fresh.client { closed = Some cause.Terminated } }) ≡ true
unfolding fresh
shut_by_a_close = refl

break_is_done : Happens unknown event.BreakToBackend fresh applied.Done cut_off
unfolding fresh cut_off
break_is_done = (refl, refl)

-- it can't be called nothing, nor leave the way open
break_is_something : Happens unknown event.BreakToBackend fresh applied.Nothing fresh → ⊥
unfolding fresh
break_is_something h = let e : applied.Nothing ≡ applied.Done = h.0 in absurd cc

second_break_is_nothing : Happens unknown event.BreakToBackend cut_off applied.Nothing cut_off
unfolding fresh cut_off
second_break_is_nothing = (refl, refl)

-- after it the backend makes no step, and nothing goes there
runs_after_a_break : Ran unknown (event.BreakToBackend ∷ event.Step ∷ event.ToBackend 13 ∷ []) fresh (Ok (record {})) cut_off
unfolding fresh cut_off
runs_after_a_break = inr (applied.Done, cut_off, break_is_done, inr (applied.Nothing, cut_off, (refl, refl), inr (applied.Nothing, cut_off, (refl, refl), refl)))
