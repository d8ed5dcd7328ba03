-- Where a client stands after its calls and the messages that came, and what one more message does
-- to that. Where it stands is a Stand: New before start, Starting in the startup, Idle between two
-- requests (and before the first, and after the last), and Busy in the segment of a request, at a
-- place of that.
use Rattle.std.specs.Prelude.{◌≡◌, ℕ, List, [], ◌∷◌, ◌++◌, Bool, true, false, cond, not, Option, Some, None}
use Rattle.std.specs.Option.{option_map}
use Rattle.pg_wire.specs.message.BackMessage.{BackMessage}
use Rattle.pg_wire.specs.message.BackMessage.TheVariants.{AuthCleartext, AuthMd5, AuthOther, ErrorResponse}
use Rattle.pg_wire.specs.value.Status.{Status}
use Rattle.pg_wire.specs.declared.session.Aside.{Aside}
use Rattle.pg_wire.specs.declared.session.Outcome.{Outcome}
use Rattle.pg_wire.specs.declared.session.Request.{Request}
use Rattle.pg_wire.specs.Backend.{tag}
use Rattle.pg_wire.specs.Segment.{aside_of, without_asides, asked, Fits, status_of}
use Rattle.pg_response.specs.declared.mark.Mark.{Mark}
use Rattle.pg_response.specs.declared.mark.Mark.TheVariants as mark
use Rattle.pg_response.specs.declared.place.Open.{Open}
use Rattle.pg_response.specs.declared.place.Open.TheVariants as opened
use Rattle.pg_response.specs.declared.place.Place.{Place}
use Rattle.pg_response.specs.Place.{goes, mark_of, may_end, goes_all}
use Rattle.pg_client.specs.declared.fault.FeedFault.{FeedFault}
use Rattle.pg_client.specs.declared.fault.FeedFault.TheVariants as feeding
use Rattle.pg_client.specs.declared.stand.CopyAnswer.{CopyAnswer}
use Rattle.pg_client.specs.declared.stand.CopyAnswer.TheVariants.{Awaited, Done, Refused}
use Rattle.pg_client.specs.declared.stand.Stand.{Stand}
use Rattle.pg_client.specs.declared.stand.Stand.TheVariants.{New, Starting, Idle, Busy}
use Rattle.pg_client.specs.declared.startup.Welcome.{Welcome}
use Rattle.pg_client.specs.declared.startup.Welcome.TheVariants.{Fresh, Admitted}
use Rattle.pg_client.specs.declared.call.Call.TheVariants as call
use Rattle.pg_client.specs.Session.{Happening, Did, Came, asks_password, requests_in, whole_in, rest_in, IsStarted, IsStartup}
use Rattle.pg_client.specs.Startup.{greet, greet_all}

-- ---- where one message leads

-- What was called for the last copy from the client, after a message with this mark: CopyInResponse
-- begins a copy, for which nothing was called yet.
abbrev pub answer_after : CopyAnswer → Mark → CopyAnswer
answer_after answer mark.CopyIn = Awaited
answer_after answer _ = answer

-- Whether a CommandComplete would end a copy from the client before copy_done was called for it
-- ("COPY Operations").
abbrev pub is_too_early : Open → CopyAnswer → Mark → Bool
is_too_early opened.CopyIn Done m = false
is_too_early opened.CopyIn answer mark.CommandComplete = true
is_too_early _ _ _ = false

-- Where a message with this mark leads in the segment of this request. None: it may not come there.
abbrev pub leads_in : Request → Place → CopyAnswer → Mark → Option Place
leads_in request place answer m =
    cond (is_too_early place.opened answer m) None (goes (asked request) place m)

-- Where a message with this mark leads in the segment of a request that is outstanding.
abbrev pub leads : Stand → Mark → Option Place
leads (Busy request place answer) m = leads_in request place answer m
leads _ m = None

-- Whether ReadyForQuery may come where the client stands: once the startup has let it in, or where
-- the segment of its request may end.
abbrev pub may_end_at : Stand → Bool
may_end_at (Starting Admitted) = true
may_end_at (Busy request place answer) = may_end (asked request) place
may_end_at _ = false

-- The startup after a message that brings it this far.
abbrev pub starting_at : Option Welcome → Option Stand
starting_at w = option_map Starting w

-- Where ReadyForQuery leads.
abbrev pub ends_at : Stand → Option Stand
ends_at stand = cond (may_end_at stand) (Some Idle) None

-- Where a message leads that is neither an aside nor ReadyForQuery.
abbrev pub hear_other : Stand → BackMessage → Option Stand
hear_other (Starting w) m = starting_at (greet w m)
hear_other (Busy request place answer) m =
    option_map (λ p. Busy request p (answer_after answer (mark_of m)))
    (leads_in request place answer (mark_of m))
hear_other _ m = None

-- Where an aside leads: it changes nothing, and may not come before start.
abbrev pub hear_aside : Stand → Option Stand
hear_aside New = None
hear_aside stand = Some stand

-- Where a message leads, by whether it is an aside, and whether it is a ReadyForQuery with a status.
abbrev pub hear_by : Stand → Option Aside → Option Status → BackMessage → Option Stand
hear_by stand (Some a) status m = hear_aside stand
hear_by stand None (Some status) m = ends_at stand
hear_by stand None None m = hear_other stand m

-- Where a message leads a client that stands there. None: it may not come there.
abbrev pub hear : Stand → BackMessage → Option Stand
hear stand m = hear_by stand (aside_of m) (status_of m) m

-- Whether a client that has this password or none can answer the message: a question for a password
-- needs one, and any other message needs nothing.
abbrev pub can_answer : Option (List ℕ) → BackMessage → Bool
can_answer (Some password) m = true
can_answer None m = not (asks_password m)

-- Where a message leads a client that has this password or none: a question for a password may not
-- come where it has none.
abbrev pub hear_with : Option (List ℕ) → Stand → BackMessage → Option Stand
hear_with password stand m = cond (can_answer password m) (hear stand m) None

-- ---- the fault of a message that may not come

-- First in the startup. A question for a password is one where the client has none.
abbrev pub fresh_fault : BackMessage → FeedFault
fresh_fault (ErrorResponse fields) = feeding.StartupError fields
fresh_fault (AuthOther code bytes) = feeding.UnsupportedAuth code
fresh_fault AuthCleartext = feeding.PasswordWanted
fresh_fault (AuthMd5 salt) = feeding.PasswordWanted
fresh_fault m = feeding.Unexpected (tag m)

-- Later in the startup: an ErrorResponse ends it, and any other is unexpected.
abbrev pub later_fault : BackMessage → FeedFault
later_fault (ErrorResponse fields) = feeding.StartupError fields
later_fault m = feeding.Unexpected (tag m)

-- In a startup that has come this far.
abbrev pub welcome_fault : Welcome → BackMessage → FeedFault
welcome_fault Fresh m = fresh_fault m
welcome_fault _ m = later_fault m

-- Between two requests: an ErrorResponse ends the session, and any other is unexpected.
abbrev pub idle_fault : BackMessage → FeedFault
idle_fault (ErrorResponse fields) = feeding.ServerEnd fields
idle_fault m = feeding.Unexpected (tag m)

-- Where the client stands.
abbrev pub fault_at : Stand → BackMessage → FeedFault
fault_at (Starting w) m = welcome_fault w m
fault_at Idle m = idle_fault m
fault_at _ m = feeding.Unexpected (tag m)

-- ---- where the client stands

-- What was called for the last copy from the client, after one more event ("COPY Operations").
-- Awaited: nothing yet. Done: copy_done. Refused: copy_fail.
abbrev pub copy_answer_after : CopyAnswer → Happening → CopyAnswer
copy_answer_after answer (Came m) = answer_after answer (mark_of m)
copy_answer_after answer (Did (call.Request r)) = Awaited
copy_answer_after answer (Did call.Done) = Done
copy_answer_after answer (Did (call.Fail reason)) = Refused
copy_answer_after answer _ = answer

-- What was called for the last copy from the client, after any number of further events.
abbrev pub copy_answer_from : CopyAnswer → List Happening → CopyAnswer
copy_answer_from answer [] = answer
copy_answer_from answer (h ∷ hs) = copy_answer_from (copy_answer_after answer h) hs

-- What was called for the last copy from the client, in a session with these events.
abbrev pub copy_answer : List Happening → CopyAnswer
copy_answer hs = copy_answer_from Awaited hs

-- For each of these requests there is one segment, in order, which fits it with some outcome.
abbrev pub EachFits : List Request → List (List BackMessage) → Type 0
EachFits [] [] = Unit {0}
EachFits (r ∷ rs) (s ∷ ss) = ((outcome : Outcome) × Fits r s outcome) × EachFits rs ss
EachFits _ _ = ⊥

-- The whole segments are that of the startup, and one for each of these requests.
pub record AreAnswered (requests : List Request) (whole : List (List BackMessage)) : Type 0 where
  pub startup : List BackMessage
  pub groups : List (List BackMessage)
  pub cut : whole ≡ startup ∷ groups
  pub welcomed : IsStartup startup
  pub fit : EachFits requests groups

-- The client stands in the startup, which has come this far: no request was made, no segment is
-- whole, and the messages so far lead there.
pub record StandsStarting (requests : List Request) (whole : List (List BackMessage))
    (rest : List BackMessage) (w : Welcome) : Type 0 where
  pub no_request : requests ≡ []
  pub no_segment : whole ≡ []
  pub greeted : greet_all (without_asides rest) ≡ Some w

-- The client stands between two requests: all requests are answered, and since the last
-- ReadyForQuery only asides came.
pub record StandsIdle (requests : List Request) (whole : List (List BackMessage))
    (rest : List BackMessage) : Type 0 where
  pub answered : AreAnswered requests whole
  pub only_asides : without_asides rest ≡ []

-- The client stands in the segment of this request, which is the last one: the earlier requests are
-- answered, and the messages since the last ReadyForQuery have led to this place. `said` is what
-- was called for the last copy from the client.
pub record StandsBusy (requests : List Request) (whole : List (List BackMessage))
    (rest : List BackMessage) (said : CopyAnswer) (request : Request) (place : Place)
    (answer : CopyAnswer) : Type 0 where
  pub earlier : List Request
  pub last : requests ≡ earlier ++ request ∷ []
  pub answered : AreAnswered earlier whole
  pub placed : goes_all (asked request) (without_asides rest) ≡ Some place
  pub answer_is : answer ≡ said

-- A client that was started stands here. The arguments are its requests, the whole segments, the
-- messages since the last one, what was called for the last copy from the client, and where it
-- stands.
abbrev pub StandsBy : List Request → List (List BackMessage) → List BackMessage → CopyAnswer → Stand
    → Type 0
StandsBy requests whole rest said New = ⊥
StandsBy requests whole rest said (Starting w) = StandsStarting requests whole rest w
StandsBy requests whole rest said Idle = StandsIdle requests whole rest
StandsBy requests whole rest said (Busy request place answer) =
    StandsBusy requests whole rest said request place answer

-- After these events the client stands here. A New client has no events.
abbrev pub Stands : List Happening → Stand → Type 0
Stands hs New = hs ≡ []
Stands hs stand = IsStarted hs
    × StandsBy (requests_in hs) (whole_in hs) (rest_in hs) (copy_answer hs) stand
