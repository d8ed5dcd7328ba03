-- The messages after authentication, cut into requests with what follows each of them.
use Rattle.std.specs.Prelude.{ℕ, zero, suc, List, [], ◌∷◌, ◌++◌, Option, Some, None, map}
use Rattle.std.specs.List.{flat_map}
use Rattle.pg_wire.specs.message.BackMessage.{BackMessage}
use Rattle.pg_wire.specs.message.BackMessage.TheVariants as back
use Rattle.pg_wire.specs.message.FrontMessage.{FrontMessage}
use Rattle.pg_wire.specs.declared.session.Request.{Request}
use Rattle.pg_wire.specs.declared.session.Request.TheVariants as request
use Rattle.pg_wire.specs.declared.session.Step.{Step}
use Rattle.pg_backend.specs.declared.meaning.InCopy.{InCopy}
use Rattle.pg_backend.specs.declared.meaning.InCopy.TheVariants as copy
use Rattle.pg_backend.specs.declared.meaning.Meaning.{Meaning}
use Rattle.pg_backend.specs.declared.meaning.Meaning.TheVariants.{Asks, Adds, Closes, Drops, Leaves, Strays}
use Rattle.pg_backend.specs.declared.script.Answer.{Answer}
use Rattle.pg_backend.specs.declared.script.Logged.{Logged}
use Rattle.pg_backend.specs.Fitting.{answer_for, others}
use Rattle.pg_backend.specs.Meaning.{meaning, in_copy}
use Rattle.pg_backend.specs.OwnError.{fatal_unexpected}
use Rattle.pg_backend.specs.Replies.{Verdict, verdict, reply}

-- a request, its verdict (None while it is undecided), and what was sent for it
pub record Exchange : Type 0 where
  pub request : Request
  pub verdict : Option Verdict
  pub reply : List BackMessage

-- the exchange of a request with this answer, where these messages follow it
abbrev pub exchange : Request → Answer → List FrontMessage → Exchange
exchange r a ms = record { request = r; verdict = verdict a ms; reply = reply a ms }

-- where the messages of a session end: between requests, within a group, in an undecided copy, at a
-- Terminate, or at a message that may not stand there. After the last two no message is read.
pub data Place : Type 0 where
  Between : Place
  Grouping : (steps : List Step) → Place
  Copying : Place
  Terminated : Place
  Stray : Place

-- the requests of a client that was let in, with what came of each, and where its messages end
pub record Session : Type 0 where
  pub exchanges : List Exchange
  pub place : Place

-- a session without a request, whose messages end there
abbrev pub only : Place → Session
only place = record { exchanges = []; place = place }

-- where messages end that have these steps after the last request: within a group, or between
-- requests if there is none
abbrev pub place_after : List Step → Place
place_after [] = Between
place_after (s ∷ ss) = Grouping (s ∷ ss)

-- where messages end that leave a copy undecided: in the copy, or at a Terminate
abbrev pub copy_place : List InCopy → Place
copy_place [] = Copying
copy_place (copy.Leaves ∷ ms) = Terminated
copy_place (m ∷ ms) = copy_place ms

-- the session from this exchange on. Undecided, it is the last, and the messages end at
-- `unfinished`; decided, `rest` has what follows, given how many messages its copy used up.
abbrev pub from_exchange : Exchange → Option Verdict → Place → (ℕ → Session) → Session
from_exchange e None unfinished rest = record { exchanges = e ∷ []; place = unfinished }
from_exchange e (Some v) unfinished rest =
    record { exchanges = e ∷ (rest v.taken).exchanges; place = (rest v.taken).place }

-- the session from this request on, where these messages follow it; `rest` has what comes after as
-- many of them as its copy used up
abbrev pub from_request : List Answer → Request → List FrontMessage → (ℕ → Session) → Session
from_request answers r ms rest =
    from_exchange (exchange r (answer_for answers r) ms) (verdict (answer_for answers r) ms)
    (copy_place (map in_copy ms)) rest

-- the session from a message on, by its meaning, after these steps of an open group. `ms` follow
-- it; `rest` reads them past the first n, with the answers left and the steps so far.
abbrev pub from_message : List Answer → Meaning → List Step → List FrontMessage
    → (ℕ → List Answer → List Step → Session) → Session
from_message answers (Asks text) [] ms rest =
    from_request answers (request.Query text) ms (λ n. rest n (others answers) [])
from_message answers (Asks text) (s ∷ ss) ms rest = only Stray
from_message answers (Adds s) steps ms rest = rest 0 answers (steps ++ s ∷ [])
from_message answers Closes steps ms rest =
    from_request answers (request.Group steps) ms (λ n. rest n (others answers) [])
from_message answers Drops steps ms rest = rest 0 answers steps
from_message answers Leaves steps ms rest = only Terminated
from_message answers Strays steps ms rest = only Stray

-- the session of the messages past the first n, which a copy has used up, with these answers left
-- and these steps of an open group before
abbrev pub session_past : ℕ → List Answer → List Step → List FrontMessage → Session
session_past n answers steps [] = only (place_after steps)
session_past (suc n) answers steps (m ∷ ms) = session_past n answers steps ms
session_past zero answers steps (m ∷ ms) =
    from_message answers (meaning m) steps ms (λ n a s. session_past n a s ms)

-- the session of the messages after authentication
abbrev pub session : List Answer → List FrontMessage → Session
session answers ms = session_past 0 answers [] ms

-- what is sent last: an error, where the messages end at one that may not stand there
abbrev pub farewell : Place → List BackMessage
farewell Stray = back.ErrorResponse fatal_unexpected ∷ []
farewell _ = []

-- all that is sent in this session
abbrev pub all_sent : Session → List BackMessage
all_sent s = flat_map (λ e. e.reply) s.exchanges ++ farewell s.place

-- all that is sent in the session of these messages
abbrev pub replies : List Answer → List FrontMessage → List BackMessage
replies answers ms = all_sent (session answers ms)

-- the log's entry for a request, once it is decided: its outcome and the chunks that were taken for
-- it
abbrev pub logged : Request → Option Verdict → List Logged
logged r None = []
logged r (Some v) = record { request = r; outcome = v.outcome; loaded = v.loaded } ∷ []

-- the log of a session: an entry for each request that is decided
abbrev pub decided : Session → List Logged
decided s = flat_map (λ e. logged e.request e.verdict) s.exchanges

-- the log of the session of these messages
abbrev pub log_of : List Answer → List FrontMessage → List Logged
log_of answers ms = decided (session answers ms)
