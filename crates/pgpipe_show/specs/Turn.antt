-- Who has the turn, from a connection's first packet on, and what is printed next.
use Rattle.std.specs.Prelude.{ℕ, ◌==◌, ◌||◌, Bool, true, false, if◌then◌else◌, List, Option, Some, None, unwrap_or}
use Rattle.pgpipe_frames.specs.declared.next.NextFrame.{NextFrame}
use Rattle.pgpipe_frames.specs.declared.next.NextFrame.TheVariants as next
use Rattle.pgpipe_frames.specs.Frames.{Frame, code}
use Rattle.pgpipe_frames.specs.Reading.{tag_of}
use Rattle.pgpipe_show.specs.declared.both.talk.Talk.{Talk}
use Rattle.pgpipe_show.specs.declared.both.talk.Talk.TheVariants.{Answering}
use Rattle.pgpipe_show.specs.declared.both.turn.Due.{Due}
use Rattle.pgpipe_show.specs.declared.both.turn.Due.TheVariants as whose
use Rattle.pgpipe_show.specs.declared.both.turn.Encryption.{Encryption}
use Rattle.pgpipe_show.specs.declared.both.turn.Encryption.TheVariants.{Ssl, Gss}
use Rattle.pgpipe_show.specs.declared.both.turn.Ended.{Ended}
use Rattle.pgpipe_show.specs.declared.both.turn.Ended.TheVariants as ended
use Rattle.pgpipe_show.specs.declared.both.turn.Stage.{Stage}
use Rattle.pgpipe_show.specs.declared.both.turn.Stage.TheVariants.{Opening, Requested, Talking}
use Rattle.pgpipe_show.specs.declared.both.turn.Turn.{Turn}
use Rattle.pgpipe_show.specs.Talk.{asked, is_clients, talk_sent, talk_got}

-- ---- the opening (Frontend/Backend Protocol, "SSL Session Encryption", "GSSAPI Session Encryption")

-- the request for encryption that a first packet of this code is: an SSLRequest or a GSSENCRequest
abbrev pub request_of : ℕ → Option Encryption
request_of c = if c == 80877103 then Some Ssl else if c == 80877104 then Some Gss else None

-- whether this byte accepts it: `S` or `G`
abbrev pub accepts : Encryption → ℕ → Bool
accepts Ssl byte = byte == 83
accepts Gss byte = byte == 71

-- whether this byte answers it: `N` rejects it
abbrev pub is_reply : Encryption → ℕ → Bool
is_reply request byte = byte == 78 || accepts request byte

-- after a first packet that may be such a request
abbrev pub opened : Option Encryption → Stage
opened None = Talking (Answering false false false)
opened (Some request) = Requested request

-- after the client's first frame, and each that follows a request which was rejected
abbrev pub opening_sent : NextFrame → List ℕ → Stage
opening_sent next.Packet bytes = opened (request_of (code bytes))
opening_sent next.Message bytes = Talking (asked false false (tag_of bytes))
opening_sent next.Nothing bytes = Talking (asked false false (tag_of bytes))

-- ---- each stage

-- after a frame of the client
abbrev pub stage_sent : Stage → NextFrame → List ℕ → Stage
stage_sent Opening kind bytes = opening_sent kind bytes
stage_sent (Requested request) kind bytes = opening_sent kind bytes
stage_sent (Talking talk) kind bytes = Talking (talk_sent talk kind bytes)

-- the talk, which a message of the server begins if it has not begun
abbrev pub talk_of : Stage → Talk
talk_of Opening = Answering false false false
talk_of (Requested request) = Answering false false false
talk_of (Talking talk) = talk

-- after a frame of the server
abbrev pub stage_got : Stage → List ℕ → Stage
stage_got stage bytes = Talking (talk_got (talk_of stage) bytes)

-- ---- what is printed next

-- where the client's stream has ended: what the server sends
abbrev pub server_due : Stage → Due
server_due Opening = whose.Side false
server_due (Requested request) = whose.Reply request
server_due (Talking talk) = whose.Side false

-- where neither stream has ended
abbrev pub stage_due : Stage → Due
stage_due Opening = whose.Side true
stage_due (Requested request) = whose.Reply request
stage_due (Talking talk) = whose.Side (is_clients talk)

-- By how the client's stream and the server's ended: of one alone all the rest is printed.
abbrev pub due_of : Stage → Option Ended → Option Ended → Due
due_of stage None None = stage_due stage
due_of stage (Some front) None = server_due stage
due_of stage None (Some back) = whose.Side true
due_of stage (Some front) (Some back) = whose.Nobody (record { front = front; back = back })

-- what is printed next at this turn
abbrev pub due : Turn → Due
due turn = due_of turn.stage turn.front turn.back

-- ---- how the turn goes on

-- the client begins
abbrev pub first_turn : Turn
first_turn = record { stage = Opening; front = None; back = None }

-- after a frame of the client (true) or of the server
abbrev pub moved : Turn → Bool → Frame → Turn
moved turn true f = record {
  stage = stage_sent turn.stage f.kind f.bytes;
  front = turn.front;
  back = turn.back;
}
moved turn false f = record {
  stage = stage_got turn.stage f.bytes;
  front = turn.front;
  back = turn.back;
}

-- after the end of the client's stream (true) or of the server's
abbrev pub ended_by : Turn → Bool → Ended → Turn
ended_by turn true how = record { stage = turn.stage; front = Some how; back = turn.back }
ended_by turn false how = record {
  stage = Talking (talk_of turn.stage);
  front = turn.front;
  back = Some how;
}

-- After the answer to a request for encryption: where it was rejected (true) another first packet
-- follows, and else both streams go on encrypted.
abbrev pub after_reply : Bool → Turn → Turn
after_reply true turn = record { stage = Opening; front = turn.front; back = turn.back }
after_reply false turn = record {
  stage = Opening;
  front = Some (unwrap_or turn.front ended.Encrypted);
  back = Some ended.Encrypted;
}
