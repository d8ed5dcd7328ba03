-- What copies come to at examples.
use Rattle.std.proofs.Common.{◌≡◌, ℕ, List, [], ◌∷◌, ◌++◌, map, Option, Some, None, refl}
use Rattle.std.specs.Prelude.{codes, pos, false, replicate}
use Rattle.pg_wire.specs.message.BackMessage.{BackMessage}
use Rattle.pg_wire.specs.message.BackMessage.TheVariants as back
use Rattle.pg_wire.specs.value.CopyHead.{CopyHead}
use Rattle.pg_wire.specs.value.ErrorField.{ErrorField}
use Rattle.pg_wire.specs.message.First.TheVariants as first
use Rattle.pg_wire.specs.message.FrontMessage.{FrontMessage}
use Rattle.pg_wire.specs.message.FrontMessage.TheVariants as front
use Rattle.pg_wire.specs.value.Status.TheVariants.{Idle, InBlock}
use Rattle.pg_wire.specs.value.Target.TheVariants.{Portal}
use Rattle.pg_wire.specs.declared.session.Part.{Part}
use Rattle.pg_wire.specs.declared.session.Part.TheVariants as whole
use Rattle.pg_wire.specs.declared.session.Request.TheVariants as request
use Rattle.pg_backend.specs.declared.phase.BackPhase.TheVariants as phase
use Rattle.pg_backend.specs.declared.meaning.InCopy.TheVariants.{Strays}
use Rattle.pg_backend.specs.declared.script.Answer.{Answer}
use Rattle.pg_backend.specs.declared.script.Auth.TheVariants.{Trust}
use Rattle.pg_backend.specs.declared.script.Load.{Load}
use Rattle.pg_backend.specs.declared.script.Load.TheVariants.{Accept, Refuse}
use Rattle.pg_backend.specs.declared.script.Logged.{Logged}
use Rattle.pg_backend.specs.declared.script.Script.{Script}
use Rattle.pg_backend.specs.declared.script.ScriptPart.TheVariants as part
use Rattle.pg_backend.specs.OwnError.{own_error}
use Rattle.pg_backend.specs.Meaning.{in_copy}
use Rattle.pg_backend.specs.Session.{replies, log_of}
use Rattle.pg_backend.specs.Input.{Input, output, input_phase}

abbrev pub text_head : CopyHead
text_head = record { binary = false; formats = pos 0 ∷ [] }

abbrev pub bad : List ErrorField
bad = record { code = 67; value = codes "XX000" } ∷ record { code = 77; value = codes "bad" } ∷ []

abbrev own : List ℕ → List ℕ → List ErrorField
own code text = own_error (codes "ERROR") code text

-- ---- a script whose first answer is a copy, and its second one a command

abbrev pub copying : Load → List Answer
copying load = record { before = []; parts = part.CopyIn text_head load ∷ []; error = None; status = Idle }
    ∷ record { before = []; parts = part.Command (codes "OK") ∷ []; error = None; status = Idle } ∷ []

abbrev pub accepting : List Answer
accepting = copying (Accept (codes "COPY 2"))

abbrev pub refusing : ℕ → List Answer
refusing n = copying (Refuse n bad)

-- a query for the copy, and what the client sends then
abbrev asking : List FrontMessage → List FrontMessage
asking ms = front.Query (codes "COPY") ∷ ms

abbrev pub chunk : FrontMessage
chunk = front.CopyData (codes "a")

abbrev next : List FrontMessage
next = front.Query (codes "NEXT") ∷ []

-- what is sent for a copy that fails so, and for the next query
abbrev failure : List ErrorField → List BackMessage
failure fields = back.CopyIn text_head ∷ back.ErrorResponse fields ∷ back.Ready Idle ∷ []

abbrev next_sent : List BackMessage
next_sent = back.CommandComplete (codes "OK") ∷ back.Ready Idle ∷ []

-- the log's entry for such a copy, with the chunks that it took, and for the next query
abbrev pub logged : List Part → Option (List ErrorField) → List (List ℕ) → Logged
logged parts error loaded = record {
  request = request.Query (codes "COPY");
  outcome = record { parts = parts; error = error; status = Idle; asides = [] };
  loaded = loaded;
}

abbrev pub failed : List ErrorField → List (List ℕ) → Logged
failed fields loaded = logged [] (Some fields) loaded

abbrev pub next_logged : Logged
next_logged = record {
  request = request.Query (codes "NEXT");
  outcome = record { parts = whole.Command (codes "OK") ∷ []; error = None; status = Idle; asides = [] };
  loaded = [];
}

-- ---- messages that can't stand in a copy

abbrev strayed_error : List ErrorField
strayed_error = own (codes "08P01") (codes "unexpected message in COPY")

abbrev strayed : List FrontMessage
strayed = asking (chunk ∷ front.Query (codes "SELECT 1") ∷ [])

-- a Query ends the copy with an error, and gets no answer of its own
query_in_copy : replies accepting (strayed ++ next) ≡ failure strayed_error ++ next_sent
query_in_copy = refl

query_in_copy_log : log_of accepting (strayed ++ next) ≡ failed strayed_error (codes "a" ∷ []) ∷ next_logged ∷ []
query_in_copy_log = refl

-- it does so too where the copy was to be refused
query_in_refused : log_of (refusing 2) strayed ≡ failed strayed_error (codes "a" ∷ []) ∷ []
query_in_refused = refl

-- so does each message of a group, and a password
abbrev others : List FrontMessage
others = front.Parse [] [] [] ∷ front.Bind [] [] [] [] [] ∷ front.Describe Portal [] ∷ front.Close Portal []
    ∷ front.Execute [] (pos 0) ∷ front.Password [] ∷ []

others_in_copy : map in_copy others ≡ replicate 6 Strays
others_in_copy = refl

-- the session goes on, and the bytes are: AuthenticationOk, ReadyForQuery, CopyInResponse, ErrorResponse, ReadyForQuery
abbrev script : Script
script = record { auth = Trust; pairs = []; key = None; answers = accepting }

abbrev opened : List FrontMessage → Input
opened ms = record { packets = first.Startup ((codes "user", codes "u") ∷ []) ∷ []; messages = ms; faulty = false }

query_in_copy_phase : input_phase script (opened strayed) ≡ phase.Ready
query_in_copy_phase = refl

query_in_copy_bytes : output script (opened strayed)
    ≡ 82 ∷ 0 ∷ 0 ∷ 0 ∷ 8 ∷ 0 ∷ 0 ∷ 0 ∷ 0 ∷ 90 ∷ 0 ∷ 0 ∷ 0 ∷ 5 ∷ 73 ∷ 71 ∷ 0 ∷ 0 ∷ 0 ∷ 9 ∷ 0 ∷ 0 ∷ 1 ∷ 0 ∷ 0
    ∷ 69 ∷ 0 ∷ 0 ∷ 0 ∷ 54 ∷ (codes "SERROR" ++ 0 ∷ (codes "VERROR" ++ 0 ∷ (codes "C08P01" ++ 0 ∷ (codes "Munexpected message in COPY" ++ 0 ∷ 0
    ∷ 90 ∷ 0 ∷ 0 ∷ 0 ∷ 5 ∷ 73 ∷ []))))
query_in_copy_bytes = refl

-- ---- a copy that the client gives up

-- 201 bytes, of which 200 are told
abbrev reason : List ℕ
reason = replicate 199 120 ++ codes "yz"

abbrev reason_told : List ErrorField
reason_told = own (codes "57014") (codes "COPY failed: " ++ (replicate 199 120 ++ codes "y"))

long_reason : replies accepting (asking (front.CopyFail reason ∷ [])) ≡ failure reason_told
long_reason = refl

-- a reason of 200 bytes is told whole
whole_reason : replies accepting (asking (front.CopyFail (replicate 199 120 ++ codes "y") ∷ [])) ≡ failure reason_told
whole_reason = refl

-- where the copy was to be refused, too
given_up_first : log_of (refusing 2) (asking (chunk ∷ front.CopyFail (codes "no") ∷ []))
    ≡ failed (own (codes "57014") (codes "COPY failed: no")) (codes "a" ∷ []) ∷ []
given_up_first = refl

-- ---- a copy that is refused

-- before its first chunk: what the client sends of it then has no effect
refused_at_once : replies (refusing 0) (asking []) ≡ failure bad
refused_at_once = refl

refused_at_once_log : log_of (refusing 0) (asking (chunk ∷ front.CopyDone ∷ next)) ≡ failed bad [] ∷ next_logged ∷ []
refused_at_once_log = refl

-- at its end, where that comes before the chunk that was to be refused
abbrev ended_early : List FrontMessage
ended_early = asking (chunk ∷ front.CopyDone ∷ next)

refused_at_end : replies (refusing 2) ended_early ≡ failure bad ++ next_sent
refused_at_end = refl

refused_at_end_log : log_of (refusing 2) ended_early ≡ failed bad (codes "a" ∷ []) ∷ next_logged ∷ []
refused_at_end_log = refl

-- ---- Flush, Sync and Terminate in a copy

abbrev flushed : List FrontMessage
flushed = asking (front.Flush ∷ chunk ∷ front.Sync ∷ chunk ∷ front.CopyDone ∷ next)

-- Flush and Sync have no effect
flush_in_copy : replies accepting flushed
    ≡ back.CopyIn text_head ∷ back.CommandComplete (codes "COPY 2") ∷ back.Ready Idle ∷ next_sent
flush_in_copy = refl

flush_in_copy_log : log_of accepting flushed
    ≡ logged (whole.CopyIn text_head (codes "COPY 2") ∷ []) None (codes "a" ∷ codes "a" ∷ []) ∷ next_logged ∷ []
flush_in_copy_log = refl

-- and they are no chunks that would be counted
flush_not_counted : replies (refusing 2) (asking (front.Flush ∷ chunk ∷ front.Sync ∷ [])) ≡ back.CopyIn text_head ∷ []
flush_not_counted = refl

flush_phase : input_phase script (opened (asking (front.Flush ∷ chunk ∷ front.Sync ∷ []))) ≡ phase.CopyIn
flush_phase = refl

-- Terminate closes: the copy is never decided
abbrev left : List FrontMessage
left = asking (chunk ∷ front.Terminate ∷ front.CopyDone ∷ next)

terminate_in_copy : replies accepting left ≡ back.CopyIn text_head ∷ []
terminate_in_copy = refl

terminate_in_copy_log : log_of accepting left ≡ []
terminate_in_copy_log = refl

terminate_in_copy_phase : input_phase script (opened left) ≡ phase.Closed
terminate_in_copy_phase = refl

-- ---- a copy among other parts, with an error after them

abbrev among : Answer
among = record {
  before = [];
  parts = part.Command (codes "A") ∷ part.CopyIn text_head (Accept (codes "COPY 0")) ∷ part.Command (codes "B") ∷ [];
  error = Some bad;
  status = InBlock;
}

-- where it is complete, all that stands after it follows
among_complete : replies (among ∷ []) (asking (front.CopyDone ∷ []))
    ≡ back.CommandComplete (codes "A") ∷ back.CopyIn text_head ∷ back.CommandComplete (codes "COPY 0") ∷ back.CommandComplete (codes "B")
    ∷ back.ErrorResponse bad ∷ back.Ready InBlock ∷ []
among_complete = refl

-- where it fails, nothing but its own error does
among_failed : replies (among ∷ []) (asking (front.CopyFail (codes "no") ∷ []))
    ≡ back.CommandComplete (codes "A") ∷ back.CopyIn text_head ∷ back.ErrorResponse (own (codes "57014") (codes "COPY failed: no"))
    ∷ back.Ready InBlock ∷ []
among_failed = refl

-- ---- a copy to the client

abbrev outgoing : List Answer
outgoing = record {
  before = [];
  parts = part.CopyOut text_head (codes "a" ∷ codes "b" ∷ []) (codes "COPY 2") ∷ [];
  error = None;
  status = Idle;
} ∷ []

copied_out : replies outgoing (asking [])
    ≡ back.CopyOut text_head ∷ back.CopyData (codes "a") ∷ back.CopyData (codes "b") ∷ back.CopyDone
    ∷ back.CommandComplete (codes "COPY 2") ∷ back.Ready Idle ∷ []
copied_out = refl

copied_out_log : log_of outgoing (asking [])
    ≡ logged (whole.CopyOut text_head (codes "a" ∷ codes "b" ∷ []) (codes "COPY 2") ∷ []) None [] ∷ []
copied_out_log = refl
