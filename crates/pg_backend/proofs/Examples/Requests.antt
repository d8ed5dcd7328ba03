-- What the definitions come to at examples.
use Rattle.std.proofs.Common.{◌≡◌, ℕ, List, [], ◌∷◌, ◌++◌, map, Option, Some, None, refl, ap}
use Rattle.std.specs.Prelude.{codes, pos, negsuc, false, true}
use Rattle.std.specs.List.{list_all}
use Rattle.pg_wire.specs.message.BackMessage.{BackMessage}
use Rattle.pg_wire.specs.message.BackMessage.TheVariants as back
use Rattle.pg_wire.specs.value.ErrorField.{ErrorField}
use Rattle.pg_wire.specs.value.Column.{Column}
use Rattle.pg_wire.specs.message.First.TheVariants as first
use Rattle.pg_wire.specs.message.FrontMessage.{FrontMessage}
use Rattle.pg_wire.specs.message.FrontMessage.TheVariants as front
use Rattle.pg_wire.specs.value.Status.TheVariants.{Idle, InBlock, Failed}
use Rattle.pg_wire.specs.value.Target.TheVariants.{Portal, Statement}
use Rattle.pg_wire.specs.declared.session.Aside.TheVariants as aside
use Rattle.pg_wire.specs.declared.session.ExecEnd.TheVariants.{Suspended}
use Rattle.pg_wire.specs.declared.session.Request.TheVariants as request
use Rattle.pg_wire.specs.declared.session.Part.TheVariants as whole
use Rattle.pg_wire.proofs.Rows.{salted}
use Rattle.pg_backend.specs.declared.script.Answer.{Answer}
use Rattle.pg_backend.specs.declared.script.Auth.{Auth}
use Rattle.pg_backend.specs.declared.script.Auth.TheVariants.{Trust, Cleartext, Md5}
use Rattle.pg_backend.specs.declared.script.Load.{Load}
use Rattle.pg_backend.specs.declared.script.Load.TheVariants.{Accept, Refuse}
use Rattle.pg_backend.specs.declared.script.Script.{Script}
use Rattle.pg_backend.specs.declared.script.ScriptPart.{ScriptPart}
use Rattle.pg_backend.specs.declared.script.ScriptPart.TheVariants as part
use Rattle.pg_backend.specs.Check.{has_one_copy, script_messages}
use Rattle.pg_backend.specs.OwnError.{own_error}
use Rattle.pg_backend.specs.Session.{Copying, session, replies, log_of}
use Rattle.pg_backend.specs.Opening.{No, Says, by_password, admission_messages}
use Rattle.pg_backend.specs.Input.{Input, transcript, output, input_phase, IsStray}
use Rattle.pg_backend.specs.declared.phase.BackPhase.TheVariants as phase
use Rattle.pg_backend.proofs.Examples.Copies.{bad, text_head}

abbrev script : List Answer → Script
script answers = record { auth = Trust; pairs = []; key = None; answers = answers }

abbrev asking : Auth → Script
asking auth = record { auth = auth; pairs = []; key = None; answers = [] }

abbrev column : Column
column = record { name = codes "n"; table_oid = 0; attribute = pos 0; type_oid = 25; size = negsuc 0; modifier = negsuc 0; format = pos 0 }

-- a client of the user u that was let in, and then sent these messages
abbrev opened : List FrontMessage → Input
opened ms = record { packets = first.Startup ((codes "user", codes "u") ∷ []) ∷ []; messages = ms; faulty = false }

-- an SSLRequest, then a Startup
opening : transcript (script []) (record { packets = first.Ssl ∷ first.Startup ((codes "user", codes "u") ∷ []) ∷ []; messages = []; faulty = false })
    ≡ No ∷ Says back.AuthOk ∷ Says (back.Ready Idle) ∷ []
opening = refl

-- parts and an error
parts_and_error : replies (record { before = []; parts = part.Command (codes "A") ∷ part.Command (codes "B") ∷ []; error = Some bad; status = Failed } ∷ []) (front.Query (codes "Q") ∷ [])
    ≡ back.CommandComplete (codes "A") ∷ back.CommandComplete (codes "B") ∷ back.ErrorResponse bad ∷ back.Ready Failed ∷ []
parts_and_error = refl

abbrev refusing : List Answer
refusing = record { before = []; parts = part.CopyIn text_head (Refuse 2 bad) ∷ []; error = None; status = Idle }
    ∷ record { before = []; parts = part.Command (codes "OK") ∷ []; error = None; status = Idle } ∷ []

abbrev chunk : List ℕ → FrontMessage
chunk bytes = front.CopyData bytes

abbrev early : List FrontMessage
early = front.Query (codes "COPY") ∷ chunk (codes "a") ∷ chunk (codes "b") ∷ []

abbrev late : List FrontMessage
late = front.Query (codes "COPY") ∷ chunk (codes "a") ∷ chunk (codes "b") ∷ chunk (codes "c") ∷ chunk (codes "d") ∷ chunk (codes "e") ∷ front.CopyDone ∷ front.Query (codes "NEXT") ∷ []

-- a copy that is refused, and what is left of it
refused_copy : replies refusing late
    ≡ back.CopyIn text_head ∷ back.ErrorResponse bad ∷ back.Ready Idle ∷ back.CommandComplete (codes "OK") ∷ back.Ready Idle ∷ []
refused_copy = refl

refused_log : log_of refusing late
    ≡ record { request = request.Query (codes "COPY"); outcome = record { parts = []; error = Some bad; status = Idle; asides = [] }; loaded = codes "a" ∷ codes "b" ∷ [] }
    ∷ record { request = request.Query (codes "NEXT"); outcome = record { parts = whole.Command (codes "OK") ∷ []; error = None; status = Idle; asides = [] }; loaded = [] } ∷ []
refused_log = refl

-- a query with rows
rows_sent : replies (record { before = []; parts = part.Rows (column ∷ []) ((Some (codes "1") ∷ []) ∷ []) (codes "SELECT 1") ∷ []; error = None; status = Idle } ∷ []) (front.Query (codes "SELECT 1") ∷ [])
    ≡ back.RowDescription (column ∷ []) ∷ back.DataRow (Some (codes "1") ∷ []) ∷ back.CommandComplete (codes "SELECT 1") ∷ back.Ready Idle ∷ []
rows_sent = refl

abbrev accepting : List Answer
accepting = record { before = []; parts = part.CopyIn text_head (Accept (codes "COPY 2")) ∷ []; error = None; status = Idle } ∷ []

-- a copy that the client gives up, and one that it ends
given_up : log_of accepting (front.Query (codes "COPY") ∷ chunk (codes "a") ∷ front.CopyFail (codes "no") ∷ [])
    ≡ record { request = request.Query (codes "COPY"); outcome = record { parts = []; error = Some (own_error (codes "ERROR") (codes "57014") (codes "COPY failed: no")); status = Idle; asides = [] }; loaded = codes "a" ∷ [] } ∷ []
given_up = refl

copied : log_of accepting (front.Query (codes "COPY") ∷ chunk (codes "a") ∷ front.CopyDone ∷ [])
    ≡ record { request = request.Query (codes "COPY"); outcome = record { parts = whole.CopyIn text_head (codes "COPY 2") ∷ []; error = None; status = Idle; asides = [] }; loaded = codes "a" ∷ [] } ∷ []
copied = refl

-- what is undecided isn't logged, and the copy goes on
copying : session accepting (front.Query (codes "COPY") ∷ chunk (codes "a") ∷ [])
    ≡ record { exchanges = record { request = request.Query (codes "COPY"); verdict = None; reply = back.CopyIn text_head ∷ [] } ∷ []; place = Copying }
copying = refl

-- a group of three steps, of which the first is answered
group_with_error : replies (record { before = []; parts = part.Parsed ∷ []; error = Some bad; status = Idle } ∷ [])
    (front.Parse [] (codes "SELECT") [] ∷ front.Bind [] [] [] [] [] ∷ front.Execute [] (pos 0) ∷ front.Sync ∷ [])
    ≡ back.ParseComplete ∷ back.ErrorResponse bad ∷ back.Ready Idle ∷ []
group_with_error = refl

-- a Query within a group can't stand there
stray : replies [] (front.Parse [] [] [] ∷ front.Query [] ∷ front.Sync ∷ [])
    ≡ back.ErrorResponse (own_error (codes "FATAL") (codes "08P01") (codes "unexpected message")) ∷ []
stray = refl

-- the same input as bytes: N, AuthenticationOk, ReadyForQuery
opening_bytes : output (script []) (record { packets = first.Ssl ∷ first.Startup ((codes "user", codes "u") ∷ []) ∷ []; messages = []; faulty = false })
    ≡ 78 ∷ 82 ∷ 0 ∷ 0 ∷ 0 ∷ 8 ∷ 0 ∷ 0 ∷ 0 ∷ 0 ∷ 90 ∷ 0 ∷ 0 ∷ 0 ∷ 5 ∷ 73 ∷ []
opening_bytes = refl

-- a Startup that names no user is refused, and closes
no_user_named : transcript (script []) (record { packets = first.Startup [] ∷ []; messages = []; faulty = false })
    ≡ Says (back.ErrorResponse (own_error (codes "FATAL") (codes "28000") (codes "no user in startup"))) ∷ []
no_user_named = refl

no_user_closes : input_phase (script []) (record { packets = first.Startup [] ∷ []; messages = []; faulty = false }) ≡ phase.Closed
no_user_closes = refl

-- a faulty rest has the last word
faulty_last : transcript (script []) (record { packets = first.Ssl ∷ []; messages = []; faulty = true })
    ≡ No ∷ Says (back.ErrorResponse (own_error (codes "FATAL") (codes "08P01") (codes "bad message"))) ∷ []
faulty_last = refl

-- a Cancel closes with no reply
canceled : transcript (script []) (record { packets = first.Cancel (pos 1) (pos 2) ∷ []; messages = []; faulty = false }) ≡ []
canceled = refl

-- the last user counts, and an empty one is none
last_user : input_phase (script []) (record { packets = first.Startup ((codes "user", codes "u") ∷ (codes "user", []) ∷ []) ∷ []; messages = []; faulty = false }) ≡ phase.Closed
last_user = refl

-- a request for encryption by GSS is answered as one by SSL is
abbrev by_gss : Input
by_gss = record { packets = first.Gss ∷ first.Ssl ∷ first.Startup ((codes "user", codes "u") ∷ []) ∷ []; messages = []; faulty = false }

gss_refused : transcript (script []) by_gss ≡ No ∷ No ∷ Says back.AuthOk ∷ Says (back.Ready Idle) ∷ []
gss_refused = refl

-- the welcome of a script with pairs and a key
abbrev greeting : Script
greeting = record {
  auth = Trust;
  pairs = (codes "TimeZone", codes "UTC") ∷ (codes "DateStyle", codes "ISO") ∷ [];
  key = Some (record { process = pos 1; secret = negsuc 1 });
  answers = [];
}

welcomed : transcript greeting (opened [])
    ≡ map Says (back.AuthOk ∷ back.ParameterStatus (codes "TimeZone") (codes "UTC") ∷ back.ParameterStatus (codes "DateStyle") (codes "ISO")
    ∷ back.KeyData (pos 1) (negsuc 1) ∷ back.Ready Idle ∷ [])
welcomed = refl

-- ---- asides

abbrev with_asides : Answer
with_asides = record {
  before = aside.Notice bad ∷ aside.Parameter (codes "TimeZone") (codes "UTC") ∷ aside.Notification (pos 1) (codes "c") (codes "p") ∷ [];
  parts = part.Command (codes "A") ∷ [];
  error = None;
  status = InBlock;
}

-- they come before the parts, in their order
asides_sent : replies (with_asides ∷ []) (front.Query (codes "Q") ∷ [])
    ≡ back.NoticeResponse bad ∷ back.ParameterStatus (codes "TimeZone") (codes "UTC") ∷ back.Notification (pos 1) (codes "c") (codes "p")
    ∷ back.CommandComplete (codes "A") ∷ back.Ready InBlock ∷ []
asides_sent = refl

asides_logged : log_of (with_asides ∷ []) (front.Query (codes "Q") ∷ [])
    ≡ record {
      request = request.Query (codes "Q");
      outcome = record { parts = whole.Command (codes "A") ∷ []; error = None; status = InBlock; asides = with_asides.before };
      loaded = [];
    } ∷ []
asides_logged = refl

-- ---- groups of steps

abbrev parse : FrontMessage
parse = front.Parse [] (codes "A") []

abbrev bind : FrontMessage
bind = front.Bind [] [] [] [] []

-- each step with its own answer
abbrev six_steps : List FrontMessage
six_steps = parse ∷ bind ∷ front.Describe Statement [] ∷ front.Describe Portal [] ∷ front.Execute [] (pos 1) ∷ front.Close Portal [] ∷ front.Sync ∷ []

abbrev six_answers : Answer
six_answers = record {
  before = [];
  parts = part.Parsed ∷ part.Bound ∷ part.Described (Some (23 ∷ [])) None ∷ part.Described None (Some (column ∷ []))
      ∷ part.Executed ((None ∷ []) ∷ []) Suspended ∷ part.Shut ∷ [];
  error = None;
  status = Idle;
}

steps_answered : replies (six_answers ∷ []) six_steps
    ≡ back.ParseComplete ∷ back.BindComplete ∷ back.ParameterDescription (23 ∷ []) ∷ back.NoData ∷ back.RowDescription (column ∷ [])
    ∷ back.DataRow (None ∷ []) ∷ back.PortalSuspended ∷ back.CloseComplete ∷ back.Ready Idle ∷ []
steps_answered = refl

-- a Sync without steps is a request too
empty_group : replies (record { before = []; parts = []; error = None; status = InBlock } ∷ []) (front.Sync ∷ []) ≡ back.Ready InBlock ∷ []
empty_group = refl

empty_group_log : log_of (record { before = []; parts = []; error = None; status = InBlock } ∷ []) (front.Sync ∷ [])
    ≡ record { request = request.Group []; outcome = record { parts = []; error = None; status = InBlock; asides = [] }; loaded = [] } ∷ []
empty_group_log = refl

-- Flush and what is left of a copy have no effect within a group
dropped : replies (record { before = []; parts = part.Parsed ∷ []; error = None; status = Idle } ∷ [])
    (front.CopyFail [] ∷ parse ∷ front.Flush ∷ chunk [] ∷ front.CopyDone ∷ front.CopyFail [] ∷ front.Sync ∷ front.Flush ∷ [])
    ≡ back.ParseComplete ∷ back.Ready Idle ∷ []
dropped = refl

-- a group that is open, and one that the client leaves
group_open : input_phase (script []) (opened (parse ∷ [])) ≡ phase.Grouping
group_open = refl

group_left : input_phase (script []) (opened (parse ∷ front.Terminate ∷ front.Sync ∷ [])) ≡ phase.Closed
group_left = refl

group_left_unanswered : replies [] (parse ∷ front.Terminate ∷ front.Sync ∷ []) ≡ []
group_left_unanswered = refl

-- ---- answers that don't fit

abbrev misfit : List BackMessage
misfit = back.ErrorResponse (own_error (codes "ERROR") (codes "XX000") (codes "script has no fitting answer")) ∷ back.Ready Idle ∷ []

-- such an answer is used up, with its asides and its status; so the second request takes the second answer, and the third has none
abbrev two_answers : List Answer
two_answers = record { before = with_asides.before; parts = part.Parsed ∷ []; error = None; status = InBlock }
    ∷ record { before = []; parts = part.Command (codes "OK") ∷ []; error = None; status = InBlock } ∷ []

numbers_used_up : replies two_answers (front.Query (codes "1") ∷ front.Query (codes "2") ∷ front.Query (codes "3") ∷ [])
    ≡ misfit ++ back.CommandComplete (codes "OK") ∷ back.Ready InBlock ∷ misfit
numbers_used_up = refl

-- a result for a group, too few parts without an error, too many, and in the wrong order
abbrev answers_in : List ScriptPart → Option (List ErrorField) → List Answer
answers_in parts error = record { before = []; parts = parts; error = error; status = InBlock } ∷ []

abbrev two_steps : List FrontMessage
two_steps = parse ∷ bind ∷ front.Sync ∷ []

result_for_group : replies (answers_in (part.Command [] ∷ []) (Some bad)) two_steps ≡ misfit
result_for_group = refl

too_few_parts : replies (answers_in (part.Parsed ∷ []) None) two_steps ≡ misfit
too_few_parts = refl

too_many_parts : replies (answers_in (part.Parsed ∷ part.Bound ∷ part.Shut ∷ []) (Some bad)) two_steps ≡ misfit
too_many_parts = refl

wrong_order : replies (answers_in (part.Bound ∷ part.Parsed ∷ []) None) two_steps ≡ misfit
wrong_order = refl

-- all steps may be answered before an error
error_after_all : replies (answers_in (part.Parsed ∷ part.Bound ∷ []) (Some bad)) two_steps
    ≡ back.ParseComplete ∷ back.BindComplete ∷ back.ErrorResponse bad ∷ back.Ready InBlock ∷ []
error_after_all = refl

-- ---- what a script has to have a spelling for

abbrev copy_in : Load → ScriptPart
copy_in load = part.CopyIn text_head load

abbrev spoken : Script
spoken = record {
  auth = Trust;
  pairs = (codes "TimeZone", codes "UTC") ∷ [];
  key = greeting.key;
  answers = record { before = aside.Notice bad ∷ []; parts = copy_in (Refuse 2 []) ∷ part.Empty ∷ []; error = Some bad; status = Idle }
      ∷ record { before = []; parts = copy_in (Accept (codes "COPY 2")) ∷ []; error = None; status = Idle } ∷ [];
}

all_spoken : script_messages spoken
    ≡ back.ParameterStatus (codes "TimeZone") (codes "UTC") ∷ back.KeyData (pos 1) (negsuc 1)
    ∷ back.NoticeResponse bad ∷ back.CopyIn text_head ∷ back.ErrorResponse [] ∷ back.EmptyQuery ∷ back.ErrorResponse bad
    ∷ back.CopyIn text_head ∷ back.CommandComplete (codes "COPY 2") ∷ []
all_spoken = refl

-- one copy from the client in an answer, and not two
one_copy : list_all has_one_copy spoken.answers ≡ true
one_copy = refl

two_copies : list_all has_one_copy (answers_in (copy_in (Accept []) ∷ part.Empty ∷ copy_in (Refuse 0 []) ∷ []) None) ≡ false
two_copies = refl

-- ---- passwords

-- the client of these messages named two users, of which the last counts
abbrev named : List FrontMessage → Input
named ms = record { packets = first.Startup ((codes "user", codes "x") ∷ (codes "user", codes "c") ∷ []) ∷ []; messages = ms; faulty = false }

abbrev cleartext : Script
cleartext = asking (Cleartext (codes "ab"))

-- a password is awaited
password_asked : transcript cleartext (named []) ≡ Says back.AuthCleartext ∷ []
password_asked = refl

password_awaited : input_phase cleartext (named []) ≡ phase.Password
password_awaited = refl

-- the right one lets the client in
right_password : transcript cleartext (named (front.Password (codes "ab") ∷ [])) ≡ Says back.AuthCleartext ∷ Says back.AuthOk ∷ Says (back.Ready Idle) ∷ []
right_password = refl

right_is_ready : input_phase cleartext (named (front.Password (codes "ab") ∷ [])) ≡ phase.Ready
right_is_ready = refl

-- another one is refused, and what comes after it plays no part
abbrev refusal : List ErrorField
refusal = own_error (codes "FATAL") (codes "28P01") (codes "password authentication failed")

wrong_refused : transcript cleartext (named (front.Password (codes "a") ∷ front.Password (codes "ab") ∷ [])) ≡ Says back.AuthCleartext ∷ Says (back.ErrorResponse refusal) ∷ []
wrong_refused = refl

wrong_closes : input_phase cleartext (named (front.Password (codes "abc") ∷ [])) ≡ phase.Closed
wrong_closes = refl

-- a client that leaves
leaves_unasked : transcript cleartext (named (front.Terminate ∷ [])) ≡ Says back.AuthCleartext ∷ []
leaves_unasked = refl

leaving_closes : input_phase cleartext (named (front.Terminate ∷ [])) ≡ phase.Closed
leaving_closes = refl

-- a Query in the place of a password can't stand there
abbrev early_query : Input
early_query = named (front.Query (codes "SELECT 1") ∷ [])

query_refused : transcript cleartext early_query ≡ Says back.AuthCleartext ∷ Says (back.ErrorResponse (own_error (codes "FATAL") (codes "08P01") (codes "unexpected message"))) ∷ []
query_refused = refl

query_strays : IsStray cleartext early_query
query_strays = refl

-- a password in a session that is open can't stand there either
second_password : IsStray cleartext (named (front.Password (codes "ab") ∷ front.Password (codes "ab") ∷ []))
second_password = refl

-- a question with a salt, and the answer of the last user
abbrev by_md5 : Auth
by_md5 = Md5 (codes "ab") (1 ∷ 2 ∷ 3 ∷ 4 ∷ [])

abbrev answered : List FrontMessage
answered = front.Password (codes "md596838e208aad1ff8fc396693d03e488d") ∷ []

md5_asked : transcript (asking by_md5) (named []) ≡ Says (back.AuthMd5 (1 ∷ 2 ∷ 3 ∷ 4 ∷ [])) ∷ []
md5_asked = refl

md5_let_in : transcript (asking by_md5) (named answered) ≡ Says (back.AuthMd5 (1 ∷ 2 ∷ 3 ∷ 4 ∷ [])) ∷ Says back.AuthOk ∷ Says (back.Ready Idle) ∷ []
md5_let_in = ap (λ expected. Says (back.AuthMd5 (1 ∷ 2 ∷ 3 ∷ 4 ∷ [])) ∷ (map Says (admission_messages (asking by_md5) (by_password expected answered)) ++ [])) salted

-- the password itself is no answer to that
md5_refused : transcript (asking by_md5) (named (front.Password (codes "ab") ∷ [])) ≡ Says (back.AuthMd5 (1 ∷ 2 ∷ 3 ∷ 4 ∷ [])) ∷ Says (back.ErrorResponse refusal) ∷ []
md5_refused = ap (λ expected. Says (back.AuthMd5 (1 ∷ 2 ∷ 3 ∷ 4 ∷ [])) ∷ (map Says (admission_messages (asking by_md5) (by_password expected (front.Password (codes "ab") ∷ []))) ++ [])) salted

-- a client that names no user is asked for nothing
nobody_asked : transcript cleartext (record { packets = first.Startup [] ∷ []; messages = []; faulty = false })
    ≡ Says (back.ErrorResponse (own_error (codes "FATAL") (codes "28000") (codes "no user in startup"))) ∷ []
nobody_asked = refl
