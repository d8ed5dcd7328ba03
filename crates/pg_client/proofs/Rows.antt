-- Worked rows, by computation.
use Rattle.std.proofs.Common.{◌≡◌, ℕ, List, [], ◌∷◌, ◌++◌, true, false, Some, None, refl, subst, inl, Err, length, map, ap, inr, arith, length-append}
use Rattle.std.specs.Prelude.{pos, ℤ, codes}
use Rattle.std.specs.List.{flat_map, AllByRecursion}
use Rattle.pg_wire.proofs.Rows.{salted}
use Rattle.pg_wire.specs.message.BackMessage.{BackMessage}
use Rattle.pg_wire.specs.message.BackMessage.TheVariants.{AuthOk, AuthCleartext, AuthMd5, AuthOther, Ready, RowDescription, DataRow, CommandComplete, EmptyQuery, ErrorResponse, NoticeResponse, ParameterStatus, KeyData, ParseComplete, PortalSuspended}
use Rattle.pg_wire.specs.message.BackMessage.TheVariants as back
use Rattle.pg_wire.specs.value.CopyHead.{CopyHead}
use Rattle.pg_wire.specs.fault.EncodeFault.TheVariants as encoding
use Rattle.pg_wire.specs.message.First.TheVariants.{Cancel}
use Rattle.pg_wire.specs.message.FrontMessage.TheVariants as front
use Rattle.pg_wire.specs.value.Status.TheVariants as status
use Rattle.pg_wire.specs.declared.session.Part.TheVariants as part
use Rattle.pg_wire.specs.declared.session.Request.{Request}
use Rattle.pg_wire.specs.declared.session.Request.TheVariants.{Query, Group}
use Rattle.pg_wire.specs.declared.session.Step.TheVariants as step
use Rattle.pg_wire.specs.Direction.{spelling}
use Rattle.pg_wire.specs.First.{packet}
use Rattle.pg_wire.specs.Frontend.{frontend}
use Rattle.pg_wire.specs.Password.{md5_text}
use Rattle.pg_wire.specs.Segment.{Fits, segments, status_of, without_asides}
use Rattle.pg_client.specs.declared.fault.FeedFault.TheVariants as feeding
use Rattle.pg_client.specs.declared.fault.CallFault.TheVariants as fault
use Rattle.pg_client.specs.declared.phase.Cause.TheVariants as cause
use Rattle.pg_client.specs.declared.phase.Phase.TheVariants as phase
use Rattle.pg_wire.specs.value.Status.{Status}
use Rattle.pg_client.specs.declared.call.Call.{Call}
use Rattle.pg_client.specs.declared.call.Call.TheVariants as call
use Rattle.pg_client.specs.Session.{Happening, Did, Came, IsReady, IsCopyingIn, IsNoCopyIn, IsCalledForLastCopy, IsAfterItsCall, Expected, IsStartup, groups_in}
use Rattle.pg_client.specs.View.{last_said, value_said, key_said, stand_phase, View}
use Rattle.pg_client.specs.Sent.{sent_by, answer_to, call_fault, sent_in}
use Rattle.pg_client.specs.Closed.{cause_of, IsFaultFor, AwaitsAuthentication}
use Rattle.pg_client.specs.Client.{merged, with_ends, Cancels, RefusesCopy, RefusesUnless, Loses}
use Rattle.pg_client.specs.Facts.{FirstSettled}
use Rattle.pg_client.specs.declared.stand.CopyAnswer.TheVariants.{Awaited, Done}
use Rattle.pg_response.specs.declared.place.Open.TheVariants as opened
use Rattle.pg_response.specs.Place.{start}
use Rattle.pg_client.specs.declared.stand.Stand.TheVariants.{Starting, Idle, Busy}
use Rattle.pg_client.specs.declared.startup.Welcome.TheVariants.{Fresh, Asked, Admitted}
use Rattle.pg_client.specs.declared.settings.Settings.{Settings}
use Rattle.pg_client.specs.Stand.{fault_at, hear, hear_with, Stands}
use Rattle.pg_client.specs.Private.Calling.{with_request}
use Rattle.pg_client.proofs.Standing.Agreeing.{no_copy_in}
use Rattle.pg_client.proofs.Events.Happening.{hears, did_start, expected_came, expected_did, expected_nothing}
use Rattle.pg_client.proofs.Events.Passwords.{comes_first}
use Rattle.pg_client.proofs.Hearing.Faults.{plain}

ok : List ℕ
ok = 79 ∷ 75 ∷ []

settings : Settings
settings = record { user = 117 ∷ []; database = None; pairs = []; password = None; limit = 65536 }

select : Request
select = Query (83 ∷ 69 ∷ 76 ∷ 69 ∷ 67 ∷ 84 ∷ 32 ∷ 49 ∷ [])

-- ready, and a query was made
busy : List Happening
busy = Did call.Start ∷ Came AuthOk ∷ Came (Ready status.Idle) ∷ Did (call.Request select) ∷ []

-- ready
ready : List Happening
ready = Did call.Start ∷ Came AuthOk ∷ Came (Ready status.Idle) ∷ []

-- ready, a query, OK and its ReadyForQuery: settled with Command OK
command_fits : Fits select (CommandComplete ok ∷ Ready status.Idle ∷ []) (record { parts = part.Command ok ∷ []; error = None; status = status.Idle; asides = [] })
unfolding select
command_fits = record { body = CommandComplete ok ∷ []; closed = refl; asides = refl; reads = (_, (refl, refl), tt, refl) }

-- nothing is settled before the ReadyForQuery, and the query with its outcome then
none_settled : FirstSettled (select ∷ []) (groups_in (busy ++ Came (CommandComplete ok) ∷ [])) []
unfolding busy
none_settled = tt

one_settled : FirstSettled (select ∷ []) (groups_in (busy ++ Came (CommandComplete ok) ∷ Came (Ready status.Idle) ∷ []))
    (record { request = select; outcome = record { parts = part.Command ok ∷ []; error = None; status = status.Idle; asides = [] } } ∷ [])
unfolding busy
one_settled = (refl, command_fits, tt)

-- the places of these calls and messages in the bytes, and their order
session_calls : List (Call × ℕ)
session_calls = (call.Start, 0) ∷ (call.Request select, 15) ∷ []

session_heard : List BackMessage
session_heard = AuthOk ∷ Ready status.Idle ∷ CommandComplete ok ∷ Ready status.Idle ∷ []

ends_are : with_ends 0 session_heard ≡ (AuthOk, 9) ∷ (Ready status.Idle, 15) ∷ (CommandComplete ok, 23) ∷ (Ready status.Idle, 29) ∷ []
unfolding session_heard ok
ends_are = refl

happened : merged session_calls (with_ends 0 session_heard) ≡ busy ++ Came (CommandComplete ok) ∷ Came (Ready status.Idle) ∷ []
unfolding session_calls session_heard ok busy
happened = refl

-- lost before that: the query, and no error was seen; asked again, nothing
lost_clear : Loses false (busy ++ Came (CommandComplete ok) ∷ []) (record { unsettled = Some select; seen_error = false })
unfolding busy
lost_clear = (refl, refl)

lost_again : Loses true (busy ++ Came (CommandComplete ok) ∷ []) (record { unsettled = None; seen_error = false })
lost_again = (refl, refl)

-- lost after an error
lost_failed : Loses false (busy ++ Came (ErrorResponse []) ∷ []) (record { unsettled = Some select; seen_error = true })
unfolding busy
lost_failed = (refl, refl)

-- an error without fields: no part, and the error
error_fits : Fits (Query []) (ErrorResponse [] ∷ Ready status.Failed ∷ []) (record { parts = []; error = Some []; status = status.Failed; asides = [] })
error_fits = record { body = ErrorResponse [] ∷ []; closed = refl; asides = refl; reads = (_, refl, [], inl refl, [], refl) }

-- ready: OK isn't expected, and is F2 Unexpected with its tag; an error is F6 ServerEnd
ok_not_expected : Expected None (ready ++ Came (CommandComplete ok) ∷ []) → ⊥
unfolding ready
ok_not_expected e = let k : CommandComplete ok ∷ [] ≡ [] = e.session.1 in cc

ok_is_unexpected : IsFaultFor None ready (CommandComplete ok) (feeding.Unexpected 67)
ok_is_unexpected = plain None ready (CommandComplete ok) refl (λ f. refl)

unexpected_closes : cause_of (feeding.Unexpected 67) ≡ Some cause.Unexpected
unexpected_closes = refl

error_ends : IsFaultFor None ready (ErrorResponse []) (feeding.ServerEnd [])
unfolding ready
error_ends = (refl, refl)

ready_refuses : hear Idle (CommandComplete ok) ≡ None
ready_refuses = refl

ready_unexpected : fault_at Idle (CommandComplete ok) ≡ feeding.Unexpected 67
ready_unexpected = refl

ready_error : fault_at Idle (ErrorResponse []) ≡ feeding.ServerEnd []
ready_error = refl

-- ready: a notice changes nothing, and a request begins a segment
ready_notes : hear Idle (NoticeResponse []) ≡ Some Idle
ready_notes = refl

request_begins : with_request Idle select ≡ Busy select start Awaited
request_begins = refl

-- the startup: an error, another way to authenticate, a password, and ReadyForQuery too early
abbrev started : List Happening
started = Did call.Start ∷ []

fresh : AwaitsAuthentication started
fresh = ((tt, refl), refl)

error_refuses : IsFaultFor None started (ErrorResponse []) (feeding.StartupError [])
error_refuses = ((tt, refl), refl)

other_unsupported : IsFaultFor None started (AuthOther (pos 10) []) (feeding.UnsupportedAuth (pos 10))
other_unsupported = (fresh, [], refl)

password_wanted : IsFaultFor None started AuthCleartext feeding.PasswordWanted
password_wanted = (fresh, refl, refl)

early_unexpected : IsFaultFor None started (Ready status.Idle) (feeding.Unexpected 90)
early_unexpected = plain None started (Ready status.Idle) refl (λ f. refl)

no_startup : (body questions : List BackMessage) (st : Status) (keys : List (ℤ × ℤ)) → Ready status.Idle ∷ [] ≡ body ++ Ready st ∷ [] → without_asides body ≡ questions ++ AuthOk ∷ map (λ k. KeyData k.0 k.1) keys → ⊥
no_startup [] [] st keys e r = cc
no_startup [] (q ∷ qs) st keys e r = cc
no_startup (b ∷ bs) questions st keys e r = omega (arith, ap length e, length-append bs (Ready st ∷ []))

early_not_expected : Expected None (started ++ Came (Ready status.Idle) ∷ []) → ⊥
early_not_expected e = let s : IsStartup (Ready status.Idle ∷ []) = e.session.0 in no_startup s.body s.questions s.status s.keys s.closed s.reads

startup_error : fault_at (Starting Fresh) (ErrorResponse []) ≡ feeding.StartupError []
startup_error = refl

startup_other : fault_at (Starting Fresh) (AuthOther (pos 10) []) ≡ feeding.UnsupportedAuth (pos 10)
startup_other = refl

startup_password : fault_at (Starting Fresh) AuthCleartext ≡ feeding.PasswordWanted
startup_password = refl

startup_early : hear (Starting Fresh) (Ready status.Idle) ≡ None
startup_early = refl

startup_unexpected : fault_at (Starting Fresh) (Ready status.Idle) ≡ feeding.Unexpected 90
startup_unexpected = refl

startup_whole : hear (Starting Admitted) (Ready status.Idle) ≡ Some Idle
startup_whole = refl

-- ---- passwords

-- the user c with the password ab
given : Settings
given = record { user = 99 ∷ []; database = Some (100 ∷ []); pairs = []; password = Some (97 ∷ 98 ∷ []); limit = 65536 }

salt : List ℕ
salt = 1 ∷ 2 ∷ 3 ∷ 4 ∷ []

-- a question may be the startup's first message, and only with a password
asked_startup : IsStartup (NoticeResponse [] ∷ AuthCleartext ∷ AuthOk ∷ KeyData (pos 1) (pos 2) ∷ Ready status.Idle ∷ [])
asked_startup = record { body = NoticeResponse [] ∷ AuthCleartext ∷ AuthOk ∷ KeyData (pos 1) (pos 2) ∷ []; status = status.Idle; closed = refl; questions = AuthCleartext ∷ []; one_question = refl; keys = (pos 1, pos 2) ∷ []; reads = refl }

asked_expected : Expected (Some (97 ∷ [])) (started ++ Came AuthCleartext ∷ [])
asked_expected =
    let begun : Stands started (Starting Fresh) = did_start [] refl in
    let heard = hears (Some (97 ∷ [])) started AuthCleartext (Starting Fresh) (λ ends. absurd (no_copy_in [] refl ends)) begun in
    expected_came (Some (97 ∷ [])) started AuthCleartext (Starting Asked) (expected_did (Some (97 ∷ [])) [] call.Start (Starting Fresh) (expected_nothing (Some (97 ∷ []))) begun) heard.0 heard.1 heard.2

none_not_expected : Expected None (started ++ Came AuthCleartext ∷ []) → ⊥
none_not_expected e = let k : true ≡ false = (e.answerable refl).0 in cc

second_not_expected : Expected (Some (97 ∷ [])) (started ++ Came AuthCleartext ∷ Came (AuthMd5 []) ∷ []) → ⊥
second_not_expected e = let k : AuthCleartext ∷ [] ≡ [] = (comes_first (AuthMd5 []) refl (Some (97 ∷ [])) (started ++ Came AuthCleartext ∷ []) e).1 in cc

-- the second question is F2 Unexpected, and so is another way of authentication after the first
asked_once : hear_with (Some (97 ∷ [])) (Starting Fresh) (AuthMd5 []) ≡ Some (Starting Asked)
asked_once = refl

asked_twice : hear_with (Some (97 ∷ [])) (Starting Asked) AuthCleartext ≡ None
asked_twice = refl

twice_unexpected : fault_at (Starting Asked) AuthCleartext ≡ feeding.Unexpected 82
twice_unexpected = refl

other_unexpected : fault_at (Starting Asked) (AuthOther (pos 10) []) ≡ feeding.Unexpected 82
other_unexpected = refl

not_asked : hear_with None (Starting Fresh) AuthCleartext ≡ None
not_asked = refl

admitted_then : hear_with (Some (97 ∷ [])) (Starting Asked) AuthOk ≡ Some (Starting Admitted)
admitted_then = refl

-- what is answered, after the startup packet
cleartext_sent : sent_in given (Did call.Start ∷ Came AuthCleartext ∷ []) ≡ sent_by given call.Start ++ 112 ∷ 0 ∷ 0 ∷ 0 ∷ 7 ∷ 97 ∷ 98 ∷ 0 ∷ []
unfolding given
cleartext_sent = refl

md5_answered : answer_to given (AuthMd5 salt) ≡ front.Password (md5_text (99 ∷ []) (97 ∷ 98 ∷ []) salt) ∷ []
unfolding given
md5_answered = refl

-- the digits are those of the user c, not of the database d
md5_sent : flat_map (spelling frontend) (answer_to given (AuthMd5 salt)) ≡ 112 ∷ 0 ∷ 0 ∷ 0 ∷ 40 ∷ codes "md596838e208aad1ff8fc396693d03e488d" ++ 0 ∷ []
unfolding given salt
md5_sent = rw salted refl

not_answered : answer_to settings AuthCleartext ≡ []
unfolding settings
not_answered = refl

-- a password with a zero byte is refused by start, after the faults of the packet
zero_refused : call_fault (record given { password = Some (97 ∷ 0 ∷ []) }) call.Start ≡ Some encoding.HasZero
unfolding given
zero_refused = refl

name_before : call_fault (record given { pairs = ([], []) ∷ []; password = Some (0 ∷ []) }) call.Start ≡ Some encoding.EmptyName
unfolding given
name_before = refl

-- what calls send
start_sends : sent_by settings call.Start ≡ 0 ∷ 0 ∷ 0 ∷ 16 ∷ 0 ∷ 3 ∷ 0 ∷ 0 ∷ 117 ∷ 115 ∷ 101 ∷ 114 ∷ 0 ∷ 117 ∷ 0 ∷ 0 ∷ []
unfolding settings
start_sends = refl

query_sends : sent_by settings (call.Request select) ≡ 81 ∷ 0 ∷ 0 ∷ 0 ∷ 13 ∷ 83 ∷ 69 ∷ 76 ∷ 69 ∷ 67 ∷ 84 ∷ 32 ∷ 49 ∷ 0 ∷ []
unfolding select
query_sends = refl

terminate_sends : sent_by settings call.Terminate ≡ 88 ∷ 0 ∷ 0 ∷ 0 ∷ 4 ∷ []
terminate_sends = refl

-- what the startup says of a parameter and the key, and the cancel packet
said : List BackMessage
said = AuthOk ∷ ParameterStatus (97 ∷ []) (98 ∷ []) ∷ KeyData (pos 1) (pos 2) ∷ Ready status.Idle ∷ []

value_is : last_said (value_said (97 ∷ [])) said ≡ Some (98 ∷ [])
unfolding said
value_is = refl

key_is : last_said key_said said ≡ Some (pos 1, pos 2)
unfolding said
key_is = refl

last_key_is : last_said key_said (KeyData (pos 1) (pos 2) ∷ KeyData (pos 3) (pos 4) ∷ []) ≡ Some (pos 3, pos 4)
last_key_is = refl

status_is : last_said status_of (AuthOk ∷ Ready status.Idle ∷ ErrorResponse [] ∷ Ready status.Failed ∷ []) ≡ Some status.Failed
status_is = refl

cancels_nothing : (before : List ℕ) → Cancels None before (Err fault.NoKey) before
cancels_nothing before = refl

no_key : last_said key_said (AuthOk ∷ Ready status.Idle ∷ []) ≡ None
no_key = refl

cancel_sends : packet (Cancel (pos 1) (pos 2)) ≡ 0 ∷ 0 ∷ 0 ∷ 16 ∷ 4 ∷ 210 ∷ 22 ∷ 46 ∷ 0 ∷ 0 ∷ 0 ∷ 1 ∷ 0 ∷ 0 ∷ 0 ∷ 2 ∷ []
cancel_sends = refl

-- a second request is made in phase Busy
busy_client : {K : Type 0} → K → View K
busy_client k = record { settings = settings; kept = []; held = None; known = record { stand = Busy select start Awaited; keeper = k; status = Some status.Idle; parameters = []; key = None }; closed = None }

second_refused : {K : Type 0} → (k : K) → RefusesUnless phase.Ready (busy_client k) (call.Request select) (fault.NotReady phase.Busy)
unfolding busy_client
second_refused k = (refl, λ e. cc)

chunk_refused : {K : Type 0} → (k : K) → RefusesCopy (busy_client k) (call.Chunk []) (fault.NotCopying phase.Busy)
unfolding busy_client
chunk_refused k = (refl, λ e. cc)

second_request : stand_phase (Busy select start Awaited) ≡ phase.Busy
second_request = refl

not_ready : IsReady busy → ⊥
unfolding busy
not_ready e = cc

-- the end of a copy in before its copy_done is unexpected; after it, it goes on
copy_too_early : hear (Busy (Query []) (record start { opened = opened.CopyIn }) Awaited) (CommandComplete ok) ≡ None
copy_too_early = refl

copy_in_time : hear (Busy (Query []) (record start { opened = opened.CopyIn }) Done) (CommandComplete ok) ≡ Some (Busy (Query []) start Done)
copy_in_time = refl

-- a query was answered with a CopyInResponse, and nothing was called for it
head : CopyHead
head = record { binary = false; formats = [] }

copying : List Happening
copying = Did call.Start ∷ Came AuthOk ∷ Came (Ready status.Idle) ∷ Did (call.Request select) ∷ Came (back.CopyIn head) ∷ []

not_said : (c : Call) (hs : List Happening) → AllByRecursion (λ h. h ≡ Did c → ⊥) hs → IsCalledForLastCopy c hs → ⊥
not_said c hs others s = go hs others s.before s.called
  where
    go : (xs : List Happening) → AllByRecursion (λ h. h ≡ Did c → ⊥) xs → (before : List Happening) → xs ≡ before ++ Did c ∷ s.since → ⊥
    go [] none [] e = cc
    go [] none (b ∷ bs) e = cc
    go (x ∷ xs) none [] e = none.0 (let k : x ∷ xs ≡ Did c ∷ s.since = e in cc)
    go (x ∷ xs) none (b ∷ bs) e = go xs none.1 bs (let k : x ∷ xs ≡ b ∷ (bs ++ Did c ∷ s.since) = e in cc)

is_copying : IsCopyingIn copying
unfolding copying head
is_copying = (([], head, refl), not_said call.Done copying ((λ e. cc), ((λ e. cc), ((λ e. cc), ((λ e. cc), ((λ e. cc), tt))))), λ reason. not_said (call.Fail reason) copying ((λ e. cc), ((λ e. cc), ((λ e. cc), ((λ e. cc), ((λ e. cc), tt))))))

-- its end is too early then; after copy_done it is in time, and the client isn't copying in
ends_too_early : IsAfterItsCall copying (CommandComplete ok) → ⊥
ends_too_early a = is_copying.1 (a.copy_ended ok refl is_copying.0)

done_said : IsCalledForLastCopy call.Done (copying ++ Did call.Done ∷ Came (NoticeResponse []) ∷ [])
done_said = record { before = copying; since = Came (NoticeResponse []) ∷ []; called = refl; for_the_last = (tt, tt) }

ends_in_time : IsAfterItsCall (copying ++ Did call.Done ∷ []) (CommandComplete ok)
unfolding copying
ends_in_time = record { started = tt; asked_for = inr (omega arith); copy_ended = λ tag e ends. record { before = copying; since = []; called = refl; for_the_last = tt } }

not_copying_then : IsCopyingIn (copying ++ Did call.Done ∷ Came (NoticeResponse []) ∷ []) → ⊥
not_copying_then k = k.1 done_said

-- after another CopyInResponse it isn't said
said_of_another : (before since : List Happening) → Did call.Done ∷ Came (back.CopyIn head) ∷ [] ≡ before ++ Did call.Done ∷ since → AllByRecursion IsNoCopyIn since → ⊥
said_of_another [] since e all = let k : since ≡ Came (back.CopyIn head) ∷ [] = cc in (subst (AllByRecursion IsNoCopyIn) k all).0
said_of_another (b ∷ []) since e all = cc
said_of_another (b ∷ c ∷ []) since e all = cc
said_of_another (b ∷ c ∷ d ∷ bs) since e all = cc

-- a group has no copy in
group_refuses : hear (Busy (Group (step.Parse [] [] [] ∷ [])) start Awaited) (back.CopyIn (record { binary = false; formats = [] })) ≡ None
group_refuses = refl

-- a call stands before the message that was not whole when it was made
in_order : merged ((call.Start, 0) ∷ (call.Done, 12) ∷ []) ((AuthOk, 9) ∷ (Ready status.Idle, 15) ∷ []) ≡ Did call.Start ∷ Came AuthOk ∷ Did call.Done ∷ Came (Ready status.Idle) ∷ []
in_order = refl

cut_after_ready : segments (AuthOk ∷ Ready status.Idle ∷ EmptyQuery ∷ []) ≡ record { whole = (AuthOk ∷ Ready status.Idle ∷ []) ∷ []; rest = EmptyQuery ∷ [] }
cut_after_ready = refl
