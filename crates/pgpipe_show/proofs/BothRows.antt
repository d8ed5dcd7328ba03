-- Worked examples of whose turn it is, computed from the definitions alone.
use Rattle.std.proofs.Common.{◌≡◌, ℕ, true, false, List, [], ◌∷◌, Some, None, refl}
use Rattle.pgpipe_frames.specs.declared.next.NextFrame.TheVariants as next
use Rattle.pgpipe_show.specs.declared.both.talk.Talk.TheVariants.{Asking, Filling, Answering}
use Rattle.pgpipe_show.specs.declared.both.turn.Due.TheVariants as whose
use Rattle.pgpipe_show.specs.declared.both.turn.Encryption.TheVariants.{Ssl}
use Rattle.pgpipe_show.specs.declared.both.turn.Ended.TheVariants as ending
use Rattle.pgpipe_show.specs.declared.both.turn.Stage.TheVariants.{Opening, Requested, Talking}
use Rattle.pgpipe_show.specs.Entries.{begins_reply, end_at}
use Rattle.pgpipe_show.specs.Talk.{after_answer, asked, filled}
use Rattle.pgpipe_show.specs.Turn.{due_of, stage_sent}

-- a ReadyForQuery, and two requests for authentication: AuthenticationOk and one for a password
abbrev ready : List ℕ
ready = 90 ∷ 0 ∷ 0 ∷ 0 ∷ 5 ∷ 73 ∷ []

abbrev authentication : ℕ → List ℕ
authentication code = 82 ∷ 0 ∷ 0 ∷ 0 ∷ 8 ∷ 0 ∷ 0 ∷ 0 ∷ code ∷ []

abbrev copy_in : List ℕ
copy_in = 71 ∷ 0 ∷ 0 ∷ 0 ∷ 7 ∷ 0 ∷ 0 ∷ 0 ∷ []

-- a first packet without parameters, and an SSLRequest
abbrev startup : List ℕ
startup = 0 ∷ 0 ∷ 0 ∷ 9 ∷ 0 ∷ 3 ∷ 0 ∷ 0 ∷ 0 ∷ []

abbrev ssl : List ℕ
ssl = 0 ∷ 0 ∷ 0 ∷ 8 ∷ 4 ∷ 210 ∷ 22 ∷ 47 ∷ []

pub startup_is_answered : stage_sent Opening next.Packet startup ≡ Talking (Answering false false false)
startup_is_answered = refl

pub encryption_is_asked_for : stage_sent Opening next.Packet ssl ≡ Requested Ssl
encryption_is_asked_for = refl

pub answer_is_due : due_of (Requested Ssl) None None ≡ whose.Reply Ssl
answer_is_due = refl

pub rest_is_due : due_of Opening None (Some ending.Whole) ≡ whose.Side true
rest_is_due = refl

pub error_is_no_answer : begins_reply Ssl (69 ∷ []) ≡ false
error_is_no_answer = refl

pub ok_goes_on : after_answer false false false (authentication 0) ≡ Answering false false false
ok_goes_on = refl

pub password_is_asked_for : after_answer false false false (authentication 3) ≡ Asking false true
password_is_asked_for = refl

pub password_is_sent : asked false true 112 ≡ Answering false false false
password_is_sent = refl

pub ready_ends_the_answer : after_answer false false false ready ≡ Asking false false
ready_ends_the_answer = refl

pub query_is_answered : asked false false 81 ≡ Answering true false false
query_is_answered = refl

pub parse_goes_on : asked false false 80 ≡ Asking false false
parse_goes_on = refl

pub copy_of_a_query : after_answer true false false copy_in ≡ Filling
copy_of_a_query = refl

pub copy_of_a_step : after_answer false false false copy_in ≡ Asking false false
copy_of_a_step = refl

pub copy_that_was_sent : after_answer false true false copy_in ≡ Answering false false false
copy_that_was_sent = refl

pub copy_ends : filled 99 ≡ Answering true false false
copy_ends = refl

-- the next query of a client that gave a copy up is answered by the second ReadyForQuery
pub copy_given_up : filled 81 ≡ Answering true false true
copy_given_up = refl

pub ready_for_the_copy : after_answer true false true ready ≡ Answering true false false
ready_for_the_copy = refl

pub three_bytes_are_left : end_at next.Message (90 ∷ 0 ∷ 0 ∷ []) ≡ ending.Rest 3
three_bytes_are_left = refl
