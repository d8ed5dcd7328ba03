-- What the laws of both ends say.
use Rattle.std.specs.Prelude.{List, ◌≡◌, ℕ, [], ◌∷◌, ◌++◌}
use Rattle.pg_wire.specs.Backend.{backend}
use Rattle.pg_wire.specs.Frontend.{frontend}
use Rattle.pg_wire.specs.Laws.{OneSpelling, OnePacket, OneOutcome, FaultyBeginsNone, FaultyBeginsNoPacket}
use Rattle.pg_client.specs.declared.call.Call.{Call}
use Rattle.pg_client.specs.View.{ClientView, groups_waiting}
use Rattle.pg_client.specs.Keeping.{collecting}
use Rattle.pg_client.specs.declared.settled.Settled.{Settled}
use Rattle.pg_client.specs.Client.{History, happenings, IsHistoryOf}
use Rattle.pg_client.specs.Facts.{ClientFacts}
use Rattle.pg_client.specs.Turns.{InTurns, turns_of}
use Rattle.pg_client.specs.Spelled.{SendsSpelled}
use Rattle.pg_client.specs.Answering.{KeepsOrder, TakesTurns, calls_of, turns_with}
use Rattle.pg_backend.specs.Laws.{SegmentsFitLog, OneCopyEach, WelcomeIsSegment, TurnsLogged, TurnsLoaded, TurnsGoOn, TurnsLeft}

-- What a law says of each history of a client.
abbrev pub OfHistories : (History Settled → ClientView → Type 0) → Type 0
OfHistories Says = (h : History Settled) (client : ClientView) → IsHistoryOf collecting h client
    → Says h client

-- Each law, as a fact.
pub record Known : Type 0 where
  pub one_front : OneSpelling frontend
  pub one_back : OneSpelling backend
  pub one_packet : OnePacket
  pub one_outcome : OneOutcome
  pub faulty_message : FaultyBeginsNone frontend
  pub faulty_packet : FaultyBeginsNoPacket
  pub facts : OfHistories (λ h client. ClientFacts h client)
  pub turns : OfHistories (λ h client. InTurns client.settings (happenings h) h.sent)
  pub spelled : OfHistories (λ h client. SendsSpelled client.settings (happenings h))
  pub answering : OfHistories
      (λ h client. TakesTurns (happenings h) (h.given ++ groups_waiting client) client)
  pub order : (h : History Settled) → KeepsOrder h
  pub one_more : (cs : List (Call × ℕ)) (c : Call) (place : ℕ)
      → turns_of (calls_of (cs ++ (c, place) ∷ [])) ≡ turns_with (turns_of (calls_of cs)) c
  pub segments_fit_log : SegmentsFitLog
  pub one_copy_each : OneCopyEach
  pub welcome_is_segment : WelcomeIsSegment
  pub turns_logged : TurnsLogged
  pub turns_loaded : TurnsLoaded
  pub turns_go_on : TurnsGoOn
  pub turns_left : TurnsLeft
