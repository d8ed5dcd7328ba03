-- What one packet or one message does to a backend.
use Rattle.std.specs.Prelude.{ℕ, ◌≡◌, ◌≢◌, Bool, true, false, List, [], ◌∷◌, ◌++◌, map, Option, Some, None, Result, Ok, Err}
use Rattle.std.specs.List.{flat_map, AllByRecursion}
use Rattle.pg_wire.specs.declared.fault.WireFault.{WireFault}
use Rattle.pg_wire.specs.declared.fault.WireFault.TheVariants as wire
use Rattle.pg_wire.specs.message.BackMessage.TheVariants as back
use Rattle.pg_wire.specs.message.First.{First}
use Rattle.pg_wire.specs.message.First.TheVariants as first
use Rattle.pg_wire.specs.message.FrontMessage.{FrontMessage}
use Rattle.pg_wire.specs.Decoder.{DecoderState}
use Rattle.pg_wire.specs.Decoder as decoder
use Rattle.pg_wire.specs.FirstDecoder.{FirstState, HasBegun, FirstTakes}
use Rattle.pg_wire.specs.Frontend.{frontend}
use Rattle.pg_backend.specs.declared.phase.BackPhase.TheVariants as phase
use Rattle.pg_backend.specs.declared.fault.BackendFault.{BackendFault}
use Rattle.pg_backend.specs.declared.fault.BackendFault.TheVariants as faults
use Rattle.pg_backend.specs.declared.script.Answer.{Answer}
use Rattle.pg_backend.specs.declared.script.Logged.{Logged}
use Rattle.pg_backend.specs.declared.stage.ClosedBy.TheVariants as closed_by
use Rattle.pg_backend.specs.declared.stage.Next.{Next}
use Rattle.pg_backend.specs.declared.stage.Next.TheVariants as next
use Rattle.pg_backend.specs.declared.stage.BackStage.{BackStage}
use Rattle.pg_backend.specs.declared.stage.BackStage.TheVariants as stage
use Rattle.pg_backend.specs.Lists.{IsPrefix}
use Rattle.pg_backend.specs.Opening.{Sent, No, Says, user_from}
use Rattle.pg_backend.specs.OwnError.{no_user}
use Rattle.pg_backend.specs.Input.{sent_bytes, IsSpelled, last_word}
use Rattle.pg_backend.specs.Stage.{BackendState, phase_of, IsWaiting, HasFaultyRest, WantsMemory}
use Rattle.pg_backend.specs.Private.Opening.{awaits_first, greeting}
use Rattle.pg_backend.specs.Private.Moves.{Move, move}

-- what is changed, and what is sent and logged
pub record Effect : Type 0 where
  pub stage : BackStage
  pub left : List Answer
  pub sent : List Sent
  pub logged : List Logged

-- a backend on which that was done
abbrev pub applied : BackendState → Effect → BackendState
applied b e = record b { left = e.left; stage = e.stage; log = b.log ++ e.logged }

-- ---- a packet

-- it stands there now, and this was sent
abbrev pub only_sends : BackendState → BackStage → List Sent → Effect
only_sends b stage sent = record { stage = stage; left = b.left; sent = sent; logged = [] }

-- a Startup of this user, who isn't empty
abbrev pub named_effect : BackendState → FirstState → List ℕ → Effect
named_effect b d user =
    let auth = b.script.auth in
    only_sends b
    (stage.Open (record { kept = d.kept; limit = b.limit; fault = d.fault })
    (awaits_first auth user))
    (map Says (greeting b.script auth))

-- a Startup of this user, who may be empty
abbrev pub startup_effect : BackendState → FirstState → List ℕ → Effect
startup_effect b d [] =
    only_sends b (stage.Closed closed_by.Input) (Says (back.ErrorResponse no_user) ∷ [])
startup_effect b d (c ∷ cs) = named_effect b d (c ∷ cs)

-- the packet, where the decoder stands after it
abbrev pub packet_effect : BackendState → FirstState → First → Effect
packet_effect b d first.Ssl = only_sends b (stage.First d) (No ∷ [])
packet_effect b d first.Gss = only_sends b (stage.First d) (No ∷ [])
packet_effect b d (first.Cancel process secret) = only_sends b (stage.Closed closed_by.Input) []
packet_effect b d (first.Startup pairs) = startup_effect b d (user_from [] pairs)

-- ---- a message

-- where a backend stands after a message that leads there
abbrev pub stage_of : DecoderState → Next → BackStage
stage_of d (next.Goes awaits) = stage.Open d awaits
stage_of d next.Ends = stage.Closed closed_by.Input
stage_of d (next.Strays tag) = stage.Closed closed_by.Input

-- what a message does, where the decoder stands after it
abbrev pub message_effect : DecoderState → Move → Effect
message_effect d v = record {
  stage = stage_of d v.next;
  left = v.left;
  sent = map Says v.sent;
  logged = v.logged;
}

-- the tag of a message that can't stand in its place
abbrev pub stray_tag : Next → Option ℕ
stray_tag (next.Strays tag) = Some tag
stray_tag n = None

-- ---- the next packet or message

-- The packet is one more that the decoder has given.
abbrev pub Begun : FirstState → FirstState → First → Type 0
Begun d new p = (pushed : List ℕ) (given : List First)
    → HasBegun d pushed given → HasBegun new pushed (given ++ p ∷ [])

-- The message is one more that the decoder has given.
abbrev pub Taken : DecoderState → DecoderState → FrontMessage → Type 0
Taken d new m = (pushed : List ℕ) (given : List FrontMessage)
    → decoder.HasTaken frontend d pushed given
    → decoder.HasTaken frontend new pushed (given ++ m ∷ [])

-- What is kept begins with a packet or a message that has this effect, and this tag where it can't stand in its place.
abbrev pub HasNext : BackendState → BackStage → Option ℕ → Effect → Type 0
HasNext b (stage.First d) stray e = (p : First) × (new : FirstState)
    × FirstTakes d (Ok (Some p)) new × Begun d new p
    × (stray ≡ None) × (e ≡ packet_effect b new p)
HasNext b (stage.Open d a) stray e = (m : FrontMessage) × (new : DecoderState)
    × decoder.Takes frontend d (Ok (Some m)) new × Taken d new m
    × (stray ≡ stray_tag (move b.script b.left a m).next)
    × (e ≡ message_effect new (move b.script b.left a m))
HasNext b (stage.Closed e) stray f = ⊥

-- This is spelled at the end of the buffer.
pub record Sends (sent : List Sent) (before after : List ℕ) : Type 0 where
  pub spelled : AllByRecursion IsSpelled sent
  pub appended : after ≡ before ++ flat_map sent_bytes sent

-- A step that may leave bytes after what was there, where memory ran out.
abbrev pub Advances : BackendState → List ℕ
    → Result Bool BackendFault → BackendState → List ℕ → Type 0
Advances old before (Ok false) new after = IsWaiting old.stage × (new ≡ old) × (after ≡ before)
Advances old before (Ok true) new after = (e : Effect) × HasNext old old.stage None e
    × (new ≡ applied old e) × Sends e.sent before after
Advances old before (Err (faults.Unexpected t)) new after = (e : Effect)
    × HasNext old old.stage (Some t) e × (new ≡ applied old e) × Sends e.sent before after
Advances old before (Err (faults.Wire f)) new after = HasFaultyRest old.stage f
    × (new ≡ record old { stage = stage.Closed closed_by.Input })
    × Sends (last_word true) before after
Advances old before (Err faults.Memory) new after = WantsMemory old.stage
    × (record new { stage = stage.Closed closed_by.Memory }
    ≡ record old { stage = stage.Closed closed_by.Memory })
    × IsPrefix before after
Advances old before (Err faults.Closed) new after = ⊥

-- A faulty rest is rejected with a last word, and Memory as it is.
abbrev pub BreaksOff : WireFault → List ℕ → Result Bool BackendFault → List ℕ → Type 0
BreaksOff f before (Err (faults.Wire g)) after = (f ≡ g) × (g ≢ wire.Memory)
    × Sends (last_word true) before after
BreaksOff f before (Err faults.Memory) after = IsPrefix before after
BreaksOff f before r after = ⊥

-- The effect is there; or memory ran out, and but for the stage and some bytes after what was there nothing has changed.
abbrev pub TakesEffect : Effect → BackendState → List ℕ
    → Result Unit BackendFault → BackendState → List ℕ → Type 0
TakesEffect e old before (Ok x) new after = (new ≡ applied old e) × Sends e.sent before after
TakesEffect e old before (Err f) new after = (f ≡ faults.Memory)
    × (record new { stage = stage.Closed closed_by.Memory }
    ≡ record old { stage = stage.Closed closed_by.Memory })
    × IsPrefix before after

-- What a step does that handles the next packet or message, where the backend may have been closed
-- before: then it returns Closed, and nothing changes.
abbrev pub AdvancesUnlessClosed : BackendState → List ℕ
    → Result Bool BackendFault → BackendState → List ℕ → Type 0
AdvancesUnlessClosed old before (Err faults.Closed) new after =
    (phase_of old.stage ≡ phase.Closed) × (new ≡ old) × (after ≡ before)
AdvancesUnlessClosed old before r new after = Advances old before r new after

-- the answer is that memory ran out
abbrev pub is_refused : Result Bool BackendFault → Bool
is_refused (Err faults.Memory) = true
is_refused r = false
