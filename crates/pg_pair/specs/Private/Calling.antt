-- What a pair keeps of a call.
use Rattle.std.specs.Prelude.{◌≡◌, ◌≤◌, ◌+◌, ℕ, List, [], ◌∷◌, ◌++◌, length, Option, None, Result, Ok, Err}
use Rattle.std.specs.Vec.{vec_capacity, vec_len}
use Rattle.std.specs.declared.vec.Vec.{Vec}
use Rattle.pg_wire.specs.declared.session.Request.{Request}
use Rattle.pg_client.specs.declared.fault.CallFault.{CallFault}
use Rattle.pg_client.specs.Keeping.{collecting}
use Rattle.pg_client.specs.Session.{Did, request_of}
use Rattle.pg_client.specs.View.{ClientView, phase_of}
use Rattle.pg_client.specs.Client.{Accepts}
use Rattle.pg_client.specs.declared.call.Call.{Call}
use Rattle.pg_client.specs.declared.call.Call.TheVariants as call
use Rattle.pg_pair.specs.declared.pair.calling.Kept.{Kept}
use Rattle.pg_pair.specs.declared.pair.calling.Kept.TheVariants as kept
use Rattle.pg_pair.specs.Calling.{add_to_last, IsAllowedIn, RefusesCall}
use Rattle.pg_pair.specs.Private.Chunks.{list_of}

-- what is kept of a call
abbrev pub kept_of : Call → Kept
kept_of (call.Request r) = kept.Request
kept_of (call.Chunk bytes) = kept.Chunk bytes
kept_of _ = kept.Place

-- what was handed over, with what is kept of a call
abbrev pub handed_by : Kept → List (List (List ℕ)) → List (List (List ℕ))
handed_by kept.Place handed = handed
handed_by kept.Request handed = handed ++ [] ∷ []
handed_by (kept.Chunk bytes) handed = add_to_last bytes handed

-- what is kept, by what the client answered to a call that makes no request
abbrev pub answer_with : Result Unit CallFault → Kept → Result Kept (Option Request × CallFault)
answer_with (Ok x) k = Ok k
answer_with (Err f) k = Err (None, f)

-- The client was called: it has accepted the call, of which this is kept, or it is as it was and gives a request back.
abbrev pub ClientAnswers : Call → ClientView → List ℕ
    → Result Kept (Option Request × CallFault) → ClientView → List ℕ → Type 0
ClientAnswers c old before (Ok k) new after = IsAllowedIn c (phase_of old)
    × Accepts collecting c old new before after × (k ≡ kept_of c)
ClientAnswers c old before (Err refusal) new after = (refusal.0 ≡ request_of (Did c))
    × RefusesCall old c refusal.1 × (new ≡ old) × (after ≡ before)

-- The last request's chunks are taken out for one more of them alone.
abbrev pub IsTakenFor : {X Z : Type 0} → Call → Option (Vec X Z) → Type 0
IsTakenFor (call.Chunk bytes) chunks = Unit {0}
IsTakenFor _ chunks = list_of chunks ≡ []

-- There is room to put these lists of chunks after the others, and for a settled group of each list.
abbrev pub HasRoomToPut : {X Y Z : Type 0}
    → List (List (List ℕ)) → Vec (List (List ℕ)) Y → Vec X Z → Type 0
HasRoomToPut lists handed settled = (vec_len handed + length lists ≤ vec_capacity handed)
    × (vec_len handed + length lists ≤ vec_capacity settled)
