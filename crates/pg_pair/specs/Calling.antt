-- What a call of the client does to a pair.
use Rattle.std.specs.Prelude.{◌≡◌, ℕ, List, [], ◌∷◌, ◌++◌}
use Rattle.pg_client.specs.declared.fault.CallFault.{CallFault}
use Rattle.pg_client.specs.declared.phase.Phase.{Phase}
use Rattle.pg_client.specs.declared.phase.Phase.TheVariants as phase
use Rattle.pg_client.specs.Keeping.{collecting}
use Rattle.pg_client.specs.Session.{Did, request_of}
use Rattle.pg_client.specs.View.{ClientView, phase_of, IsOpenPhase}
use Rattle.pg_client.specs.Client.{Accepts, RefusesUnless, RefusesCopy, RefusesEnd}
use Rattle.pg_pair.specs.declared.event.Applied.{Applied}
use Rattle.pg_pair.specs.declared.event.Applied.TheVariants as applied
use Rattle.pg_client.specs.declared.call.Call.{Call}
use Rattle.pg_client.specs.declared.call.Call.TheVariants as call
use Rattle.pg_pair.specs.View.{PairView}

-- The client's phase is one in which this call is allowed.
abbrev pub IsAllowedIn : Call → Phase → Type 0
IsAllowedIn call.Start p = p ≡ phase.New
IsAllowedIn (call.Request r) p = p ≡ phase.Ready
IsAllowedIn (call.Chunk bytes) p = p ≡ phase.CopyingIn
IsAllowedIn call.Done p = p ≡ phase.CopyingIn
IsAllowedIn (call.Fail reason) p = p ≡ phase.CopyingIn
IsAllowedIn call.Terminate p = IsOpenPhase p

-- The client has this reason to reject the call: C1 or C2 in another phase, and C3 where what it
-- would send has no spelling or memory ran out.
abbrev pub RefusesCall : ClientView → Call → CallFault → Type 0
RefusesCall c call.Start f = RefusesUnless phase.New c call.Start f
RefusesCall c (call.Request r) f = RefusesUnless phase.Ready c (call.Request r) f
RefusesCall c (call.Chunk bytes) f = RefusesCopy c (call.Chunk bytes) f
RefusesCall c call.Done f = RefusesCopy c call.Done f
RefusesCall c (call.Fail reason) f = RefusesCopy c (call.Fail reason) f
RefusesCall c call.Terminate f = RefusesEnd c f

-- the lists of chunks, with one chunk more at the end of the last list; without a list, none
abbrev pub add_to_last : List ℕ → List (List (List ℕ)) → List (List (List ℕ))
add_to_last bytes [] = []
add_to_last bytes (h ∷ []) = (h ++ bytes ∷ []) ∷ []
add_to_last bytes (h ∷ k ∷ hs) = h ∷ add_to_last bytes (k ∷ hs)

-- the chunks of each request after an accepted call: a new request begins a list, and a chunk
-- belongs to the request made last
abbrev pub handed_after : Call → List (List (List ℕ)) → List (List (List ℕ))
handed_after (call.Request r) handed = handed ++ [] ∷ []
handed_after (call.Chunk bytes) handed = add_to_last bytes handed
handed_after _ handed = handed

-- The client accepted the call: what it put out was sent to the backend, and the pair notes how
-- many bytes had reached the client (`fed_before`) and the request or the chunk (`handed`).
pub record Accepted {C : Type 0} (c : Call) (p q : PairView C) : Type 0 where
  pub allowed : IsAllowedIn c (phase_of p.client)
  pub accepts : Accepts collecting c p.client q.client p.to_backend.sent q.to_backend.sent
  pub rest : q ≡ record p {
    client = q.client;
    to_backend = record p.to_backend { sent = q.to_backend.sent };
    fed_before = p.fed_before ++ p.to_client.reached ∷ [];
    handed = handed_after c p.handed;
  }

-- What a call of the client does. Accepted, it comes to Done. Rejected, it comes to Refused with
-- the request handed back, and the pair is as it was.
abbrev pub CallsClient : {C : Type 0} → Call → PairView C → Applied → PairView C → Type 0
CallsClient c p applied.Done q = Accepted c p q
CallsClient c p (applied.Refused request f) q =
    (request ≡ request_of (Did c)) × RefusesCall p.client c f × (q ≡ p)
CallsClient c p _ q = ⊥
