-- The start and the end of a session.
use Rattle.std.proofs.Common.{◌≡◌, ℕ, List, Result, Ok, Err, inl, ap, ◌∙◌}
use Rattle.std.specs.Prelude.{OnOk}
use Rattle.pg_client.specs.declared.call.Call.TheVariants as call
use Rattle.pg_client.specs.declared.fault.CallFault.{CallFault}
use Rattle.pg_client.specs.declared.phase.Phase.TheVariants as phase
use Rattle.pg_client.specs.Client.{Accepts, Keeps}
use Rattle.pg_client.specs.View.{View, phase_of}
use Rattle.pg_drive.specs.Drive.{connected}
use Rattle.pg_drive.specs.Session.{Begins}

-- where a call was accepted, the startup packet waits
pub begins_now : {K : Type 0} (way : Keeps K) (r : Result Unit CallFault) (old new : View K) (before after : List ℕ) → OnOk r ((phase_of old ≡ phase.New) × (phase_of new ≡ phase.Starting)) → OnOk r (Accepts way call.Start old new before after) → OnOk r (Begins way old new before after)
begins_now way (Ok x) old new before after phases accepted = inl (phases.0, phases.1, accepted)
begins_now way (Err f) old new before after phases accepted = tt

-- a client and an output that are as they were leave a connection as it was
pub same_connection : {C L : Type 0} (link : L) (client client' : C) (out out' : List ℕ) → client' ≡ client → out' ≡ out → connected link client' out' ≡ connected link client out
same_connection {C} link client client' out out' e f = ap (λ (c : C). connected link c out') e ∙ ap (λ (o : List ℕ). connected link client o) f
