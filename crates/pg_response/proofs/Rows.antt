-- Worked rows: what a client collects of these messages, place by place, by computation.
use Rattle.std.proofs.Common.{◌≡◌, List, [], ◌∷◌, Option, Some, None, cond, refl}
use Rattle.std.specs.Prelude.{pos}
use Rattle.std.specs.Option.{option_map}
use Rattle.pg_wire.specs.message.BackMessage.{BackMessage}
use Rattle.pg_wire.specs.message.BackMessage.TheVariants.{CommandComplete, DataRow, ErrorResponse, NoticeResponse, ParseComplete, PortalSuspended, RowDescription}
use Rattle.pg_wire.specs.value.Status.{Status}
use Rattle.pg_wire.specs.value.Status.TheVariants as status
use Rattle.pg_wire.specs.declared.session.Aside.{Aside}
use Rattle.pg_wire.specs.declared.session.Aside.TheVariants as aside
use Rattle.pg_wire.specs.declared.session.ExecEnd.TheVariants as ends
use Rattle.pg_wire.specs.declared.session.Outcome.{Outcome}
use Rattle.pg_wire.specs.declared.session.Part.TheVariants as part
use Rattle.pg_wire.specs.declared.session.Request.{Request}
use Rattle.pg_wire.specs.declared.session.Request.TheVariants.{Query, Group}
use Rattle.pg_wire.specs.declared.session.Step.TheVariants as step
use Rattle.pg_wire.specs.Segment.{Asked, aside_of, asked}
use Rattle.pg_response.specs.declared.place.Place.{Place}
use Rattle.pg_response.specs.Place.{goes, mark_of, may_end, start}
use Rattle.pg_response.specs.Collected.{collect, collected_with, CollectedView, nothing_collected, outcome_of}

abbrev read_one : Asked → Place → CollectedView → BackMessage → Option Aside → Option (Place × CollectedView)
read_one a p c m (Some x) = Some (p, collected_with c x)
read_one a p c m None = option_map (λ q. (q, collect a p.opened c m)) (goes a p (mark_of m))

abbrev read_all : Asked → Option (Place × CollectedView) → List BackMessage → Option (Place × CollectedView)
read_all a at [] = at
read_all a None (m ∷ ms) = None
read_all a (Some at) (m ∷ ms) = read_all a (read_one a at.0 at.1 m (aside_of m)) ms

abbrev outcome_at : Asked → Status → Option (Place × CollectedView) → Option Outcome
outcome_at a s None = None
outcome_at a s (Some at) = cond (may_end a at.0) (Some (outcome_of at.1 s)) None

-- the outcome of a request that these messages, and then ReadyForQuery with this status, answer
abbrev read_outcome : Request → List BackMessage → Status → Option Outcome
read_outcome r body s = outcome_at (asked r) s (read_all (asked r) (Some (start, nothing_collected)) body)

-- a command
command_read : read_outcome (Query []) (CommandComplete (79 ∷ 75 ∷ []) ∷ []) status.Idle ≡ Some (record { parts = part.Command (79 ∷ 75 ∷ []) ∷ []; error = None; status = status.Idle; asides = [] })
command_read = refl

-- what the error cuts off is no part, and a notice among rows is an aside
cut_read : read_outcome (Query []) (CommandComplete (79 ∷ 75 ∷ []) ∷ RowDescription [] ∷ NoticeResponse [] ∷ DataRow [] ∷ ErrorResponse [] ∷ ErrorResponse [] ∷ []) status.Failed
    ≡ Some (record { parts = part.Command (79 ∷ 75 ∷ []) ∷ []; error = Some []; status = status.Failed; asides = aside.Notice [] ∷ [] })
cut_read = refl

-- a group that is cut off after its first step, and one whose portal is suspended
group_read : read_outcome (Group (step.Parse [] [] [] ∷ step.Execute [] (pos 0) ∷ [])) (ParseComplete ∷ ErrorResponse [] ∷ []) status.Idle ≡ Some (record { parts = part.Parsed ∷ []; error = Some []; status = status.Idle; asides = [] })
group_read = refl

suspended_read : read_outcome (Group (step.Execute [] (pos 0) ∷ [])) (DataRow [] ∷ PortalSuspended ∷ []) status.Idle ≡ Some (record { parts = part.Executed ([] ∷ []) ends.Suspended ∷ []; error = None; status = status.Idle; asides = [] })
suspended_read = refl

-- a group isn't answered by nothing, and a query may be
nothing_read : read_outcome (Group (step.Parse [] [] [] ∷ [])) [] status.Idle ≡ None
nothing_read = refl
