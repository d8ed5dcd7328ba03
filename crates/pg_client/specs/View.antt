-- What a clause sees of a client: its state, its phase, and what the messages gave.
use Rattle.std.specs.Prelude.{◌≡◌, ℕ, ℤ, List, [], ◌∷◌, false, bytes_eq, cond, Option, Some, None}
use Rattle.pg_wire.specs.message.BackMessage.{BackMessage}
use Rattle.pg_wire.specs.message.BackMessage.TheVariants.{KeyData, ParameterStatus}
use Rattle.pg_wire.specs.value.Status.{Status}
use Rattle.pg_wire.specs.Segment.{status_of}
use Rattle.pg_wire.specs.lent.Lent.{Lent}
use Rattle.pg_wire.specs.lent.Lent.TheVariants as lents
use Rattle.pg_response.specs.declared.place.Open.{Open}
use Rattle.pg_response.specs.declared.place.Open.TheVariants as opened
use Rattle.pg_response.specs.Collected.{CollectedView, RowValues}
use Rattle.pg_client.specs.declared.item.Item.{Item}
use Rattle.pg_client.specs.declared.known.Known.{Known}
use Rattle.pg_client.specs.declared.stand.CopyAnswer.{CopyAnswer}
use Rattle.pg_client.specs.declared.stand.CopyAnswer.TheVariants.{Awaited}
use Rattle.pg_client.specs.declared.stand.Stand.{Stand}
use Rattle.pg_client.specs.declared.stand.Stand.TheVariants as stands
use Rattle.pg_client.specs.declared.settled.Loss.{Loss}
use Rattle.pg_client.specs.declared.settled.Settled.{Settled}
use Rattle.pg_client.specs.declared.settings.Settings.{Settings}
use Rattle.pg_client.specs.declared.phase.Cause.{Cause}
use Rattle.pg_client.specs.declared.phase.Phase.{Phase}
use Rattle.pg_client.specs.declared.phase.Phase.TheVariants as phase

-- What a clause sees of a client which keeps this of the messages.
pub record View (K : Type 0) : Type 0 where
  -- what it was made with: user, password, startup parameters, and the limit of a message's length
  pub settings : Settings
  -- the bytes that it keeps of what it was fed: those after the last message that it cut off
  pub kept : List ℕ
  -- the message that is lent, if one is, which isn't among these bytes any more
  pub held : Option Lent
  -- where it stands; what it keeps of the messages; and the last transaction status, values of
  -- parameters and key that came
  pub known : Known K
  -- why it is closed; None while it is open
  pub closed : Option Cause

-- What a client keeps that collects: what was collected of the segment that isn't whole, and the
-- settled groups that weren't taken, oldest first.
pub record CollectingView : Type 0 where
  pub collected : CollectedView
  pub settled : List Settled

-- a client of which settled groups are taken
abbrev pub ClientView : Type 0
ClientView = View CollectingView

-- a client of which each message is taken
abbrev pub EarlyView : Type 0
EarlyView = View (List Item)

-- the groups that are settled and weren't taken, oldest first
abbrev pub groups_waiting : ClientView → List Settled
groups_waiting client = client.known.keeper.settled

-- the items that weren't taken, oldest first
abbrev pub items_waiting : EarlyView → List Item
items_waiting client = client.known.keeper

-- the client with these groups
abbrev pub with_groups : ClientView → List Settled → ClientView
with_groups client groups =
    record client {
      known = record client.known {
        keeper = record client.known.keeper { settled = groups };
      };
    }

-- the client with these items
abbrev pub with_items : EarlyView → List Item → EarlyView
with_items client items =
    record client { known = record client.known { keeper = items } }

-- the row that is lent, if one is, by why the client is closed: a closed one lends none
abbrev pub row_at : Option Cause → Option Lent → Option RowValues
row_at None (Some (lents.Row values)) = Some values
row_at _ _ = None

-- the row that the client lends, if it lends one
abbrev pub lent_row : {K : Type 0} → View K → Option RowValues
lent_row client = row_at client.closed client.held

-- The first value where it is there, and else the second.
abbrev pub option_or : {A : Type 0} → Option A → Option A → Option A
option_or (Some a) other = Some a
option_or None other = other

-- ---- phases

-- The phase while a request is outstanding, by what is unfinished in its segment and what was called
-- for its last copy from the client: CopyingIn while the server waits for data, and else Busy
-- ("COPY Operations").
abbrev pub busy_phase_of : Open → CopyAnswer → Phase
busy_phase_of opened.CopyIn Awaited = phase.CopyingIn
busy_phase_of _ _ = phase.Busy

-- The phase of a client that stands there and isn't closed.
abbrev pub stand_phase : Stand → Phase
stand_phase stands.New = phase.New
stand_phase (stands.Starting w) = phase.Starting
stand_phase stands.Idle = phase.Ready
stand_phase (stands.Busy request place answer) = busy_phase_of place.opened answer

-- The phase of a client that stands there and is closed for this reason, or open (None).
abbrev pub phase_with : Option Cause → Stand → Phase
phase_with (Some c) stand = phase.Closed c
phase_with None stand = stand_phase stand

-- The phase of a client: what its users see of where it stands.
abbrev pub phase_of : {K : Type 0} → View K → Phase
phase_of client = phase_with client.closed client.known.stand

-- A client in this phase was started and isn't closed.
abbrev pub IsOpenPhase : Phase → Type 0
IsOpenPhase phase.New = ⊥
IsOpenPhase (phase.Closed c) = ⊥
IsOpenPhase _ = Unit {0}

-- What is lost of a client that stands there: its outstanding request, made and not settled by a
-- ReadyForQuery, and whether an ErrorResponse came for that.
abbrev pub loss_at : Stand → Loss
loss_at (stands.Busy request place answer) =
    record { unsettled = Some request; seen_error = place.failed }
loss_at _ = record { unsettled = None; seen_error = false }

-- ---- what the messages gave

-- The last value that one of these messages gave, or the old value where none gave one. What a
-- message gives is the first argument; None where it gives nothing.
abbrev pub last_from : {A : Type 0} → (BackMessage → Option A) → Option A → List BackMessage
    → Option A
last_from says old [] = old
last_from says old (m ∷ ms) = last_from says (option_or (says m) old) ms

-- The last value that one of these messages gave; None where none gave one.
abbrev pub last_said : {A : Type 0} → (BackMessage → Option A) → List BackMessage → Option A
last_said says ms = last_from says None ms

-- The value that a ParameterStatus gives to the parameter of this name; None for any other message
-- ("Asynchronous Operations").
abbrev pub value_said : List ℕ → BackMessage → Option (List ℕ)
value_said name (ParameterStatus n value) = cond (bytes_eq n name) (Some value) None
value_said name _ = None

-- The value of the parameter of this name, in a list of names and values: that of the first such
-- name. None where the name isn't there.
abbrev pub value_of : List ℕ → List (List ℕ × List ℕ) → Option (List ℕ)
value_of name [] = None
value_of name (p ∷ ps) = cond (bytes_eq name p.0) (Some p.1) (value_of name ps)

-- The process id and the secret key of a BackendKeyData; None for any other message ("Canceling
-- Requests in Progress").
abbrev pub key_said : BackMessage → Option (ℤ × ℤ)
key_said (KeyData process secret) = Some (process, secret)
key_said _ = None

-- These are the last status, the last value of each parameter and the last key of what was heard.
pub record KnowsLast (heard : List BackMessage) (s : Option Status) (ps : List (List ℕ × List ℕ))
    (k : Option (ℤ × ℤ)) : Type 0 where
  pub status : s ≡ last_said status_of heard
  pub parameters : (name : List ℕ) → value_of name ps ≡ last_said (value_said name) heard
  pub key : k ≡ last_said key_said heard
