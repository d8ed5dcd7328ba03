-- All that a client sends has a spelling: no message is cut or left out.
use Rattle.std.specs.Prelude.{◌≡◌, List, ◌∷◌}
use Rattle.std.specs.List.{AllByRecursion}
use Rattle.pg_wire.specs.message.First.TheVariants.{Startup}
use Rattle.pg_wire.specs.Direction.{HasSpelling}
use Rattle.pg_wire.specs.First.{IsPacket}
use Rattle.pg_wire.specs.Frontend.{frontend}
use Rattle.pg_client.specs.declared.settings.Settings.{Settings}
use Rattle.pg_client.specs.declared.call.Call.{Call}
use Rattle.pg_client.specs.Session.{Happening, messages_in}
use Rattle.pg_client.specs.Sent.{startup_pairs}
use Rattle.pg_client.specs.Turns.{calls_in, messages_after}

-- The startup packet of these events has a spelling, where there is a call at all, and so has each
-- message that is sent after it ("Message Formats").
pub record SendsSpelled (settings : Settings) (hs : List Happening) : Type 0 where
  pub packet : (c : Call) (cs : List Call) → calls_in hs ≡ c ∷ cs
      → IsPacket (Startup (startup_pairs settings))
  pub messages : AllByRecursion (HasSpelling frontend)
      (messages_after settings (messages_in hs) (calls_in hs))
