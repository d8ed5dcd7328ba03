-- A pair as it begins.
use Rattle.std.specs.Prelude.{◌≡◌, false, [], None}
use Rattle.pg_client.specs.declared.phase.Phase.TheVariants as phase
use Rattle.pg_client.specs.declared.settings.Settings.{Settings}
use Rattle.pg_client.specs.Client.{blank, IsHistoryOf}
use Rattle.pg_client.specs.View as client
use Rattle.pg_client.specs.Keeping.{collecting}
use Rattle.pg_backend.specs.declared.script.Script.{Script}
use Rattle.pg_backend.specs.declared.stage.BackStage.TheVariants as stage
use Rattle.pg_wire.specs.Direction.{longest}
use Rattle.pg_pair.specs.View.{WayState, PairView}

-- a way along which nothing was sent
abbrev pub silent : WayState
silent = record { sent = []; reached = 0; broken = false }

-- A new pair of these settings, this script and this carrier: both ends are new, nothing was sent
-- and nothing has happened.
pub record IsBegun {C : Type 0} (settings : Settings) (script : Script) (carrier : C)
    (p : PairView C) : Type 0 where
  pub client_settings : p.client.settings ≡ settings
  pub client_phase : client.phase_of p.client ≡ phase.New
  pub client_history : IsHistoryOf collecting blank p.client
  pub rest : p ≡ record {
    client = p.client;
    backend = record {
      script = script;
      limit = longest;
      left = script.answers;
      stage = stage.First (record { kept = []; ended = false; fault = None });
      log = [];
    };
    carrier = carrier;
    to_backend = silent;
    to_client = silent;
    fed_before = [];
    settled = [];
    handed = [];
    loss = None;
  }
