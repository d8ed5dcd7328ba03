-- What is so of a pair as it begins.
use Rattle.pg_client.specs.Keeping.{collecting, CollectsAt}
use Rattle.std.proofs.Common.{◌≡◌, false, List, [], None, refl, arith}
use Rattle.pg_wire.specs.Direction.{longest}
use Rattle.pg_client.specs.declared.stand.Stand.{Stand}
use Rattle.pg_client.specs.declared.stand.Stand.TheVariants as stands
use Rattle.pg_client.specs.declared.settled.Settled.{Settled}
use Rattle.pg_client.specs.View.{groups_waiting, ClientView}
use Rattle.pg_client.specs.Client.{blank, IsHistoryOf}
use Rattle.pg_client.specs.Stand.{Stands}
use Rattle.pg_client.specs.Collected.{CollectedView}
use Rattle.pg_backend.specs.Backend.{BackendState, was_lost}
use Rattle.pg_backend.specs.History as back
use Rattle.pg_backend.specs.Check.{IsChecked}
use Rattle.pg_pair.specs.Beginning.{silent}
use Rattle.pg_pair.specs.Invariant.{Tied}

none_settled : (was : Stand) (settled : List Settled) (c : CollectedView) → Stands [] was → CollectsAt was [] [] [] settled c → settled ≡ []
none_settled stands.New settled c h t = t.0
none_settled (stands.Starting w) settled c h t = absurd h.0
none_settled stands.Idle settled c h t = absurd h.0
none_settled (stands.Busy request place answer) settled c h t = absurd h.0

pub begun_tied : {C : Type 0} (c : ClientView) (b : BackendState) (carrier : C) → IsHistoryOf collecting blank c → IsChecked b.script → b.limit ≡ longest → was_lost b.stage ≡ false
    → back.IsHistoryOf back.blank b
    → Tied (record { client = c; backend = b; carrier = carrier; to_backend = silent; to_client = silent; fed_before = []; settled = []; handed = []; loss = None })
begun_tied c b carrier begun checked limit not_lost started = record {
  client = record {
    history = blank;
    is_history = begun;
    fed = refl;
    given = refl;
    sent = refl;
    fed_before = refl;
    taken = none_settled begun.agrees.led.was (groups_waiting c) c.known.keeper.collected begun.agrees.led.stands begun.agrees.led.kept;
    within = omega arith;
  };
  backend = record {
    checked = checked;
    limit = limit;
    history = back.blank;
    is_history = started;
    pushed = refl;
    sent = refl;
    faultless = refl;
    not_lost = λ h. not_lost;
    within = omega arith;
  };
  turns = record { in_turn = tt; copied = tt; handed = refl };
}
