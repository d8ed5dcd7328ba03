-- The fields of a pair.
use Rattle.pg_pair.specs.declared.pair.Pair.TheInside.{Inside}
use Rattle.pg_pair.specs.declared.pair.WayState.{WayState}
use Rattle.pg_pair.specs.View as view
use Rattle.pg_pair.specs.View.{PairView}

abbrev pub stream_view : WayState → view.WayState
stream_view s = record { sent = s.sent.items; reached = s.reached; broken = s.broken }

abbrev pub view_of : {C : Type 0} → Inside C → PairView C
view_of p = record {
  client = p.client;
  backend = p.backend;
  carrier = p.carrier;
  to_backend = stream_view p.to_backend;
  to_client = stream_view p.to_client;
  fed_before = p.fed_before.items;
  settled = p.settled.items;
  handed = p.handed.items;
  loss = p.loss;
}
