-- The fields of a client.
use Rattle.pg_client.specs.declared.connection.Connection.TheInside.{Inside}
use Rattle.pg_client.specs.View.{View}

-- What a clause sees of them.
abbrev pub view_of : {K : Type 0} → Inside K → View K
view_of m =
    record {
      settings = m.settings;
      kept = m.decoder.stream.kept;
      held = m.decoder.held;
      known = m.known;
      closed = m.closed;
    }
