use Rattle.pg_pair.proofs.Stored.{kept_within_backend, kept_within_client}
use Rattle.pg_pair.specs.Private.Inside.{view_of}
use Rattle.pg_pair.proofs.pair.Pair.waiting.Goals as goal

pub waiting-requires : goal.waiting-requires
waiting-requires g c = kept_within_backend (view_of c.self.inside) c.self.invariant.0

pub waiting-requires-in-ToClient : goal.waiting-requires-in-ToClient
waiting-requires-in-ToClient g c = kept_within_client (view_of c.self.inside) c.self.invariant.0
