use Rattle.std.proofs.Common.{rules}
use Rattle.pg_backend.proofs.playing.Playing.take_request.Goals as goal

pub returns-in-Drops : goal.returns-in-Drops
returns-in-Drops c = search rules
