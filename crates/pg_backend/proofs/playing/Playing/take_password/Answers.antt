use Rattle.std.proofs.Common.{rules}
use Rattle.pg_backend.proofs.playing.Playing.take_password.Goals as goal

pub returns-then-eq : goal.returns-then-eq
returns-then-eq c = search rules
