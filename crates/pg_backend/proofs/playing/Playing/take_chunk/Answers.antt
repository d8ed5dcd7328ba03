use Rattle.std.proofs.Common.{rules}
use Rattle.pg_backend.proofs.playing.Playing.take_chunk.Goals as goal

pub returns-then-refuses_at : goal.returns-then-refuses_at
returns-then-refuses_at c = search rules

pub returns : goal.returns
returns c = search rules
