use Rattle.pg_backend.proofs.Replying.OneCopyEach.{one_copy_each}
use Rattle.pg_backend.proofs.laws.one_copy_each.Goals as goal

pub returns : goal.returns
returns c = one_copy_each
