use Rattle.pg_backend.proofs.Machine.Tellings.{last}
use Rattle.pg_wire.specs.message.BackMessage.TheVariants as back
use Rattle.pg_backend.specs.Replies.{error_sent}
use Rattle.pg_backend.proofs.answering.tell_end.Goals as goal

pub returns : goal.returns
returns c = rw c.both.ensures (last (error_sent c.args.error.now) (back.Ready c.args.status) _ _ _ _ _ c.tell_error-so_far.ensures c.encode.ensures)
