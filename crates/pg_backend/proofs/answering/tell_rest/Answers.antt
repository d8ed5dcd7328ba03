use Rattle.pg_backend.proofs.Machine.Tellings.{tells_both, parts_told}
use Rattle.pg_backend.specs.Replies.{parts_sent, end_sent}
use Rattle.pg_backend.proofs.answering.tell_rest.Goals as goal

pub returns : goal.returns
returns c = rw c.both.ensures (tells_both (parts_sent c.args.parts.now) (end_sent c.args.answer.now.error c.args.answer.now) _ _ _ _ _ (parts_told c.args.parts.now _ _ _ c.tell_all-so_far.ensures) c.tell_end.ensures)
