use Rattle.pg_backend.proofs.Machine.Tellings.{first}
use Rattle.std.proofs.Common.{◌++◌}
use Rattle.pg_wire.specs.message.BackMessage.TheVariants as back
use Rattle.pg_backend.specs.Replies.{parts_sent, end_sent}
use Rattle.pg_backend.proofs.answering.tell_completion.Goals as goal

pub returns : goal.returns
returns c = rw c.both.ensures (first (back.CommandComplete c.args.tag.now) (parts_sent c.args.parts.now ++ end_sent c.args.answer.now.error c.args.answer.now) c.args.out.now.items _ _ c.command_complete-so_far.result _ c.command_complete-so_far.ensures c.tell_rest.ensures)
