use Rattle.pg_backend.proofs.Machine.Tellings.{tells_both, each_told}
use Rattle.std.proofs.Common.{◌++◌, map}
use Rattle.pg_backend.specs.Replies.{aside_message, parts_sent, end_sent}
use Rattle.pg_backend.proofs.answering.tell_whole.Goals as goal

pub returns : goal.returns
returns c =
    let asides = rw c.as_slice.ensures at c.tell_all-so_far.ensures in
    rw c.both.ensures (tells_both (map aside_message c.args.answer.now.before) (parts_sent c.args.parts.now ++ end_sent c.args.answer.now.error c.args.answer.now) _ _ _ _ _ (each_told aside_message c.args.answer.now.before _ _ _ asides) c.tell_rest.ensures)
