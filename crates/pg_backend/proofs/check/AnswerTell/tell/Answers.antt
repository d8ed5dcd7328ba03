use Rattle.std.proofs.Common.{◌++◌, map}
use Rattle.std.specs.List.{flat_map}
use Rattle.pg_backend.specs.Check.{part_messages}
use Rattle.pg_backend.specs.Replies.{aside_message, error_sent}
use Rattle.pg_backend.proofs.Machine.Tellings.{tells_both, each_told}
use Rattle.pg_backend.proofs.check.AnswerTell.tell.Goals as goal

pub returns : goal.returns
returns c =
    let a = c.args.self.now in
    let asides = rw c.as_slice.ensures at c.tell_all-asides.ensures in
    let parts = rw c.as_slice-2.ensures at c.tell_parts-so_far.ensures in
    rw (c.both.ensures, c.both-so_far.ensures) (tells_both (map aside_message a.before) (flat_map part_messages a.parts ++ error_sent a.error) _ _ _ _ _ (each_told aside_message a.before _ _ _ asides)
    (tells_both (flat_map part_messages a.parts) (error_sent a.error) _ _ _ _ _ parts c.tell_error.ensures))
