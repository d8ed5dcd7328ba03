use Rattle.pg_backend.proofs.Machine.Tellings.{tells_both, last, each_told, parts_told}
use Rattle.std.proofs.Common.{◌++◌, [], ◌∷◌, map}
use Rattle.pg_wire.specs.message.BackMessage.TheVariants as back
use Rattle.pg_backend.specs.Replies.{aside_message, parts_sent}
use Rattle.pg_backend.proofs.answering.tell_opening.Goals as goal

pub returns : goal.returns
returns c =
    let asides = rw c.as_slice.ensures at c.tell_all-asides.ensures in
    rw (c.both.ensures, c.both-so_far.ensures) (tells_both (map aside_message c.args.answer.now.before) (parts_sent c.args.parts.now ++ back.CopyIn c.args.head.now ∷ []) _ _ _ _ _ (each_told aside_message c.args.answer.now.before _ _ _ asides)
    (last (parts_sent c.args.parts.now) (back.CopyIn c.args.head.now) _ _ _ _ _ (parts_told c.args.parts.now _ _ _ c.tell_all-so_far.ensures) c.copy_in.ensures))
