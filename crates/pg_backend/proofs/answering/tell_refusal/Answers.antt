use Rattle.std.proofs.Common.{◌++◌, [], ◌∷◌, map}
use Rattle.pg_wire.specs.message.BackMessage.TheVariants as back
use Rattle.pg_backend.specs.Replies.{aside_message, parts_sent, end_sent}
use Rattle.pg_backend.proofs.Definitions.CopyMessageSends.{joined}
use Rattle.pg_backend.proofs.Machine.Tellings.{tells_both}
use Rattle.pg_backend.proofs.answering.tell_refusal.Goals as goal

pub returns : goal.returns
returns c =
    let asides = map aside_message c.args.answer.now.before in
    let parts = parts_sent c.args.parts.now in
    let end = end_sent c.args.error.now c.args.answer.now in
    rw (c.both.ensures, joined asides parts (back.CopyIn c.args.head.now) end) (tells_both (asides ++ (parts ++ back.CopyIn c.args.head.now ∷ [])) end _ _ _ _ _ c.tell_opening-so_far.ensures c.tell_end.ensures)
