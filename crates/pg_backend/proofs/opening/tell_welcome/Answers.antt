use Rattle.std.proofs.Common.{◌∷◌, ◌++◌, map}
use Rattle.pg_wire.specs.message.BackMessage.TheVariants as back
use Rattle.pg_wire.specs.value.Status.TheVariants.{Idle}
use Rattle.pg_backend.specs.Opening.{pair_message, key_messages}
use Rattle.pg_backend.proofs.Machine.Tellings.{first, tells_both, last, each_told}
use Rattle.pg_backend.proofs.opening.tell_welcome.Goals as goal

pub returns : goal.returns
returns c =
    let told = rw c.as_slice.ensures at c.tell_all.ensures in
    let pairs = map pair_message c.args.script.now.pairs in
    let key = key_messages c.args.script.now.key in
    rw (c.both.ensures, c.both-so_far-2.ensures, c.both-so_far.ensures) (last (back.AuthOk ∷ (pairs ++ key)) (back.Ready Idle) c.args.out.now.items c.tell_key.new.out.items c.encode.new.buf.items _ c.encode.result
    (tells_both (back.AuthOk ∷ pairs) key c.args.out.now.items c.tell_all.new.out.items c.tell_key.new.out.items _ c.tell_key.result
    (first back.AuthOk pairs c.args.out.now.items c.encode-so_far.new.buf.items c.tell_all.new.out.items c.encode-so_far.result c.tell_all.result c.encode-so_far.ensures (each_told pair_message c.args.script.now.pairs _ _ _ told))
    c.tell_key.ensures)
    c.encode.ensures)
