use Rattle.pg_wire.proofs.Packets.{next_begun}
use Rattle.pg_wire.proofs.first.FirstDecoder.next.Goals as goal

pub returns-in-Ok-Some-clause-begun : goal.returns-in-Ok-Some-clause-begun
returns-in-Ok-Some-clause-begun c =
    let found = rw c.in-Ok-Some.field-0-is at c.in-Ok-Some.ensures in
    next_begun c.args.self.now c.as_slice.result.now c.self.inside.buffer.items c.self.inside.ended c.self.inside.fault c.in-Ok-Some.packet c.in-Ok-Some.len c.drop_first.new.buffer.items c.is_last-self-inside.result c.self.view_is c.if-self.false c.in_default.is found c.as_slice.ensures c.drop_first.ensures c.is_last-self-inside.ensures
