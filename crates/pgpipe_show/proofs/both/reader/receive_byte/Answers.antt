use Rattle.std.proofs.Common.{◌≡◌, [], take, refl, rules}
use Rattle.pgpipe_show.proofs.both.reader.receive_byte.Goals as goal

pub returns-in-Ok-eq0 : goal.returns-in-Ok-eq0
returns-in-Ok-eq0 g c =
    let is_ended : g.S.Source.has_ended c.receive.new.self = search rules in
    let none : take c.in-Ok-eq0.field-0 c.receive.new.into ≡ [] = rw c.in-Ok-eq0.field-0-test refl in
    (take c.in-Ok-eq0.field-0 c.receive.new.into, c.in-Ok-eq0.ensures.bytes, (is_ended, none, c.in-Ok-eq0.ensures.counted))

pub returns-in-Err : goal.returns-in-Err
returns-in-Err g c = ([], c.in-Err.ensures.bytes, c.in-Err.ensures.counted)
