use Rattle.std.proofs.Common.{refl, inl}
use Rattle.pg_copy_binary.proofs.BinaryHolds.{lends-at}
use Rattle.pg_copy_binary.proofs.binary_reader.BinaryReader.lend_last.Goals as goal

pub returns-in-Ok-Some : goal.returns-in-Ok-Some
returns-in-Ok-Some c =
    let found = rw c.in-Ok-Some.field-0-is at c.in-Ok-Some.ensures in
    let l = lends-at c.args.self.now c.find.new.self c.hold.new.self c.in-Ok-Some.place found c.hold.ensures in
    (l.0, c.in-Ok-Some.place, l.1, l.2)

pub returns-in-Err-Incomplete : goal.returns-in-Err-Incomplete
returns-in-Err-Incomplete c =
    inl (refl, c.find.new.self, rw c.in-Err-Incomplete.field-0-is at c.in-Err-Incomplete.ensures, c.stop.ensures)
