use Rattle.pg_copy_binary.proofs.BinaryHistory.{waits-part}
use Rattle.pg_copy_binary.proofs.BinaryHolds.{some-takes}
use Rattle.pg_copy_binary.proofs.binary_reader.BinaryReader.read.Goals as goal

pub returns-in-Ok : goal.returns-in-Ok
returns-in-Ok c =
    let found = rw c.in-Ok-Some.field-0-is at c.in-Ok-Some.ensures in
    some-takes c.args.self.now c.find.new.self c.hold.new.self c.let_go.new.self c.in-Ok-Some.place c.in-Ok.row found.1 c.in-Ok.ensures (c.hold.ensures c.in-Ok.row c.in-Ok.ensures) c.let_go.ensures

pub returns-in-Err-copy_row : goal.returns-in-Err-copy_row
returns-in-Err-copy_row c =
    let found = rw c.in-Ok-Some.field-0-is at c.in-Ok-Some.ensures in
    (found.1, waits-part c.args.self.now found.0.0 _ found.0.1.part)
