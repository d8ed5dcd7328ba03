use Rattle.std.proofs.Common.{refl, sym}
use Rattle.pg_copy_binary.proofs.Given.{values_given}
use Rattle.pg_copy_binary.proofs.binary_writer.write_binary_row.Goals as goal

pub write_binary_values-requires : goal.write_binary_values-requires
write_binary_values-requires c κs =
    let row = c.args.row.now in
    ((refl, tt), ((tt, tt), ((tt, tt), (row, values_given row c.iter.ensures, values_given row c.iter-2.ensures, sym c.len.ensures))))

pub returns : goal.returns
returns c =
    let row = c.args.row.now in
    c.write_binary_values.ensures row (values_given row c.iter.ensures) (values_given row c.iter-2.ensures) (sym c.len.ensures)
