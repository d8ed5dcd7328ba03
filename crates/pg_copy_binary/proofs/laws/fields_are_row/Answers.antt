use Rattle.pg_copy_binary.proofs.BinaryFields.{fields-row}
use Rattle.pg_copy_binary.proofs.laws.fields_are_row.Goals as goal

pub returns : goal.returns
returns c = record { row = fields-row }
