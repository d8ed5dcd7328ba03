use Rattle.pg_copy_text.proofs.TextFields.{fields-line}
use Rattle.pg_copy_text.proofs.laws.fields_are_line.Goals as goal

pub returns : goal.returns
returns c = record { line = fields-line }
