use Rattle.pg_copy_text.proofs.TextEscapes.{field-there, field-once}
use Rattle.pg_copy_text.proofs.TextSplit.{line-fields}
use Rattle.pg_copy_text.proofs.laws.one_value.Goals as goal

pub returns : goal.returns
returns c = record { there = field-there; one = field-once; of_line = line-fields }
