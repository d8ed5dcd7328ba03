use Rattle.std.proofs.Common.{rules, append_assoc}
use Rattle.std.proofs.lemmas.Result.{IfOk-equal}
use Rattle.pg_codec.proofs.field.ColumnField.write.Goals as goal

pub returns-clause-added : goal.returns-clause-added
returns-clause-added c = search (rules, IfOk-equal, append_assoc)
