use Rattle.pg_wire.proofs.Passwords.{answer_spelled}
use Rattle.pg_wire.proofs.laws.answer_is_spelled.Goals as goal

pub returns : goal.returns
returns c = answer_spelled
