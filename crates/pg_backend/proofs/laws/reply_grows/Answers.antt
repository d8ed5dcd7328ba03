use Rattle.pg_backend.proofs.Definitions.DecidedStays.{reply_grows}
use Rattle.pg_backend.proofs.laws.reply_grows.Goals as goal

pub returns : goal.returns
returns c = reply_grows
