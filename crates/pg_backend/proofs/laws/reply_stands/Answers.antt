use Rattle.pg_backend.proofs.Definitions.DecidedStays.{reply_more}
use Rattle.pg_backend.proofs.laws.reply_stands.Goals as goal

pub returns : goal.returns
returns c = reply_more
