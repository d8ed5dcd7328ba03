use Rattle.pg_backend.proofs.Replying.RepliesFit.{reply_begins}
use Rattle.pg_backend.proofs.laws.reply_begins.Goals as goal

pub returns : goal.returns
returns c = reply_begins
