use Rattle.pg_backend.proofs.Replying.RepliesFit.{reply_fits}
use Rattle.pg_backend.proofs.laws.reply_fits.Goals as goal

pub returns : goal.returns
returns c = reply_fits
