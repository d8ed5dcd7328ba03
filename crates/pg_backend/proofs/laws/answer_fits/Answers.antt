use Rattle.pg_backend.proofs.Replying.RepliesFit.{answer_fits}
use Rattle.pg_backend.proofs.laws.answer_fits.Goals as goal

pub returns : goal.returns
returns c = answer_fits
