use Rattle.pg_backend.proofs.Definitions.InputGrows.{transcript_grows}
use Rattle.pg_backend.proofs.laws.transcript_grows.Goals as goal

pub returns : goal.returns
returns c = transcript_grows
