use Rattle.pg_wire.proofs.Segments.{fits_once}
use Rattle.pg_wire.proofs.laws.one_outcome.Goals as goal

pub returns : goal.returns
returns c = fits_once
