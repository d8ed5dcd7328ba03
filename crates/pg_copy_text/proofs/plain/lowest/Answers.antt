use Rattle.pg_copy_text.proofs.BlockBits.{or_clear, marked}
use Rattle.pg_copy_text.proofs.plain.lowest.Goals as goal

pub returns-clause-within : goal.returns-clause-within
returns-clause-within c = (marked c.args.bits c.args.mark c.args.end c.ranges.bits.fits c.ranges.mark.fits c.requires).0

pub returns-clause-below : goal.returns-clause-below
returns-clause-below c k l = (or_clear c.args.bits c.args.mark k ((marked c.args.bits c.args.mark c.args.end c.ranges.bits.fits c.ranges.mark.fits c.requires).1 k l)).0
