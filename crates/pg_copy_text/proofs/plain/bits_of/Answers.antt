use Rattle.std.proofs.Common.{eqb}
use Rattle.std.proofs.lemmas.Bool.{eqb-false}
use Rattle.pg_copy_text.proofs.BlockBits.{not_compared}
use Rattle.pg_copy_text.proofs.plain.bits_of.Goals as goal

pub returns : goal.returns
returns c k low e = eqb-false _ _ (not_compared eqb c.args.block c.args.byte c.fits-block.0 k low e)
