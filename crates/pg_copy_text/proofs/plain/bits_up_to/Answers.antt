use Rattle.std.proofs.Common.{leb}
use Rattle.std.proofs.lemmas.Bool.{leb-false}
use Rattle.pg_copy_text.proofs.BlockBits.{not_compared}
use Rattle.pg_copy_text.proofs.plain.bits_up_to.Goals as goal

pub returns : goal.returns
returns c k low e = leb-false _ _ (not_compared leb c.args.block c.args.most c.fits-block.0 k low e)
