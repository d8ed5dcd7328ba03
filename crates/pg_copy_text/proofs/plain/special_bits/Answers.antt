use Rattle.pg_copy_text.proofs.BlockBits.{plain_of, or_clear}
use Rattle.pg_copy_text.proofs.plain.special_bits.Goals as goal

pub returns : goal.returns
returns c k low e =
    let two = or_clear _ _ k e in
    let one = or_clear _ _ k two.0 in
    plain_of _ _ (c.bits_up_to.ensures k low one.0) (c.bits_of.ensures k low one.1) (c.bits_of-2.ensures k low two.1)
