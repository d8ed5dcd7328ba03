use Rattle.pgpipe_show.proofs.OneOrder.{one_order}
use Rattle.pgpipe_show.proofs.laws.one_order.Goals as goal

pub returns : goal.returns
returns c = one_order
