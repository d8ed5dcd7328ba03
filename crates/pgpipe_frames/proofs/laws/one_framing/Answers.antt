use Rattle.std.proofs.Common.{sym, ◌∙◌}
use Rattle.pgpipe_frames.proofs.Framing.{one_framing}
use Rattle.pgpipe_frames.proofs.laws.one_framing.Goals as goal

pub returns : goal.returns
returns c = λ first bytes frames last rest frames' last' rest' a b. one_framing first rest rest' frames frames' last last' (sym a.whole ∙ b.whole) a.each b.each
