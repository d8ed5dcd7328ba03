use Rattle.std.proofs.Common.{ℕ, List, length, ap, length-drop, arith}
use Rattle.pg_wire.proofs.Sent.{from_place, sends_more}
use Rattle.pg_wire.proofs.sending.send_front.Goals as goal

pub loop-sent-preserved : goal.loop-sent-preserved
loop-sent-preserved g c = (
  omega (arith, c.in-Ok.ensures.bound, c.loop-sent.invariant.0, length-drop c.loop-sent.sent c.args.bytes.now, ap (λ (l : List ℕ). length l) (from_place c.loop-sent.sent c.args.bytes.now)),
  sends_more g.K.Sink.takes g.K.Sink.failures _ _ _ _ _ _ c.loop-sent.invariant.1 c.in-Ok.ensures.bytes c.in-Ok.ensures.counted,
)
