use Rattle.std.proofs.Common.{[], arith, ap, length, List, ℕ}
use Rattle.std.proofs.lemmas.Result.{err_from_is_err_and}
use Rattle.pgpipe_base.proofs.Pieces.{any_on_ok, puts_fails, sent_after}
use Rattle.pgpipe_base.proofs.outbox.Outbox.send_after.Goals as goal

pub returns-in_err-flush : goal.returns-in_err-flush
returns-in_err-flush g c =
    let p = err_from_is_err_and c.from_residual.result c.from_residual.ensures.1 in
    record { puts = rw p.1 (puts_fails g.K.Sink.takes g.K.Sink.failures {A = Unit {0}} {B = Unit {0}} _ _ [] _ p.0 _ _ c.args.text.now c.flush.new.self c.in_err-flush.ensures.puts); within = rw p.1 tt }

pub returns-clause-puts : goal.returns-clause-puts
returns-clause-puts g c = sent_after g.K.Sink.takes g.K.Sink.failures _ _ _ _ c.args.text.now c.send_all.result _ c.in_ok-flush.ensures.puts c.in_ok-flush.ensures.nothing_left c.send_all.ensures

pub returns-clause-within : goal.returns-clause-within
returns-clause-within g c = any_on_ok c.send_all.result (omega (arith, ap (λ (l : List ℕ). length l) c.in_ok-flush.ensures.nothing_left))
