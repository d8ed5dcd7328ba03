use Rattle.std.proofs.Common.{[]}
use Rattle.std.proofs.lemmas.Result.{err_from_is_err_and}
use Rattle.pgpipe_base.proofs.Pieces.{puts_then, puts_fails, puts_collected}
use Rattle.pgpipe_base.proofs.outbox.Outbox.put_within.Goals as goal

pub returns-in_err-make_room : goal.returns-in_err-make_room
returns-in_err-make_room g c =
    let p = err_from_is_err_and c.from_residual.result c.from_residual.ensures.1 in
    record { puts = rw p.1 (puts_fails g.K.Sink.takes g.K.Sink.failures {A = Unit {0}} {B = Unit {0}} _ _ [] _ p.0 _ _ c.args.text.now c.make_room.new.self c.in_err-make_room.ensures.puts); within = rw p.1 tt }

pub returns-clause-puts : goal.returns-clause-puts
returns-clause-puts g c = puts_then g.K.Sink.takes g.K.Sink.failures _ _ [] _ _ c.args.text.now _ _ _ c.in_ok-make_room.ensures.puts (puts_collected g.K.Sink.takes g.K.Sink.failures _ _ c.args.text.now _ c.put.ensures)
