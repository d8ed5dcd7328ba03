use Rattle.std.proofs.Common.{length, length-append, ap, arith}
use Rattle.pgpipe_loop.proofs.serving.turn.Goals as goal
use Rattle.pg_backend.proofs.Growing.{log_grows}

pub lines_since-requires : goal.lines_since-requires
lines_since-requires g c =
    let grown = log_grows g.L.Source.gives g.L.Sink.takes g.L.Source.has_ended g.L.Source.failures g.L.Sink.failures 1 _ _ _ c.answer-answered.ensures in
    omega (arith, length-append c.args.backend.now.log grown.0, ap length grown.1, ap length c.log-decided.ensures, ap length c.log.ensures)
