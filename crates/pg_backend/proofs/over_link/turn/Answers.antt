use Rattle.std.proofs.Common.{rules}
use Rattle.pg_backend.specs.OverLink.{Replies, Went, connected}
use Rattle.pg_backend.proofs.over_link.turn.Goals as goal

pub returns-in-Ok-true : goal.returns-in-Ok-true
returns-in-Ok-true g c =
    let replies : Replies g.L.Source.gives g.L.Sink.takes g.L.Source.has_ended g.L.Source.failures g.L.Sink.failures (connected c.args.link.now c.args.backend.now) c.step.new.out.items (connected c.send_reply.new.link c.send_reply.new.backend) = search rules in
    (Went c.step.new.out.items, replies)

pub returns : goal.returns
returns g c = search rules
