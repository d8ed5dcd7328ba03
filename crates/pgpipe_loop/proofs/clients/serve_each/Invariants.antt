use Rattle.pgpipe_loop.proofs.Coming.{HasServed}
use Rattle.pgpipe_loop.proofs.clients.serve_each.Given as goal

abbrev pub invariant-loop : goal.invariant-loop
invariant-loop g l = HasServed g.L.Source.gives g.L.Sink.takes g.L.Source.has_ended g.L.Source.failures g.L.Sink.failures g.C.Clients.gives g.C.Clients.fails g.K.Sink.takes g.K.Sink.failures l.bytes l.count l.initial.clients l.initial.sink l.counter l.clients l.sink
