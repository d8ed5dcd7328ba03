use Rattle.std.proofs.Common.{◌≡◌, arith}
use Rattle.std.proofs.lemmas.Result.{err_from_is_err_and}
use Rattle.pgpipe_loop.proofs.Coming.{all_served, next_fails, served_more, served_none}
use Rattle.pgpipe_loop.proofs.clients.serve_each.Goals as goal

pub loop-init : goal.loop-init
loop-init g c = served_none g.L.Source.gives g.L.Sink.takes g.L.Source.has_ended g.L.Source.failures g.L.Sink.failures g.C.Clients.gives g.C.Clients.fails g.K.Sink.takes g.K.Sink.failures c.args.bytes.now c.args.count c.args.clients.now c.args.sink.now

pub returns-in_err-serve_next : goal.returns-in_err-serve_next
returns-in_err-serve_next g c =
    let p = err_from_is_err_and c.from_residual.result c.from_residual.ensures.1 in
    rw (p.1, p.2) (next_fails g.L.Source.gives g.L.Sink.takes g.L.Source.has_ended g.L.Source.failures g.L.Sink.failures g.C.Clients.gives g.C.Clients.fails g.K.Sink.takes g.K.Sink.failures c.args.bytes.now c.args.count c.args.clients.now c.args.sink.now c.loop.counter c.loop.clients c.serve_next.new.clients c.loop.sink c.serve_next.new.sink c.in_err-serve_next.field-0.0 c.loop-test.true c.loop.invariant c.in_err-serve_next.ensures)

pub loop-preserved : goal.loop-preserved
loop-preserved g c =
    served_more g.L.Source.gives g.L.Sink.takes g.L.Source.has_ended g.L.Source.failures g.L.Sink.failures g.C.Clients.gives g.C.Clients.fails g.K.Sink.takes g.K.Sink.failures c.args.bytes.now c.args.count c.args.clients.now c.args.sink.now c.loop.counter c.loop.clients c.serve_next.new.clients c.loop.sink c.serve_next.new.sink c.loop.invariant c.in_ok-serve_next.ensures

pub returns : goal.returns
returns g c =
    let all : c.loop.counter ≡ c.args.count = omega (arith, c.loop-test.false, c.loop.auto.counter-end) in
    all_served g.L.Source.gives g.L.Sink.takes g.L.Source.has_ended g.L.Source.failures g.L.Sink.failures g.C.Clients.gives g.C.Clients.fails g.K.Sink.takes g.K.Sink.failures c.args.bytes.now c.args.count c.args.clients.now c.args.sink.now c.loop.counter c.loop.clients c.loop.sink all c.loop.invariant
