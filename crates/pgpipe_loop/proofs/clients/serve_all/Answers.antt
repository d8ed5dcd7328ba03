use Rattle.std.proofs.Common.{◌≡◌, [], ◌∷◌, List, ℕ, Ok, rules, subst}
use Rattle.pgpipe_base.specs.Outbox.{Puts}
use Rattle.pgpipe_loop.specs.Lines.{port_row, text_lines}
use Rattle.pgpipe_loop.proofs.Coming.{after_port}
use Rattle.pgpipe_loop.proofs.clients.serve_all.Goals as goal

pub returns : goal.returns
returns g c =
    let said : c.as_slice.result.now ≡ text_lines (port_row c.args.port ∷ []) = search rules in
    let sent = subst (λ (t : List ℕ). Puts {A = Unit {0}} g.K.Sink.takes g.K.Sink.failures [] c.args.sink.now t (Ok tt) [] c.send_lines.new.sink) said c.in_ok-send_lines.ensures in
    after_port g.L.Source.gives g.L.Sink.takes g.L.Source.has_ended g.L.Source.failures g.L.Sink.failures g.C.Clients.gives g.C.Clients.fails g.K.Sink.takes g.K.Sink.failures c.args.bytes.now c.args.port c.args.count c.args.clients.now c.serve_each.new.clients c.args.sink.now c.send_lines.new.sink c.serve_each.new.sink c.serve_each.result sent c.serve_each.ensures
