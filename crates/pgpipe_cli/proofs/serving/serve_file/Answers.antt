use Rattle.std.proofs.Common.{inr, rules}
use Rattle.pgpipe_cli.proofs.Judging.{counted_so}
use Rattle.pgpipe_cli.proofs.serving.serve_file.Goals as goal

pub returns : goal.returns
returns g c =
    let served = counted_so g.L.Source.gives g.L.Sink.takes g.L.Source.has_ended g.L.Source.failures g.L.Sink.failures g.C.Clients.gives g.C.Clients.fails g.K.Sink.takes g.K.Sink.failures c.args.port _ _ c.args.clients.now c.args.sink.now c.serve_script.result c.serve_script.new.clients c.serve_script.new.sink c.in_ok-bytes.bytes.items c.in_ok-script.script c.most_clients-count.ensures (search rules) in
    inr (c.in_ok-bytes.bytes.items, search rules, inr (c.in_ok-script.script, search rules, served))
