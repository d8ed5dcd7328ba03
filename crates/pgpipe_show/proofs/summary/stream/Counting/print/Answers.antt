use Rattle.std.proofs.Common.{[], ◌∙◌, refl}
use Rattle.pgpipe_show.proofs.Counting.{all_sent}
use Rattle.pgpipe_show.proofs.summary.stream.Counting.print.Goals as goal

pub returns-in-Ok-send_all : goal.returns-in-Ok-send_all
returns-in-Ok-send_all g c =
    let p = c.in-Ok-send_all.ensures in
    (p.pieces, p.calls, all_sent g.K.Sink.takes g.K.Sink.failures c.as_slice.result.now c.args.sink.now c.send_all.new.sink p ∙ c.as_slice.ensures.value ∙ c.in-Ok.ensures)

pub returns-in-Ok : goal.returns-in-Ok
returns-in-Ok g c = (c.send_all.ensures.pieces, c.send_all.ensures.calls, tt)

pub returns : goal.returns
returns g c = ([], refl, tt)
