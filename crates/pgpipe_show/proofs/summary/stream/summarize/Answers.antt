use Rattle.std.proofs.Common.{[], refl}
use Rattle.std.specs.List.{concat}
use Rattle.pgpipe_show.proofs.Counting.{answered}
use Rattle.pgpipe_show.proofs.summary.stream.summarize.Goals as goal

pub returns-in-Err : goal.returns-in-Err
returns-in-Err g c = ([], [], refl, refl, tt)

pub returns-in-Ok-print : goal.returns-in-Ok-print
returns-in-Ok-print g c =
    let run = c.run-stop.ensures in
    let print = c.in-Ok-print.ensures in
    let stands = rw c.in-Ok.ensures.side at run.2 in
    (run.0, print.0, run.1, print.1, rw c.answer.ensures (answered c.args.front (concat run.0) (concat print.0) c.run-stop.result c.run-stop.new.self.summary stands print.2))

pub returns : goal.returns
returns g c = (c.run-stop.ensures.0, c.print.ensures.0, c.run-stop.ensures.1, c.print.ensures.1, tt)
