use Rattle.std.proofs.Common.{rules}
use Rattle.pgpipe_cli.proofs.doing.do_show.Goals as goal

pub returns : goal.returns
returns g c =
    let e = c.show_as.ensures in (
      c.show_as.result,
      record { received = e.shown.0; sent = e.shown.1; was_received = e.shown.2; was_sent = e.shown.3; answers = e.shown.4; ended = e.ended; source_counts = e.source; sink_counts = e.sink },
      search rules,
    )
