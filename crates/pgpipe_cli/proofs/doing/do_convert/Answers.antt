use Rattle.std.proofs.Common.{Ok, Err, rules}
use Rattle.pgpipe_cli.proofs.doing.do_convert.Goals as goal

pub returns-in_err-options : goal.returns-in_err-options
returns-in_err-options g c = (Err c.in_err-options.field-0.0, search rules, search rules)

pub returns : goal.returns
returns g c =
    let e = c.convert_with.ensures in (
      Ok c.in_ok-options.options,
      search rules,
      (
        c.convert_with.result,
        record { received = e.converted.0; sent = e.converted.1; was_received = e.converted.2; was_sent = e.converted.3; answers = e.converted.4; ended = e.ended; source_counts = e.source; sink_counts = e.sink },
        search rules,
      ),
    )
