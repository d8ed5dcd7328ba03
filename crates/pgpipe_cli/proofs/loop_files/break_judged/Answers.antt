use Rattle.std.proofs.Common.{Ok, rules}
use Rattle.pgpipe_cli.proofs.loop_files.break_judged.Goals as goal

pub break_everywhere-requires : goal.break_everywhere-requires
break_everywhere-requires g c = record { script = c.args.script.now; calls = c.requires.0; says = c.requires.1; checked = search rules; filled = c.requires.2 }

pub returns : goal.returns
returns g c =
    let broke = c.break_everywhere.ensures.broke in (
      Ok tt,
      search rules,
      (
        c.break_everywhere.result,
        record { sent = broke.0; was_sent = broke.1; answers = broke.2; sink_counts = c.break_everywhere.ensures.sink },
        c.break_result_of.ensures,
      ),
    )
