use Rattle.std.proofs.Common.{rules, Ok}
use Rattle.pgpipe_cli.proofs.loop_files.run_judged.Goals as goal

pub returns-then-task : goal.returns-then-task
returns-then-task g c =
    let ran = c.trace_loop.ensures.ran in (
      Ok tt,
      search rules,
      (
        c.trace_loop.result,
        rw (c.if-task.true) (record { begun = ran.0; sent = ran.1; is_begun = ran.2; was_sent = ran.3; answers = ran.4; sink_counts = c.trace_loop.ensures.sink }),
        c.loop_result_of.ensures,
      ),
    )

pub returns : goal.returns
returns g c =
    let ran = c.run_loop.ensures.ran in (
      Ok tt,
      search rules,
      (
        c.run_loop.result,
        rw (c.if-task.false) (record { begun = ran.0; sent = ran.1; is_begun = ran.2; was_sent = ran.3; answers = ran.4; sink_counts = c.run_loop.ensures.sink }),
        c.loop_result_of-2.ensures,
      ),
    )
