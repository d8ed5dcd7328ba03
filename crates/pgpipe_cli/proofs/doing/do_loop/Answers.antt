use Rattle.std.proofs.Common.{refl}
use Rattle.pgpipe_cli.proofs.doing.do_loop.Goals as goal

pub returns-then-not-task : goal.returns-then-not-task
returns-then-not-task g c = rw c.if-not-task.true c.run_files.ensures

pub returns-then-task : goal.returns-then-task
returns-then-task g c = rw (c.if-not-task.false, c.if-task.true) (refl, refl)

pub returns-then-task-2 : goal.returns-then-task-2
returns-then-task-2 g c = rw (c.if-not-task.false, c.if-task.false, c.if-task-2.true) (refl, refl)

pub returns : goal.returns
returns g c = rw (c.if-not-task.false, c.if-task.false, c.if-task-2.false) c.break_files.ensures
