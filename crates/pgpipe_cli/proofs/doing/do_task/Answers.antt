use Rattle.std.proofs.Common.{refl}
use Rattle.pgpipe_cli.proofs.doing.do_task.Goals as goal

pub returns-in-Show : goal.returns-in-Show
returns-in-Show g c = rw c.in-Show.is c.do_showing.ensures

pub returns-in-Convert : goal.returns-in-Convert
returns-in-Convert g c = rw c.in-Convert.is c.do_convert.ensures

pub returns-in-Loop : goal.returns-in-Loop
returns-in-Loop g c = rw c.in-Loop.is (refl, c.do_loop.ensures)

pub returns : goal.returns
returns g c = rw c.in-Serve.is (refl, refl, refl)
