use Rattle.pgpipe_loop.specs.RunLoop.{planned_events}
use Rattle.pgpipe_loop.proofs.Everywhere.{all_done, checked, limit_is}
use Rattle.pgpipe_loop.proofs.run_loop.everywhere.LoopFiles.left_by.Goals as goal

pub new-requires-clause-limit : goal.new-requires-clause-limit
new-requires-clause-limit g c = limit_is c.args.self.now c.in_ok-script.script c.in_ok-script.calls c.in_ok-script.ensures

pub new-requires-clause-checked : goal.new-requires-clause-checked
new-requires-clause-checked g c = checked c.args.self.now c.in_ok-script.script c.in_ok-script.calls c.requires c.in_ok-script.ensures

pub returns-in-Ok : goal.returns-in-Ok
returns-in-Ok g c =
    let done = all_done g.C.Carry.carries _ _ _ c.lines.new.sink c.new.result c.lines.new.self.pair c.lines.new.self.carrier_failed (planned_events c.args.cut c.in_ok-script.calls.lines) c.in-Ok.ensures in
    record {
      script = c.in_ok-script.script;
      calls = c.in_ok-script.calls;
      says = c.in_ok-script.ensures;
      begun = c.new.result;
      is_begun = c.new.ensures;
      rows = done.0;
      failed = c.lines.new.self.carrier_failed;
      happened = done.1;
    }
