use Rattle.std.proofs.Common.{refl}
use Rattle.pg_drive.specs.Drive.{connected}
use Rattle.pg_drive.proofs.LentTurning.{hears_told}
use Rattle.pg_drive.proofs.lent.hear.Goals as goal

pub returns-in-Ok : goal.returns-in-Ok
returns-in-Ok g c =
    hears_told g.L.Sink.takes g.L.Sink.failures (connected c.args.link.now c.args.client.now c.args.out.now.items) c.in-Ok.heard c.next_lent.new.self c.next_lent.new.out.items _ _ c.in-Ok.ensures.takes c.tell.ensures

pub returns-in-Err : goal.returns-in-Err
returns-in-Err g c = record { client = c.next_lent.new.self; takes = c.in-Err.ensures.takes; lost = c.lose-loss.ensures; link = refl }
