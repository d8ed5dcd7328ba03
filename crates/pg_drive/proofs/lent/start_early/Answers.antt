use Rattle.std.proofs.Common.{refl, inl, inr}
use Rattle.pg_drive.proofs.Sessions.{same_connection}
use Rattle.pg_drive.proofs.lent.start_early.Goals as goal

pub returns-in-Ok : goal.returns-in-Ok
returns-in-Ok g c =
    inr (record { client = c.begin.new.client; put = c.begin.new.out.items; begun = c.in-Ok.ensures.begins; tells = c.drive_start.ensures })

pub returns-in-Err : goal.returns-in-Err
returns-in-Err g c =
    inl (record {
      reason = c.in-Err.refused;
      is_fault = refl;
      refused = c.in-Err.ensures.refused;
      same = same_connection c.args.link.now c.args.client.now c.begin.new.client c.args.out.now.items c.begin.new.out.items c.in-Err.ensures.err.0 c.in-Err.ensures.err.1;
    })
