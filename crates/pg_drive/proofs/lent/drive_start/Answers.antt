use Rattle.pg_drive.proofs.lent.drive_start.Goals as goal

pub returns : goal.returns
returns g c = record { came = c.drive_early-came.result; client = c.drive_early-came.new.client; driven = c.drive_early-came.ensures; tells = c.tell_start.ensures }
