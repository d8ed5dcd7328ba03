use Rattle.pg_drive.proofs.groups.drive_on.Goals as goal

pub returns : goal.returns
returns g c = record { came = c.drive-came.result; client = c.drive-came.new.client; driven = c.drive-came.ensures; tells = c.tell_group.ensures }
