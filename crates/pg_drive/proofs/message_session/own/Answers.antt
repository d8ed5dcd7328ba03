use Rattle.pg_client.specs.View.{lent_row}
use Rattle.pg_drive.proofs.Owned.{owns_other}
use Rattle.pg_drive.proofs.message_session.own.Goals as goal

pub returns-in_default : goal.returns-in_default
returns-in_default c = owns_other c.args.lent (lent_row c.args.client.now) c.in_default.not-Row
