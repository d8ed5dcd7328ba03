use Rattle.std.proofs.Common.{refl}
use Rattle.pg_drive.proofs.groups.await_copy.Goals as goal

pub returns-in_default : goal.returns-in_default
returns-in_default g c = (c.in_default.ensures.sends, c.lose.ensures)

pub returns : goal.returns
returns g c = (refl, c.in-Ok.ensures.sends.0, c.in-Ok.ensures.sends.1, refl)
