use Rattle.std.proofs.Common.{refl}
use Rattle.pg_drive.proofs.groups.take_group.Goals as goal

pub returns-in-Some : goal.returns-in-Some
returns-in-Some c = λ some. record { group = c.in-Some.group; is_group = refl; oldest = c.in-Some.ensures.some.0; others = c.in-Some.ensures.some.1; history = c.in-Some.ensures.history }

pub returns-in-None : goal.returns-in-None
returns-in-None c = λ some. absurd (some c.in-None.ensures.none.0)
