use Rattle.std.proofs.Common.{refl, inl, inr}
use Rattle.pg_drive.proofs.message_session.Session+L.next.Goals as goal

pub returns-in-Ok-clause-gives : goal.returns-in-Ok-clause-gives
returns-in-Ok-clause-gives g c = inl (c.in-Ok.lent, c.in-Ok.ensures.gives, c.own.ensures)

pub returns-in-Err-clause-gives : goal.returns-in-Err-clause-gives
returns-in-Err-clause-gives g c = inr (c.in-Err.fault, refl, c.in-Err.ensures.gives)
