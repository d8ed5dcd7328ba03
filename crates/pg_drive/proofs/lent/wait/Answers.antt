use Rattle.std.proofs.Common.{refl, sym, ◌∙◌}
use Rattle.pg_drive.proofs.lent.wait.Goals as goal

pub returns-in_default : goal.returns-in_default
returns-in_default g c = record { sent = c.in_default.ensures.sends; lost = c.lose.ensures }

pub returns-in-CopyingIn : goal.returns-in-CopyingIn
returns-in-CopyingIn g c =
    record { sent = c.in-Ok.ensures.sends.0; none_left = c.in-Ok.ensures.sends.1; client = refl; in_phase = sym c.phase.ensures ∙ c.in-CopyingIn.is }

pub returns-in_default-phase : goal.returns-in_default-phase
returns-in_default-phase g c =
    (c.phase.result, c.in_default-phase.not-CopyingIn, record { sent = c.in-Ok.ensures.sends.0; none_left = c.in-Ok.ensures.sends.1; client = refl; in_phase = sym c.phase.ensures })
