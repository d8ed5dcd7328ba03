-- Events whose rows are owned.
use Rattle.std.proofs.Common.{◌≡◌, Option, Ok, refl}
use Rattle.pg_client.specs.Collected.{RowValues}
use Rattle.pg_drive.specs.declared.event.Event.{Event}
use Rattle.pg_drive.specs.declared.event.Event.TheVariants as event
use Rattle.pg_drive.specs.Lent.{Owns}

-- an event that isn't a row is answered as it is
pub owns_other : (lent : Event) (held : Option RowValues) → (lent ≡ event.Row → ⊥) → Owns lent held (Ok lent)
owns_other event.Row held other = absurd (other refl)
owns_other (event.Message m) held other = refl
owns_other (event.Settled request status) held other = refl
owns_other event.CopyIn held other = refl
