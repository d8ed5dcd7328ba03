-- Messages that were sent.
use Rattle.std.specs.Prelude.{ℕ, ◌≡◌, ◌++◌, List}
use Rattle.std.specs.List.{flat_map, AllByRecursion}
use Rattle.pg_wire.specs.message.BackMessage.{BackMessage}
use Rattle.pg_wire.specs.Backend.{backend}
use Rattle.pg_wire.specs.Direction.{spelling, HasSpelling}

-- The messages are spelled at the end of the buffer.
pub record AreSent (ms : List BackMessage) (old new : List ℕ) : Type 0 where
  pub spelled : AllByRecursion (HasSpelling backend) ms
  pub appended : new ≡ old ++ flat_map (spelling backend) ms
