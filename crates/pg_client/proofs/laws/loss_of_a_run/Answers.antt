use Rattle.pg_client.proofs.Keeping.Groups.{collecting_is_silent}
use Rattle.std.proofs.Common.{[], refl}
use Rattle.pg_client.specs.View.{loss_at}
use Rattle.pg_client.specs.Keeping.{collecting}
use Rattle.pg_client.proofs.Histories.Lifetime.{loses}
use Rattle.pg_client.proofs.Histories.Unread.{none_unread}
use Rattle.pg_client.proofs.laws.loss_of_a_run.Goals as goal

pub returns : goal.returns
returns c = λ h client r. loses collecting collecting_is_silent.agrees_as client (loss_at client.known.stand) refl [] h (none_unread collecting h client r)
