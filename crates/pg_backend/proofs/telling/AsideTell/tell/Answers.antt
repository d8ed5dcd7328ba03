use Rattle.std.specs.Int.{w32}
use Rattle.std.specs.Int.RustNames.{FitsSigned}
use Rattle.std.proofs.Common.{rules}
use Rattle.std.proofs.lemmas.Int.{to_z-of_z}
use Rattle.pg_backend.proofs.Machine.Tellings.{one}
use Rattle.pg_wire.specs.message.BackMessage.TheVariants as back
use Rattle.pg_backend.proofs.telling.AsideTell.tell.Goals as goal

pub returns-in-Notification : goal.returns-in-Notification
returns-in-Notification c =
    let fits : FitsSigned w32 c.in-Notification.process = search rules in
    let process = to_z-of_z w32 c.in-Notification.process fits in
    let h = rw (process, c.as_slice-in-Notification.ensures, c.as_slice-in-Notification-2.ensures) at c.notification.ensures in
    let m = back.Notification c.in-Notification.process c.in-Notification.channel c.in-Notification.payload in
    rw c.in-Notification.is (one m c.args.out.now.items c.notification.result c.notification.new.buf.items h)
