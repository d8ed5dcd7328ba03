use Rattle.std.proofs.Common.{◌≡◌, ◌++◌, ℤ, OnOk, codes, subst, to_z, of_z, w32}
use Rattle.std.proofs.lemmas.Int.{to_z-of_z}
use Rattle.pgpipe_texts.specs.Backend.{notification_text}
use Rattle.pgpipe_texts.proofs.Texts.{then_put}
use Rattle.pgpipe_texts.proofs.backend.put_notification.Goals as goal

pub returns : goal.returns
returns c =
    let process : to_z w32 (of_z w32 c.args.process) ≡ c.args.process = to_z-of_z w32 c.args.process c.ranges.process in
    let raised : OnOk c.put_raised.result (c.put_raised.new.line.items ≡ c.put_name.new.line.items ++ notification_text c.args.process c.args.channel.now c.args.payload.now) = subst (λ (p : ℤ). OnOk c.put_raised.result (c.put_raised.new.line.items ≡ c.put_name.new.line.items ++ notification_text p c.args.channel.now c.args.payload.now)) process c.put_raised.ensures in
    then_put c.put_raised.result c.args.line.now.items c.put_name.new.line.items c.put_raised.new.line.items (codes "NotificationResponse") (notification_text c.args.process c.args.channel.now c.args.payload.now) c.in_ok-put_name.ensures raised
