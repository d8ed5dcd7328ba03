use Rattle.std.specs.Int.{w32}
use Rattle.std.proofs.lemmas.Int.{to_z-of_z}
use Rattle.pg_message.proofs.frontend.cancel_request.Goals as goal

pub returns : goal.returns
returns c =
    let process = to_z-of_z w32 c.args.process c.ranges.process in
    let secret = to_z-of_z w32 c.args.secret c.ranges.secret in
    let h = rw (process, secret) at c.append_packet.ensures in h
