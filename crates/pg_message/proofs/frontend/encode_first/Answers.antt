use Rattle.std.specs.Int.{w32}
use Rattle.std.specs.Int.RustNames.{FitsSigned}
use Rattle.std.proofs.Common.{rules}
use Rattle.std.proofs.lemmas.Int.{to_z-of_z}
use Rattle.pg_message.proofs.frontend.encode_first.Goals as goal

pub returns-in-Cancel : goal.returns-in-Cancel
returns-in-Cancel c =
    let p : FitsSigned w32 c.in-Cancel.process = search rules in
    let s : FitsSigned w32 c.in-Cancel.secret = search rules in
    let process = to_z-of_z w32 c.in-Cancel.process p in
    let secret = to_z-of_z w32 c.in-Cancel.secret s in
    let h = rw (process, secret) at c.cancel_request.ensures in
    rw c.in-Cancel.is h
