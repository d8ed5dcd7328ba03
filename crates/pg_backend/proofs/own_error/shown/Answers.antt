use Rattle.std.proofs.Common.{sym}
use Rattle.std.proofs.lemmas.List.{take_all}
use Rattle.pg_backend.proofs.own_error.shown.Goals as goal

pub returns-else-reason-gt-SHOWN : goal.returns-else-reason-gt-SHOWN
returns-else-reason-gt-SHOWN c = sym (take_all 200 c.args.reason.now c.if-reason-gt-SHOWN.false)
