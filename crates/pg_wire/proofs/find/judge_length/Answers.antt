use Rattle.std.proofs.Common.{arith}
use Rattle.std.proofs.lemmas.Int.{ints}
use Rattle.pg_wire.proofs.Rests.{signed_same, judged_open}
use Rattle.pg_wire.proofs.find.judge_length.Goals as goal

pub returns-then-rest-len : goal.returns-then-rest-len
returns-then-rest-len g c =
    let rest = c.args.rest.now in
    let same = signed_same rest c.args.tag c.args.len (λ i. omega (arith, c.type_inv.rest i)) c.requires.head in
    judged_open g.M.Message.direction c.args.limit rest c.args.tag _ c.args.len same c.requires.head c.requires.known (omega (arith, ints, c.if-len-lt4.false)) (omega (arith, ints, c.if-len-limit.false)) c.if-rest-len.true
