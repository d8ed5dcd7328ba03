use Rattle.std.proofs.Common.{arith, rules}
use Rattle.pg_wire.proofs.Packets.{signed_length, signed_code, judged_open, judged_whole}
use Rattle.pg_wire.proofs.first.judge.Goals as goal

pub returns-then-rest-len : goal.returns-then-rest-len
returns-then-rest-len c =
    judged_open c.args.rest.now c.in-Some-of.kind _ c.in-Some.len _ c.in-Some-code.code (signed_length c.args.rest.now c.in-Some.len (λ i. omega (arith, c.type_inv.rest i)) c.in-Some.ensures) c.in-Some.ensures (signed_code c.args.rest.now c.in-Some-code.code (λ i. omega (arith, c.type_inv.rest i)) c.in-Some-code.ensures) c.in-Some-code.ensures c.in-Some-of.ensures.code (search rules) (search rules) (search rules)

pub returns-else-rest-len : goal.returns-else-rest-len
returns-else-rest-len c =
    judged_whole c.args.rest.now c.in-Some-of.kind _ c.in-Some.len _ c.in-Some-code.code (signed_length c.args.rest.now c.in-Some.len (λ i. omega (arith, c.type_inv.rest i)) c.in-Some.ensures) c.in-Some.ensures (signed_code c.args.rest.now c.in-Some-code.code (λ i. omega (arith, c.type_inv.rest i)) c.in-Some-code.ensures) c.in-Some-code.ensures c.in-Some-of.ensures.code (search rules) (search rules) (search rules)
