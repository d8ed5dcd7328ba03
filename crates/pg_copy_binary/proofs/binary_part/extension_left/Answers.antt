use Rattle.std.proofs.Common.{◌≡◌, ℕ, ◌-◌, List, length, Ok, arith}
use Rattle.pg_copy_binary.proofs.BinaryHeads.{fixed-low, head-open}
use Rattle.pg_copy_binary.proofs.binary_part.extension_left.Goals as goal

pub overflow_cast-result : goal.overflow_cast-result
overflow_cast-result c =
    let n : ℕ × List ℕ = (c.in-Ok.len, c.in-Ok.rest.now) in
    omega (arith, (head-open c.args.bytes.now (Ok n) c.requires c.in-Ok.ensures).1, fixed-low c.args.bytes.now n c.in-Ok.ensures)

pub overflow_sub-result : goal.overflow_sub-result
overflow_sub-result c = omega (arith, (head-open c.args.bytes.now (Ok (c.in-Ok.len, c.in-Ok.rest.now)) c.requires c.in-Ok.ensures).1)

pub returns-in-Ok-clause-some : goal.returns-in-Ok-clause-some
returns-in-Ok-clause-some c = λ n e.
    let is : c.in-Ok.len - length c.in-Ok.rest.now ≡ n = cc in
    omega (arith, is, (head-open c.args.bytes.now (Ok (c.in-Ok.len, c.in-Ok.rest.now)) c.requires c.in-Ok.ensures).1)
