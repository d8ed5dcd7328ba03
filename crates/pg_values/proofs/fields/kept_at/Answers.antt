use Rattle.std.proofs.Common.{arith, ◌∙◌}
use Rattle.pg_values.proofs.Kept.{are_read, size_is, fields_made}
use Rattle.pg_values.proofs.fields.kept_at.Goals as goal

pub overflow_sub-bytes : goal.overflow_sub-bytes
overflow_sub-bytes c =
    let r = are_read c.args.bytes.now c.in_ok-lengths.lengths.items c.in_ok-lengths.rest.now (λ i. omega (arith, c.type_inv.bytes i)) c.in_ok-lengths.ensures in
    omega (arith, size_is c.args.bytes.now c.in_ok-lengths.lengths.items c.in_ok-lengths.rest.now r)

pub overflow_sub-bytes-2 : goal.overflow_sub-bytes-2
overflow_sub-bytes-2 c =
    let r = are_read c.args.bytes.now c.in_ok-lengths.lengths.items c.in_ok-lengths.rest.now (λ i. omega (arith, c.type_inv.bytes i)) c.in_ok-lengths.ensures in
    omega (arith, size_is c.args.bytes.now c.in_ok-lengths.lengths.items c.in_ok-lengths.rest.now r)

pub invariant_of-result : goal.invariant_of-result
invariant_of-result c =
    let r = are_read c.args.bytes.now c.in_ok-lengths.lengths.items c.in_ok-lengths.rest.now (λ i. omega (arith, c.type_inv.bytes i)) c.in_ok-lengths.ensures in
    (fields_made c.args.bytes.now c.in_ok-lengths.lengths.items c.in_ok-lengths.rest.now r c.in_ok-block.block.items c.requires.short (c.in_ok-block.ensures.items ∙ c.split_at.ensures.front)).1

pub returns : goal.returns
returns c =
    let r = are_read c.args.bytes.now c.in_ok-lengths.lengths.items c.in_ok-lengths.rest.now (λ i. omega (arith, c.type_inv.bytes i)) c.in_ok-lengths.ensures in
    (fields_made c.args.bytes.now c.in_ok-lengths.lengths.items c.in_ok-lengths.rest.now r c.in_ok-block.block.items c.requires.short (c.in_ok-block.ensures.items ∙ c.split_at.ensures.front)).0
