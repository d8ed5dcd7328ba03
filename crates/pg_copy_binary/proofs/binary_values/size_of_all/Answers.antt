use Rattle.std.proofs.Common.{rules, ap, length, arith, option_copied}
use Rattle.std.specs.Iterator.{Drains, Yields}
use Rattle.pg_copy_rows.specs.Row.{Row}
use Rattle.pg_copy_binary.proofs.Given.{row_of, length-row_of, given_more, given_fewer, given_all}
use Rattle.pg_copy_binary.proofs.BinaryPuts.{sized_long}
use Rattle.pg_copy_binary.proofs.binary_values.size_of_all.Goals as goal

pub returns-in_err-size-clause-sized : goal.returns-in_err-size-clause-sized
returns-in_err-size-clause-sized g c row given =
    let l = c.loop-field in
    let yields : Yields g.I.Iterator.next_gives c.args.fields l.yielded l.field-iterator = search rules in
    let more = given_more g.I.Iterator.next_gives l.yielded row c.args.fields l.field-iterator c.in-Some.field c.next.new.self given yields c.in-Some.ensures.steps in
    rw c.from_residual.ensures (sized_long (row_of l.yielded) (option_copied c.in-Some.field) more.0 row c.in_err-size.ensures.size more.1)

pub overflow_add-size : goal.overflow_add-size
overflow_add-size g c =
    let l = c.loop-field in
    let row = c.requires.few in
    let yields : Yields g.I.Iterator.next_gives c.args.fields l.yielded l.field-iterator = search rules in
    let fewer = given_fewer g.I.Iterator.next_gives l.yielded row.0 c.args.fields l.field-iterator c.in-Some.field c.next.new.self row.1 yields c.in-Some.ensures.steps in
    omega (arith, l.invariant.2, fewer, row.2, c.in_ok-size.ensures.few)

pub returns-clause-sized : goal.returns-clause-sized
returns-clause-sized g c row given =
    let l = c.loop-field in
    let drains : Drains g.I.Iterator.next_gives c.args.fields l.yielded = search rules in
    let whole = given_all g.I.Iterator.next_gives l.yielded row c.args.fields given drains in
    rw whole at l.invariant.3

pub returns-clause-few : goal.returns-clause-few
returns-clause-few g c =
    let l = c.loop-field in
    let row = c.requires.few in
    let drains : Drains g.I.Iterator.next_gives c.args.fields l.yielded = search rules in
    let whole = given_all g.I.Iterator.next_gives l.yielded row.0 c.args.fields row.1 drains in
    omega (arith, l.invariant.2, ap (λ (r : Row). length r) whole, length-row_of l.yielded, row.2)
