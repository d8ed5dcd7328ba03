use Rattle.std.proofs.Common.{◌≡◌, ◌+◌, length, option_copied, rules, ap, ◌∙◌, ◌++◌, take}
use Rattle.std.specs.Iterator.{Drains, Yields}
use Rattle.std.specs.List.{flat_map}
use Rattle.pg_copy_rows.specs.Row.{Row}
use Rattle.pg_copy_binary.specs.Binary.{value}
use Rattle.pg_copy_binary.proofs.Given.{row_of, given_more, given_all}
use Rattle.pg_copy_binary.proofs.BinaryPuts.{next_fits, all_at}
use Rattle.pg_copy_binary.proofs.binary_values.put_values.Goals as goal

pub put_value-at-requires-clause-fits : goal.put_value-at-requires-clause-fits
put_value-at-requires-clause-fits g c =
    let l = c.loop-field in
    let row = c.requires.fits in
    let yields : Yields g.I.Iterator.next_gives c.args.fields l.yielded l.field-iterator = search rules in
    let more = given_more g.I.Iterator.next_gives l.yielded row.0 c.args.fields l.field-iterator c.in-Some.field c.next.new.self row.1 yields c.in-Some.ensures.steps in
    (next_fits c.args.place c.args.block.now (row_of l.yielded) (option_copied c.in-Some.field) more.0 row.0 l.at l.block l.invariant.2 more.1 row.2 row.3).0

pub put_value-at-requires-clause-short : goal.put_value-at-requires-clause-short
put_value-at-requires-clause-short g c =
    let l = c.loop-field in
    let row = c.requires.fits in
    let yields : Yields g.I.Iterator.next_gives c.args.fields l.yielded l.field-iterator = search rules in
    let more = given_more g.I.Iterator.next_gives l.yielded row.0 c.args.fields l.field-iterator c.in-Some.field c.next.new.self row.1 yields c.in-Some.ensures.steps in
    (next_fits c.args.place c.args.block.now (row_of l.yielded) (option_copied c.in-Some.field) more.0 row.0 l.at l.block l.invariant.2 more.1 row.2 row.3).1

pub returns : goal.returns
returns g c row given fits =
    let l = c.loop-field in
    let drains : Drains g.I.Iterator.next_gives c.args.fields l.yielded = search rules in
    let whole = given_all g.I.Iterator.next_gives l.yielded row c.args.fields given drains in
    let mine : c.args.place + length (flat_map value (row_of l.yielded)) ≡ length c.args.block.now = ap (λ (r : Row). c.args.place + length (flat_map value r)) whole ∙ fits in
    all_at c.args.place c.args.block.now (row_of l.yielded) l.at l.block l.invariant.2 mine ∙ ap (λ (r : Row). take c.args.place c.args.block.now ++ flat_map value r) whole
