use Rattle.std.proofs.Common.{rules, ◌≡◌, ◌<◌, ◌≤◌, length, sym, subst, ◌∙◌, arith}
use Rattle.std.specs.Iterator.{Drains, Yields}
use Rattle.std.specs.Option.{option_copied}
use Rattle.std.proofs.lemmas.Result.{err_from_is_err_and}
use Rattle.pg_copy.specs.Row.{Row}
use Rattle.pg_copy.specs.Text.{written_row, text_fault}
use Rattle.pgpipe_convert.specs.Private.Values.{WritesInPart}
use Rattle.pg_copy.proofs.Given.{row_of, length-row_of, given_more, given_fewer, given_all}
use Rattle.pgpipe_convert.proofs.Lent.{line_off, line_faulty}
use Rattle.pgpipe_convert.proofs.values.put_fields.Goals as goal

pub put_field-requires-clause-few : goal.put_field-requires-clause-few
put_field-requires-clause-few g c =
    let l = c.loop-value in
    let row = c.requires.few in
    let yields : Yields g.I.Iterator.next_gives c.args.values l.yielded l.value-iterator = search rules in
    let fewer = given_fewer g.I.Iterator.next_gives l.yielded row.0 c.args.values l.value-iterator c.in-Some.value c.next.new.self row.1 yields c.in-Some.ensures.steps in
    omega (arith, l.invariant.3.few, length-row_of l.yielded, fewer, row.2)

pub overflow_add-before : goal.overflow_add-before
overflow_add-before g c =
    let l = c.loop-value in
    let row = c.requires.few in
    let yields : Yields g.I.Iterator.next_gives c.args.values l.yielded l.value-iterator = search rules in
    let fewer = given_fewer g.I.Iterator.next_gives l.yielded row.0 c.args.values l.value-iterator c.in-Some.value c.next.new.self row.1 yields c.in-Some.ensures.steps in
    omega (arith, l.invariant.2, fewer, row.2)

pub returns-in_err-so_far-clause-puts : goal.returns-in_err-so_far-clause-puts
returns-in_err-so_far-clause-puts g c row given some few =
    let l = c.loop-value in
    let o = c.args.options.now in
    let start = c.args.out.now.items in
    let p = err_from_is_err_and c.from_residual.result c.from_residual.ensures.1 in
    let yields : Yields g.I.Iterator.next_gives c.args.values l.yielded l.value-iterator = search rules in
    let more = given_more g.I.Iterator.next_gives l.yielded row c.args.values l.value-iterator c.in-Some.value c.next.new.self given yields c.in-Some.ensures.steps in
    let s = line_off o (row_of l.yielded) start l.so_far c.put_off-so_far.result l.writer l.out.items c.put_off-so_far.ensures l.invariant.3 in
    let width : length (row_of l.yielded) ≡ l.before = length-row_of l.yielded ∙ sym l.invariant.2 in
    rw (p.1, p.2) (line_faulty o (row_of l.yielded) (option_copied c.in-Some.value) more.0 row start c.put_field.new.out.items c.in_err-so_far.field-0.0 c.put_off-so_far.result l.writer c.put_field.new.writer l.out.items s (c.in_err-so_far.ensures.goes_on (row_of l.yielded) start width s) more.1 some few)

pub returns-clause-puts : goal.returns-clause-puts
returns-clause-puts g c row given some few =
    let l = c.loop-value in
    let o = c.args.options.now in
    let start = c.args.out.now.items in
    let drains : Drains g.I.Iterator.next_gives c.args.values l.yielded = search rules in
    let whole = given_all g.I.Iterator.next_gives l.yielded row c.args.values given drains in
    subst (λ (x : Row). WritesInPart (text_fault o x) (written_row o x) start c.end_line.result c.end_line.new.out.items) whole
    (c.end_line.ensures.ends o (row_of l.yielded) start (subst (λ (x : Row). 0 < length x) (sym whole) some) (subst (λ (x : Row). length x ≤ 32767) (sym whole) few) l.invariant.3)
