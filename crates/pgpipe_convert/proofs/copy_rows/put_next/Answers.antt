use Rattle.std.proofs.Common.{inl, refl}
use Rattle.pgpipe_convert.specs.Private.Converting.{held_of}
use Rattle.pgpipe_convert.specs.Private.Values.{writing_by}
use Rattle.pgpipe_convert.proofs.Puts.{lent_puts, lent_reads_on, none_lent}
use Rattle.pgpipe_convert.proofs.Widths.{row_width}
use Rattle.pgpipe_convert.proofs.copy_rows.put_next.Goals as goal

pub returns-in-Ok-true-clause-puts : goal.returns-in-Ok-true-clause-puts
returns-in-Ok-true-clause-puts c =
    let new = c.next_lent.new.self in
    let e = c.in-Ok-true.ensures in
    lent_puts c.args.at_end (writing_by c.args.to.now) c.args.reader.now new (held_of new) c.in-Ok-true.field-0 c.args.out.now.items c.put_held.result c.put_held.new.out.items c.in-Ok-true.field-0-test e.lends e.gives c.put_held.ensures.writes

pub returns-in-Ok-false-clause-puts : goal.returns-in-Ok-false-clause-puts
returns-in-Ok-false-clause-puts c =
    let new = c.next_lent.new.self in
    none_lent c.args.at_end (writing_by c.args.to.now) c.args.reader.now new (held_of new) c.in-Ok-false.field-0 c.args.out.now.items c.in-Ok-false.field-0-test c.in-Ok-false.ensures.gives

pub returns-in-Err-clause-puts : goal.returns-in-Err-clause-puts
returns-in-Err-clause-puts c = inl (c.in-Err.ensures.gives, refl)

pub put_held-requires : goal.put_held-requires
put_held-requires c =
    let read = c.requires.read in
    let old = c.args.reader.now in
    let new = c.next_lent.new.self in
    record { width = λ row held. row_width c.args.at_end old row new c.args.to.now.columns read.0 read.1 c.requires.width read.2 (lent_reads_on c.args.at_end old new (held_of new) c.in-Ok-true.field-0 row c.in-Ok-true.field-0-test held c.in-Ok-true.ensures.gives) }
