use Rattle.std.proofs.Common.{◌≡◌, Some, refl, ap, ◌∙◌}
use Rattle.pgpipe_convert.specs.Private.Converting.{held_of}
use Rattle.pgpipe_convert.specs.Private.Values.{writing_by}
use Rattle.pg_copy.proofs.Given.{values_given}
use Rattle.pgpipe_convert.proofs.Puts.{held_written}
use Rattle.pgpipe_convert.proofs.copy_rows.put_held.Goals as goal

pub put_lent-requires : goal.put_lent-requires
put_lent-requires c κs =
    let row = c.in-Some.row in
    let held : c.in-Text.reader.held ≡ Some row = cc c.in-Some.ensures in
    ((refl, tt), ((tt, tt), ((tt, tt), (row, values_given row c.values.ensures, values_given row c.values-in-Some.ensures, c.requires.width row (ap held_of c.in-Text.is ∙ held)))))

pub returns-in-Some-clause-writes : goal.returns-in-Some-clause-writes
returns-in-Some-clause-writes c =
    let row = c.in-Some.row in
    let held : c.in-Text.reader.held ≡ Some row = cc c.in-Some.ensures in
    let lent = ap held_of c.in-Text.is ∙ held in
    held_written (writing_by c.args.to.now) (held_of c.args.reader.now) row c.args.out.now.items c.put_lent.result c.put_lent.new.out.items lent (c.put_lent.ensures.puts row (values_given row c.values.ensures) (values_given row c.values-in-Some.ensures) (c.requires.width row lent))

pub put_lent-requires-in-Some-held : goal.put_lent-requires-in-Some-held
put_lent-requires-in-Some-held c κs =
    let row = c.in-Some-held.row in
    let held : c.in-Binary.reader.held ≡ Some row = cc c.in-Some-held.ensures in
    ((refl, tt), ((tt, tt), ((tt, tt), (row, values_given row c.values-in-Some-held.ensures, values_given row c.values-in-Some-held-2.ensures, c.requires.width row (ap held_of c.in-Binary.is ∙ held)))))

pub returns-in-Some-held-clause-writes : goal.returns-in-Some-held-clause-writes
returns-in-Some-held-clause-writes c =
    let row = c.in-Some-held.row in
    let held : c.in-Binary.reader.held ≡ Some row = cc c.in-Some-held.ensures in
    let lent = ap held_of c.in-Binary.is ∙ held in
    held_written (writing_by c.args.to.now) (held_of c.args.reader.now) row c.args.out.now.items c.put_lent-in-Some-held.result c.put_lent-in-Some-held.new.out.items lent (c.put_lent-in-Some-held.ensures.puts row (values_given row c.values-in-Some-held.ensures) (values_given row c.values-in-Some-held-2.ensures) (c.requires.width row lent))
