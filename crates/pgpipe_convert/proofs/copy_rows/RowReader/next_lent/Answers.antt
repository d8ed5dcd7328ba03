use Rattle.std.proofs.Common.{true, false}
use Rattle.pg_copy.specs.Lent.{as_next}
use Rattle.pgpipe_convert.specs.declared.copy_rows.RowReader.TheVariants.{Text, Binary}
use Rattle.pgpipe_convert.specs.Private.Converting.{text_stop, binary_stop}
use Rattle.pgpipe_convert.proofs.Readers.{next_text, next_binary, finish_text, finish_binary, lent_by, none_by}
use Rattle.pgpipe_convert.proofs.copy_rows.RowReader.next_lent.Goals as goal

pub returns-then-at_end-clause-gives : goal.returns-then-at_end-clause-gives
returns-then-at_end-clause-gives c =
    let m = c.finish_lent in
    let new = m.new.self in
    let e = m.ensures in
    let read = rw c.in-Text.is at c.requires.read in
    rw (c.in-Text.is, c.if-at_end.true) (lent_by text_stop true (Text c.in-Text.reader) (Text new) new.held m.result c.map_err.result c.map_err.ensures.cases (finish_text c.in-Text.reader new (as_next m.result new.held) read.0 read.1 read.2 e.options e.columns e.read e.gives))

pub returns-else-at_end-clause-gives : goal.returns-else-at_end-clause-gives
returns-else-at_end-clause-gives c =
    let m = c.next_lent in
    let new = m.new.self in
    let e = m.ensures in
    let read = rw c.in-Text.is at c.requires.read in
    rw (c.in-Text.is, c.if-at_end.false) (lent_by text_stop false (Text c.in-Text.reader) (Text new) new.held m.result c.map_err-else-at_end.result c.map_err-else-at_end.ensures.cases (next_text c.in-Text.reader new (as_next m.result new.held) read.0 read.1 read.2 e.options e.columns e.ended e.read e.gives))

pub returns-then-at_end-2-clause-gives : goal.returns-then-at_end-2-clause-gives
returns-then-at_end-2-clause-gives c =
    let m = c.finish_lent-then-at_end-2 in
    let new = m.new.self in
    let e = m.ensures in
    let read = rw c.in-Binary.is at c.requires.read in
    rw (c.in-Binary.is, c.if-at_end-2.true) (lent_by binary_stop true (Binary c.in-Binary.reader) (Binary new) new.held m.result c.map_err-then-at_end-2.result c.map_err-then-at_end-2.ensures.cases (finish_binary c.in-Binary.reader new (as_next m.result new.held) read.0 read.1 read.2 e.same (λ none. e.trailer (none_by new.held m.result e.lends none)) e.read e.gives))

pub returns-else-at_end-2-clause-gives : goal.returns-else-at_end-2-clause-gives
returns-else-at_end-2-clause-gives c =
    let m = c.next_lent-else-at_end-2 in
    let new = m.new.self in
    let e = m.ensures in
    let read = rw c.in-Binary.is at c.requires.read in
    rw (c.in-Binary.is, c.if-at_end-2.false) (lent_by binary_stop false (Binary c.in-Binary.reader) (Binary new) new.held m.result c.map_err-else-at_end-2.result c.map_err-else-at_end-2.ensures.cases (next_binary c.in-Binary.reader new (as_next m.result new.held) read.0 read.1 read.2 e.same e.ended e.read e.gives))
