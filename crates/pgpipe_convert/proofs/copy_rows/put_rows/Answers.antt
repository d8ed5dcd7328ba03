use Rattle.std.proofs.Common.{Bool, Ok, Err, refl, sym, subst, ◌++◌, ◌∙◌}
use Rattle.std.proofs.lemmas.Result.{err_from_is_err_and}
use Rattle.pgpipe_convert.specs.Private.Converting.{file_by, HasWidth, PutsNext}
use Rattle.pgpipe_convert.specs.Private.Values.{RowWriting, writing_by}
use Rattle.pgpipe_convert.proofs.Growing.{fewer_left, grows_none, grows_more, rows_end, next_stops, send_stops}
use Rattle.pgpipe_convert.proofs.Widths.{same_width}
use Rattle.pgpipe_convert.proofs.copy_rows.put_rows.Goals as goal

pub put_next-requires-clause-width : goal.put_next-requires-clause-width
put_next-requires-clause-width g c =
    let l = c.loop-out in
    subst (λ (w : RowWriting). HasWidth (file_by l.reader) w.columns) (sym l.invariant.0) (same_width (file_by c.args.reader.now) (file_by l.reader) c.args.to.now.columns l.invariant.1.goes_on.same c.requires.width)

pub loop-out-init : goal.loop-out-init
loop-out-init g c = (refl, grows_none g.K.Sink.takes g.K.Sink.failures c.args.at_end (writing_by c.args.to.now) c.args.reader.now c.args.out.now.items c.args.sink.now c.requires.begun)

pub returns-in_err-put_next-clause-puts : goal.returns-in_err-put_next-clause-puts
returns-in_err-put_next-clause-puts g c =
    let p = err_from_is_err_and c.from_residual.result c.from_residual.ensures.1 in
    let l = c.loop-out in
    rw (p.1, p.2) (next_stops g.K.Sink.takes g.K.Sink.failures c.args.at_end (writing_by c.args.to.now) c.args.reader.now c.args.out.now.items c.args.sink.now l.reader l.out.items l.sink c.put_next.new.reader c.in_err-put_next.field-0.0 c.put_next.new.out.items c.requires.begun l.invariant.1 (subst (λ (w : RowWriting). PutsNext c.args.at_end (writing_by w) l.reader l.out.items (Err c.in_err-put_next.field-0.0) c.put_next.new.reader c.put_next.new.out.items) l.invariant.0 c.in_err-put_next.ensures.puts))

pub returns-in_err-send_much-clause-puts : goal.returns-in_err-send_much-clause-puts
returns-in_err-send_much-clause-puts g c =
    let p = err_from_is_err_and c.from_residual-in_err-send_much.result c.from_residual-in_err-send_much.ensures.1 in
    let l = c.loop-out in
    let n = subst (λ (b : Bool). PutsNext c.args.at_end (writing_by c.args.to.now) l.reader l.out.items (Ok b) c.put_next.new.reader c.put_next.new.out.items) c.if-branch.true (subst (λ (w : RowWriting). PutsNext c.args.at_end (writing_by w) l.reader l.out.items (Ok c.in_ok-put_next.field-0) c.put_next.new.reader c.put_next.new.out.items) l.invariant.0 c.in_ok-put_next.ensures.puts) in
    rw (p.1, p.2) (send_stops g.K.Sink.takes g.K.Sink.failures c.args.at_end (writing_by c.args.to.now) c.args.reader.now c.args.out.now.items c.args.sink.now l.reader l.out.items l.sink c.put_next.new.reader c.put_next.new.out.items c.in_err-send_much.field-0.0 c.send_much.new.out.items c.send_much.new.sink c.requires.begun l.invariant.1 n c.in_err-send_much.ensures)

pub returns-clause-puts : goal.returns-clause-puts
returns-clause-puts g c =
    let l = c.loop-out in
    let n = subst (λ (b : Bool). PutsNext c.args.at_end (writing_by c.args.to.now) l.reader l.out.items (Ok b) c.put_next.new.reader c.put_next.new.out.items) c.if-branch.false (subst (λ (w : RowWriting). PutsNext c.args.at_end (writing_by w) l.reader l.out.items (Ok c.in_ok-put_next.field-0) c.put_next.new.reader c.put_next.new.out.items) l.invariant.0 c.in_ok-put_next.ensures.puts) in
    rows_end g.K.Sink.takes g.K.Sink.failures c.args.at_end (writing_by c.args.to.now) c.args.reader.now c.args.out.now.items c.args.sink.now l.reader l.out.items l.sink c.put_next.new.reader c.put_next.new.out.items l.invariant.1 n

pub loop-out-smaller : goal.loop-out-smaller
loop-out-smaller g c =
    let l = c.loop-out in
    let i = l.invariant.1.goes_on in
    let read = c.requires.read in
    let n = subst (λ (b : Bool). PutsNext c.args.at_end (writing_by c.args.to.now) l.reader l.out.items (Ok b) c.put_next.new.reader c.put_next.new.out.items) c.if-branch.true (subst (λ (w : RowWriting). PutsNext c.args.at_end (writing_by w) l.reader l.out.items (Ok c.in_ok-put_next.field-0) c.put_next.new.reader c.put_next.new.out.items) l.invariant.0 c.in_ok-put_next.ensures.puts) in
    fewer_left c.args.at_end l.reader n.0 c.put_next.new.reader read.0 (read.1 ++ l.invariant.1.rows) i.may_go_on (i.read read.0 read.1 read.2) n.1

pub loop-out-preserved : goal.loop-out-preserved
loop-out-preserved g c =
    let l = c.loop-out in
    let n = subst (λ (b : Bool). PutsNext c.args.at_end (writing_by c.args.to.now) l.reader l.out.items (Ok b) c.put_next.new.reader c.put_next.new.out.items) c.if-branch.true (subst (λ (w : RowWriting). PutsNext c.args.at_end (writing_by w) l.reader l.out.items (Ok c.in_ok-put_next.field-0) c.put_next.new.reader c.put_next.new.out.items) l.invariant.0 c.in_ok-put_next.ensures.puts) in
    (c.in_ok-put_next.ensures.same ∙ l.invariant.0, grows_more g.K.Sink.takes g.K.Sink.failures c.args.at_end (writing_by c.args.to.now) c.args.reader.now c.args.out.now.items c.args.sink.now l.reader l.out.items l.sink c.put_next.new.reader c.put_next.new.out.items c.send_much.new.out.items c.send_much.new.sink l.invariant.1 n c.in_ok-send_much.ensures)
