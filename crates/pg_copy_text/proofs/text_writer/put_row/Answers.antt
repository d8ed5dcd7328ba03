use Rattle.std.proofs.Common.{Bool, subst}
use Rattle.std.specs.Prelude.{option_copied}
use Rattle.std.proofs.lemmas.Result.{err_from_is_err_and}
use Rattle.pg_copy_rows.proofs.Writing.{GoesOn, GoesOn-append, GoesOn-trans}
use Rattle.pg_copy_text.proofs.Writing.{WritesRow, row-first, row-next}
use Rattle.pg_copy_text.proofs.text_writer.put_row.Goals as goal
use Rattle.pg_copy_text.proofs.text_writer.put_row.Goals.{then-not-first+in_ok-push, else-not-first}

pub loop-value-preserved : goal.loop-value-preserved
loop-value-preserved c =
    let o = c.args.options.now in
    let old = c.args.buf.now.items in
    let row = c.args.row.now in
    let l = c.loop-value in
    let rest = c.next.new.self in
    let field = option_copied c.in-Some.value in
    elim c.if-not-first.branch [
      | then-not-first+in_ok-push w ↦ rw (c.in_ok-put_field.ensures.ok, w.buf-is, w.in_ok-push.ensures.items, w.delimiter.ensures.value) (row-next o old row l.value-iterator rest field l.buf.items c.in-Some.ensures.steps (subst (λ (first : Bool). WritesRow o old row l.value-iterator first l.buf.items) w.if-not-first.true l.invariant))
      | else-not-first w ↦ rw (c.in_ok-put_field.ensures.ok, w.buf-is) (row-first o old row l.value-iterator rest field l.buf.items c.in-Some.ensures.steps (subst (λ (first : Bool). WritesRow o old row l.value-iterator first l.buf.items) w.if-not-first.false l.invariant))
    ]

pub returns-in_err-put_field-clause-err : goal.returns-in_err-put_field-clause-err
returns-in_err-put_field-clause-err c =
    let old = c.args.buf.now.items in
    let p = err_from_is_err_and c.from_residual-in_err-put_field.result c.from_residual-in_err-put_field.ensures.1 in
    let goes_on : GoesOn old c.if-not-first.buf.items = elim c.if-not-first.branch [
      | then-not-first+in_ok-push w ↦ rw (w.buf-is, w.in_ok-push.ensures.items) (GoesOn-append old _ _ c.loop-value.invariant.begun.goes_on)
      | else-not-first w ↦ rw w.buf-is c.loop-value.invariant.begun.goes_on
    ] in
    rw p.1 (GoesOn-trans old c.if-not-first.buf.items c.put_field.new.buf.items goes_on c.in_err-put_field.ensures.err)
