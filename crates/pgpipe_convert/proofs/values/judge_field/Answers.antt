use Rattle.std.proofs.Common.{List, ℕ, Some, None, refl, ap, arith, length}
use Rattle.std.specs.Option.{option_copied}
use Rattle.pgpipe_convert.proofs.Lent.{field_tried, unlike_null, longer_unlike}
use Rattle.pgpipe_convert.proofs.values.judge_field.Goals as goal

pub returns-in-None : goal.returns-in-None
returns-in-None c = record { goes_on = λ row start width s. rw c.in-None.is (unlike_null c.args.options.now row start None c.args.writer.now c.args.out.now.items c.args.so_far s c.requires.other refl) }

pub returns-in-Some : goal.returns-in-Some
returns-in-Some c =
    let text = c.in-Some.text.now in
    let longer = longer_unlike c.args.options.now text (omega (arith, c.if-text-null_mark.true, ap (λ (l : List ℕ). length l) c.null_mark.ensures)) in
    record { goes_on = λ row start width s. rw c.in-Some.is (unlike_null c.args.options.now row start (Some text) c.args.writer.now c.args.out.now.items c.args.so_far s c.requires.other longer) }

pub returns-in-Some-2 : goal.returns-in-Some-2
returns-in-Some-2 c = record { goes_on = λ row start width s. rw c.judged_at.ensures (field_tried c.args.options.now row start (option_copied c.args.value) c.args.writer.now c.field.new.self c.args.out.now.items c.args.so_far s c.field.result c.field.new.buf.items c.args.before c.requires.other c.requires.few width c.field.ensures.written c.field.ensures.ok c.field.ensures.err) }
