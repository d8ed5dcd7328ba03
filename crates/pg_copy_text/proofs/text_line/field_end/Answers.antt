use Rattle.pg_copy_text.proofs.TextLines.{walked-first, walked-to, walked-escape, walked-other, walked-at, walked-end}
use Rattle.pg_copy_text.proofs.text_line.field_end.Goals as goal

pub loop-at-init : goal.loop-at-init
loop-at-init c = walked-first c.args.delimiter c.args.rest.now

pub loop-at-preserved-then-byte-eq92 : goal.loop-at-preserved-then-byte-eq92
loop-at-preserved-then-byte-eq92 c = walked-escape c.args.delimiter c.args.rest.now c.loop-at.at c.loop-at-test.true c.if-byte-delimiter.false c.if-byte-eq92.true c.loop-at.invariant

pub loop-at-preserved-then-is_plain : goal.loop-at-preserved-then-is_plain
loop-at-preserved-then-is_plain c =
    let p = c.plain_end-at.ensures in
    walked-to c.args.delimiter c.args.rest.now c.loop-at.at c.plain_end-at.result c.loop-at-test.true (c.is_plain.ensures c.if-is_plain.true) p.in_order p.in_range p.plain c.loop-at.invariant

pub loop-at-preserved : goal.loop-at-preserved
loop-at-preserved c = walked-other c.args.delimiter c.args.rest.now c.loop-at.at c.loop-at-test.true c.if-byte-delimiter.false c.if-byte-eq92.false c.loop-at.invariant

pub returns-then-byte-delimiter : goal.returns-then-byte-delimiter
returns-then-byte-delimiter c = walked-at c.args.delimiter c.args.rest.now c.loop-at.at c.loop-at-test.true c.if-byte-delimiter.true c.loop-at.invariant

pub returns : goal.returns
returns c = walked-end c.args.delimiter c.args.rest.now c.loop-at.at c.loop-at-test.false c.loop-at.invariant
