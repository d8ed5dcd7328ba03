use Rattle.std.proofs.Common.{arith}
use Rattle.std.proofs.lemmas.List.{length-take-le}
use Rattle.pg_copy_text.proofs.TextPuts.{text-begin, run-plain, text-moved, text-byte, text-put}
use Rattle.pg_copy_text.proofs.cuts.put_text.Goals as goal

pub loop-at-init : goal.loop-at-init
loop-at-init c = text-begin c.args.line.now c.args.start c.args.end c.args.to c.requires.place c.requires.in_order c.requires.in_range

pub loop-at-preserved-then-line-at-eq92 : goal.loop-at-preserved-then-line-at-eq92
loop-at-preserved-then-line-at-eq92 c =
    let l = c.loop-at in
    text-byte c.args.line.now c.args.start c.args.end c.args.to l.line l.at l.put _ _ l.invariant c.loop-at-test.true c.if-line-at-eq92.true c.escape_at-byte.ensures.value c.escape_at-byte.ensures.len

pub loop-at-preserved : goal.loop-at-preserved
loop-at-preserved c =
    let l = c.loop-at in
    let p = c.plain_end-next.ensures in
    let m = c.move_bytes.ensures in
    text-moved c.args.line.now c.args.start c.args.end c.args.to l.line c.move_bytes.new.line l.at l.put c.plain_end-next.result l.invariant (omega (arith, p.in_order)) (omega (arith, p.in_range, length-take-le c.args.end l.line (omega (arith, l.invariant.within, l.invariant.len))))
    (run-plain l.line c.args.end l.at c.plain_end-next.result c.loop-at-test.true c.if-line-at-eq92.false p.plain) m.moved m.rest m.len

pub returns-clause-text : goal.returns-clause-text
returns-clause-text c = text-put c.args.line.now c.args.start c.args.end c.args.to c.loop-at.line c.loop-at.at c.loop-at.put c.loop-at.invariant (λ lt. absurd (omega (arith, lt, c.loop-at-test.false)))
