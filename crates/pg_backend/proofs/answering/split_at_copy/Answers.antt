use Rattle.pg_backend.proofs.Machine.SplitAtCopy.{copy_here, no_copy_here, no_copy, other_part}
use Rattle.pg_backend.proofs.answering.split_at_copy.Goals as goal

pub returns-in-CopyIn : goal.returns-in-CopyIn
returns-in-CopyIn c =
    let is = rw c.in-CopyIn.is at c.index-parts-i.is in
    rw (c.split_at.ensures.front, c.split_at-in-CopyIn.ensures.back, c.split_at.ensures.back) (copy_here c.args.parts.now c.loop-i.i c.in-CopyIn.head c.in-CopyIn.load c.loop-i-test.true is c.loop-i.invariant)

pub loop-i-preserved : goal.loop-i-preserved
loop-i-preserved c = no_copy_here c.args.parts.now c.loop-i.i c.index-parts-i.result c.loop-i-test.true c.index-parts-i.is (other_part c.index-parts-i.result c.in_default.not-CopyIn) c.loop-i.invariant

pub returns : goal.returns
returns c = no_copy c.args.parts.now c.loop-i.i c.loop-i-test.false c.loop-i.invariant
