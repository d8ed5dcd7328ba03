use Rattle.pgpipe_lines.proofs.Uncommenting.{all_done, one_more}
use Rattle.pgpipe_lines.proofs.comments.without_comments.Goals as goal

pub loop-byte-preserved : goal.loop-byte-preserved
loop-byte-preserved c = one_more c.loop-byte.text.items c.put_left.new.text.items c.args.bytes.now c.loop-byte.place c.after-place.result c.loop-byte.byte-index c.loop-byte-test.true c.in_ok-put_left.ensures c.after-place.ensures c.loop-byte.invariant

pub returns : goal.returns
returns c = all_done c.loop-byte.text.items c.args.bytes.now c.loop-byte.place c.loop-byte.byte-index c.loop-byte-test.false c.loop-byte.invariant
