use Rattle.std.proofs.Common.{◌≡◌, ◌+◌, ◌-◌, ◌*◌, length, take, sym, arith, ap, ◌∙◌}
use Rattle.std.proofs.lemmas.List.{take_all}
use Rattle.hex.specs.Hex.{encode_lower}
use Rattle.pgpipe_base.proofs.Hexadecimals.{one_block_more, none_written}
use Rattle.pgpipe_base.proofs.hexadecimal.write_hexadecimal.Goals as goal

pub loop-at-init : goal.loop-at-init
loop-at-init c = (omega (arith, c.if-bytes-lt-BLOCK.false), c.requires, none_written)

pub loop-at-preserved : goal.loop-at-preserved
loop-at-preserved c =
    let l = c.loop-at in
    let below = c.loop-at-test.true in
    (omega (arith, below), c.write_block.ensures.same ∙ l.invariant.1, one_block_more c.args.bytes.now l.digits c.write_block.new.digits l.at l.at (omega arith) l.invariant.2 c.write_block.ensures.written)

pub returns : goal.returns
returns c =
    let l = c.loop-at in
    let long = c.if-bytes-lt-BLOCK.false in
    let last = length c.args.bytes.now - 16 in
    let end : last + 16 ≡ length c.args.bytes.now = omega (arith, long) in
    let new = c.write_block-2.new.digits in
    let whole : take (2 * (last + 16)) new ≡ encode_lower (take (last + 16) c.args.bytes.now) = one_block_more c.args.bytes.now l.digits new l.at last (omega (arith, c.loop-at-test.false)) l.invariant.2 c.write_block-2.ensures.written in
    sym (take_all (2 * (last + 16)) new (omega (arith, end, c.write_block-2.ensures.same, l.invariant.1)))
    ∙ whole ∙ ap encode_lower (take_all (last + 16) c.args.bytes.now (omega (arith, end)))
