use Rattle.std.proofs.Common.{ℕ, List, ◌≡◌, ◌+◌, ◌*◌, ◌++◌, length, take, drop, refl, arith, ap, ◌∙◌}
use Rattle.std.proofs.lemmas.Simd.{length-chunk, length-put_chunk, take_more_put_chunk}
use Rattle.pgpipe_base.proofs.Hexadecimals.{by_turns, digits_written}
use Rattle.pgpipe_base.proofs.hexadecimal.write_block.Goals as goal

pub returns-clause-same : goal.returns-clause-same
returns-clause-same c = length-put_chunk (2 * c.args.at) c.args.digits.now (by_turns c.two_digits_of.result.0 c.two_digits_of.result.1)

pub returns-clause-written : goal.returns-clause-written
returns-clause-written c =
    let digits = by_turns c.two_digits_of.result.0 c.two_digits_of.result.1 in
    let bytes = take 16 (drop c.args.at c.args.bytes.now) in
    let long : length bytes ≡ 16 = length-chunk c.args.at 16 c.args.bytes.now c.requires.block in
    let ensured = c.two_digits_of.ensures in
    take_more_put_chunk (2 * c.args.at) c.args.digits.now digits (2 * c.args.at + 32) refl (omega (arith, c.requires.block, c.requires.room))
    ∙ ap (λ (l : List ℕ). take (2 * c.args.at) c.args.digits.now ++ l) (digits_written c.two_digits_of.result.0 c.two_digits_of.result.1 bytes ensured.long.0 ensured.long.1 long ensured.high ensured.low)
