use Rattle.std.proofs.Common.{◌≡◌, ◌+◌, ◌-◌, ◌<◌, take, drop, arith, ◌∙◌, get_or, subst, ap}
use Rattle.std.proofs.lemmas.Simd.{length-chunk, get_or-chunk}
use Rattle.pg_copy_text.specs.Private.Units.{IsPlain}
use Rattle.pg_copy_text.proofs.BlockBits.{half_lane}
use Rattle.pg_copy_text.proofs.plain.plain_in_half.Goals as goal

pub returns-clause-plain : goal.returns-clause-plain
returns-clause-plain c i from to =
    let k = i - c.args.from in
    let place : c.args.from + k ≡ i = omega (arith, from) in
    let below : k < c.lowest.result = omega (arith, from, to) in
    let low : k < 8 = omega (arith, below, c.lowest.ensures.within) in
    let bytes = take 8 (drop c.args.from c.args.bytes.now) in
    let lane = half_lane bytes k (length-chunk c.args.from 8 c.args.bytes.now c.requires) low in
    subst (λ b. IsPlain c.args.delimiter b) (lane ∙ get_or-chunk c.args.from 8 c.args.bytes.now k 0 low ∙ ap (λ j. get_or c.args.bytes.now j 0) place) (c.special_bits.ensures k (omega (arith, low)) (c.lowest.ensures.below k below))
