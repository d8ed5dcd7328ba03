use Rattle.std.proofs.Common.{◌≡◌, ◌+◌, ◌-◌, ◌<◌, arith, ◌∙◌, get_or, ap}
use Rattle.std.proofs.lemmas.Simd.{get_or-chunk}
use Rattle.std.proofs.lemmas.Nat.Bits.{bit_at-zero}
use Rattle.std.specs.Int.{bit_at}
use Rattle.std.proofs.lemmas.Bool.{eqb-true}
use Rattle.pg_copy_text.proofs.BlockBits.{when}
use Rattle.pg_copy_text.proofs.plain.is_backslash_in_block.Goals as goal

pub returns : goal.returns
returns c none i from to is =
    let k = i - c.args.from in
    let place : c.args.from + k ≡ i = omega (arith, from) in
    let low : k < 16 = omega (arith, from, to) in
    let zero : c.bits_of.result ≡ 0 = eqb-true _ _ (when _ none) in
    c.bits_of.ensures k low (ap (λ m. bit_at m k) zero ∙ bit_at-zero k) (get_or-chunk c.args.from 16 c.args.bytes.now k 0 low ∙ ap (λ j. get_or c.args.bytes.now j 0) place ∙ is)
